-- `Rights` for the managers with blocks: what a caller in C may do with the words of a region that a `Lent` of `tlsf.rt` or `half.rt` owns. No function cites
-- the law `bytes_are_written`.
use Rattle.std.proofs.Common.{◌≡◌, ℕ, ◌+◌, ◌/◌, ◌%◌, ◌≤◌, List, length, refl, sym, ap, ◌∙◌, subst, Option, Some, None}
use Rattle.std.proofs.lemmas.Bool.{false≢true}
use Rattle.std.specs.Prelude.{IsTrue}
use Rattle.std.specs.FinMap.{insert}
use seplogic.Ra.Ura.{Ura}
use base.Logic.{ent}
use types.Logic.{Logic, sem}
use denote.RawPtr.{Ptr}
use Rattle.page_model.specs.Bytes.{bytes_at, written as bytes_written}
use Rattle.page_model.specs.Held.{Placed}
use Rattle.region.specs.Overwriting.{words_with}
use Rattle.cf_model.specs.Families.{IsTiled}
use Rattle.block_model.specs.Tiling.{size_at}
use Rattle.cf_model.specs.Rules.{KeepsRules}
use Rattle.cf_model.specs.State.{HeapState}
use Rattle.tag_blocks.specs.Blocks.{AreTags, IsUsedAt}
use Rattle.tag_blocks.specs.Layout.{Fields, IsValid as AreValidBlocks}
use Rattle.tag_blocks.specs.Tags.{blocks_of, lists_of}
use Rattle.tag_blocks.proofs.AccessLemmas.{bytes_blocks, bytes_kept, bytes_lists}
use Rattle.tag_blocks.proofs.ViewLemmas.{tags_kept}
use Rattle.tag_heap.specs.Access.{HoldsTagBytes}
use Rattle.tag_heap.specs.Heap.{Heap, IsKeptIn, tag_held_in, tag_state_of}
use Rattle.tag_heap.proofs.PartLemmas.{part_within}
use Rattle.tag_heap.proofs.Preserved.{ReadsAs, read_is, used_at}
use Rattle.tag_heap.proofs.WriteLemmas.{writes, wrote_rules, wrote_valid}
use Rattle.held_heap.specs.HeldState.{HeldState, IsOpenOfKind}
use Rattle.c_base.specs.Lending.{IsLooseOf}
use Rattle.c_base.specs.Lent.{opened}
use Rattle.c_base.proofs.CallerLemmas.{again, replaced}
use Rattle.held_heap.specs.declared.loose_tag.LooseTag.{LooseTag}
use Rattle.held_heap.specs.contracts.loose_tag.LooseTag.{the_row as loose_heap}
use Rattle.held_heap.specs.LooseTag.{Rule, FitIn, FitOpen, held_all, lending, inner_all, open_all, seen_blocks, seen_heap, seen_in, state_seen}
use Rattle.held_heap.specs.declared.loose_tag.LooseOpen.{LooseOpen}
use Rattle.held_heap.specs.Written.{IsWritten}

-- a heap whose region was replaced before, with the words of t
module _ (rule : Rule) (is_tiled : IsTiled rule.kind) (h : LooseOpen) (ws : List ℕ) (fit : FitOpen rule (open_all h ws)) (t : HeapState) (q from : ℕ) (bytes : List ℕ)
    (w : IsWritten 2 (tag_state_of rule.kind (seen_heap (open_all h ws))) t q from bytes) where
  abbrev h0 : Heap
  h0 = seen_heap (open_all h ws)

  abbrev a : ℕ
  a = w.object.place

  abbrev count : ℕ
  count = words_with (from % 8) (length bytes)

  abbrev left : LooseOpen
  left = record h { blocks = record h.blocks { region = t.words } }

  pub left_is : open_all h t.words ≡ left
  left_is = ap (λ (l : List ℕ). record h { blocks = record h.blocks { region = l } }) (again h.blocks.region ws t.words (a + 2 + from / 8) count (from % 8) bytes w.words)

  as_read : ReadsAs h0.tagged.words h0.proxies.places q w.object
  as_read = read_is h0.tagged.words h0.proxies.places q w.object w.found

  same : w.object ≡ record { place = a; bytes = bytes_at h0.tagged.words (a + 1) }
  same = ap (λ (bs : List ℕ). record w.object { bytes = bs }) as_read.bytes

  there : HoldsTagBytes h0 (record { number = q; from = from }) (length bytes) a
  there = record { found = w.found ∙ ap Some same; within = subst (λ (bs : List ℕ). from + length bytes ≤ length bs) as_read.bytes w.within }

  user : IsUsedAt h0.tagged.blocks a
  user = used_at h0 fit.valid q a as_read.place

  inside : 2 + words_with from (length bytes) ≤ size_at h0.tagged.blocks a
  inside = part_within h0 fit.valid q from (length bytes) a there

  abbrev fields : List ℕ → Fields
  fields words = record { words = words; heads = h.blocks.heads.addresses; used = h.blocks.used; free = h.blocks.free }

  blocks_kept : AreValidBlocks rule.lists rule.count (fields t.words)
  blocks_kept = bytes_kept rule.lists rule.count (fields h0.tagged.words) h0.tagged fit.blocks.valid refl a user t.words from count bytes inside refl w.words

  same_blocks : blocks_of t.words ≡ h0.tagged.blocks
  same_blocks = bytes_blocks rule.lists rule.count (fields h0.tagged.words) h0.tagged fit.blocks.valid refl a user t.words from count bytes inside refl w.words

  same_lists : lists_of t.words h.blocks.heads.addresses ≡ h0.tagged.lists
  same_lists = bytes_lists rule.lists rule.count (fields h0.tagged.words) h0.tagged fit.blocks.valid refl a user t.words from count bytes inside refl w.words

  tags : AreTags (seen_blocks left.blocks)
  tags = tags_kept rule.lists (fields t.words) blocks_kept.lists blocks_kept.kept

  pub left_fits : FitOpen rule left
  left_fits = record {
    blocks = record { marked = fit.blocks.marked; valid = blocks_kept };
    valid = wrote_valid h0 fit.valid q from a bytes there w.bytes_are (seen_blocks left.blocks) same_blocks same_lists tags w.words;
  }

  pub left_rules : KeepsRules (tag_state_of rule.kind (seen_heap left))
  left_rules = wrote_rules h0 fit.valid q from a bytes there w.bytes_are (seen_blocks left.blocks) same_blocks same_lists tags w.words is_tiled

  pub left_shown : tag_state_of rule.kind (seen_heap left) ≡ t
  left_shown =
      let v = writes h0 fit.valid q from a bytes there w.bytes_are (seen_blocks left.blocks) same_blocks same_lists tags w.words is_tiled in
      let is : v.object ≡ w.object = (let f = v.found in let g = w.found in cc) in
      v.whole
      ∙ ap (λ (x : Placed). record (tag_state_of rule.kind h0) { held = insert (tag_held_in h0) q (record x { bytes = bytes_written x.bytes from bytes }); words = t.words }) is
      ∙ sym w.whole

-- the parts with the words of the state after a write are those of a heap of this state
fits_in : (rule : Rule) → IsTiled rule.kind → (o : Option LooseOpen) (ws : List ℕ) → FitIn rule (inner_all o ws) → (s : HeapState) → state_seen rule.kind (inner_all o ws) ≡ s → IsTrue s.is_open
    → (t : HeapState) (q from : ℕ) (bytes : List ℕ) → IsWritten 2 s t q from bytes
    → FitIn rule (inner_all o t.words) × (IsKeptIn rule.kind (seen_in (inner_all o t.words)) × (state_seen rule.kind (inner_all o t.words) ≡ t))
fits_in rule is_tiled None ws k s e is_open t q from bytes w = absurd (false≢true (ap (λ (u : HeapState). u.is_open) e ∙ is_open))
fits_in rule is_tiled (Some h) ws k s e is_open t q from bytes w =
    let v = subst (λ (u : HeapState). IsWritten 2 u t q from bytes) (sym e) w in
    let is = left_is rule is_tiled h ws k t q from bytes v in (
      subst (FitOpen rule) (sym is) (left_fits rule is_tiled h ws k t q from bytes v),
      (
        subst (λ (l : LooseOpen). KeepsRules (tag_state_of rule.kind (seen_heap l))) (sym is) (left_rules rule is_tiled h ws k t q from bytes v),
        ap (λ (l : LooseOpen). tag_state_of rule.kind (seen_heap l)) is ∙ left_shown rule is_tiled h ws k t q from bytes v,
      ),
    )

module _ (rule : Rule) (is_tiled : IsTiled rule.kind) (x : HeldState) (a : LooseTag) (of : IsLooseOf (lending rule) (held_all a x.heap.words) x) (t : HeapState) (q from : ℕ) (bytes : List ℕ) (w : IsWritten 2 x.heap t q from bytes) where
  abbrev o : Option LooseOpen
  o = a.heap.inner

  shown_heap : state_seen rule.kind (inner_all o x.heap.words) ≡ x.heap
  shown_heap = ap (λ (h : HeldState). h.heap) of.shown

  opens : IsTrue x.heap.is_open
  opens = subst (λ (s : HeapState). IsTrue s.is_open) shown_heap of.fit.open_now.open_now

  all : FitIn rule (inner_all o t.words) × (IsKeptIn rule.kind (seen_in (inner_all o t.words)) × (state_seen rule.kind (inner_all o t.words) ≡ t))
  all = fits_in rule is_tiled o x.heap.words of.fit.valid x.heap shown_heap opens t q from bytes w

  open_after : IsOpenOfKind rule.kind t
  open_after =
      let k = subst (IsOpenOfKind rule.kind) shown_heap of.fit.open_now in
      subst (IsOpenOfKind rule.kind) (sym w.whole) (record { open_now = k.open_now; kind = k.kind })

  pub still_of : IsLooseOf (lending rule) (held_all a t.words) (record x { heap = t })
  still_of = record {
    fit = record { valid = all.0; rules = all.1.0; open_now = subst (IsOpenOfKind rule.kind) (sym all.1.1) open_after };
    shown = λ k. record { heap = all.1.1 k; steps = (of.shown k).steps; handles = (of.shown k).handles; counts = (of.shown k).counts };
  }

module _ {M : Type 1} {𝓤 : Ura M} (𝓛 : Logic 𝓤) where
  -- when the caller has written bytes into an object, what makes the heap whole again is that of the state after it
  pub bytes_are_written : (rule : Rule) → IsTiled rule.kind → (p u : Ptr) (x : HeldState) (t : HeapState) (q from : ℕ) (bytes : List ℕ) → IsWritten 2 x.heap t q from bytes
      → ent 𝓤 (sem 𝓛 (opened loose_heap (lending rule) p u x)) (sem 𝓛 (opened loose_heap (lending rule) p u (record x { heap = t })))
  bytes_are_written rule is_tiled p u x t q from bytes w =
      replaced loose_heap (lending rule) 𝓛 p u x (record x { heap = t }) w.words.long (λ a of. still_of rule is_tiled x a of t q from bytes w)
