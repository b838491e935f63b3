-- For `empty`: a heap with blocks that was just opened, with one free block and no proxy in use, satisfies its invariant, and its state is that of an empty
-- heap.
use Rattle.std.proofs.Common.{◌≡◌, ℕ, ◌+◌, ◌*◌, ◌≤◌, List, [], Some, None, length, get_or, arith, refl, sym, ◌∙◌, ap, subst, inl, inr}
use Rattle.std.proofs.lemmas.Bool.{cases_lt}
use Rattle.std.proofs.lemmas.List.{get_or_past}
use Rattle.std.specs.FinMap.{empty}
use Rattle.std.specs.List.{range_with_len}
use Rattle.cf_base.proofs.Values.{map_values-empty, no_values}
use Rattle.cf_base.specs.Settings.{profile_of}
use Rattle.cf_base.specs.declared.kind.Kind.{Kind}
use Rattle.cf_base.specs.declared.kind.Kind.TheVariants.{Tlsf}
use Rattle.cf_base.specs.declared.settings.Settings.{Settings}
use Rattle.page_model.specs.Held.{Placed, objects}
use Rattle.page_model.specs.Figures.{asked_bytes}
use Rattle.block_model.specs.Buckets.{FreeLists, half_fit, tlsf}
use Rattle.block_model.specs.FreeOrder.{AreListsOf, first_lists}
use Rattle.block_model.specs.Tiling.{one_free_block}
use Rattle.block_model.proofs.CallerLemmas.{used_in_one_free}
use Rattle.proxy_table.specs.Proxies.{Proxies, AreBelowLimit, no_proxies}
use Rattle.tag_blocks.specs.Blocks.{Tagged, AreTags, listed}
use Rattle.cf_model.specs.Families.{IsTiled, free_lists_of, list_count_of}
use Rattle.cf_model.specs.Rules.{KeepsRules, KeepsTiling}
use Rattle.cf_model.specs.Steps.{IsEmptyHeap, IsOpeningWords, empty_heap, opening_order, ordered_heap}
use Rattle.cf_model.proofs.CallerLemmas.{no_object, tiled_empty}
use Rattle.tag_heap.specs.Heap.{Heap, IsValid, tag_order_of, tag_state_of}
use Rattle.tag_heap.proofs.ByKind.{of_tiled}
use Rattle.tag_heap.proofs.Preserved.{MeetsInvariantWith, becomes_rules, becomes_valid, held_is, in_range}

nothing_asked : asked_bytes (objects empty) ≡ 0
unfolding asked_bytes
nothing_asked = rw (map_values-empty {Y = List ℕ} (λ (x : Placed). x.bytes), no_values {V = List ℕ}) refl

-- the first lists by a rule are those of the kind that has the rule
pub first_of_kind : (k : Kind) (rule : FreeLists) (count words : ℕ) (lists : List (List ℕ)) → rule ≡ free_lists_of k → count ≡ list_count_of k
    → lists ≡ first_lists rule count words → lists ≡ first_lists (free_lists_of k) (list_count_of k) words
first_of_kind k rule count words lists rule_is count_is is =
    is ∙ ap (λ r. first_lists r count words) rule_is ∙ ap (λ n. first_lists (free_lists_of k) n words) count_is

-- one free block, and no proxy in use
module _ (s : Settings) (t : Tagged) (p : Proxies) (blocks : t.blocks ≡ one_free_block (s.pages * s.page_words))
    (long : length t.words ≡ s.pages * s.page_words)
    (tags : AreTags t) (k : Kind) (is : IsTiled k) (first : t.lists ≡ first_lists (free_lists_of k) (list_count_of k) (s.pages * s.page_words))
    (lists : AreListsOf (free_lists_of k) (list_count_of k) (listed t)) (none : p ≡ no_proxies s.proxies) (below : AreBelowLimit p) where
  abbrev fresh : Heap
  fresh = record { settings = s; tagged = t; proxies = p; asked = 0; used_words = 0; cost = 0 }

  one : AreTags (record { words = t.words; blocks = one_free_block (s.pages * s.page_words); lists = t.lists })
  one = subst (λ bs. AreTags (record { words = t.words; blocks = bs; lists = t.lists })) blocks tags

  header : get_or t.words 0 0 ≡ s.pages * s.page_words
  header = (let e = one.headers.0 in omega arith)

  zeros : (w : ℕ) → 2 ≤ w → get_or t.words w 0 ≡ 0
  zeros w low = elim (cases_lt w (s.pages * s.page_words)) [
    | inl lt ↦ (let e : 0 + w ≡ w = omega arith in
        ap (λ i. get_or t.words i 0) (sym e) ∙ one.cleared 0 (record { address = 0; size = s.pages * s.page_words; owner = None }) refl refl w low lt)
    | inr past ↦ get_or_past {X = ℕ} t.words w 0 (omega arith)
  ]

  tiling : KeepsTiling (empty_heap Tlsf (profile_of s) t.words)
  tiling = (tiled_empty (profile_of s) (in_range s) t.words long header zeros Tlsf refl).of_kind

  becomes : MeetsInvariantWith k fresh empty
  becomes = record {
    tags = tags;
    lists = lists;
    words_long = long;
    places = ap (λ (x : Proxies). x.places) none ∙ sym (map_values-empty {Y = ℕ} (λ (x : Placed). x.place));
    bytes = λ q x e. absurd (no_object q x e);
    owned = rw blocks tiling.owned;
    contents = rw blocks tiling.words;
    numbers = ap (λ (x : Proxies). x.limit) none;
    handles = below;
    asked_all = sym nothing_asked;
    used_all = rw blocks (sym (used_in_one_free (s.pages * s.page_words)));
  }

  pub fresh_valid : IsValid k fresh
  fresh_valid = becomes_valid fresh empty becomes

  pub fresh_rules : KeepsRules (tag_state_of k fresh)
  fresh_rules = becomes_rules fresh empty becomes is

  fresh_order : tag_order_of fresh ≡ opening_order k (profile_of s)
  fresh_order = of_tiled (λ j. t.lists ≡ first_lists (free_lists_of j) (list_count_of j) (s.pages * s.page_words)
      → tag_order_of fresh ≡ opening_order j (profile_of s)) (begins tlsf 336) (begins half_fit 24) k is first
    where
      begins : (rule : FreeLists) (count : ℕ) → t.lists ≡ first_lists rule count (s.pages * s.page_words)
          → tag_order_of fresh ≡ record { pool = []; not_full = first_lists rule count (s.pages * s.page_words); spare = range_with_len 0 s.proxies }
      begins rule count at_first = λ i. record { pool = []; not_full = at_first i; spare = (none i).free }

  pub fresh_empty : IsEmptyHeap k s (tag_state_of k fresh)
  fresh_empty = record {
    words = of_tiled (λ k. IsOpeningWords k (profile_of s) t.words) tt tt k is;
    order = fresh_order;
    whole = of_tiled (λ k. tag_state_of k fresh ≡ ordered_heap k (profile_of s) t.words (Some (tag_order_of fresh)))
        (rw (held_is fresh empty becomes, blocks) refl) (rw (held_is fresh empty becomes, blocks) refl) k is;
  }
