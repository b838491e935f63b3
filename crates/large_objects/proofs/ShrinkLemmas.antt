-- A free of a long object: part by part, each found by its handle in the spine, and then the spine. The invariant of the loop of `release_parts` holds
-- (`IsShrinking`), and the steps are those that its parts and its spine take. The parts are few. Without one of its objects a map has one fewer.
use Rattle.std.proofs.Common.{◌≡◌, ℕ, suc, ◌+◌, ◌*◌, ◌^◌, ◌<◌, ◌≤◌, List, Some, get_or, length, drop, arith, sym, ◌∙◌, ap, refl, subst, inl, inr, length-drop}
use Rattle.std.specs.Prelude.{nat_eq}
use Rattle.std.proofs.lemmas.Bool.{cases_eq}
use Rattle.std.proofs.lemmas.List.{get_or-drop}
use Rattle.std.specs.FinMap.{get, remove, len}
use Rattle.cf_base.proofs.Maps.{get_removed, get_remove_other, len_fresh}
use Rattle.cf_base.proofs.Ranges.{one}
use Rattle.cf_base.proofs.Sums.{put_back}
use Rattle.step_ledger.specs.Counting.{RoseAtMost}
use Rattle.page_model.specs.Held.{Objects, objects}
use Rattle.page_model.specs.Paging.{Paging, class_for}
use Rattle.page_model.proofs.CallerLemmas.{live_taken}
use Rattle.cf_model.specs.State.{HeapState, paging_in}
use Rattle.large_objects.specs.InnerCalls.{FreesInner, HasInner, IsReadyInner}
use Rattle.large_objects.specs.Large.{bytes_found, handle_at, named}
use Rattle.large_objects.specs.InnerObjects.{inner_lengths, part_length, part_count, spine_bytes}
use Rattle.large_objects.specs.Shrinking.{HasParts, IsShrinking, ReleasesLong, Shrinks}
use Rattle.large_objects.specs.LargeCosts.{InnerCosts, handle_steps, inner_free_steps, parts_free_steps}
use Rattle.large_objects.proofs.CostLemmas.{free_next, parts_free_from}
use Rattle.large_objects.proofs.Cutting.{in_class_more, in_class_take_none, length_long, inner_length_is}
use Rattle.large_objects.proofs.InnerSteps.{inner_small, same_paging, same_ready, then_ready}
use Rattle.large_objects.proofs.Summed.{sum_more, sum_removed, sum_take_none}

-- a free leaves one object fewer
pub len_without : (o : Objects) (q : ℕ) (v : List ℕ) → get o q ≡ Some v → len o ≡ len (remove o q) + 1
len_without o q v is = sym (ap (λ (m : Objects). len m) (put_back o q v is)) ∙ len_fresh (remove o q) q v (get_removed o q)

module _ (p : Paging) (u n : ℕ) (some : 0 < u) (long : u < n) (old : Objects) (h : ℕ) (has : HasParts u n old h) where
  pub shrinking_first : IsShrinking p u n old h 0 old
  shrinking_first = record {
    gone = λ j lt. absurd (omega arith);
    others = λ q ne. refl;
    live_now = λ c. (let z = in_class_take_none p c (drop 1 (inner_lengths u n)) in omega arith);
    all = omega arith;
    sums_now = λ f. (let z = sum_take_none f (drop 1 (inner_lengths u n)) in omega arith);
  }

  module _ (i : ℕ) (below : i < part_count u n) (now : Objects) (g : IsShrinking p u n old h i now) where
    -- the spine and the next part are there
    pub spine_there : get now h ≡ get old h
    spine_there = g.others h (λ j lt e. has.not_spine j (omega arith) (sym e))

    pub named_there : named now h i ≡ named old h i
    named_there = ap (λ o. handle_at (bytes_found o) i) spine_there

    pub part_there : get now (named old h i) ≡ get old (named old h i)
    part_there = g.others (named old h i) (λ j lt e. (let same = has.apart i j below (omega arith) e in absurd (omega arith)))

    pub shrinking_more : IsShrinking p u n old h (i + 1) (remove now (named old h i))
    shrinking_more = record {
      gone = λ j lt. elim (cases_eq j i) [
        | inl is ↦ rw is (get_removed now (named old h i))
        | inr ne ↦ get_remove_other now (named old h i) (named old h j) (λ e. ne (has.apart j i (omega arith) below e)) ∙ g.gone j (omega arith)
      ];
      others = λ q ne. get_remove_other now (named old h i) q (ne i (omega arith)) ∙ g.others q (λ j lt. ne j (omega arith));
      live_now = λ c. (
          let m = has.made i below in
          let a = live_taken p now (named old h i) m.0 c (part_there ∙ m.1) in
          let l = ap (λ k. one (nat_eq (class_for p k) c)) m.2 in
          let ll = length_long u n some long in
          let d = length-drop 1 (inner_lengths u n) in
          let more = in_class_more p c (drop 1 (inner_lengths u n)) i (omega arith) in
          let at : get_or (drop 1 (inner_lengths u n)) i 0 ≡ part_length u n i = get_or-drop 1 (inner_lengths u n) i 0
          ∙ ap (λ k. get_or (inner_lengths u n) k 0) (let e : 1 + i ≡ suc i = omega arith in e) ∙ inner_length_is u n some long i below in
          let x = ap (λ k. one (nat_eq (class_for p k) c)) at in
          let before = g.live_now c in omega arith);
      all = (
          let m = has.made i below in
          let e = len_without now (named old h i) m.0 (part_there ∙ m.1) in
          let before = g.all in omega arith);
      sums_now = λ f. (
          let m = has.made i below in
          let a = sum_removed f now (named old h i) m.0 (part_there ∙ m.1) in
          let l = ap f m.2 in
          let ll = length_long u n some long in
          let d = length-drop 1 (inner_lengths u n) in
          let more = sum_more f (drop 1 (inner_lengths u n)) i (omega arith) in
          let at : get_or (drop 1 (inner_lengths u n)) i 0 ≡ part_length u n i = get_or-drop 1 (inner_lengths u n) i 0
          ∙ ap (λ k. get_or (inner_lengths u n) k 0) (let e : 1 + i ≡ suc i = omega arith in e) ∙ inner_length_is u n some long i below in
          let x = ap f at in
          let before = g.sums_now f in omega arith);
    }

module _ (u n : ℕ) (old now : HeapState) (h i : ℕ) (some : 0 < u) (long : u < n) (has : HasParts u n (objects old.held) h) (g : Shrinks u n old h i now)
    (below : i < part_count u n) where
  pub place_there : HasInner now h (4 * i) 4
  place_there = record {
    bytes = has.spine.spine;
    found = spine_there (paging_in old) u n some long (objects old.held) h has i below (objects now.held) g.shrinking ∙ has.spine.found;
    within = (let l = has.spine.long in omega arith);
  }

  pub next_there : HasInner now (named (objects now.held) h i) 0 0
  next_there = record {
    bytes = (has.made i below).0;
    found = ap (λ q. get (objects now.held) q) (named_there (paging_in old) u n some long (objects old.held) h has i below (objects now.held) g.shrinking)
        ∙ part_there (paging_in old) u n some long (objects old.held) h has i below (objects now.held) g.shrinking ∙ (has.made i below).1;
    within = omega arith;
  }

  pub shrinks_more : (next : HeapState) → FreesInner now (named (objects now.held) h i) next → Shrinks u n old h (i + 1) next
  shrinks_more next frees = record {
    stays = then_ready old now next g.stays frees.stays;
    shrinking = subst (λ (o : Objects). IsShrinking (paging_in old) u n (objects old.held) h (i + 1) o)
        (sym (frees.left ∙ ap (λ q. remove (objects now.held) q) (named_there (paging_in old) u n some long (objects old.held) h has i below
        (objects now.held) g.shrinking)))
        (shrinking_more (paging_in old) u n some long (objects old.held) h has i below (objects now.held) g.shrinking);
  }

  -- the steps after one more part is freed
  pub free_more : (c : InnerCosts) (start before after : ℕ)
      → before + parts_free_from c (paging_in old) u n i ≤ start + parts_free_steps c (paging_in old) u n
      → ((v : List ℕ) → get (objects now.held) (named (objects now.held) h i) ≡ Some v
      → RoseAtMost before after (handle_steps c i + inner_free_steps c (paging_in now) (length v)))
      → after + parts_free_from c (paging_in old) u n (i + 1) ≤ start + parts_free_steps c (paging_in old) u n
  unfolding next_there
  free_more c start before after so_far part =
      let v = (has.made i below).0 in
      let rose = part v next_there.found in
      let slot : inner_free_steps c (paging_in now) (length v) ≡ inner_free_steps c (paging_in old) (part_length u n i) =
      ap (λ p. inner_free_steps c p (length v)) (same_paging old now g.stays.settings) ∙ ap (inner_free_steps c (paging_in old)) (has.made i below).2 in
      let next = free_next c (paging_in old) u n i below in
      let b = rose.bound in omega arith

pub shrinks_first : (u n : ℕ) (old : HeapState) (h : ℕ) → 0 < u → u < n → HasParts u n (objects old.held) h → IsReadyInner old → Shrinks u n old h 0 old
shrinks_first u n old h some long has ready = record {
  stays = same_ready old ready;
  shrinking = shrinking_first (paging_in old) u n some long (objects old.held) h has;
}

-- a spine fits a page, so the parts are few
pub parts_small : (u n : ℕ) (s : HeapState) (h : ℕ) → IsReadyInner s → HasParts u n (objects s.held) h → part_count u n < 2 ^ 25
parts_small u n s h ready has = (let small = inner_small s ready h has.spine.spine has.spine.found in let l = has.spine.long in omega arith)

-- after all parts were freed, the spine is still live
pub spine_is_live : (u n : ℕ) (old now : HeapState) (h : ℕ) → HasParts u n (objects old.held) h → Shrinks u n old h (part_count u n) now → HasInner now h 0 0
spine_is_live u n old now h has g = record {
  bytes = has.spine.spine;
  found = g.shrinking.others h (λ j lt e. has.not_spine j lt (sym e)) ∙ has.spine.found;
  within = omega arith;
}

-- after all parts, the spine is freed
pub releases_long : (u n : ℕ) (old now new : HeapState) (h : ℕ) → u < n → Shrinks u n old h (part_count u n) now → FreesInner now h new → ReleasesLong u n old h new
releases_long u n old now new h long g frees = record {
  long = long;
  stays = then_ready old now new g.stays frees.stays;
  mid = objects now.held;
  shrunk = g.shrinking;
  left = frees.left;
}

-- the steps of freeing the spine
pub spine_costs : (u n : ℕ) (old now : HeapState) (h : ℕ) → HasParts u n (objects old.held) h → Shrinks u n old h (part_count u n) now
    → (c : InnerCosts) (before after : ℕ)
    → ((v : List ℕ) → get (objects now.held) h ≡ Some v → RoseAtMost before after (inner_free_steps c (paging_in now) (length v)))
    → RoseAtMost before after (inner_free_steps c (paging_in old) (spine_bytes u n))
spine_costs u n old now h has g c before after spine =
    let found = g.shrinking.others h (λ j lt e. has.not_spine j lt (sym e)) ∙ has.spine.found in
    let slot : inner_free_steps c (paging_in now) (length has.spine.spine) ≡ inner_free_steps c (paging_in old) (spine_bytes u n) =
    ap (λ p. inner_free_steps c p (length has.spine.spine)) (same_paging old now g.stays.settings) ∙ ap (inner_free_steps c (paging_in old)) has.spine.long in
    rw slot at (spine has.spine.spine found)
