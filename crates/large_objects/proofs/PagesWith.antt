-- For `pages_with`, the loop that adds up, class by class, the pages that all inner objects and those of a new object need: what each turn requires, the sum
-- after it, and that the sum fits 64 bits. An object of n bytes has at most n + 3 inner objects.
use Rattle.std.proofs.Common.{◌≡◌, ℕ, ◌+◌, ◌-◌, ◌*◌, ◌/◌, ◌%◌, ◌^◌, ◌<◌, ◌≤◌, Bool, true, false, List, Some, length, min, arith, sym, ◌∙◌, ap, refl, inl, inr}
use Rattle.std.specs.Prelude.{count_by, nat_eq, nat_le}
use Rattle.std.proofs.lemmas.Bool.{cases_lt}
use Rattle.std.proofs.lemmas.List.Sums.{count_by-le-length}
use Rattle.std.proofs.lemmas.Nat.{mul-le}
use Rattle.std.proofs.lemmas.Option.{same_Some}
use Rattle.std.specs.FinMap.{len}
use Rattle.cf_base.specs.Classes.{need}
use Rattle.cf_base.specs.declared.results.Figures.{Figures}
use Rattle.cf_base.specs.declared.kind.Kind.{Kind}
use Rattle.cf_base.proofs.Ranges.{one}
use Rattle.cf_base.proofs.Tests.{lt_yes}
use Rattle.cf_base.proofs.Values.{sum_at_most}
use Rattle.page_model.specs.Arrangement.{live}
use Rattle.page_model.specs.Counts.{ceil_div}
use Rattle.page_model.specs.Figures.{figures_of}
use Rattle.page_model.specs.Held.{Objects, objects}
use Rattle.page_model.specs.Paging.{Paging, class_for, classes}
use Rattle.page_model.proofs.CallerLemmas.{len-objects, slots_some}
use Rattle.cf_model.specs.Answers.{classes_in, figures_in}
use Rattle.cf_model.specs.Families.{IsPaged}
use Rattle.cf_model.specs.State.{HeapState, paging_in}
use Rattle.large_objects.specs.InnerCalls.{IsReadyInner}
use Rattle.large_objects.specs.InnerObjects.{in_class, inner_lengths, part_count}
use Rattle.large_objects.proofs.Cutting.{ceil_is, length_long, length_short, parts_few}
use Rattle.large_objects.proofs.Fitting.{before_more, ceil_small, in_before, pages_more, pages_up_to, within_before}
use Rattle.large_objects.proofs.InnerSteps.{keeps_pages}

at_most_one : (b : Bool) → one b ≤ 1
at_most_one true = omega arith
at_most_one false = omega arith

-- a class has at most all objects
live_few : (p : Paging) (o : Objects) (c : ℕ) → live p o c ≤ len o
unfolding live
live_few p o c = (let h = sum_at_most (λ v. one (nat_eq (class_for p (length v)) c)) 1 o (λ q v _. at_most_one _) in omega arith)

in_class_few : (p : Paging) (c : ℕ) (lengths : List ℕ) → in_class p c lengths ≤ length lengths
unfolding in_class
in_class_few p c lengths = count_by-le-length (λ n. nat_eq (class_for p n) c) lengths

-- an object of n bytes has at most n + 3 inner objects
pub inner_lengths_few : (u n : ℕ) → 0 < u → length (inner_lengths u n) ≤ n + 3
inner_lengths_few u n some = elim (cases_lt u n) [
  | inl long ↦ (
      let l = length_long u n some long in
      let f = parts_few u n some in
      let m : 1 * part_count u n ≤ u * part_count u n = mul-le 1 (part_count u n) u (part_count u n) some (omega arith) in
      elim (cases_lt (n + 2) (part_count u n)) [
        | inl over ↦ absurd (
            let k : u * (n + 2) ≤ u * part_count u n = mul-le u (n + 2) u (part_count u n) (omega arith) (omega arith) in
            let t : u * (n + 2) ≡ u * n + u + u = omega arith in
            let s : 1 * n ≤ u * n = mul-le 1 n u n some (omega arith) in omega arith)
        | inr few ↦ omega arith
      ])
  | inr short ↦ (let l = length_short u n some short in omega arith)
]

by_kind : (k : Kind) (s : HeapState) → IsPaged k → classes_in k s ≡ classes (paging_in s)
by_kind k s is = rw (is, classes_in) refl

module _ (s : HeapState) (ready : IsReadyInner s) where
  pub classes_are : classes_in s.kind s ≡ classes (paging_in s)
  classes_are = by_kind s.kind s ready.pages

  pub few_classes : classes_in s.kind s ≤ 67
  few_classes = (let e = classes_are in let kept = keeps_pages s ready in let few = kept.paging.sized.few in omega arith)

  module _ (u n : ℕ) (some : 0 < u) (small : n < 2 ^ 32) (c : ℕ) (lt : c < classes_in s.kind s) (f : Figures) (is : Some f ≡ figures_in s c) (within before : ℕ)
      (within_is : within ≡ count_by (λ n. nat_le (need n) f.slot_words) (inner_lengths u n)) (before_is : before ≡ in_before (paging_in s) c (inner_lengths u n)) where
    figures_are : f ≡ figures_of (paging_in s) s.held c
    figures_are = same_Some f (figures_of (paging_in s) s.held c) (is ∙ rw (lt_yes c (classes_in s.kind s) lt) refl)

    in_classes : c < classes (paging_in s)
    in_classes = (let e = classes_are in omega arith)

    pub slots_positive : 0 < f.slots
    slots_positive = (
        let e = ap (λ (f : Figures). f.slots) figures_are in
        let kept = keeps_pages s ready in
        let p = slots_some (paging_in s) kept.paging c in_classes in omega arith)

    pub within_all : within ≡ in_before (paging_in s) (c + 1) (inner_lengths u n)
    within_all =
        let kept = keeps_pages s ready in
        within_is ∙ ap (λ (w : ℕ). count_by (λ n. nat_le (need n) w) (inner_lengths u n)) (ap (λ (f : Figures). f.slot_words) figures_are)
        ∙ within_before (paging_in s) kept.paging c in_classes (inner_lengths u n)

    more : in_before (paging_in s) (c + 1) (inner_lengths u n) ≡ in_before (paging_in s) c (inner_lengths u n) + in_class (paging_in s) c (inner_lengths u n)
    more = before_more (paging_in s) c (inner_lengths u n)

    pub before_within : before ≤ within
    before_within = (let a = within_all in let b = more in omega arith)

    class_is : within - before ≡ in_class (paging_in s) c (inner_lengths u n)
    class_is = (let a = within_all in let b = more in omega arith)

    live_is : f.live ≡ live (paging_in s) (objects s.held) c
    live_is = ap (λ (f : Figures). f.live) figures_are

    pub objects_small : f.live + (within - before) ≤ 2 ^ 33
    objects_small = (
        let a = live_is in let b = class_is in
        let l = live_few (paging_in s) (objects s.held) c in
        let few = ready.rules.numbers.few in
        let most = ready.rules.settings.few_proxies in
        let e = len-objects s.held in
        let i = in_class_few (paging_in s) c (inner_lengths u n) in
        let p = inner_lengths_few u n some in omega arith)

    module _ (pages more_pages : ℕ) (sum : pages ≡ pages_up_to (paging_in s) (objects s.held) (inner_lengths u n) c) (low : pages ≤ c * 2 ^ 34)
        (divided : more_pages ≡ (f.live + (within - before)) / f.slots + min 1 ((f.live + (within - before)) % f.slots)) where
      ceil : more_pages ≡ ceil_div (f.live + (within - before)) f.slots
      ceil = divided ∙ sym (ceil_is (f.live + (within - before)) f.slots slots_positive)

      pub pages_small : more_pages ≤ 2 ^ 34
      pages_small = (
          let e = ceil in let h = objects_small in
          let m = ceil_small (f.live + (within - before)) f.slots slots_positive in omega arith)

      pub pages_low : pages + more_pages ≤ (c + 1) * 2 ^ 34
      pages_low = (let h = pages_small in omega arith)

      pub pages_fit : pages + more_pages < 2 ^ 64
      pages_fit = (let h = pages_small in let f = few_classes in omega arith)

      pub pages_summed : pages + more_pages ≡ pages_up_to (paging_in s) (objects s.held) (inner_lengths u n) (c + 1)
      pages_summed = (
          let a = ceil in
          let x = ap (λ k. ceil_div (k + (within - before)) f.slots) live_is in
          let y = ap (λ k. ceil_div (live (paging_in s) (objects s.held) c + k) f.slots) class_is in
          let z = ap (λ k. ceil_div (live (paging_in s) (objects s.held) c + in_class (paging_in s) c (inner_lengths u n)) k)
          (ap (λ (f : Figures). f.slots) figures_are) in
          let b = pages_more (paging_in s) (objects s.held) (inner_lengths u n) c in omega arith)
