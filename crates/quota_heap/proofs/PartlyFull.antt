-- For `StepCounts`: with bound 1 the partly full page of a class has as many objects as the class modulo the slots of a page, since the other pages are full.
use Rattle.std.proofs.Common.{◌≡◌, ◌≢◌, ℕ, cond, ◌+◌, ◌-◌, ◌*◌, ◌%◌, ◌<◌, ◌≤◌, arith, refl, sym, ◌∙◌, ap, inl, inr}
use Rattle.std.specs.Prelude.{count_by, nat_eq, sum_by}
use Rattle.std.specs.List.{range_with_len}
use Rattle.std.proofs.lemmas.Bool.{cases_eq}
use Rattle.std.proofs.lemmas.Nat.{mod-mul-add}
use Rattle.cf_base.proofs.Ranges.{count_changed, sum_changed}
use Rattle.cf_base.proofs.Tests.{eq_no, eq_yes}
use Rattle.page_model.specs.Arrangement.{IsSound, live, not_full_pages, objects_on, pages_of_class}
use Rattle.page_model.specs.Held.{Held, objects}
use Rattle.page_model.specs.Paging.{EveryBoundIsOne, IsPaging, Paging, classes, slots_of}
use Rattle.page_model.proofs.CallerLemmas.{live_is, part_empty, part_full, part_yes, slots_some, sound_stand}
use Rattle.page_model.proofs.PageCounts.{size_some, stands}
use Rattle.page_model.proofs.Totals.{live_by_pages, page_within}
use Rattle.quota_heap.proofs.NextPage.{not_full_few}

-- if no page is partly full, the objects fill whole pages
full_sum : (on : ℕ → ℕ) (m : ℕ) (some : 0 < m) (n : ℕ) → ((q : ℕ) → on q ≤ m) → count_by (λ q. part_full (on q) m) (range_with_len 0 n) ≡ 0
    → (f : ℕ) × (sum_by on (range_with_len 0 n) ≡ f * m)
full_sum on m some n few none =
    let st = stands on m some 0 n few in
    let least : st.0 * m + 0 ≤ sum_by on (range_with_len 0 n) = rw none at st.1.least in
    let most : sum_by on (range_with_len 0 n) ≤ st.0 * m + 0 * (m - 1) = rw none at st.1.most in
    (st.0, omega arith)

module _ (p : Paging) (ok : IsPaging p) (ones : EveryBoundIsOne p) (m : Held) (s : IsSound p m) (c : ℕ) (lt : c < classes p) where
  abbrev n : ℕ
  n = slots_of p c

  some : 0 < slots_of p c
  some = slots_some p ok c lt

  total : sum_by (objects_on p m c) (range_with_len 0 p.pages) ≡ live p (objects m) c
  total = live_by_pages p c m (λ q x f. (s.slots q x f).page) ∙ sym (live_is p c m)

  -- without a partly full page all pages are full
  pub none_left : not_full_pages p m c ≡ 0 → live p (objects m) c % slots_of p c ≡ 0
  none_left none =
      let st = sound_stand p ok c lt m s in
      let least : (pages_of_class p m c - 0) * n + 0 ≤ live p (objects m) c = rw none at st.least in
      let most : live p (objects m) c ≤ (pages_of_class p m c - 0) * n + 0 * (n - 1) = rw none at st.most in
      let is : live p (objects m) c ≡ (pages_of_class p m c - 0) * n + 0 = omega arith in
      ap (λ l. l % n) is ∙ mod-mul-add (pages_of_class p m c - 0) n 0 some

  module _ (page : ℕ) (within : page < p.pages) (has : 0 < objects_on p m c page) (less : objects_on p m c page < slots_of p c) where
    -- the numbers of objects on the other pages; 0 in place of that of the page
    abbrev others : ℕ → ℕ
    others q = cond (nat_eq q page) 0 (objects_on p m c q)

    here : others page ≡ 0
    here = (let e = eq_yes page page refl in rw e refl)

    there : (q : ℕ) → q ≢ page → others q ≡ objects_on p m c q
    there q ne = (let e = eq_no q page ne in rw e refl)

    few_others : (q : ℕ) → others q ≤ n
    few_others q = elim (cases_eq q page) [
      | inl is ↦ (let e = eq_yes q page is in rw e (omega arith))
      | inr ne ↦ (let e = there q ne in let w = page_within p c q m (size_some p ok c lt) s in omega arith)
    ]

    none_of_others : count_by (λ q. part_full (others q) n) (range_with_len 0 p.pages) ≡ 0
    unfolding not_full_pages
    none_of_others =
        let change = count_changed (λ q. part_full (others q) n) (λ q. part_full (objects_on p m c q) n) 0 p.pages page (omega arith) (omega arith)
        (λ q ne. ap (λ k. part_full k n) (there q ne)) in
        let yes = part_yes (objects_on p m c page) n has less in
        let no' = part_empty (others page) n here in
        let few = not_full_few p ok ones m s c lt in
        omega arith

    pub partly_left : objects_on p m c page ≡ live p (objects m) c % slots_of p c
    partly_left =
        let full = full_sum others n some p.pages few_others none_of_others in
        let change = sum_changed others (objects_on p m c) 0 p.pages page (omega arith) (omega arith) (λ q _ _ ne. there q ne) in
        let all = total in
        let e = here in
        let f = full.1 in
        let is : live p (objects m) c ≡ full.0 * n + objects_on p m c page = omega arith in
        sym (ap (λ l. l % n) is ∙ mod-mul-add full.0 n (objects_on p m c page) less)
