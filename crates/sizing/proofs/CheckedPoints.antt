-- For `is_certified` and its parts: the points are a certificate if and only if each meets its conditions, and there is one if there is a mode; the tables that
-- the test computes have the counts of the modes; resizes are served with a page more. For `budget_certificate.rt` too: the pages and classes of the settings.
use Rattle.std.proofs.Common.{◌≡◌, ℕ, suc, ◌+◌, ◌<◌, ◌≤◌, Bool, List, [], All, cond, get_or-set_other, get_or-set_same, length, arith, ap, sym, ◌∙◌, min, refl, subst, inl, inr}
use Rattle.std.proofs.Math.ListN.{set}
use Rattle.std.specs.Prelude.{IsTrue, nat_eq, slice_index, slice_index_or}
use Rattle.std.proofs.lemmas.Bool.{cases_eq, cases_lt}
use Rattle.std.proofs.lemmas.List.{get_or-map, length-map}
use Rattle.std.proofs.lemmas.List.Elements.{All-contains, Contains-get_or}
use Rattle.cf_base.specs.Classes.{sizes}
use Rattle.cf_base.specs.Limits.{is_page_size}
use Rattle.cf_base.specs.Settings.{Profile}
use Rattle.cf_base.specs.declared.kind.Layout.{Layout}
use Rattle.cf_base.proofs.Ranges.{sum_range_same}
use Rattle.cf_base.proofs.Tests.{eq_no, eq_yes}
use Rattle.page_model.specs.Counts.{most_pages}
use Rattle.page_model.specs.Paging.{IsPaging, Paging, bound_of, class_for, classes, paging_of, slots_of}
use Rattle.page_model.proofs.CallerLemmas.{paged}
use Rattle.quota_model.specs.declared.results.Need.{Need}
use Rattle.sizing.specs.Certificates.{AreForResizes, IsCertificate, IsPoint, LeadsInto, in_both, kept_count, mode_at, mode_count, one_more_of, pages_with_copy}
use Rattle.sizing.specs.Checks.{AllowsResizes, AreCounts, IsRow, needs_of, paging_with, with_pages}
use Rattle.sizing.specs.Demands.{KeepsToOne, count_in}
use Rattle.sizing.specs.Layout.{size_before}
use Rattle.sizing.specs.Runs.{ServesResizesAcross}
use Rattle.sizing.specs.declared.certificate.ModeNeeds.{ModeNeeds}
use Rattle.sizing.specs.declared.certificate.PointPages.{PointPages}
use Rattle.sizing.specs.declared.points.HeapClasses.{HeapClasses}
use Rattle.sizing.specs.declared.shared.TwoModes.{TwoModes}
use Rattle.sizing.proofs.ModePages.{certified_spare}

-- ---- all points

module _ (p : Paging) (modes : List ModeNeeds) (points : List PointPages) (resizes : Bool) where
  pub certified : (0 < length modes → 0 < length points) → All (IsRow p modes points resizes) points
      → IsCertificate p (needs_of modes) points × (IsTrue resizes → AreForResizes p (needs_of modes) points)
  certified some rows = (
    record {
      first = λ j less. (
          let long = length-map modes (λ (m : ModeNeeds). m.needs) in
          let lt = some (omega arith) in
          let y = (rows 0 (record { mode = 0; pages = [] }) lt).point.next j less in
          (y.0, y.1, y.2));
      each = λ i d lt. (rows i d lt).point;
    },
    λ yes. record {
      within = λ x inside j lt. (
          let long = length-map modes (λ (m : ModeNeeds). m.needs) in
          ((All-contains (IsRow p modes points resizes) points x rows inside).resized yes j (omega arith)).within);
      copies = λ x inside j lt. (
          let long = length-map modes (λ (m : ModeNeeds). m.needs) in
          ((All-contains (IsRow p modes points resizes) points x rows inside).resized yes j (omega arith)).copies);
    },
  )

  pub all_rows : IsCertificate p (needs_of modes) points × (IsTrue resizes → AreForResizes p (needs_of modes) points) → All (IsRow p modes points resizes) points
  all_rows sure i d lt = record {
    point = (sure.0).each i d lt;
    resized = λ yes j less. (
        let long = length-map modes (λ (m : ModeNeeds). m.needs) in
        let inside = Contains-get_or points i d lt in
        let more = sure.1 yes in
        record {
          within = more.within (slice_index_or points i d) inside j (omega arith);
          copies = more.copies (slice_index_or points i d) inside j (omega arith);
        });
  }

  pub none_without : length points ≡ 0 → IsCertificate p (needs_of modes) points → length modes ≡ 0
  none_without none sure = elim (cases_lt 0 (length modes)) [
    | inl some ↦ absurd (
        let long = length-map modes (λ (m : ModeNeeds). m.needs) in
        let at = (sure.first 0 (omega arith)).1 in
        let lt = at.1 in
        omega arith)
    | inr empty ↦ omega arith
  ]

-- ---- one point and one mode

-- pages don't change the classes
alike : (pages : ℕ) (heap : HeapClasses) (needs : List Need) (c : ℕ) → count_in (paging_with 0 heap) needs c ≡ count_in (paging_with pages heap) needs c
unfolding class_for
alike pages heap needs c = refl

needs_are : (modes : List ModeNeeds) (j : ℕ) (d : ModeNeeds) → j < length modes → (slice_index_or modes j d).needs ≡ mode_at (needs_of modes) j
needs_are modes j d lt = sym (get_or-map (λ (m : ModeNeeds). m.needs) modes j d [] lt)

-- the counts of mode i, as the test reads its needs
pub count_at : (pages : ℕ) (heap : HeapClasses) (modes : List ModeNeeds) (i : ℕ) (d : ModeNeeds) → i < length modes → (c : ℕ)
    → count_in (paging_with 0 heap) (slice_index_or modes i d).needs c ≡ mode_count (paging_with pages heap) (needs_of modes) i c
count_at pages heap modes i d lt c = ap (λ n. count_in (paging_with 0 heap) n c) (needs_are modes i d lt) ∙ alike pages heap (mode_at (needs_of modes) i) c

module _ (pages : ℕ) (heap : HeapClasses) (modes : List ModeNeeds) (i j : ℕ) (d e : ModeNeeds) (il : i < length modes) (jl : j < length modes) (t : TwoModes)
    (k : AreCounts (paging_with 0 heap) (slice_index_or modes i d).needs (slice_index_or modes j e).needs t) where
  pub before_is : (c : ℕ) → c < classes (paging_with pages heap) → slice_index t.before c ≡ mode_count (paging_with pages heap) (needs_of modes) i c
  before_is c lt = k.before c lt ∙ count_at pages heap modes i d il c

  pub after_is : (c : ℕ) → c < classes (paging_with pages heap) → slice_index t.after c ≡ mode_count (paging_with pages heap) (needs_of modes) j c
  after_is c lt = k.after c lt ∙ count_at pages heap modes j e jl c

  pub kept_is : (c : ℕ) → c < classes (paging_with pages heap) → slice_index t.kept c ≡ kept_count (paging_with pages heap) (needs_of modes) i j c
  kept_is c lt = k.kept c lt ∙ (λ q. count_in (paging_with 0 heap) (in_both (needs_are modes i d il q) (needs_are modes j e jl q)) c)
      ∙ alike pages heap (in_both (mode_at (needs_of modes) i) (mode_at (needs_of modes) j)) c

-- one object more of class c in a table
pub set_is_more : (xs : List ℕ) (c : ℕ) → c < length xs → (e : ℕ) → slice_index (set xs c (slice_index xs c + 1)) e ≡ one_more_of c (slice_index xs) e
set_is_more xs c lt e = elim (cases_eq e c) [
  | inl is ↦ subst (λ i. slice_index (set xs c (slice_index xs c + 1)) i ≡ one_more_of c (slice_index xs) i) (sym is)
      (rw (eq_yes c c refl) (get_or-set_same xs c (slice_index xs c + 1) 0 lt))
  | inr ne ↦ rw (eq_no e c ne) (rw get_or-set_other refl)
]

pub leads_same : (p : Paging) (points : List PointPages) (kept kept' : ℕ → ℕ) (x : PointPages) (j : ℕ) → ((c : ℕ) → c < classes p → kept c ≡ kept' c)
    → LeadsInto p points kept x j → LeadsInto p points kept' x j
leads_same p points kept kept' x j same y = (
  y.0,
  y.1,
  y.2,
  λ c lt. subst (λ n. min (slice_index x.pages c) (most_pages n (slots_of p c) (bound_of p c)) ≤ slice_index (y.0).pages c) (same c lt) (y.3 c lt),
)

-- tables with the same counts
module _ (p : Paging) (points : List PointPages) (kept before after kept' before' after' : ℕ → ℕ) (x : PointPages) (j : ℕ)
    (k : (c : ℕ) → c < classes p → kept c ≡ kept' c) (b : (c : ℕ) → c < classes p → before c ≡ before' c) (a : (c : ℕ) → c < classes p → after c ≡ after' c) where
  pub allows_same : AllowsResizes p points kept before after x j → AllowsResizes p points kept' before' after' x j
  allows_same r = record {
    within = λ c lt less less'. leads_same p points (one_more_of c kept) (one_more_of c kept') x j (λ e inside. ap (λ n. cond (nat_eq e c) (n + 1) n) (k e inside))
        (r.within c lt (let u = k c lt in let v = b c lt in omega arith) (let u = k c lt in let v = a c lt in omega arith));
    copies = λ c cl some d dl ne some'. (
        let sum = r.copies c cl (let v = b c cl in omega arith) d dl ne (let v = a d dl in omega arith) in
        let same = sum_range_same (λ e. pages_with_copy p c d e (slice_index x.pages e) (kept e) (before e) (after e))
        (λ e. pages_with_copy p c d e (slice_index x.pages e) (kept' e) (before' e) (after' e)) 0 (classes p)
        (λ e _ lt. (
        let u = k e (omega arith) in
        let v = b e (omega arith) in
        let w = a e (omega arith) in
        λ i. pages_with_copy p c d e (slice_index x.pages e) (u i) (v i) (w i))) in
        omega arith);
  }

-- ---- the pages of the settings

-- slot sizes that are those of the layout
pub paging_is : (s : Profile) (layout : Layout) (bounds all : List ℕ) → all ≡ sizes s.page_words layout
    → record { pages = s.pages; page_words = s.page_words; sizes = all; bounds = bounds } ≡ paging_of s layout bounds
paging_is s layout bounds all is = λ i. record { pages = s.pages; page_words = s.page_words; sizes = is i; bounds = bounds }

pub paging_right : (s : Profile) (layout : Layout) (bounds all : List ℕ) → IsTrue (is_page_size s.page_words) → all ≡ sizes s.page_words layout
    → (length bounds ≡ length all) × ((c : ℕ) → c < length bounds → 1 ≤ slice_index bounds c) → IsPaging (paging_of s layout bounds)
paging_right s layout bounds all page is k = paged s layout bounds page (k.0 ∙ ap length is) k.1

-- the size after size c
pub size_after : (xs : List ℕ) (c : ℕ) → slice_index xs c ≡ size_before xs (c + 1)
size_after xs c = sym (ap (size_before xs) (let e : c + 1 ≡ suc c = omega arith in e))

-- ---- a page more

-- a certificate is one with more pages too
more_pages : (p : Paging) (needs : List (List Need)) (points : List PointPages) → IsCertificate p needs points → IsCertificate (with_pages (p.pages + 1) p) needs points
unfolding class_for
more_pages p needs points sure = record {
  first = sure.first;
  each = λ i d lt. (
      let r = sure.each i d lt in
      record { known = r.known; tops = r.tops; enough = (let sum = r.enough in omega arith); next = r.next });
}

pub resizes_with_more : (p : Paging) (needs : List (List Need)) (points : List PointPages) → IsPaging p → IsCertificate p needs points
    → ServesResizesAcross (with_pages (p.pages + 1) p) (KeepsToOne needs)
resizes_with_more p needs points ok sure = certified_spare (with_pages (p.pages + 1) p) (record { sized = ok.sized; bounded = ok.bounded; some = ok.some }) needs points
    (more_pages p needs points sure)
    (λ x inside. (let sum = (All-contains (IsPoint p needs points) points x sure.each inside).enough in omega arith))
