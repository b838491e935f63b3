-- For `set_bound`: while no object is live, a class gets another bound; the heap keeps its invariant, and nothing else in its state changes. For `class_with`:
-- the class, if any, that a search by slot size finds.
use Rattle.std.proofs.Common.{◌≡◌, ◌≢◌, ℕ, ◌<◌, ◌≤◌, length, set, get_or, Some, None, arith, refl, sym, ◌∙◌, ap, subst, inl, inr}
use Rattle.std.specs.Prelude.{◌⊎◌, nat_eq, position}
use Rattle.std.proofs.lemmas.Bool.{cases_eq}
use Rattle.std.proofs.lemmas.List.{length-set, get_or-set_same, get_or-set_other}
use Rattle.std.proofs.Math.Seq.{take-set-lt}
use Rattle.std.specs.Ordering.{nat_cmp}
use Rattle.std.specs.FinMap.{get, empty, get-empty}
use Rattle.page_model.specs.Held.{Placed}
use Rattle.page_model.specs.Arrangement.{IsSound, live, objects_on}
use Rattle.page_model.specs.Figures.{taken_bytes}
use Rattle.page_model.proofs.CallerLemmas.{on_none, sound_empty, none_live, none_taken}
use Rattle.cf_base.proofs.Positions.{position_is, position_none}
use Rattle.cf_base.proofs.Tests.{eq_no, eq_yes}
use Rattle.cf_model.specs.Answers.{with_bound}
use Rattle.paged_heap.specs.Heap.{Heap}
use Rattle.paged_heap.specs.Layout.{IsValid, held_in, paging_at, state_of}
use Rattle.paged_heap.proofs.ByKind.{framed_kept}
use Rattle.paged_heap.proofs.LayoutFacts.{few_classes, sizes_are, table_is}
use Rattle.paged_heap.proofs.EmptyHeap.{no_objects_in}
use Rattle.page_slots.proofs.CallerLemmas.{as_many}

abbrev pub rebound : Heap → ℕ → ℕ → Heap
rebound h c b = record h { bounds = set h.bounds c b }

module _ (h : Heap) (k : IsValid h) (none : held_in h ≡ empty) (c b : ℕ) (lt : c < length h.classes.sizes) (least : 1 ≤ b) (most : b ≤ 64) where
  no_object : (q : ℕ) (x : Placed) → get (held_in h) q ≡ Some x → ⊥
  no_object q x e = absurd
      (let n : get {X = Placed} {R = nat_cmp} empty q ≡ None = get-empty nat_cmp q in let z : Some x ≡ None = sym e ∙ ap (λ m. get m q) none ∙ n in cc)

  inside : c < length h.bounds
  inside = (let few = few_classes h k in let e = as_many (paging_at h) (table_is h k) in let long = k.bounds_long in omega arith)

  new_bound : (d : ℕ) → ((d ≡ c) × (get_or (set h.bounds c b) d 0 ≡ b)) ⊎ (get_or (set h.bounds c b) d 0 ≡ get_or h.bounds d 0)
  new_bound d = elim (cases_eq d c) [
    | inl is ↦ inl (is, (rw is (get_or-set_same h.bounds c b 0 inside)))
    | inr ne ↦ inr (get_or-set_other h.bounds c d b 0 ne)
  ]

  pub rebound_kept : IsValid (rebound h c b)
  rebound_kept = record {
    framed = framed_kept h.kind h (rebound h c b) refl refl k.framed;
    table = k.table;
    words_long = k.words_long;
    image = record {
      held = λ q x e. absurd (no_object q x e);
      zeros = λ w _. k.image.zeros w (λ q x e. absurd (no_object q x e));
    };
    sound = subst (IsSound (paging_at (rebound h c b))) (sym none) (sound_empty (paging_at (rebound h c b)));
    serve = record { part = record { tables = k.serve.part.tables; pages = k.serve.part.pages }; whole = k.serve.whole };
    occupied = record {
      stands = λ q x e. absurd (no_object q x e);
      filled = λ d page slot u. absurd (let w = k.occupied.filled d page slot u in no_object w.0 w.1 w.2);
      counted = λ d page of.
          ap (λ m. objects_on (paging_at (rebound h c b)) m d page) none ∙ on_none (paging_at (rebound h c b)) d page
          ∙ sym (ap (λ m. objects_on (paging_at h) m d page) none ∙ on_none (paging_at h) d page) ∙ k.occupied.counted d page of;
    };
    numbers = k.numbers;
    handles = k.handles;
    bounds_long = (let e = k.bounds_long in length-set h.bounds c b ∙ e);
    some_bound = λ d l. elim (new_bound d) [ inl (_, e) ↦ omega arith | inr e ↦ (let s = k.some_bound d l in omega arith) ];
    low_bound = λ d l. elim (new_bound d) [ inl (_, e) ↦ omega arith | inr e ↦ (let s = k.low_bound d l in omega arith) ];
    live_long = k.live_long;
    counted = λ d l. k.counted d l ∙ ap (λ o. live (paging_at h) o d) (no_objects_in h none) ∙ none_live (paging_at h) d
        ∙ sym (ap (λ o. live (paging_at (rebound h c b)) o d) (no_objects_in h none) ∙ none_live (paging_at (rebound h c b)) d);
    asked_all = k.asked_all;
    taken_all = k.taken_all ∙ ap (taken_bytes (paging_at h)) (no_objects_in h none) ∙ none_taken (paging_at h)
        ∙ sym (ap (taken_bytes (paging_at (rebound h c b))) (no_objects_in h none) ∙ none_taken (paging_at (rebound h c b)));
  }

  pub rebound_state : state_of (rebound h c b) ≡ with_bound (state_of h) (Some c) b
  rebound_state = ap (λ bs. record (state_of h) { bounds = bs }) (take-set-lt (length h.classes.sizes) h.bounds c b lt)

-- the class that `class_with` returns for `words` words is the first with slots of that size; none if there is no such class
module _ (h : Heap) (k : IsValid h) (words : ℕ) where
  pub class_found : (c : ℕ) → c < length h.classes.sizes → ((j : ℕ) → j < c → get_or h.classes.sizes j 0 ≢ words) → get_or h.classes.sizes c 0 ≡ words
      → Some c ≡ position (λ w. nat_eq w words) (paging_at h).sizes
  class_found c lt before is =
      subst (λ xs. Some c ≡ position (λ w. nat_eq w words) xs) (sizes_are h k)
      (sym (position_is (λ w. nat_eq w words) h.classes.sizes c 0 lt (λ j l. eq_no _ _ (before j l)) (eq_yes _ _ is)))

  pub class_unknown : ((j : ℕ) → j < length h.classes.sizes → get_or h.classes.sizes j 0 ≢ words) → None ≡ position (λ w. nat_eq w words) (paging_at h).sizes
  class_unknown none =
      subst (λ xs. None ≡ position (λ w. nat_eq w words) xs) (sizes_are h k)
      (sym (position_none (λ w. nat_eq w words) h.classes.sizes 0 (λ j l. eq_no _ _ (none j l))))
