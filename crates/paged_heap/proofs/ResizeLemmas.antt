-- For `resize` and `resize_inner`: a length without a class is larger than a page, and a length of another class makes a change of class (`IsChange`). The most
-- steps of a resize. What a resize does is independent of the stored cost.
use Rattle.std.proofs.Common.{◌≡◌, ◌≢◌, ℕ, ◌+◌, ◌/◌, ◌<◌, ◌≤◌, length, get_or, Some, None, Result, Ok, Err, arith, sym, ◌∙◌, ap, subst, inl, inr}
use Rattle.std.specs.Prelude.{IfErr}
use Rattle.cf_base.specs.declared.results.ResizeFault.TheVariants as resize
use Rattle.cf_base.proofs.Tests.{eq_no, eq_yes}
use Rattle.page_model.specs.Held.{Placed}
use Rattle.page_model.specs.Image.{slot_for}
use Rattle.page_model.specs.Order.{word_steps}
use Rattle.step_ledger.specs.Counting.{RoseAtMost, RoseBy}
use Rattle.virtual_words.specs.Words.{IsWhole, slot_steps}
use Rattle.paged_heap.specs.Costs.{change_steps, resize_steps, stay_steps}
use Rattle.cf_model.specs.ExactCosts.{tail_steps}
use Rattle.std.proofs.lemmas.Bool.{cases_lt}
use Rattle.std.specs.FinMap.{get}
use Rattle.cf_base.specs.Classes.{class_of, need}
use Rattle.cf_base.specs.declared.results.Handle.{Handle}
use Rattle.cf_base.specs.declared.results.Resized.{Resized}
use Rattle.cf_base.specs.declared.results.ResizeFault.{ResizeFault}
use Rattle.page_model.specs.Bytes.{bytes_at}
use Rattle.page_model.specs.Paging.{classes}
use Rattle.page_model.proofs.CallerLemmas.{class_fits, class_holds}
use Rattle.cf_model.specs.Rules.{IsPaged}
use Rattle.cf_model.specs.State.{HeapState}
use Rattle.cf_model.specs.Steps.{IsResizeStep, PassesPage}
use Rattle.paged_heap.specs.Heap.{Heap}
use Rattle.paged_heap.specs.declared.resize_class.Change.{Change}
use Rattle.paged_heap.specs.ResizeClass.{IsChange, changing_steps, kept_words, old_words}
use Rattle.paged_heap.specs.Layout.{IsValid, paging_at, state_of, owner_in}
use Rattle.paged_heap.proofs.ByKind.{unmoved_cost}
use Rattle.paged_heap.proofs.LayoutFacts.{paged_kind, paging_ok, owns, table_is}
use Rattle.paged_heap.proofs.ResizeEnter.{kept_few}
use Rattle.paged_heap.proofs.ResizeInPlace.{holds_bytes}
use Rattle.paged_heap.proofs.StepLemmas.{copy_few, sizes_differ, stay_most}
use Rattle.paged_heap.proofs.WholeBlocks.{whole_size, whole_slot}
use Rattle.page_slots.proofs.CallerLemmas.{class_is, class_some, held, it, it_found, size_is, it_slot}
use Rattle.page_slots.specs.Owner.{IsObjectAt}

-- a length without a class is larger than a page
pub passes_page : (h : Heap) (k : IsValid h) (q a n : ℕ) → get h.proxies.places q ≡ Some a → None ≡ class_of h.classes.sizes n
    → PassesPage (state_of h) (record { number = q; length = n })
passes_page h k q a n some none = record {
  object = record { place = a; bytes = bytes_at h.words a };
  found = held (owns k) q a some;
  pages = paged_kind h k;
  large = elim (cases_lt h.settings.page_words (need n)) [
    | inl large ↦ large
    | inr fits ↦ absurd (class_some (paging_ok h k) (table_is h k) n (class_fits (paging_at h) (paging_ok h k) n fits) none)
  ];
}

-- a resize to a length of another class is a change of class (`IsChange`)
pub change_at : (h : Heap) (k : IsValid h) (q : Handle) (a m n c d : ℕ) → IsObjectAt (owner_in h) q.0 a m c → Some d ≡ class_of h.classes.sizes n → d ≢ c
    → IsChange h (record { handle = q; place = a; length = m; class = c; bytes = n; to = d })
change_at h k q a m n c d o found other =
    let is = class_is (paging_ok h k) (table_is h k) n d found in
    record { object = o; fits = is.0; class = is.1; in_range = is.2; other = other }

-- the steps of a resize in its slot
pub stayed_steps : (h : Heap) (k : IsValid h) {q a size c : ℕ} (o : IsObjectAt (owner_in h) q a size c) (n : ℕ) (done : Resized)
    → done.slot_words ≡ get_or h.classes.sizes c 0 → done.old_slot_words ≡ done.slot_words → (s t u v w z : ℕ) → RoseBy s t 1 → RoseBy t u 1
    → RoseBy u v (word_steps h.kind) → RoseBy v w 1 → RoseBy w z (tail_steps h.kind a n size + word_steps h.kind)
    → RoseAtMost s z (resize_steps h.kind n (Ok done))
stayed_steps h k {q} {a} {size} {c} o n done slot same s t u v w z r1 r2 r3 r4 r5 =
    let holds' : 1 + (size + 7) / 8 ≤ done.slot_words = (let l = holds_bytes k o in omega arith) in
    let most = stay_most h.kind a n size done.slot_words (whole_slot h k q (it (owns k) o) (it_found (owns k) o)).0 holds' in
    let k1 = r1.kept in let k2 = r2.kept in let k3 = r3.kept in let k4 = r4.kept in let k5 = r5.kept in
    let b1 = r1.bound in let b2 = r2.bound in let b3 = r3.bound in let b4 = r4.bound in let b5 = r5.bound in
    let all : RoseAtMost s z (stay_steps h.kind n done.slot_words) = record { kept = omega arith; bound = omega arith } in
    rw (eq_yes _ _ (sym same)) all

-- the steps of a resize to another class
pub changed_steps : (h : Heap) (k : IsValid h) {x : Change} (is : IsChange h x) (r : Result Resized ResizeFault) (m : Heap)
    → IsResizeStep (state_of h) (record { number = x.handle.0; length = x.bytes }) r (state_of m) → IfErr r (λ e. e ≡ resize.Space)
    → (s t u v w z : ℕ) → RoseBy s t 1 → RoseBy t u 1 → RoseBy u v (word_steps h.kind) → RoseBy v w 1
    → RoseAtMost w z (1 + changing_steps h.kind h x r)
    → RoseAtMost s z (resize_steps h.kind x.bytes r)
changed_steps h k {x} is (Ok done) m step cause s t u v w z r1 r2 r3 r4 r5 =
    let p = paging_at h in
    let same : step.object ≡ it (owns k) is.object = (let e : Some step.object ≡ Some (it (owns k) is.object) = sym step.found ∙ it_found (owns k) is.object
    in cc) in
    let was : done.old_slot_words ≡ old_words h x =
    step.old_slot ∙ ap (λ (y : Placed). slot_for p (length y.bytes)) same ∙ sym (it_slot (owns k) is.object) in
    let to : done.slot_words ≡ get_or p.sizes x.to 0 = step.slot ∙ ap (λ d. get_or p.sizes d 0) is.class in
    let old : old_words h x ≡ get_or p.sizes x.class 0 = size_is (owns k) is.object in
    let differ : done.slot_words ≢ done.old_slot_words = (
    let ne = sizes_differ p.page_words p.sizes (paging_ok h k).sized x.to x.class is.in_range is.object.in_range is.other in
    λ e. ne (sym to ∙ e ∙ was ∙ old)) in
    let fits : x.to < classes p = is.in_range in
    let new_holds : 1 + (x.bytes + 7) / 8 ≤ slot_for p x.bytes = class_holds p (paging_ok h k) x.bytes (subst (λ d. d < classes p) (sym is.class) fits) in
    let few = kept_few h k x is in
    let slot = step.slot in
    let whole = (whole_slot h k x.handle.0 (it (owns k) is.object) (it_found (owns k) is.object)).1 in
    let copy = copy_few h.kind (kept_words x) done.old_slot_words done.slot_words (subst (IsWhole h.kind) (sym (it_slot (owns k) is.object) ∙ sym was) whole)
    (subst (IsWhole h.kind) (sym step.slot) (whole_size h k x.bytes)) (omega arith) (omega arith) in
    let same_slot : slot_steps h.kind done.old_slot_words ≡ slot_steps h.kind (old_words h x) = ap (slot_steps h.kind) was in
    let k1 = r1.kept in let k2 = r2.kept in let k3 = r3.kept in let k4 = r4.kept in let k5 = r5.kept in
    let b1 = r1.bound in let b2 = r2.bound in let b3 = r3.bound in let b4 = r4.bound in let b5 = r5.bound in
    let all : RoseAtMost s z (change_steps h.kind done.old_slot_words done.slot_words) = record { kept = omega arith; bound = omega arith } in
    rw (eq_no _ _ differ) all
changed_steps h k {x} is (Err e) m step cause s t u v w z r1 r2 r3 r4 r5 =
    let k1 = r1.kept in let k2 = r2.kept in let k3 = r3.kept in let k4 = r4.kept in let k5 = r5.kept in
    let b1 = r1.bound in let b2 = r2.bound in let b3 = r3.bound in let b4 = r4.bound in let b5 = r5.bound in
    let all : RoseAtMost s z (resize_steps h.kind x.bytes (Err resize.Space)) = record { kept = omega arith; bound = omega arith } in
    subst (λ e. RoseAtMost s z (resize_steps h.kind x.bytes (Err e))) (sym cause) all

-- what a resize does (`IsResizeStep`) does not depend on the cost that is stored after it
pub resize_with_cost : (o : Heap) → IsPaged o.kind → (q n : ℕ) (r : Result Resized ResizeFault) (h : Heap) (cost : ℕ)
    → IsResizeStep (state_of o) (record { number = q; length = n }) r (state_of h)
    → IsResizeStep (state_of o) (record { number = q; length = n }) r (state_of (record h { cost = cost }))
resize_with_cost o p q n (Ok done) h cost g = record {
  pages = g.pages;
  fits = g.fits;
  object = g.object;
  found = g.found;
  old_slot = g.old_slot;
  slot = g.slot;
  step = g.step;
  left = g.left;
  whole = ap (λ (t : HeapState). record t { cost = cost }) g.whole;
}
resize_with_cost o p q n (Err e) h cost (cause, same) = (cause, unmoved_cost o.kind p (state_of o) (state_of h) cost same)
