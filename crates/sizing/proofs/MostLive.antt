-- For the laws of `laws.rt` but one, and of `heaps.rt`: along a run each class stays within the pages that the most of its objects fill. So if the heap has
-- these pages, no malloc and no resize is refused for space, and if no bound is less than its class's pages, no free moves an object.
use Rattle.std.proofs.Common.{◌≡◌, ℕ, ◌+◌, ◌<◌, ◌≤◌, List, Some, length, map, replicate, arith}
use Rattle.std.specs.Prelude.{nat_eq}
use Rattle.std.specs.FinMap.{empty, get, insert, values}
use Rattle.page_model.specs.Arrangement.{IsSound, LacksRoom, class_at, live, pages_for, pages_of_class, used_pages}
use Rattle.page_model.specs.Counts.{ceil_div}
use Rattle.page_model.specs.Held.{Held, Objects, Placed, objects}
use Rattle.page_model.specs.Paging.{IsPaging, Paging, bound_of, class_for, classes, slots_of}
use Rattle.page_model.specs.Steps.{MustMove}
use Rattle.page_model.proofs.CallerLemmas.{sound_empty}
use Rattle.page_model.proofs.Lacking.{none_free}
use Rattle.page_model.proofs.Nothing.{none_home}
use Rattle.quota_model.specs.Admission.{in_order, pages_needed_by}
use Rattle.quota_model.specs.declared.results.Need.{Need}
use Rattle.quota_model.proofs.CallerLemmas.{contained, count-map, declared_is}
use Rattle.sizing.specs.Demands.{HasAtMost, KeepsTo, count_in}
use Rattle.sizing.specs.Runs.{Does, HeapCall, IsServed, RunCalls}
use Rattle.sizing.proofs.Calls.{IsWithinPages, live_malloced, live_resized, run_keeps, sound_next, within_next}
use Rattle.sizing.proofs.ClassPages.{full_now, none_must_move, sum_less}

module _ (p : Paging) (ok : IsPaging p) (most : ℕ → ℕ) (allowed : Objects → Type 0) (few : (o : Objects) → allowed o → HasAtMost p most o) where
  pub pages_along : (calls : List HeapCall) (last : Held) → RunCalls p allowed empty calls last → IsSound p last × IsWithinPages p most last
  pages_along calls last run = run_keeps (Does p) allowed (λ m. IsSound p m × IsWithinPages p most m)
      (λ old new call k step asked. (sound_next p ok old k.0 call new step, within_next p ok old k.0 most k.1 call new step (few (objects new) asked)))
      calls empty last (sound_empty p, λ c lt. (let z = none_home p c in omega arith)) run

  -- with bounds of at least the pages that `most` objects fill, no free moves an object
  pub nothing_moves : ((c : ℕ) → c < classes p → ceil_div (most c) (slots_of p c) ≤ bound_of p c) → (calls : List HeapCall) (m : Held) → RunCalls p allowed empty calls m
      → (h : ℕ) (x : Placed) → get m h ≡ Some x → ¬ MustMove p m x
  nothing_moves high calls m run h x there =
      let k = pages_along calls m run in
      let lt = ((k.0).slots h x there).class in
      let a = k.1 (class_at p x) lt in
      let b = high (class_at p x) lt in
      none_must_move p ok m k.0 h x there (omega arith)

  module _ (enough : pages_for p most ≤ p.pages) where
    -- a class that lacks room has the most objects that it may have
    lacks_at_most : (calls : List HeapCall) (m : Held) → RunCalls p allowed empty calls m → (c : ℕ) → c < classes p → LacksRoom p m c
        → live p (objects m) c + 1 ≤ most c → ⊥
    unfolding used_pages
    lacks_at_most calls m run c lt lacks le =
        let k = pages_along calls m run in
        let all : used_pages p m ≡ p.pages = none_free p m k.0 lacks.taken in
        let less = sum_less (pages_of_class p m) (λ d. ceil_div (most d) (slots_of p d)) 1 0 (classes p) c (omega arith) (omega arith)
        (λ d _ h. k.1 d (omega arith)) (full_now p ok m k.0 c lt (most c) lacks.full le) in
        absurd (omega arith)

    pub is_served : IsServed p allowed
    is_served = record {
      mallocs = λ calls m h n run l. lacks_at_most calls m run (class_for p n) l.fits l.lacking (
          let here = few (insert (objects m) h (replicate n 0)) l.asked (class_for p n) l.fits in
          let more = live_malloced p m h n l.unused in
          omega arith);
      resizes = λ calls m h n run l. lacks_at_most calls m run (class_for p n) l.fits l.lacking (
          let here = few _ l.asked (class_for p n) l.fits in
          let more = live_resized p m h n l.object l.found l.other in
          omega arith);
    }

-- the objects of a class are at most those declared of its lengths
pub declared_few : (p : Paging) (needs : List Need) (o : Objects) → KeepsTo needs o → HasAtMost p (count_in p needs) o
unfolding live
declared_few p needs o keeps c lt =
    let most = contained (map length (values o)) (in_order needs) (λ n. (
    let a = count-map length (λ m. nat_eq m n) (values o) in
    let b = declared_is needs n in
    let d = keeps n in
    omega arith)) (λ n. nat_eq (class_for p n) c) in
    let a = count-map length (λ n. nat_eq (class_for p n) c) (values o) in
    omega arith

pub needs_served : (p : Paging) (needs : List Need) → IsPaging p → pages_needed_by p (in_order needs) ≤ p.pages → IsServed p (KeepsTo needs)
needs_served p needs ok enough = is_served p ok (count_in p needs) (KeepsTo needs) (declared_few p needs) enough
