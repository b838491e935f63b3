-- For `words_are_the_image_but_for_the_job`: while no job is pending, the region's words are the image of the objects; while one is, they differ from it at
-- most in words that the job has yet to change.
use Rattle.std.proofs.Common.{◌≡◌, ◌≢◌, ℕ, ◌+◌, ◌-◌, ◌<◌, ◌≤◌, List, Option, Some, None, length, get_or, arith, sym, ◌∙◌, ap, refl, inl, inr}
use Rattle.std.specs.Prelude.{◌↔◌}
use Rattle.std.proofs.lemmas.Bool.{cases_eq, cases_lt}
use Rattle.std.specs.FinMap.{get}
use Rattle.page_model.specs.Held.{Held, Placed}
use Rattle.page_model.specs.Image.{IsOutside, IsOutsideOf, IsSlotImage, slot_for}
use Rattle.page_model.specs.Paging.{Paging, slot_words}
use Rattle.page_model.proofs.CallerLemmas.{within_or}
use Rattle.slice_model.specs.State.{Plan, IsPlan, JobSlot, Job, Sliced, IsKept, job_slot, Idle, Clear, Move}
use Rattle.slice_model.specs.Words.{HasWords, IsBehind, IsClosedWord, word_at}
use Rattle.slice_model.proofs.CallWords.{mover_class}
use Rattle.slice_model.proofs.WordAddresses.{where_word, word_left}

pub idle_words : (p : Paging) (m : Held) (words : List ℕ) → HasWords p (record { held = m; job = Idle }) words ↔ IsSlotImage p m words
idle_words p m words = (
  (λ has. record { held = has.held; zeros = λ w out. has.zeros w out (λ k e. absurd (let e' : None ≡ Some k = e in cc)) }),
  (λ im. record { held = im.held; done = λ k e i lt. absurd (let e' : None ≡ Some k = e in cc); zeros = λ w out _. im.zeros w out }),
)

closed_slot : (p : Paging) (m : Held) (j : Job) (w : ℕ) → IsClosedWord p m j w → (k : JobSlot) → job_slot j ≡ Some k → IsBehind p k k.address w
closed_slot p m Idle w c k e = absurd (let e' : None ≡ Some k = e in cc)
closed_slot p m (Clear g) w c k e = (let f : k ≡ g = (let e' : Some g ≡ Some k = e in cc) in rw f c)
closed_slot p m (Move h g) w c k e = (let f : k ≡ g = (let e' : Some g ≡ Some k = e in cc) in rw f c.0)

closed_mover : (p : Paging) (m : Held) (j : Job) (w : ℕ) → IsClosedWord p m j w → (k : JobSlot) (h : ℕ) (x : Placed) → j ≡ Move h k → get m h ≡ Some x
    → IsBehind p k x.place w
closed_mover p m Idle w c k h x e there = absurd (let e' : Idle ≡ Move h k = e in cc)
closed_mover p m (Clear g) w c k h x e there = absurd (let e' : Clear g ≡ Move h k = e in cc)
closed_mover p m (Move q g) w c k h x e there =
    let e' : Move q g ≡ Move h k = e in
    let a : h ≡ q = cc in
    let b : k ≡ g = cc in
    let there' : get m q ≡ Some x = rw a at there in
    rw b (c.1 x there')

not_behind : (a done size w i : ℕ) → IsOutside (a + done) (size - done) w → a + i ≡ w → done ≤ i → i < size → ⊥
not_behind a done size w i (inl l) e x y = omega arith
not_behind a done size w i (inr r) e x y = omega arith

pub closed_words : (plan : Plan) → IsPlan plan → (s : Sliced) → IsKept plan s → (words clean : List ℕ) (w : ℕ) → HasWords plan.paging s words
    → IsSlotImage plan.paging s.held clean → IsClosedWord plan.paging s.held s.job w → get_or words w 0 ≡ get_or clean w 0
closed_words plan ok s kept words clean w has im closed = elim (cases_eq (get_or words w 0) (get_or clean w 0)) [
  | inl is ↦ is
  | inr ne ↦ absurd (ne (by_job (job_slot s.job) refl (outside ne)))
]
  where
    same_inside : (h : ℕ) (x : Placed) → get s.held h ≡ Some x → (i : ℕ) → i < slot_for plan.paging (length x.bytes) → x.place + i ≡ w
        → get_or words w 0 ≡ get_or clean w 0
    same_inside h x there i lt at = elim (where_word s.job h x i) [
      | inl stands ↦ ap (λ v. get_or words v 0) (sym (stands ∙ at)) ∙ has.held h x there i lt ∙ sym (im.held h x there i lt) ∙ ap (λ v. get_or clean v 0) at
      | inr (k, move, left, _) ↦ absurd (
          let size : slot_for plan.paging (length x.bytes) ≡ slot_words plan.paging k.class = ap (slot_words plan.paging)
          (mover_class plan.paging s.held s.job kept.job k h x move there) in
          not_behind x.place k.done (slot_words plan.paging k.class) w i (closed_mover plan.paging s.held s.job w closed k h x move there) at left
          (omega arith))
    ]

    outside : get_or words w 0 ≢ get_or clean w 0 → (h : ℕ) (x : Placed) → get s.held h ≡ Some x → IsOutsideOf (slot_for plan.paging) x w
    outside ne h x there = elim (within_or x.place (slot_for plan.paging (length x.bytes)) w) [
      | inl (i, lt, at) ↦ absurd (ne (same_inside h x there i lt at))
      | inr out ↦ out
    ]

    by_job : (o : Option JobSlot) → job_slot s.job ≡ o → ((h : ℕ) (x : Placed) → get s.held h ≡ Some x → IsOutsideOf (slot_for plan.paging) x w)
        → get_or words w 0 ≡ get_or clean w 0
    by_job None e out = has.zeros w out (λ k e'. absurd (let f : None ≡ Some k = sym e ∙ e' in cc)) ∙ sym (im.zeros w out)
    by_job (Some k) e out = elim (within_or k.address (slot_words plan.paging k.class) w) [
      | inr beyond ↦ has.zeros w out (λ g e'. (let f : Some k ≡ Some g = sym e ∙ e' in let f' : k ≡ g = cc in rw f' at beyond)) ∙ sym (im.zeros w out)
      | inl (i, lt, at) ↦ elim (cases_lt i k.done) [
        | inl before ↦ ap (λ v. get_or words v 0) (sym at) ∙ has.done k e i before ∙ sym (im.zeros w out)
        | inr left ↦ absurd (not_behind k.address k.done (slot_words plan.paging k.class) w i (closed_slot plan.paging s.held s.job w closed k e) at left lt)
      ]
    ]

pub carried_words : (p : Paging) (s : Sliced) (words clean : List ℕ) (h : ℕ) (k : JobSlot) (x : Placed) (i : ℕ) → HasWords p s words
    → IsSlotImage p s.held clean → s.job ≡ Move h k → get s.held h ≡ Some x → k.done ≤ i → i < slot_for p (length x.bytes)
    → get_or words (k.address + i) 0 ≡ get_or clean (x.place + i) 0
carried_words p s words clean h k x i has im move there left lt =
    let at : word_at s.job h x i ≡ k.address + i = ap (λ j. word_at j h x i) move ∙ word_left h k x i left in
    ap (λ v. get_or words v 0) (sym at) ∙ has.held h x there i lt ∙ sym (im.held h x there i lt)
