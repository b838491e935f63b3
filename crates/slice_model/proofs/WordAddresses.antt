-- Where the words of objects are, also while a job is pending: the slots of the objects and the job's lie in the region and don't overlap (`AreApart`). A word
-- of an object is at its address or, if the job has yet to move it, in the job's slot; so no two words have one address, and ranges of one slot have no word of
-- another.
use Rattle.std.proofs.Common.{◌≡◌, ◌≢◌, ℕ, ◌+◌, ◌*◌, ◌<◌, ◌≤◌, Option, Some, length, arith, sym, ◌∙◌, ap, refl, subst, inl, inr}
use Rattle.std.specs.Prelude.{◌⊎◌, nat_eq}
use Rattle.std.proofs.lemmas.Bool.{cases_eq, cases_lt}
use Rattle.std.specs.FinMap.{get}
use Rattle.cf_base.proofs.Tests.{eq_yes, eq_no, le_yes, le_no, and_false}
use Rattle.page_model.specs.Arrangement.{IsSlotAt, class_at}
use Rattle.page_model.specs.Held.{Held, Placed}
use Rattle.page_model.specs.Image.{IsDisjoint, IsOutside, slot_for}
use Rattle.page_model.specs.Paging.{Paging, slot_words}
use Rattle.page_model.proofs.CallerLemmas.{slot_inside, sound_apart_from}
use Rattle.slice_model.specs.State.{Plan, IsPlan, JobSlot, Job, Sliced, IsKept, job_slot, occupied, placeholder, Idle, Clear, Move}
use Rattle.slice_model.specs.Words.{word_at}
use Rattle.slice_model.proofs.Occupied.{beside, no_placeholder, slot_class, slot_there}
use Rattle.slice_model.proofs.KeptSteps.{other_than}

-- no two objects share a word, nor does one with the job's slot
pub record AreApart (p : Paging) (m : Held) (o : Option JobSlot) : Type 0 where
  pub objects : (h : ℕ) (x : Placed) (q : ℕ) (y : Placed) → get m h ≡ Some x → get m q ≡ Some y → q ≢ h
      → IsDisjoint x.place (slot_for p (length x.bytes)) y.place (slot_for p (length y.bytes))
  pub job : (k : JobSlot) (h : ℕ) (x : Placed) → o ≡ Some k → get m h ≡ Some x
      → IsDisjoint k.address (slot_words p k.class) x.place (slot_for p (length x.bytes))

pub kept_apart : (plan : Plan) → IsPlan plan → (s : Sliced) → IsKept plan s → AreApart plan.paging s.held (job_slot s.job)
kept_apart plan ok s kept = record {
  objects = λ h x q y a b ne. sound_apart_from plan.paging (occupied plan s) kept.sound h x (beside plan ok s kept h x a) q y (beside plan ok s kept q y b) ne;
  job = λ k h x e there. (
      let ne = other_than s.held plan.proxies h x (no_placeholder plan s.held kept.numbers) there in
      let d = sound_apart_from plan.paging (occupied plan s) kept.sound plan.proxies (placeholder plan.paging k) (slot_there plan ok s kept k e) h x
      (beside plan ok s kept h x there) ne in
      let class = slot_class plan ok s kept k e in
      subst (λ c. IsDisjoint k.address (slot_words plan.paging c) x.place (slot_for plan.paging (length x.bytes))) class d);
}

-- a word of an object lies at the object's address, or in the job's slot
pub where_word : (j : Job) (h : ℕ) (x : Placed) (i : ℕ) → (word_at j h x i ≡ x.place + i)
    ⊎ ((k : JobSlot) × (j ≡ Move h k) × (k.done ≤ i) × (word_at j h x i ≡ k.address + i))
where_word Idle h x i = inl refl
where_word (Clear k) h x i = inl refl
where_word (Move q k) h x i = elim (cases_eq q h) [
  | inr ne ↦ inl (let f = eq_no q h ne in rw f)
  | inl is ↦ elim (cases_lt i k.done) [
    | inl before ↦ inl (let f = le_no k.done i before in rw (f, and_false (nat_eq q h)))
    | inr left ↦ inr (k, ap (λ h. Move h k) is, left, (let e = eq_yes q h is in let f = le_yes k.done i left in rw (e, f)))
  ]
]

-- word i of an object lies in the job's slot if and only if the job moves this object and word i is not moved yet
pub word_of_other : (q h : ℕ) (k : JobSlot) (x : Placed) (i : ℕ) → q ≢ h → word_at (Move q k) h x i ≡ x.place + i
word_of_other q h k x i ne = (let f = eq_no q h ne in rw f)

pub word_done : (h : ℕ) (k : JobSlot) (x : Placed) (i : ℕ) → i < k.done → word_at (Move h k) h x i ≡ x.place + i
word_done h k x i lt = (let f = le_no k.done i lt in rw (f, and_false (nat_eq h h)))

pub word_left : (h : ℕ) (k : JobSlot) (x : Placed) (i : ℕ) → k.done ≤ i → word_at (Move h k) h x i ≡ k.address + i
word_left h k x i le = (let e = eq_yes h h refl in let f = le_yes k.done i le in rw (e, f))

-- a word of one slot is outside each range within another slot
pub outside_part : (a n b m from count i : ℕ) → IsDisjoint a n b m → from + count ≤ n → i < m → IsOutside (a + from) count (b + i)
outside_part a n b m from count i (inl l) le lt = inr (omega arith)
outside_part a n b m from count i (inr r) le lt = inl (omega arith)

pub outside_more : (a n from count w : ℕ) → from + count ≤ n → IsOutside a n w → IsOutside (a + from) count w
outside_more a n from count w le (inl l) = inl (omega arith)
outside_more a n from count w le (inr r) = inr (omega arith)

apart_words : (a n b m i k : ℕ) → IsDisjoint a n b m → i < n → k < m → a + i ≢ b + k
apart_words a n b m i k (inl l) x y e = omega arith
apart_words a n b m i k (inr r) x y e = omega arith

-- no two words of objects have one address
pub own_words_at : (p : Paging) (m : Held) (j : Job) → AreApart p m (job_slot j) → ((k : JobSlot) (h : ℕ) (x : Placed) → j ≡ Move h k → get m h ≡ Some x
    → class_at p x ≡ k.class)
    → (h : ℕ) (x : Placed) (q : ℕ) (y : Placed) → get m h ≡ Some x → get m q ≡ Some y → (i : ℕ) → i < slot_for p (length x.bytes)
    → (k : ℕ) → k < slot_for p (length y.bytes) → word_at j h x i ≡ word_at j q y k → (q ≡ h) × (i ≡ k)
own_words_at p m j apart class h x q y there there' i lt k lt' same = elim (where_word j h x i) [
  | inl at ↦ elim (where_word j q y k) [
    | inl at' ↦ elim (cases_eq q h) [
      | inl is ↦ (
        is,
        (let e : Some x ≡ Some y = sym there ∙ ap (get m) (sym is) ∙ there' in let e' : x ≡ y = cc in
            let f : x.place ≡ y.place = ap (λ (z : Placed). z.place) e' in omega arith),
      )
      | inr ne ↦ absurd (apart_words x.place (slot_for p (length x.bytes)) y.place (slot_for p (length y.bytes)) i k
          (apart.objects h x q y there there' ne) lt lt' (sym at ∙ same ∙ at'))
    ]
    | inr (g, is, _, at') ↦ absurd (
        let size : slot_for p (length y.bytes) ≡ slot_words p g.class = ap (slot_words p) (class g q y is there') in
        apart_words g.address (slot_words p g.class) x.place (slot_for p (length x.bytes)) k i
        (apart.job g h x (ap job_slot is) there) (omega arith) lt (sym at' ∙ sym same ∙ at))
  ]
  | inr (g, is, _, at) ↦ (
      let size : slot_for p (length x.bytes) ≡ slot_words p g.class = ap (slot_words p) (class g h x is there) in
      elim (where_word j q y k) [
        | inl at' ↦ absurd (apart_words g.address (slot_words p g.class) y.place (slot_for p (length y.bytes)) i k
            (apart.job g q y (ap job_slot is) there') (omega arith) lt' (sym at ∙ same ∙ at'))
        | inr (g', is', _, at') ↦ (
            let e : Move h g ≡ Move q g' = sym is ∙ is' in
            let a : h ≡ q = cc in
            let b : g ≡ g' = cc in
            let f : g.address ≡ g'.address = ap (λ (z : JobSlot). z.address) b in
            (sym a, omega arith))
      ])
]

-- a word of an object is no word of the job's slot that is done
pub not_done : (p : Paging) (m : Held) (j : Job) → AreApart p m (job_slot j) → (k : JobSlot) → job_slot j ≡ Some k → k.done ≤ slot_words p k.class
    → (h : ℕ) (x : Placed) → get m h ≡ Some x → (i : ℕ) → i < slot_for p (length x.bytes) → (d : ℕ) → d < k.done → word_at j h x i ≢ k.address + d
not_done p m j apart k is within h x there i lt d low same = elim (where_word j h x i) [
  | inl at ↦ apart_words k.address (slot_words p k.class) x.place (slot_for p (length x.bytes)) d i (apart.job k h x is there) (omega arith) lt
      (sym same ∙ at)
  | inr (g, move, le, at) ↦ (
      let e : Some g ≡ Some k = sym (ap job_slot move) ∙ is in
      let b : g ≡ k = cc in
      let f : g.address ≡ k.address = ap (λ (z : JobSlot). z.address) b in
      let f' : g.done ≡ k.done = ap (λ (z : JobSlot). z.done) b in
      omega arith)
]

-- a word of a range isn't outside of it
pub outside_not : (a n w i : ℕ) → IsOutside a n w → i < n → a + i ≢ w
outside_not a n w i (inl l) lt e = omega arith
outside_not a n w i (inr r) lt e = omega arith

-- if word w is outside the object's slot and outside the job's, no word of the object has the address w
pub not_outside : (p : Paging) (m : Held) (j : Job) → ((k : JobSlot) (h : ℕ) (x : Placed) → j ≡ Move h k → get m h ≡ Some x → class_at p x ≡ k.class)
    → (h : ℕ) (x : Placed) → get m h ≡ Some x → (i : ℕ) → i < slot_for p (length x.bytes) → (w : ℕ)
    → IsOutside x.place (slot_for p (length x.bytes)) w → ((k : JobSlot) → job_slot j ≡ Some k → IsOutside k.address (slot_words p k.class) w)
    → word_at j h x i ≢ w
not_outside p m j class h x there i lt w out beyond same = elim (where_word j h x i) [
  | inl at ↦ outside_not x.place (slot_for p (length x.bytes)) w i out lt (sym at ∙ same)
  | inr (g, move, le, at) ↦ (
      let size : slot_for p (length x.bytes) ≡ slot_words p g.class = ap (slot_words p) (class g h x move there) in
      outside_not g.address (slot_words p g.class) w i (beyond g (ap job_slot move)) (omega arith) (sym at ∙ same))
]

module _ (plan : Plan) (ok : IsPlan plan) (m : Held) (j : Job) (kept : IsKept plan (record { held = m; job = j })) where
  abbrev p : Paging
  p = plan.paging

  abbrev s : Sliced
  s = record { held = m; job = j }

  -- an object's slot is one of its class, within the region
  pub object_slot : (h : ℕ) (x : Placed) → get m h ≡ Some x → IsSlotAt plan.paging (class_at plan.paging x) x.place
  object_slot h x there = kept.sound.slots h x (beside plan ok s kept h x there)

  pub object_within : (h : ℕ) (x : Placed) → get m h ≡ Some x → x.place + slot_for plan.paging (length x.bytes) ≤ plan.paging.pages * plan.paging.page_words
  object_within h x there = slot_inside p (class_at p x) x.place (object_slot h x there)

  -- the job's slot is one of its class, within the region
  pub job_at : (k : JobSlot) → job_slot j ≡ Some k → IsSlotAt plan.paging k.class k.address
  job_at k e = subst (λ c. IsSlotAt p c k.address) (slot_class plan ok s kept k e)
      (kept.sound.slots plan.proxies (placeholder p k) (slot_there plan ok s kept k e))

  pub job_within : (k : JobSlot) → job_slot j ≡ Some k → k.address + slot_words plan.paging k.class ≤ plan.paging.pages * plan.paging.page_words
  job_within k e = slot_inside p k.class k.address (job_at k e)
