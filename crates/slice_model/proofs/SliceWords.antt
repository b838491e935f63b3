-- If the region's words are right for a state (`HasWords`), they are so after a job's next n words are done, when the job ends, and when one to clear or to
-- move begins.
use Rattle.std.proofs.Common.{◌≡◌, ℕ, ◌+◌, ◌-◌, ◌<◌, ◌≤◌, List, Some, None, length, get_or, arith, sym, ◌∙◌, ap, refl, subst, inl, inr}
use Rattle.std.proofs.lemmas.Bool.{cases_eq, cases_lt}
use Rattle.std.specs.FinMap.{get, insert, remove}
use Rattle.cf_base.proofs.Maps.{get_inserted, get_insert_other, get_remove_other, some_inserted, some_removed}
use Rattle.page_model.specs.Arrangement.{class_at}
use Rattle.page_model.specs.Held.{Held, Placed}
use Rattle.page_model.specs.Image.{IsDisjoint, IsOutside, IsOutsideOf, Clears, MovesWords, object_word, slot_for}
use Rattle.page_model.specs.Paging.{Paging, slot_words}
use Rattle.page_model.proofs.CallerLemmas.{within_or}
use Rattle.slice_model.specs.State.{JobSlot, Job, job_slot, Idle, Clear, Move}
use Rattle.slice_model.specs.Steps.{fresh_slot}
use Rattle.slice_model.specs.Words.{HasWords, word_at}
use Rattle.slice_model.proofs.WordAddresses.{AreApart, where_word, word_of_other, word_done, word_left, outside_part, outside_more}

-- the words after the job has cleared or moved its next n words
module _ (p : Paging) (m : Held) (words words' : List ℕ) (n : ℕ) where
  pub cleared : (k : JobSlot) → AreApart p m (Some k) → k.done + n ≤ slot_words p k.class → HasWords p (record { held = m; job = Clear k }) words
      → Clears words words' (record { from = k.address + k.done; count = n })
      → HasWords p (record { held = m; job = Clear (record k { done = k.done + n }) }) words'
  cleared k apart within has re = record {
    held = λ h x there i lt. re.others (x.place + i)
        (outside_part k.address (slot_words p k.class) x.place (slot_for p (length x.bytes)) k.done n i (apart.job k h x refl there) within lt)
        ∙ has.held h x there i lt;
    done = λ g is i lt. (
        let e : record k { done = k.done + n } ≡ g = (let e' : Some (record k { done = k.done + n }) ≡ Some g = is in cc) in
        let a : k.address ≡ g.address = ap (λ (z : JobSlot). z.address) e in
        let d : k.done + n ≡ g.done = ap (λ (z : JobSlot). z.done) e in
        rw (← a) (clear_at i (omega arith)));
    zeros = λ w out beyond. (
        let o : IsOutside k.address (slot_words p k.class) w = beyond (record k { done = k.done + n }) refl in
        re.others w (outside_more k.address (slot_words p k.class) k.done n w within o)
        ∙ has.zeros w out (λ g is. (let e : k ≡ g = (let e' : Some k ≡ Some g = is in cc) in rw e at o)));
  }
    where
      clear_at : (i : ℕ) → i < k.done + n → get_or words' (k.address + i) 0 ≡ 0
      clear_at i lt = elim (cases_lt i k.done) [
        | inl before ↦ re.others (k.address + i) (inl (omega arith)) ∙ has.done k refl i before
        | inr from ↦ (let e : k.address + k.done + (i - k.done) ≡ k.address + i =
            omega arith in subst (λ w. get_or words' w 0 ≡ 0) e (re.within (i - k.done) (omega arith)))
      ]

  pub carried : (q : ℕ) (x : Placed) (k : JobSlot) → get m q ≡ Some x → slot_for p (length x.bytes) ≡ slot_words p k.class → AreApart p m (Some k)
      → k.done + n ≤ slot_words p k.class → HasWords p (record { held = m; job = Move q k }) words
      → MovesWords words words' (record { from = k.address + k.done; count = n }) (x.place + k.done)
      → HasWords p (record { held = m; job = Move q (record k { done = k.done + n }) }) words'
  carried q x k there size apart within has mo = record {
    held = λ h y there' i lt. elim (cases_eq q h) [
      | inr ne ↦ (
          let e = word_of_other q h (record k { done = k.done + n }) y i ne in
          let e' = word_of_other q h k y i ne in
          rw e (mo.others (y.place + i)
          (outside_part k.address (slot_words p k.class) y.place (slot_for p (length y.bytes)) k.done n i (apart.job k h y refl there') within lt)
          (outside_part x.place (slot_for p (length x.bytes)) y.place (slot_for p (length y.bytes)) k.done n i
          (apart.objects q x h y there there' (λ is. ne (sym is))) (omega arith) lt)
          ∙ ap (λ w. get_or words w 0) (sym e') ∙ has.held h y there' i lt))
      | inl is ↦ (
          let f : Some x ≡ Some y = sym there ∙ ap (get m) is ∙ there' in
          let f' : x ≡ y = cc in
          let lt' : i < slot_for p (length x.bytes) = rw (← f') at lt in
          rw (← is, ← f') (mover i lt'))
    ];
    done = λ g is i lt. (
        let e : record k { done = k.done + n } ≡ g = (let e' : Some (record k { done = k.done + n }) ≡ Some g = is in cc) in
        let a : k.address ≡ g.address = ap (λ (z : JobSlot). z.address) e in
        let d : k.done + n ≡ g.done = ap (λ (z : JobSlot). z.done) e in
        rw (← a) (left_at i (omega arith)));
    zeros = λ w out beyond. (
        let o : IsOutside k.address (slot_words p k.class) w = beyond (record k { done = k.done + n }) refl in
        mo.others w (outside_more k.address (slot_words p k.class) k.done n w within o)
        (outside_more x.place (slot_for p (length x.bytes)) k.done n w (omega arith) (out q x there))
        ∙ has.zeros w out (λ g is. (let e : k ≡ g = (let e' : Some k ≡ Some g = is in cc) in rw e at o)));
  }
    where
      apart_x : IsDisjoint k.address (slot_words p k.class) x.place (slot_for p (length x.bytes))
      apart_x = apart.job k q x refl there

      turned_x : IsDisjoint x.place (slot_for p (length x.bytes)) k.address (slot_words p k.class)
      turned_x = elim apart_x [ inl a ↦ inr a | inr b ↦ inl b ]

      was : (i : ℕ) → i < slot_for p (length x.bytes) → get_or words (word_at (Move q k) q x i) 0 ≡ object_word q x.bytes i
      was i lt = has.held q x there i lt

      mover : (i : ℕ) → i < slot_for p (length x.bytes) → get_or words' (word_at (Move q (record k { done = k.done + n })) q x i) 0 ≡ object_word q x.bytes i
      mover i lt = elim (cases_lt i (k.done + n)) [
        | inr left ↦ (
            let e = word_left q (record k { done = k.done + n }) x i left in
            let e' = word_left q k x i (omega arith) in
            rw e (mo.others (k.address + i) (inr (omega arith))
            (outside_part x.place (slot_for p (length x.bytes)) k.address (slot_words p k.class) k.done n i turned_x (omega arith) (omega arith))
            ∙ ap (λ w. get_or words w 0) (sym e') ∙ was i lt))
        | inl now ↦ (
            let e = word_done q (record k { done = k.done + n }) x i now in
            rw e (elim (cases_lt i k.done) [
              | inl before ↦ (
                  let e' = word_done q k x i before in
                  mo.others (x.place + i)
                  (outside_part k.address (slot_words p k.class) x.place (slot_for p (length x.bytes)) k.done n i apart_x within lt) (inl (omega arith))
                  ∙ ap (λ w. get_or words w 0) (sym e') ∙ was i lt)
              | inr from ↦ (
                  let e' = word_left q k x i from in
                  let a : x.place + k.done + (i - k.done) ≡ x.place + i = omega arith in
                  let b : k.address + k.done + (i - k.done) ≡ k.address + i = omega arith in
                  ap (λ w. get_or words' w 0) (sym a) ∙ mo.arrived (i - k.done) (omega arith) ∙ ap (λ w. get_or words w 0) (b ∙ sym e') ∙ was i lt)
            ]))
      ]

      left_at : (i : ℕ) → i < k.done + n → get_or words' (k.address + i) 0 ≡ 0
      left_at i lt = elim (cases_lt i k.done) [
        | inl before ↦ mo.others (k.address + i) (inl (omega arith))
            (outside_part x.place (slot_for p (length x.bytes)) k.address (slot_words p k.class) k.done n i turned_x (omega arith) (omega arith))
            ∙ has.done k refl i before
        | inr from ↦ (let e : k.address + k.done + (i - k.done) ≡ k.address + i =
            omega arith in subst (λ w. get_or words' w 0 ≡ 0) e (mo.left_zeros (i - k.done) (omega arith)))
      ]

-- if all words of the job are done, the words are right for the objects without a job
pub words_ended : (p : Paging) (m : Held) (j : Job) (k : JobSlot) (words : List ℕ) → job_slot j ≡ Some k → k.done ≡ slot_words p k.class
    → ((g : JobSlot) (h : ℕ) (x : Placed) → j ≡ Move h g → get m h ≡ Some x → class_at p x ≡ g.class)
    → HasWords p (record { held = m; job = j }) words → HasWords p (record { held = m; job = Idle }) words
words_ended p m j k words is all class has = record {
  held = λ h x there i lt. elim (where_word j h x i) [
    | inl at ↦ ap (λ w. get_or words w 0) (sym at) ∙ has.held h x there i lt
    | inr (g, move, left, _) ↦ absurd (
        let size : slot_for p (length x.bytes) ≡ slot_words p g.class = ap (slot_words p) (class g h x move there) in
        let e : Some g ≡ Some k = sym (ap job_slot move) ∙ is in
        let b : g ≡ k = cc in
        let c : slot_words p g.class ≡ slot_words p k.class = ap (λ (z : JobSlot). slot_words p z.class) b in
        let d : g.done ≡ k.done = ap (λ (z : JobSlot). z.done) b in
        omega arith)
  ];
  done = λ g e i lt. absurd (let e' : None ≡ Some g = e in cc);
  zeros = λ w out beyond. elim (within_or k.address (slot_words p k.class) w) [
    | inl (i, lt, at) ↦ subst (λ w. get_or words w 0 ≡ 0) at (has.done k is i (omega arith))
    | inr o ↦ has.zeros w out (λ g e. (let e' : Some k ≡ Some g = sym is ∙ e in let f : k ≡ g = cc in rw f at o))
  ];
}

-- if an object is removed and clearing its slot becomes the job, the words are right for the new state
pub words_to_clear : (p : Paging) (m : Held) (words : List ℕ) → HasWords p (record { held = m; job = Idle }) words → (h : ℕ) (x : Placed) → get m h ≡ Some x
    → HasWords p (record { held = remove m h; job = Clear (fresh_slot x.place (class_at p x)) }) words
words_to_clear p m words has h x there = record {
  held = λ q y there' i lt. has.held q y (some_removed m h q y there').1 i lt;
  done = λ g e i lt. absurd (
      let e' : Some (fresh_slot x.place (class_at p x)) ≡ Some g = e in
      let f : fresh_slot x.place (class_at p x) ≡ g = cc in
      let d : 0 ≡ g.done = ap (λ (z : JobSlot). z.done) f in
      omega arith);
  zeros = λ w out beyond. has.zeros w (λ q y there'. elim (cases_eq q h) [
    | inl is ↦ (
        let e : Some x ≡ Some y = sym there ∙ ap (get m) (sym is) ∙ there' in
        let f : x ≡ y = cc in
        let o : IsOutside x.place (slot_for p (length x.bytes)) w = beyond (fresh_slot x.place (class_at p x)) refl in
        rw f at o)
    | inr ne ↦ out q y (get_remove_other m h q ne ∙ there')
  ]) (λ g e. absurd (let e' : None ≡ Some g = e in cc));
}

-- if moving an object to a vacant slot of its class becomes the job, the words are right for the new state
pub words_to_carry : (p : Paging) (m : Held) (words : List ℕ) (q : ℕ) (y : Placed) (a c : ℕ) → get m q ≡ Some y → class_at p y ≡ c
    → ((h : ℕ) (x : Placed) → get m h ≡ Some x → (i : ℕ) → i < slot_for p (length x.bytes) → get_or words (x.place + i) 0 ≡ object_word h x.bytes i)
    → ((w : ℕ) → ((h : ℕ) (x : Placed) → get m h ≡ Some x → IsOutsideOf (slot_for p) x w) → IsOutside a (slot_words p c) w → get_or words w 0 ≡ 0)
    → HasWords p (record { held = insert m q (record { place = a; bytes = y.bytes }); job = Move q (fresh_slot y.place c) }) words
words_to_carry p m words q y a c there class held zeros = record {
  held = λ r z there' i lt. elim (some_inserted m q (record { place = a; bytes = y.bytes }) r z there') [
    | inl (is, same) ↦ (
        let lt' : i < slot_for p (length y.bytes) = rw (← same) at lt in
        let e = word_left q (fresh_slot y.place c) (record { place = a; bytes = y.bytes }) i (omega arith) in
        rw (is, ← same, e) (held q y there i lt'))
    | inr (ne, was) ↦ (
        let e = word_of_other q r (fresh_slot y.place c) z i (λ is. ne (sym is)) in
        rw e (held r z was i lt))
  ];
  done = λ g e i lt. absurd (
      let e' : Some (fresh_slot y.place c) ≡ Some g = e in
      let f : fresh_slot y.place c ≡ g = cc in
      let d : 0 ≡ g.done = ap (λ (z : JobSlot). z.done) f in
      omega arith);
  zeros = λ w out beyond.
      let at_a : IsOutside a (slot_for p (length y.bytes)) w = out q (record { place = a; bytes = y.bytes })
      (get_inserted m q (record { place = a; bytes = y.bytes })) in
      let at_y : IsOutside y.place (slot_words p c) w = beyond (fresh_slot y.place c) refl in
      zeros w (λ r z there'. elim (cases_eq r q) [
        | inl is ↦ (
            let e : Some y ≡ Some z = sym there ∙ ap (get m) (sym is) ∙ there' in
            let f : y ≡ z = cc in
            let o : IsOutside y.place (slot_for p (length y.bytes)) w = rw class at_y in
            rw f at o)
        | inr ne ↦ out r z (get_insert_other m q (record { place = a; bytes = y.bytes }) r ne ∙ there')
      ]) (rw class at at_a);
}
