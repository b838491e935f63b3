-- For the laws of `words.rt` and for `OneMap`: if the region's words are right for a state (`HasWords`), they are so after a malloc, a slice and a write, and
-- when a free's job begins; a read finds each byte. An object in motion is of the class of the job's slot.
use Rattle.std.proofs.Common.{◌≡◌, ◌≢◌, ℕ, zero, suc, ◌+◌, ◌-◌, ◌*◌, ◌/◌, ◌%◌, ◌<◌, ◌≤◌, List, Option, Some, None, length, get_or, replicate, take, drop, arith}
use Rattle.std.proofs.Common.{sym, ◌∙◌, ap, refl, subst, inl, inr, length-drop}
use Rattle.std.specs.Prelude.{◌⊎◌, min}
use Rattle.std.proofs.lemmas.Bool.{cases_eq, cases_lt}
use Rattle.std.proofs.lemmas.List.{length-take, length-replicate, get_or-take, get_or-drop}
use Rattle.std.proofs.lemmas.Grind.{same_number_lists}
use Rattle.std.specs.FinMap.{get, insert, remove}
use Rattle.cf_base.specs.Classes.{need}
use Rattle.cf_base.proofs.Maps.{get_inserted, get_insert_other, get_remove_other, some_inserted, some_removed}
use Rattle.cf_base.proofs.Values.{still}
use Rattle.page_model.specs.Arrangement.{class_at}
use Rattle.page_model.specs.Bytes.{AreBytes, byte_of, written}
use Rattle.page_model.specs.Held.{Held, Placed}
use Rattle.page_model.specs.Image.{IsDisjoint, IsOutside, Rewrites, header_word, object_word, slot_for, word_of_bytes}
use Rattle.page_model.specs.Paging.{Paging, class_for, slot_words}
use Rattle.page_model.specs.Steps.{Moves, Request, zeros_at}
use Rattle.page_model.proofs.CallerLemmas.{fresh_word, within_or, disjoint_outside, byte_of_object, class_holds, mover_is_other}
use Rattle.page_model.proofs.CallerLemmas.{length-written, written_before, written_behind}
use Rattle.slice_model.specs.State.{Plan, IsPlan, JobSlot, Job, Sliced, IsKept, IsJobOf, advanced, job_slot, Idle, Clear, Move}
use Rattle.slice_model.specs.Steps.{EndsJob, AddsSlicedObject, GoesOn, IsDone, SliceOf, LeavesJob, done_after}
use Rattle.slice_model.specs.Words.{HasWords, DoesWords, RewritesObject, byte_read, word_at}
use Rattle.slice_model.specs.Runs.{words_of_slice}
use Rattle.slice_model.proofs.KeptSteps.{kept_malloc}
use Rattle.slice_model.proofs.Occupied.{beside, job_class}
use Rattle.slice_model.proofs.SliceWords.{carried, cleared, words_ended, words_to_carry, words_to_clear}
use Rattle.slice_model.proofs.WordAddresses.{AreApart, kept_apart, not_done, not_outside, own_words_at, where_word, word_done, word_left, word_of_other}

-- the object that a job moves is of the class of the job's slot
pub mover_class : (p : Paging) (m : Held) (j : Job) → IsJobOf p m j → (k : JobSlot) (h : ℕ) (x : Placed) → j ≡ Move h k → get m h ≡ Some x
    → class_at p x ≡ k.class
mover_class p m Idle is k h x e there = absurd (let e' : Idle ≡ Move h k = e in cc)
mover_class p m (Clear g) is k h x e there = absurd (let e' : Clear g ≡ Move h k = e in cc)
mover_class p m (Move q g) is k h x e there =
    let e' : Move q g ≡ Move h k = e in
    let a : q ≡ h = cc in
    let b : g ≡ k = cc in
    let o = is.1 in
    let f : Some o.0 ≡ Some x = sym o.1 ∙ ap (get m) a ∙ there in
    let f' : o.0 ≡ x = cc in
    sym (ap (class_at p) f') ∙ o.2 ∙ ap (λ (z : JobSlot). z.class) b

advanced_mover : (j : Job) (d : ℕ) (g : JobSlot) (h : ℕ) → advanced j d ≡ Move h g → (k : JobSlot) × (j ≡ Move h k) × (k.class ≡ g.class)
advanced_mover Idle d g h e = absurd (let e' : Idle ≡ Move h g = e in cc)
advanced_mover (Clear k) d g h e = absurd (let e' : Clear (record k { done = d }) ≡ Move h g = e in cc)
advanced_mover (Move q k) d g h e =
    let e' : Move q (record k { done = d }) ≡ Move h g = e in
    let a : q ≡ h = cc in
    let b : record k { done = d } ≡ g = cc in
    (k, ap (λ h. Move h k) a, ap (λ (z : JobSlot). z.class) b)

advanced_slot : (j : Job) (k : JobSlot) (d : ℕ) → job_slot j ≡ Some k → job_slot (advanced j d) ≡ Some (record k { done = d })
advanced_slot Idle k d e = absurd (let e' : None ≡ Some k = e in cc)
advanced_slot (Clear g) k d e = (let f : g ≡ k = (let e' : Some g ≡ Some k = e in cc) in ap (λ (z : JobSlot). Some (record z { done = d })) f)
advanced_slot (Move q g) k d e = (let f : g ≡ k = (let e' : Some g ≡ Some k = e in cc) in ap (λ (z : JobSlot). Some (record z { done = d })) f)

module _ (plan : Plan) (ok : IsPlan plan) (words words' : List ℕ) where
  -- after the next words of a job are done, the words are right for the job with these words done
  advances : (m : Held) (j : Job) (k : JobSlot) → job_slot j ≡ Some k → IsJobOf plan.paging m j → AreApart plan.paging m (job_slot j)
      → DoesWords m j (min plan.quantum (slot_words plan.paging k.class - k.done)) words words'
      → HasWords plan.paging (record { held = m; job = j }) words → HasWords plan.paging (record { held = m; job = advanced j (done_after plan k) }) words'
  advances m Idle k e is apart does has = absurd (let e' : None ≡ Some k = e in cc)
  advances m (Clear g) k e is apart does has =
      let f : k ≡ g = (let e' : Some g ≡ Some k = e in cc) in
      let under = is.under_way in
      let does' : DoesWords m (Clear g) (min plan.quantum (slot_words plan.paging g.class - g.done)) words words' = rw f at does in
      rw f (cleared plan.paging m words words' (min plan.quantum (slot_words plan.paging g.class - g.done)) g apart (omega arith) has does')
  advances m (Move q g) k e is apart does has =
      let f : k ≡ g = (let e' : Some g ≡ Some k = e in cc) in
      let under = is.0.under_way in
      let does' : DoesWords m (Move q g) (min plan.quantum (slot_words plan.paging g.class - g.done)) words words' = rw f at does in
      let class = mover_class plan.paging m (Move q g) is g q does'.0 refl does'.1 in
      rw f (carried plan.paging m words words' (min plan.quantum (slot_words plan.paging g.class - g.done)) q does'.0 g does'.1
      (ap (slot_words plan.paging) class) apart (omega arith) has does'.2)

  pending : (m : Held) (j : Job) (k : JobSlot) → job_slot j ≡ Some k → IsKept plan (record { held = m; job = j })
      → HasWords plan.paging (record { held = m; job = j }) words → (new : Sliced)
      → (GoesOn plan (record { held = m; job = j }) k new ⊎ IsDone plan (record { held = m; job = j }) k new)
      → DoesWords m j (min plan.quantum (slot_words plan.paging k.class - k.done)) words words' → HasWords plan.paging new words'
  pending m j k e kept has new slice does =
      let apart = kept_apart plan ok (record { held = m; job = j }) kept in
      let now = advances m j k e kept.job apart does has in
      elim slice [
        | inl on ↦ (let w = on.whole in rw w now)
        | inr done ↦ (
            let over = words_ended plan.paging m (advanced j (done_after plan k)) (record k { done = done_after plan k }) words'
            (advanced_slot j k (done_after plan k) e) done.all
            (λ g h x move there. (let o = advanced_mover j (done_after plan k) g h move in
            mover_class plan.paging m j kept.job o.0 h x o.1 there ∙ o.2)) now in
            ends m k new done.ends over)
      ]
    where
      ends : (m : Held) (k : JobSlot) (new : Sliced) → EndsJob plan.paging m k new → HasWords plan.paging (record { held = m; job = Idle }) words'
          → HasWords plan.paging new words'
      ends m k new (inl (_, whole)) over = rw whole over
      ends m k new (inr chains) over =
          let carries = chains.carries in
          let found : Some chains.beside.object ≡ Some carries.object = sym chains.beside.found ∙ carries.found in
          let same : chains.beside.object ≡ carries.object = cc in
          let class : class_at plan.paging carries.object ≡ k.class = rw same at chains.beside.class in
          let w = carries.whole in
          rw w (words_to_carry plan.paging m words' chains.object carries.object k.address k.class carries.found class over.held
          (λ w out _. over.zeros w out (λ g e. absurd (let e' : None ≡ Some g = e in cc))))

  -- the words after a slice are right for its state
  pub words_sliced : (m : Held) (j : Job) → IsKept plan (record { held = m; job = j }) → HasWords plan.paging (record { held = m; job = j }) words
      → (new : Sliced) → SliceOf plan (record { held = m; job = j }) (job_slot j) new → DoesWords m j (words_of_slice plan (job_slot j)) words words'
      → HasWords plan.paging new words'
  words_sliced m Idle kept has new same does = rw (same, does) has
  words_sliced m (Clear k) kept has new slice does = pending m (Clear k) k refl kept has new slice does
  words_sliced m (Move q k) kept has new slice does = pending m (Move q k) k refl kept has new slice does

-- when the job of a free begins, no word has changed, and the words are right for the state with that job
pub words_begun : (plan : Plan) → IsPlan plan → (words : List ℕ) (m : Held) → IsKept plan (record { held = m; job = Idle })
    → HasWords plan.paging (record { held = m; job = Idle }) words → (h : ℕ) (x : Placed) → get m h ≡ Some x → (moved : Option ℕ)
    → Moves plan.paging m x moved → (new : Sliced) → LeavesJob (remove m h) x.place (class_at plan.paging x) moved new → HasWords plan.paging new words
words_begun plan ok words m kept has h x there None never new is = rw is (words_to_clear plan.paging m words has h x there)
words_begun plan ok words m kept has h x there (Some q) (must, (y, there', may)) new is =
    let ne = mover_is_other plan.paging ok.paging m kept.sound h x there q y there' must may in
    let found : Some is.object ≡ Some y = sym is.found ∙ get_remove_other m h q ne ∙ there' in
    let same : y ≡ is.object = cc in
    let class : class_at plan.paging is.object ≡ class_at plan.paging x = rw same at may.class in
    let w = is.whole in
    rw w (words_to_carry plan.paging (remove m h) words q is.object x.place (class_at plan.paging x) is.found class
    (λ r z was. has.held r z (some_removed m h r z was).1)
    (λ w out at. has.zeros w (λ r z was. elim (cases_eq r h) [
      | inl is' ↦ (
          let e : Some x ≡ Some z = sym there ∙ ap (get m) (sym is') ∙ was in
          let f : x ≡ z = cc in
          rw f at at)
      | inr nh ↦ out r z (get_remove_other m h r nh ∙ was)
    ]) (λ g e. absurd (let e' : None ≡ Some g = e in cc))))

outside_one : (a w : ℕ) → w ≢ a → IsOutside a 1 w
outside_one a w ne = elim (cases_lt w a) [
  | inl below ↦ inl below
  | inr above ↦ inr (omega arith)
]

first_not : (a n w : ℕ) → 0 < n → IsOutside a n w → a ≢ w
first_not a n w pos (inl l) e = omega arith
first_not a n w pos (inr r) e = omega arith

apart_zero : (a n b m i : ℕ) → IsDisjoint a n b m → i < n → 0 < m → a + i ≢ b
apart_zero a n b m i (inl l) u v e = omega arith
apart_zero a n b m i (inr r) u v e = omega arith

-- a job moves only live objects
no_mover : (p : Paging) (m : Held) (h : ℕ) → get m h ≡ None → (j : Job) → IsJobOf p m j → (k : JobSlot) → j ≡ Move h k → ⊥
no_mover p m h none Idle is k e = (let e' : Idle ≡ Move h k = e in cc)
no_mover p m h none (Clear f) is k e = (let e' : Clear f ≡ Move h k = e in cc)
no_mover p m h none (Move q f) is k e = (
    let e' : Move q f ≡ Move h k = e in
    let a : q ≡ h = cc in
    let o = is.1 in
    let z : Some o.0 ≡ None = sym o.1 ∙ ap (get m) a ∙ none in
    cc)

-- an object of zeros is added at a: its header is written
module _ (p : Paging) (m : Held) (j : Job) (is_job : IsJobOf p m j) (words words' : List ℕ) (has : HasWords p (record { held = m; job = j }) words)
    (h n a : ℕ) (unused : get m h ≡ None) (size : 0 < slot_for p n) (apart : AreApart p (insert m h (zeros_at a n)) (job_slot j))
    (re : Rewrites words words' (record { from = a; count = 1 }) (λ _. header_word h n)) where
  abbrev x : Placed
  x = zeros_at a n

  abbrev extent : ℕ
  extent = slot_for p (length (replicate {A = ℕ} n 0))

  x_there : get (insert m h x) h ≡ Some x
  x_there = get_inserted m h x

  some : 0 < extent
  some = (let len : length (replicate {A = ℕ} n 0) ≡ n = length-replicate {A = ℕ} n 0 in rw len size)

  stays : (q : ℕ) (y : Placed) → get m q ≡ Some y → (q ≢ h) × (get (insert m h x) q ≡ Some y)
  stays q y there = still m h x unused q y there

  not_at : (q : ℕ) (y : Placed) → get m q ≡ Some y → (i : ℕ) → i < slot_for p (length y.bytes) → word_at j q y i ≢ a
  not_at q y there i lt e = elim (where_word j q y i) [
    | inl at ↦ apart_zero y.place (slot_for p (length y.bytes)) a extent i
        (apart.objects q y h x (stays q y there).1 x_there (λ is. (stays q y there).0 (sym is))) lt some (sym at ∙ e)
    | inr (k, move, left, at) ↦ (
        let size : slot_for p (length y.bytes) ≡ slot_words p k.class = ap (slot_words p) (mover_class p m j is_job k q y move there) in
        apart_zero k.address (slot_words p k.class) a extent i (apart.job k h x (ap job_slot move) x_there) (omega arith) some (sym at ∙ e))
  ]

  here : (i : ℕ) → word_at j h x i ≡ a + i
  here i = elim (where_word j h x i) [
    | inl at ↦ at
    | inr (k, move, _, _) ↦ absurd (no_mover p m h unused j is_job k move)
  ]

  zero_there : (i : ℕ) → i < extent → get_or words (a + i) 0 ≡ 0
  zero_there i lt = has.zeros (a + i)
      (λ q y there. disjoint_outside y.place (slot_for p (length y.bytes)) a extent i
      (apart.objects q y h x (stays q y there).1 x_there (λ is. (stays q y there).0 (sym is))) lt)
      (λ k e. disjoint_outside k.address (slot_words p k.class) a extent i (apart.job k h x e x_there) lt)

  mine : (i : ℕ) → i < extent → get_or words' (word_at j h x i) 0 ≡ object_word h (replicate n 0) i
  mine zero lt =
      let len : length (replicate {A = ℕ} n 0) ≡ n = length-replicate {A = ℕ} n 0 in
      rw (here 0) (re.within 0 (omega arith) ∙ sym (ap (header_word h) len))
  mine (suc i) lt = rw (here (suc i)) (re.others (a + suc i) (inr (omega arith)) ∙ zero_there (suc i) lt ∙ sym (fresh_word h n i))

  pub zeros_given : HasWords p (record { held = insert m h x; job = j }) words'
  zeros_given = record {
    held = λ q y there i lt. elim (some_inserted m h x q y there) [
      | inl (is, same) ↦ rw (is, ← same) (mine i (rw (← same) at lt))
      | inr (ne, was) ↦ re.others (word_at j q y i) (outside_one a (word_at j q y i) (not_at q y was i lt)) ∙ has.held q y was i lt
    ];
    done = λ k e i lt. (
        let under = (job_class p m j is_job k e).under_way in
        re.others (k.address + i) (outside_one a (k.address + i)
        (λ same. apart_zero k.address (slot_words p k.class) a extent i (apart.job k h x e x_there) (omega arith) some same)) ∙ has.done k e i lt);
    zeros = λ w out beyond. (
        let o : IsOutside a extent w = out h x x_there in
        re.others w (outside_one a w (λ e. first_not a extent w some o (sym e))) ∙ has.zeros w (λ q y was. out q y (stays q y was).1) beyond);
  }

-- the words after a malloc are right for its state
pub words_given : (plan : Plan) → IsPlan plan → (old : Sliced) → IsKept plan old → (words words' : List ℕ) → HasWords plan.paging old words
    → (asked : Request) (new : Sliced) → (g : AddsSlicedObject plan old asked new)
    → Rewrites words words' (record { from = g.place; count = 1 }) (λ _. header_word asked.number asked.length) → HasWords plan.paging new words'
words_given plan ok old kept words words' has asked new g re =
    let kept' : IsKept plan (record old { held = insert old.held asked.number (zeros_at g.place asked.length) }) =
    subst (IsKept plan) g.placed (kept_malloc plan ok old kept asked new g) in
    let apart = kept_apart plan ok (record old { held = insert old.held asked.number (zeros_at g.place asked.length) }) kept' in
    let least = ok.paging.sized.least (class_for plan.paging asked.length) g.free.slot.class in
    let w = g.placed in
    rw w (zeros_given plan.paging old.held old.job kept.job words words' has asked.number asked.length g.place g.unused (omega arith) apart re)

-- a write changes only the words that hold one of its bytes
words_kept : (v : List ℕ) (at : ℕ) (bytes : List ℕ) → at + length bytes ≤ length v → (h i : ℕ) → IsOutside (at / 8) ((at % 8 + length bytes + 7) / 8) i
    → object_word h (written v at bytes) (suc i) ≡ object_word h v (suc i)
words_kept v at bytes fits h i out =
    let len = length-written v at bytes fits in
    let lu = length-take 8 (drop (8 * i) (written v at bytes)) in let lv = length-take 8 (drop (8 * i) v) in
    let du = length-drop (8 * i) (written v at bytes) in let dv = length-drop (8 * i) v in
    ap word_of_bytes (same_number_lists (take 8 (drop (8 * i) (written v at bytes))) (take 8 (drop (8 * i) v)) (omega arith) (λ k lt.
    get_or-take 8 (drop (8 * i) (written v at bytes)) k 0 (omega arith) ∙ get_or-drop (8 * i) (written v at bytes) k 0
    ∙ same (8 * i + k) (omega arith) (omega arith)
    ∙ sym (get_or-drop (8 * i) v k 0) ∙ sym (get_or-take 8 (drop (8 * i) v) k 0 (omega arith))))
  where
    same : (k : ℕ) → 8 * i ≤ k → k < 8 * i + 8 → get_or (written v at bytes) k 0 ≡ get_or v k 0
    same k low high = elim (cases_lt k at) [
      | inl lt ↦ written_before v at bytes fits k lt
      | inr ge ↦ written_behind v at bytes fits k (elim out [ inl l ↦ omega arith | inr r ↦ omega arith ])
    ]

same_but : (v : List ℕ) (at : ℕ) (bytes : List ℕ) → at + length bytes ≤ length v → (h i : ℕ) → IsOutside (1 + at / 8) ((at % 8 + length bytes + 7) / 8) i
    → object_word h (written v at bytes) i ≡ object_word h v i
same_but v at bytes fits h zero out = ap (header_word h) (length-written v at bytes fits)
same_but v at bytes fits h (suc i) (inl l) = words_kept v at bytes fits h i (inl (omega arith))
same_but v at bytes fits h (suc i) (inr r) = words_kept v at bytes fits h i (inr (omega arith))

-- the addresses of an object's words depend on its address alone
same_place : (j : Job) (h : ℕ) (x y : Placed) (i : ℕ) → x.place ≡ y.place → word_at j h x i ≡ word_at j h y i
same_place Idle h x y i e = ap (λ a. a + i) e
same_place (Clear k) h x y i e = ap (λ a. a + i) e
same_place (Move q k) h x y i e = (elim (cases_eq q h) [
  | inr ne ↦ word_of_other q h k x i ne ∙ ap (λ a. a + i) e ∙ sym (word_of_other q h k y i ne)
  | inl is ↦ rw is (elim (cases_lt i k.done) [
    | inl before ↦ word_done h k x i before ∙ ap (λ a. a + i) e ∙ sym (word_done h k y i before)
    | inr left ↦ word_left h k x i left ∙ sym (word_left h k y i left)
  ])
])

-- the words after a write are right for its state
module _ (plan : Plan) (ok : IsPlan plan) (old : Sliced) (kept : IsKept plan old) (words words' : List ℕ) (has : HasWords plan.paging old words)
    (h : ℕ) (x : Placed) (there : get old.held h ≡ Some x) (at : ℕ) (bytes : List ℕ) (fits : at + length bytes ≤ length x.bytes)
    (re : RewritesObject old.job h x (written x.bytes at bytes) (record { from = 1 + at / 8; count = (at % 8 + length bytes + 7) / 8 }) words words') where
  abbrev p : Paging
  p = plan.paging

  abbrev z : Placed
  z = record { place = x.place; bytes = written x.bytes at bytes }

  len : length (written x.bytes at bytes) ≡ length x.bytes
  len = length-written x.bytes at bytes fits

  apart : AreApart p old.held (job_slot old.job)
  apart = kept_apart plan ok old kept

  class : (k : JobSlot) (h : ℕ) (x : Placed) → old.job ≡ Move h k → get old.held h ≡ Some x → class_at p x ≡ k.class
  class = mover_class p old.held old.job kept.job

  own : (h : ℕ) (x : Placed) (q : ℕ) (y : Placed) → get old.held h ≡ Some x → get old.held q ≡ Some y → (i : ℕ) → i < slot_for p (length x.bytes)
      → (k : ℕ) → k < slot_for p (length y.bytes) → word_at old.job h x i ≡ word_at old.job q y k → (q ≡ h) × (i ≡ k)
  own = own_words_at p old.held old.job apart class

  holds : need (length x.bytes) ≤ slot_for p (length x.bytes)
  holds = class_holds p ok.paging (length x.bytes) (kept.sound.slots h x (beside plan ok old kept h x there)).class

  inside : (k : ℕ) → k < (at % 8 + length bytes + 7) / 8 → 1 + at / 8 + k < slot_for p (length x.bytes)
  inside k low = (let l = holds in omega arith)

  out_not : (i k : ℕ) → IsOutside (1 + at / 8) ((at % 8 + length bytes + 7) / 8) i → i ≡ 1 + at / 8 + k → k < (at % 8 + length bytes + 7) / 8 → ⊥
  out_not i k (inl l) e low = omega arith
  out_not i k (inr r) e low = omega arith

  written_word : (i : ℕ) → i < slot_for p (length x.bytes) → get_or words' (word_at old.job h z i) 0 ≡ object_word h (written x.bytes at bytes) i
  written_word i lt =
      let e = same_place old.job h z x i refl in
      rw e (elim (within_or (1 + at / 8) ((at % 8 + length bytes + 7) / 8) i) [
        | inl (k, low, is) ↦ subst (λ i. get_or words' (word_at old.job h x i) 0 ≡ object_word h (written x.bytes at bytes) i) is (re.within k low)
        | inr out ↦ re.others (word_at old.job h x i)
            (λ k low same. out_not i k out (sym (own h x h x there there (1 + at / 8 + k) (inside k low) i lt same).1) low)
            ∙ has.held h x there i lt ∙ sym (same_but x.bytes at bytes fits h i out)
      ])

  pub words_written : HasWords plan.paging (record old { held = insert old.held h (record { place = x.place; bytes = written x.bytes at bytes }) }) words'
  words_written = record {
    held = λ q y there' i lt. elim (some_inserted old.held h z q y there') [
      | inl (is, same) ↦ rw (is, ← same) (written_word i (rw len at (rw (← same) at lt)))
      | inr (ne, was) ↦ re.others (word_at old.job q y i) (λ k low e. ne (own h x q y there was (1 + at / 8 + k) (inside k low) i lt e).0)
          ∙ has.held q y was i lt
    ];
    done = λ k e i lt. (
        let under = (job_class p old.held old.job kept.job k e).under_way in
        re.others (k.address + i)
        (λ d low same. not_done p old.held old.job apart k e (omega arith) h x there (1 + at / 8 + d) (inside d low) i lt same)
        ∙ has.done k e i lt);
    zeros = λ w out beyond.
        let out_z : IsOutside x.place (slot_for p (length (written x.bytes at bytes))) w = out h z (get_inserted old.held h z) in
        let out_x : IsOutside x.place (slot_for p (length x.bytes)) w = rw len at out_z in
        re.others w (λ d low same. not_outside p old.held old.job class h x there (1 + at / 8 + d) (inside d low) w out_x beyond same)
        ∙ has.zeros w (λ q y was. elim (cases_eq q h) [
          | inl is ↦ (
              let e : Some x ≡ Some y = sym there ∙ ap (get old.held) (sym is) ∙ was in
              let f : x ≡ y = cc in
              rw f at out_x)
          | inr ne ↦ out q y (get_insert_other old.held h z q ne ∙ was)
        ]) beyond;
  }

-- byte k of an object is in the word from which `byte_read` reads it
pub byte_there : (plan : Plan) → IsPlan plan → (s : Sliced) → IsKept plan s → (words : List ℕ) → HasWords plan.paging s words
    → (h : ℕ) (x : Placed) → get s.held h ≡ Some x → AreBytes x.bytes → (k : ℕ) → k < length x.bytes → byte_read s.job words h x k ≡ get_or x.bytes k 0
byte_there plan ok s kept words has h x there bytes k lt =
    let holds = class_holds plan.paging ok.paging (length x.bytes) (kept.sound.slots h x (beside plan ok s kept h x there)).class in
    let e : 1 + k / 8 ≡ suc (k / 8) = omega arith in
    ap (byte_of (k % 8)) (has.held h x there (1 + k / 8) (omega arith) ∙ ap (object_word h x.bytes) e) ∙ byte_of_object h x.bytes k bytes
