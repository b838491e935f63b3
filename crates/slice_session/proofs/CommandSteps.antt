-- Each call of a sliced heap has a result, and so each command a step. A run can begin with any settings in their ranges, and go on after each command.
use Rattle.std.proofs.Common.{◌≡◌, ◌≢◌, ℕ, zero, suc, ◌+◌, ◌-◌, ◌*◌, ◌/◌, ◌%◌, ◌<◌, ◌≤◌, List, length, get_or, set, Some, arith, sym, ◌∙◌, ap, refl, subst, inl, inr, None, min, Option, Result, Ok, Err, option_map, codes, slice_get, get_or-set_same, get_or-set_other, length-set}
use Rattle.std.proofs.lemmas.Bool.{cases_eq, cases_lt}
use Rattle.run_model.specs.Terms.{AccessFault, AreBytes, AreInRange, class_at, Command, empty, get, Handle, Held, insert, Placed, Profile, Reply, said, slot_words, with_number, written}
use Rattle.page_model.specs.Image.{IsDisjoint, MovesWords, Rewrites, WordRange, object_word, slot_for, header_word}
use Rattle.page_model.proofs.CallerLemmas.{class_holds, bytes_held, slot_inside}
use Rattle.slice_model.specs.Runs.{words_of_slice, Event, Malloc, Free, Step, Write}
use Rattle.slice_model.specs.State.{IsKept, IsPlan, Job, Plan, Sliced, job_slot, Clear, Idle, Move, left_of}
use Rattle.slice_model.specs.Words.{DoesWords, RewritesObject, word_at}
use Rattle.slice_model.proofs.CallerLemmas.{job_within, kept_apart, mover_class, object_slot, object_within, own_words_at, where_word, outside_not, answered, can_give, can_remove, can_slice, free_answered, kept_begun, order_happens}
use Rattle.cf_base.proofs.MapValues.{get-map_values}
use Rattle.cf_base.proofs.Searches.{there_or_not}
use Rattle.page_model.specs.Order.{Order}
use Rattle.page_model.specs.Paging.{class_for}
use Rattle.slice_model.specs.Ordered.{HappensInOrder}
use Rattle.slice_model.specs.declared.refusals.SliceFault.{SliceFault}
use Rattle.slice_model.specs.declared.refusals.SliceRefusal.{SliceRefusal}
use Rattle.sliced_heap.specs.Access.{access_fault}
use Rattle.sliced_heap.specs.Shown.{KeepsSlicedRules, SlicedState, plan_in, working_in}
use Rattle.slice_session.specs.SliceRun.{DoesEvent, IsReadySliced, OthersSliced, SliceRun, SliceStep, sliced_calls}
use Rattle.run_model.specs.Replies.{peek_text}
use Rattle.script_laws.proofs.CallerLemmas.{HasCalls, can_go_on, CanGoOn}
use Rattle.slice_session.specs.Playing.{BeginsSliced, BeginsSlices, IsQuantum, first_heap}
use Rattle.slice_session.proofs.RunInvariant.{sliced_keeps, EmptyLaw, begins_going, first_rules}
use Rattle.cf_base.specs.declared.results.AccessFault.TheVariants as access
use Rattle.script_reader.specs.declared.command.Command.TheVariants as command

-- There are words of the region as a malloc, a slice and a write must leave them, since words of a range can be replaced, or moved to
-- another range that doesn't overlap it.

-- the words with f i at the address a i, for each i below n
abbrev put_all : (ℕ → ℕ) → (ℕ → ℕ) → ℕ → List ℕ → List ℕ
put_all a f zero words = words
put_all a f (suc n) words = set (put_all a f n words) (a n) (f n)

module _ (a f : ℕ → ℕ) (words : List ℕ) where
  put_long : (n : ℕ) → length (put_all a f n words) ≡ length words
  put_long zero = refl
  put_long (suc n) = length-set (put_all a f n words) (a n) (f n) ∙ put_long n

  put_outside : (n w : ℕ) → ((i : ℕ) → i < n → a i ≢ w) → get_or (put_all a f n words) w 0 ≡ get_or words w 0
  put_outside zero w out = refl
  put_outside (suc n) w out = get_or-set_other (put_all a f n words) (a n) w (f n) 0 (λ e. out n (omega arith) (sym e))
      ∙ put_outside n w (λ i lt. out i (omega arith))

  -- each address has its word, if the addresses differ and none is past the end
  put_inside : (n : ℕ) → ((i : ℕ) → i < n → a i < length words) → ((i k : ℕ) → i < n → k < n → a i ≡ a k → i ≡ k) → (i : ℕ) → i < n
      → get_or (put_all a f n words) (a i) 0 ≡ f i
  put_inside zero within own i lt = absurd (omega arith)
  put_inside (suc n) within own i lt = elim (cases_eq i n) [
    | inl is ↦ subst (λ (k : ℕ). get_or (put_all a f (suc n) words) (a k) 0 ≡ f k) (sym is)
        (get_or-set_same (put_all a f n words) (a n) (f n) 0 (let l = put_long n in let w = within n (omega arith) in omega arith))
    | inr ne ↦ get_or-set_other (put_all a f n words) (a n) (a i) (f n) 0 (λ e. ne (own i n lt (omega arith) e))
        ∙ put_inside n (λ i low. within i (omega arith)) (λ i k low high. own i k (omega arith) (omega arith)) i (omega arith)
  ]

in_range : (a i k : ℕ) → a + i ≡ a + k → i ≡ k
in_range a i k e = omega arith

elsewhere : (a b n i k : ℕ) → IsDisjoint a n b n → i < n → k < n → a + i ≢ b + k
elsewhere a b n i k (inl l) low high e = omega arith
elsewhere a b n i k (inr r) low high e = omega arith

-- the words of a range can be replaced by others
pub rewrites_there : (words : List ℕ) (run : WordRange) (f : ℕ → ℕ) → run.from + run.count ≤ length words
    → (new : List ℕ) × Rewrites words new run f × (length new ≡ length words)
rewrites_there words run f fits = (
  put_all (λ i. run.from + i) f run.count words,
  record {
    within = put_inside (λ i. run.from + i) f words run.count (λ i lt. omega arith) (λ i k low high e. in_range run.from i k e);
    others = λ w out. put_outside (λ i. run.from + i) f words run.count w (λ i lt. outside_not run.from run.count w i out lt);
  },
  put_long (λ i. run.from + i) f words run.count,
)

-- the words of a range can be moved to another range
module _ (words : List ℕ) (run : WordRange) (b : ℕ) (apart : IsDisjoint run.from run.count b run.count) (source : run.from + run.count ≤ length words)
    (target : b + run.count ≤ length words) where
  abbrev carried : ℕ → ℕ
  carried i = get_or words (run.from + i) 0

  -- the words after the copy, before the first range is cleared
  abbrev copied : List ℕ
  copied = put_all (λ i. b + i) carried run.count words

  copied_long : length copied ≡ length words
  copied_long = put_long (λ i. b + i) carried words run.count

  moves_there : (new : List ℕ) × MovesWords words new run b × (length new ≡ length words)
  moves_there = (
    put_all (λ i. run.from + i) (λ _. 0) run.count copied,
    record {
      arrived = λ i lt. put_outside (λ i. run.from + i) (λ _. 0) copied run.count (b + i) (λ k low. elsewhere run.from b run.count k i apart low lt)
          ∙ put_inside (λ i. b + i) carried words run.count (λ k low. omega arith) (λ i k low high e. in_range b i k e) i lt;
      left_zeros = put_inside (λ i. run.from + i) (λ _. 0) copied run.count (λ i lt. (let l = copied_long in omega arith))
          (λ i k low high e. in_range run.from i k e);
      others = λ w out other. put_outside (λ i. run.from + i) (λ _. 0) copied run.count w (λ i lt. outside_not run.from run.count w i out lt)
          ∙ put_outside (λ i. b + i) carried words run.count w (λ i lt. outside_not b run.count w i other lt);
    },
    put_long (λ i. run.from + i) (λ _. 0) copied run.count ∙ copied_long,
  )

-- parts of two slots have no word in common if the slots have none
parts_apart : (a b size done n : ℕ) → IsDisjoint a size b size → IsDisjoint (a + done) (min n (size - done)) (b + done) (min n (size - done))
parts_apart a b size done n (inl l) = inl (omega arith)
parts_apart a b size done n (inr r) = inr (omega arith)

-- the words that a slice does of a slot are in the slot
part_within : (size done n : ℕ) → done < size → done + min n (size - done) ≤ size
part_within size done n lt = omega arith

module _ (plan : Plan) (ok : IsPlan plan) (words : List ℕ) (long : length words ≡ plan.paging.pages * plan.paging.page_words) where
  -- there are words after a slice
  pub does_there : (m : Held) (j : Job) → IsKept plan (record { held = m; job = j })
      → (new : List ℕ) × DoesWords m j (words_of_slice plan (job_slot j)) words new × (length new ≡ length words)
  does_there m Idle kept = (words, refl, refl)
  does_there m (Clear k) kept =
      let slot = job_within plan ok m (Clear k) kept k refl in
      let part = part_within (slot_words plan.paging k.class) k.done plan.quantum kept.job.under_way in
      rewrites_there words (record { from = k.address + k.done; count = min plan.quantum (slot_words plan.paging k.class - k.done) }) (λ _. 0) (omega arith)
  does_there m (Move h k) kept =
      let x = kept.job.1 in
      let apart : IsDisjoint k.address (slot_words plan.paging k.class) x.0.place (slot_for plan.paging (length x.0.bytes)) =
      (kept_apart plan ok (record { held = m; job = Move h k }) kept).job k h x.0 refl x.1 in
      let class : class_at plan.paging x.0 ≡ k.class = x.2 in
      let same : slot_for plan.paging (length x.0.bytes) ≡ slot_words plan.paging k.class = ap (slot_words plan.paging) class in
      let apart' : IsDisjoint k.address (slot_words plan.paging k.class) x.0.place (slot_words plan.paging k.class) =
      subst (λ (n : ℕ). IsDisjoint k.address (slot_words plan.paging k.class) x.0.place n) same apart in
      let slot = job_within plan ok m (Move h k) kept k refl in
      let to = object_within plan ok m (Move h k) kept h x.0 x.1 in
      let part = part_within (slot_words plan.paging k.class) k.done plan.quantum kept.job.0.under_way in
      let done = moves_there words (record { from = k.address + k.done; count = min plan.quantum (slot_words plan.paging k.class - k.done) })
      (x.0.place + k.done) (parts_apart k.address x.0.place (slot_words plan.paging k.class) k.done plan.quantum apart') (omega arith) (omega arith) in
      (done.0, (x.0, x.1, done.1), done.2)

module _ (plan : Plan) (ok : IsPlan plan) (m : Held) (j : Job) (kept : IsKept plan (record { held = m; job = j })) (h : ℕ) (x : Placed)
    (there : get m h ≡ Some x) (from n : ℕ) (fits : from + n ≤ length x.bytes) where
  abbrev s : Sliced
  s = record { held = m; job = j }

  abbrev count : ℕ
  count = (from % 8 + n + 7) / 8

  abbrev place_of : ℕ → ℕ
  place_of i = word_at j h x (1 + from / 8 + i)

  inside : (i : ℕ) → i < (from % 8 + n + 7) / 8 → 1 + from / 8 + i < slot_for plan.paging (length x.bytes)
  inside i low =
      let l = class_holds plan.paging ok.paging (length x.bytes) (object_slot plan ok m j kept h x there).class in
      omega arith

  own : (i k : ℕ) → i < (from % 8 + n + 7) / 8 → k < (from % 8 + n + 7) / 8
      → word_at j h x (1 + from / 8 + i) ≡ word_at j h x (1 + from / 8 + k) → i ≡ k
  own i k low high e =
      let same = (own_words_at plan.paging m j (kept_apart plan ok s kept) (mover_class plan.paging m j kept.job) h x h x there there
      (1 + from / 8 + i) (inside i low) (1 + from / 8 + k) (inside k high) e).1 in
      omega arith

  -- a word of the object is in the region
  word_within : (i : ℕ) → i < slot_for plan.paging (length x.bytes) → word_at j h x i < plan.paging.pages * plan.paging.page_words
  word_within i lt = elim (where_word j h x i) [
    | inl at ↦ (let o = object_within plan ok m j kept h x there in omega arith)
    | inr (k, move, _, at) ↦ (
        let o = job_within plan ok m j kept k (ap job_slot move) in
        let size : slot_for plan.paging (length x.bytes) ≡ slot_words plan.paging k.class =
        ap (slot_words plan.paging) (mover_class plan.paging m j kept.job k h x move there) in
        omega arith)
  ]

  -- bytes can be written into an object
  pub written_there : (words v : List ℕ) → length words ≡ plan.paging.pages * plan.paging.page_words
      → (new : List ℕ) × RewritesObject j h x v (record { from = 1 + from / 8; count = (from % 8 + n + 7) / 8 }) words new × (length new ≡ length words)
  written_there words v long = (
    put_all place_of (λ i. object_word h v (1 + from / 8 + i)) count words,
    record {
      within = put_inside place_of (λ i. object_word h v (1 + from / 8 + i)) words count
          (λ i lt. (let w = word_within (1 + from / 8 + i) (inside i lt) in omega arith)) own;
      others = λ w out. put_outside place_of (λ i. object_word h v (1 + from / 8 + i)) words count w out;
    },
    put_long place_of (λ i. object_word h v (1 + from / 8 + i)) words count,
  )

-- For `sliced_there`: for each call of an open sliced heap that keeps its rules, the model allows some result with a heap after it: its objects, job, words and
-- order.

-- the heap with other objects, another job, other words and another order
abbrev working_with : SlicedState → Sliced → List ℕ → Order → SlicedState
working_with s w words o = record s { held = w.held; job = w.job; words = words; order = o }

module _ (s : SlicedState) (rules : KeepsSlicedRules s) where
  abbrev plan : Plan
  plan = plan_in s

  abbrev state : Sliced
  state = (working_in s).state

  kept : IsKept (plan_in s) (working_in s).state
  kept = rules.consistent.kept

  stands : (event : Event) → HappensInOrder (plan_in s) (working_in s) event (working_in s) s.order s.order → DoesEvent s event s
  stands event ordered = record {
    happens = order_happens (plan_in s) (working_in s) event (working_in s) s.order s.order ordered;
    ordered = ordered;
    stays = record { is_open = refl; profile = refl; quantum = refl; region = refl };
  }

  does : (event : Event) (w : Sliced) (words : List ℕ) (o : Order)
      → HappensInOrder (plan_in s) (working_in s) event (record { state = w; words = words }) s.order o
      → length words ≡ length s.words → DoesEvent s event (working_with s w words o)
  does event w words o ordered long = record {
    happens = order_happens (plan_in s) (working_in s) event (record { state = w; words = words }) s.order o ordered;
    ordered = ordered;
    stays = record { is_open = refl; profile = refl; quantum = refl; region = long };
  }

  pub malloc_there : (n : ℕ) → (answer : Result Handle SliceRefusal) × (new : SlicedState) × DoesEvent s (Malloc n answer) new
  malloc_there n = elim (answered plan rules.plan state kept n) [
    | inl (e, cause) ↦ (Err e, s, stands (Malloc n (Err e)) ((cause, refl), refl))
    | inr (h, new, g) ↦ (
        let can = can_give plan rules.plan state kept n s.order rules.order g.fits g.few g.place g.free in
        let gives = can.gives in
        let slot = slot_inside plan.paging (class_for plan.paging n) gives.place gives.free.slot in
        let least = rules.plan.paging.sized.least (class_for plan.paging n) gives.free.slot.class in
        let long = rules.region in
        let w = rewrites_there s.words (record { from = gives.place; count = 1 }) (λ _. header_word can.number n) (omega arith) in
        let handle : Handle = record { 0 = can.number } in (
          Ok handle,
          working_with s can.after w.0 can.new,
          does (Malloc n (Ok handle)) can.after w.0 can.new (record { mallocs = record { gives = can.gives; words = w.1 }; follows = can.follows }) w.2,
        ))
  ]

  pub free_there : (h : ℕ) → (answer : Option SliceFault) × (new : SlicedState) × DoesEvent s (Free h answer) new
  free_there h = elim (free_answered plan rules.plan state kept h) [
    | inl (e, cause) ↦ (Some e, s, stands (Free h (Some e)) ((cause, refl), refl))
    | inr (new, r) ↦ (
        let can = can_remove plan rules.plan state kept r.idle h r.freed r.found s.order rules.order in
        let removes = can.removes in
        let idle : IsKept plan (record { held = s.held; job = Idle }) =
        subst (λ j. IsKept (plan_in s) (record { held = s.held; job = j })) removes.idle kept in
        let begun = kept_begun plan rules.plan s.held idle h removes.freed removes.found removes.moved removes.moves removes.begun removes.begins in
        let w = does_there plan rules.plan s.words rules.region removes.begun.held removes.begun.job begun in (
          None,
          working_with s can.new w.0 can.now,
          does (Free h None) can.new w.0 can.now (record {
            frees = record { removes = can.removes; words = w.1 };
            next = can.next;
            follows = can.follows;
          }) w.2,
        ))
  ]

  pub step_there : (new : SlicedState) × DoesEvent s Step new
  step_there =
      let can = can_slice plan rules.plan state kept s.order rules.order in
      let w = does_there plan rules.plan s.words rules.region s.held s.job kept in (
        working_with s can.new w.0 can.now,
        does Step can.new w.0 can.now (record { slices = record { slice = can.slice; words = w.1 }; follows = can.follows }) w.2,
      )

  pub write_there : (h from : ℕ) (bytes : List ℕ) → AreBytes bytes
      → (answer : Result Unit AccessFault) × (new : SlicedState) × DoesEvent s (Write (record { number = h; from = from }) bytes (access_fault answer)) new
  write_there h from bytes are = elim (there_or_not s.held h) [
    | inr none ↦ (
      Err access.Unknown,
      s,
      stands (Write (record { number = h; from = from }) bytes (Some access.Unknown))
          ((get-map_values (λ (x : Placed). x.bytes) s.held h ∙ ap (option_map (λ (x : Placed). x.bytes)) none, refl), refl),
    )
    | inl (x, found) ↦ elim (cases_lt (length x.bytes) (from + length bytes)) [
      | inl past ↦ (
        Err access.Range,
        s,
        stands (Write (record { number = h; from = from }) bytes (Some access.Range)) (((x.bytes, bytes_held s.held h x found, past), refl), refl),
      )
      | inr within ↦ (
          let v = written x.bytes from bytes in
          let w = written_there plan rules.plan s.held s.job kept h x found from (length bytes) within s.words v rules.region in
          let new : Sliced = record { held = insert s.held h (record { place = x.place; bytes = v }); job = s.job } in (
            Ok tt,
            working_with s new w.0 s.order,
            does (Write (record { number = h; from = from }) bytes None) new w.0 s.order (
              record {
                object = x;
                found = found;
                fits = within;
                are_bytes = are;
                state = refl;
                words = w.1;
              },
              refl,
            ) w.2,
          ))
    ]
  ]

-- For `each_command_has_its_turn`, `a_sliced_run_can_always_go_on` and `what_was_cut_is_a_prefix`: a run over a sliced heap can begin with any settings in
-- their ranges, and each command then has a reply and a state after it.

other_there : (old : SliceRun) (c : Command) → IsReadySliced old.heap → (reply : Reply) × (new : SliceRun) × OthersSliced old c reply new
other_there old command.Slice ready =
    let s = step_there old.heap ready.rules in (
      said (with_number (codes "left ") (left_of (plan_in s.0) (working_in s.0).state)),
      record { ids = old.ids; heap = s.0 },
      record { does = s.1; ids = refl; reply_is = refl },
    )
other_there old (command.Peek word) ready = (said (peek_text (slice_get old.heap.words word)), old, (refl, refl))
other_there old c ready = (said (codes "none"), old, (refl, refl))

pub sliced_there : HasCalls sliced_calls
sliced_there = record {
  malloc = λ s n ready. malloc_there s ready.rules n;
  free = λ s h v ready found. free_there s ready.rules h;
  write = λ s p bytes v ready found are some few. write_there s ready.rules p.number p.from bytes are;
  other = other_there;
}

-- a run begins under any settings in their ranges
pub begins_sliced : EmptyLaw → (quantum : ℕ) (p : Profile) → IsQuantum quantum → AreInRange p → (new : SliceRun) × BeginsSliced quantum p new
begins_sliced law quantum p q can = (
  record { ids = empty; heap = first_heap quantum p },
  record { ids = refl; heap = refl; rules = first_rules law quantum p q can },
)

-- a run over a sliced heap can be continued after each command
abbrev pub slices_go_on : EmptyLaw → (quantum : ℕ) → IsQuantum quantum → CanGoOn (BeginsSlices quantum) SliceStep
slices_go_on law quantum q = can_go_on sliced_calls sliced_keeps sliced_there (BeginsSlices quantum) (λ p reply s b. begins_going quantum p s b.0)
    (λ p can. (let b = begins_sliced law quantum p q can in (said (codes "ok"), b.0, (b.1, refl))))
