-- For `an_order_leaves_no_choice_beside_a_job` and `a_call_keeps_an_order`: two equal calls on the same heap that follow the same order have the same result,
-- and leave the same state, words and order. A call that follows an order does what a call does (`Happens`).
use Rattle.std.proofs.Common.{◌≡◌, ℕ, ◌+◌, ◌/◌, ◌%◌, ◌≤◌, List, ◌∷◌, Option, Some, None, length, take, drop, arith, refl, sym, ◌∙◌, ap, subst, inl, inr}
use Rattle.std.specs.Prelude.{Result, Ok, Err}
use Rattle.std.specs.FinMap.{get, insert, remove}
use Rattle.cf_base.specs.declared.results.AccessFault.{AccessFault}
use Rattle.cf_base.specs.declared.results.AccessFault.TheVariants as access
use Rattle.cf_base.specs.declared.results.Handle.{Handle}
use Rattle.cf_base.proofs.Maps.{found_once, get_insert_other}
use Rattle.page_model.specs.Arrangement.{IsSound, class_at}
use Rattle.page_model.specs.Bytes.{written}
use Rattle.page_model.specs.Held.{Held, Objects, Placed, objects}
use Rattle.page_model.specs.Image.{Rewrites, header_word}
use Rattle.page_model.specs.Order.{Order}
use Rattle.page_model.specs.Paging.{Paging}
use Rattle.page_model.specs.Steps.{Moves, zeros_at}
use Rattle.page_model.proofs.CallerLemmas.{malloc_once, mover_once}
use Rattle.slice_model.specs.State.{Plan, IsPlan, JobSlot, Sliced, IsKept, Idle, Move, job_slot, occupied, placeholder, with_slot}
use Rattle.slice_model.specs.Steps.{BeginsMove, EndsJob, IsSlice, RemovesSlicedObject, SliceOf, LeavesJob, fresh_slot}
use Rattle.slice_model.specs.Runs.{Event, Happens, HappensOnMap, IsConsistent, IsOutOfReach, Position, HeapWithWords, WritesWithWords, Malloc, Free, Step, Write, Read, words_of_slice}
use Rattle.slice_model.specs.Words.{RewritesObject}
use Rattle.slice_model.specs.Ordered.{CarriesNext, EndFollows, FreesInOrder, HappensInOrder, MallocsInOrder, MovesNext, SliceFollows}
use Rattle.slice_model.specs.Ordered.{SlicesInOrder}
use Rattle.slice_model.specs.declared.refusals.SliceFault.{SliceFault}
use Rattle.slice_model.specs.declared.refusals.SliceRefusal.{SliceRefusal}
use Rattle.slice_model.proofs.KeptSteps.{kept_begun, other_than}
use Rattle.slice_model.proofs.Occupied.{no_placeholder}
use Rattle.slice_model.proofs.OneMap.{call_on_map}
use Rattle.slice_model.proofs.OneWords.{does_once, rewrites_once, rewritten_once}
use Rattle.slice_model.proofs.Results.{freed_or_faulty, one_fault}
use Rattle.slice_model.proofs.RoomBeside.{given_or_refused, one_cause}

-- a call that follows an order does what a call does (`Happens`)
pub order_happens : (plan : Plan) (old : HeapWithWords) (event : Event) (new : HeapWithWords) (was now : Order) → HappensInOrder plan old event new was now
    → Happens plan old event new
order_happens plan old (Malloc bytes (Ok h)) new was now is = is.mallocs
order_happens plan old (Malloc bytes (Err e)) new was now is = is.0
order_happens plan old (Free h None) new was now is = is.frees
order_happens plan old (Free h (Some e)) new was now is = is.0
order_happens plan old Step new was now is = is.slices
order_happens plan old (Write position bytes answer) new was now is = is.0
order_happens plan old (Read position count answer) new was now is = is.0

-- two moves of the same object to the same slot begin with the same state
carries_once : (m : Held) (q r a c : ℕ) (s t : Sliced) → q ≡ r → BeginsMove m q a c s → BeginsMove m r a c t → s ≡ t
carries_once m q r a c s t same x y =
    let one : x.object ≡ y.object = found_once m r x.object y.object (subst (λ n. get m n ≡ Some x.object) same x.found) y.found in
    x.whole ∙ ap (λ n. record { held = insert m n (record { place = a; bytes = x.object.bytes }); job = Move n (fresh_slot x.object.place c) }) same
    ∙ ap (λ (z : Placed). record { held = insert m r (record { place = a; bytes = z.bytes }); job = Move r (fresh_slot z.place c) }) one
    ∙ sym y.whole

vacated_once : (m : Held) (a c : ℕ) (moved : Option ℕ) (s t : Sliced) → LeavesJob m a c moved s → LeavesJob m a c moved t → s ≡ t
vacated_once m a c None s t x y = x ∙ sym y
vacated_once m a c (Some q) s t x y = carries_once m q q a c s t refl x y

-- two frees that follow the same order move the same object, or none
moved_once : (p : Paging) (m : Held) → IsSound p m → (x : Placed) (o : Order) (moved other : Option ℕ) → Moves p m x moved → Moves p m x other
    → MovesNext p m o (class_at p x) moved → MovesNext p m o (class_at p x) other → moved ≡ other
moved_once p m sound x o None None a b s t = refl
moved_once p m sound x o None (Some r) a b s t = absurd (a b.0)
moved_once p m sound x o (Some q) None a b s t = absurd (b a.0)
moved_once p m sound x o (Some q) (Some r) a b (y, there, first) (z, here, second) =
    ap Some (mover_once p m sound o (class_at p x) q r y z there here first second)

-- two frees of the same object that follow the same order begin the same job
pub removed_once : (plan : Plan) (s : Sliced) (h : ℕ) (a b : Sliced) (o : Order) → IsKept plan s → (r : RemovesSlicedObject plan s h a) (u : RemovesSlicedObject plan s h b)
    → MovesNext plan.paging s.held o (class_at plan.paging r.freed) r.moved → MovesNext plan.paging s.held o (class_at plan.paging u.freed) u.moved
    → r.begun ≡ u.begun
removed_once plan s h a b o kept r u first second =
    let idle : IsKept plan (record { held = s.held; job = Idle }) = subst (λ j. IsKept plan (record { held = s.held; job = j })) r.idle kept in
    let object : u.freed ≡ r.freed = found_once s.held h u.freed r.freed u.found r.found in
    let moves : Moves plan.paging s.held r.freed u.moved = subst (λ z. Moves plan.paging s.held z u.moved) object u.moves in
    let next : MovesNext plan.paging s.held o (class_at plan.paging r.freed) u.moved =
    subst (λ z. MovesNext plan.paging s.held o (class_at plan.paging z) u.moved) object second in
    let moved : u.moved ≡ r.moved = sym (moved_once plan.paging s.held idle.sound r.freed o r.moved u.moved r.moves moves first next) in
    let begins : LeavesJob (remove s.held h) r.freed.place (class_at plan.paging r.freed) r.moved u.begun =
    subst (λ q. LeavesJob (remove s.held h) r.freed.place (class_at plan.paging r.freed) q u.begun) moved
    (subst (λ (z : Placed). LeavesJob (remove s.held h) z.place (class_at plan.paging z) u.moved u.begun) object u.begins) in
    sym (vacated_once (remove s.held h) r.freed.place (class_at plan.paging r.freed) r.moved u.begun r.begun begins r.begins)

same_working : (a b : HeapWithWords) → a.state ≡ b.state → a.words ≡ b.words → a ≡ b
same_working a b state words = λ i. record { state = state i; words = words i }

-- Object `position.number` has n bytes from byte `position.from` on. If so, a read or a write of them has no fault (`not_both`); else it has just one
-- (`one_reach`).
abbrev IsWithin : Objects → Position → ℕ → Type 0
IsWithin o position n = (v : List ℕ) × (get o position.number ≡ Some v) × (position.from + n ≤ length v)

not_both : (o : Objects) (position : Position) (n : ℕ) → IsWithin o position n → (e : AccessFault) → IsOutOfReach o position n e → ⊥
not_both o position n (v, there, fits) access.Unknown none = (let e : Some v ≡ None = sym there ∙ none in cc)
not_both o position n (v, there, fits) access.Range (u, here, past) =
    let same = ap length (found_once o position.number v u there here) in
    omega arith

one_reach : (o : Objects) (position : Position) (n : ℕ) (e f : AccessFault) → IsOutOfReach o position n e → IsOutOfReach o position n f → e ≡ f
one_reach o position n access.Unknown access.Unknown x y = refl
one_reach o position n access.Unknown access.Range x (u, here, past) = absurd (let e : Some u ≡ None = sym here ∙ x in cc)
one_reach o position n access.Range access.Unknown (u, here, past) y = absurd (let e : Some u ≡ None = sym here ∙ y in cc)
one_reach o position n access.Range access.Range x y = refl

within : (o : Objects) (position : Position) (bytes : List ℕ) (new : Objects) → HappensOnMap o (Write position bytes None) new → IsWithin o position (length bytes)
within o position bytes new (v, there, fits, is) = (v, there, fits)

write_answers : (o : Objects) (position : Position) (bytes : List ℕ) (r s : Option AccessFault) (new other : Objects) → HappensOnMap o (Write position bytes r) new
    → HappensOnMap o (Write position bytes s) other → r ≡ s
write_answers o position bytes None None new other x y = refl
write_answers o position bytes None (Some f) new other x y = absurd (not_both o position (length bytes) (within o position bytes new x) f y.0)
write_answers o position bytes (Some e) None new other x y = absurd (not_both o position (length bytes) (within o position bytes other y) e x.0)
write_answers o position bytes (Some e) (Some f) new other x y = ap Some (one_reach o position (length bytes) e f x.0 y.0)

read_answers : (o : Objects) (position : Position) (n : ℕ) (r s : Result (List ℕ) AccessFault) (new other : Objects) → HappensOnMap o (Read position n r) new
    → HappensOnMap o (Read position n s) other → r ≡ s
read_answers o position n (Ok out) (Ok text) new other (v, there, fits, is, _) (u, here, fit, are, _) =
    ap Ok (is ∙ ap (λ w. take n (drop position.from w)) (found_once o position.number v u there here) ∙ sym are)
read_answers o position n (Ok out) (Err f) new other (v, there, fits, is, _) y = absurd (not_both o position n (v, there, fits) f y.0)
read_answers o position n (Err e) (Ok text) new other x (v, there, fits, is, _) = absurd (not_both o position n (v, there, fits) e x.0)
read_answers o position n (Err e) (Err f) new other x y = ap Err (one_reach o position n e f x.0 y.0)

module _ (plan : Plan) (ok : IsPlan plan) where
  -- two ends of one job that follow the same order leave the same state and the same order
  module _ (m : Held) (k : JobSlot) (none : get m plan.proxies ≡ None) (sound : IsSound plan.paging (with_slot plan m (Some k))) (was : Order) where
    beside : (q : ℕ) (y : Placed) → get m q ≡ Some y → get (with_slot plan m (Some k)) q ≡ Some y
    beside q y there = get_insert_other m plan.proxies (placeholder plan.paging k) q (other_than m plan.proxies q y none there) ∙ there

    chained_once : (q r : ℕ) (now next : Order) → CarriesNext plan m k q was now → CarriesNext plan m k r was next → (q ≡ r) × (now ≡ next)
    chained_once q r now next x y = (
      mover_once plan.paging (with_slot plan m (Some k)) sound was k.class q r x.object y.object (beside q x.object x.found) (beside r y.object y.found)
          x.next y.next,
      x.same ∙ sym y.same,
    )

    end_once : (a b : Sliced) (now next : Order) → EndsJob plan.paging m k a → EndFollows plan m k a.job was now → EndsJob plan.paging m k b
        → EndFollows plan m k b.job was next → (a ≡ b) × (now ≡ next)
    end_once a b now next (inl (few, is)) f (inl (less, same)) g =
        let x : EndFollows plan m k Idle was now = subst (λ (s : Sliced). EndFollows plan m k s.job was now) is f in
        let y : EndFollows plan m k Idle was next = subst (λ (s : Sliced). EndFollows plan m k s.job was next) same g in
        (is ∙ sym same, x ∙ sym y)
    end_once a b now next (inl (few, is)) f (inr d) g = absurd (few d.two)
    end_once a b now next (inr c) f (inl (less, same)) g = absurd (less c.two)
    end_once a b now next (inr c) f (inr d) g =
        let x : CarriesNext plan m k c.object was now = subst (λ (s : Sliced). EndFollows plan m k s.job was now) c.carries.whole f in
        let y : CarriesNext plan m k d.object was next = subst (λ (s : Sliced). EndFollows plan m k s.job was next) d.carries.whole g in
        let (number, order) = chained_once c.object d.object now next x y in
        (carries_once m c.object d.object k.address k.class a b number c.carries d.carries, order)

  -- two slices that follow the same order leave the same state and the same order
  module _ (s : Sliced) (kept : IsKept plan s) (a b : Sliced) (was now next : Order) where
    slice_of : (o : Option JobSlot) → job_slot s.job ≡ o → SliceOf plan s o a → SliceFollows plan s.held o a.job was now → SliceOf plan s o b
        → SliceFollows plan s.held o b.job was next → (a ≡ b) × (now ≡ next)
    slice_of None e x f y g = (x ∙ sym y, f ∙ sym g)
    slice_of (Some k) e (inl x) f (inl y) g = (x.whole ∙ sym y.whole, f.goes_on x.left ∙ sym (g.goes_on y.left))
    slice_of (Some k) e (inl x) f (inr y) g = absurd (let l = x.left in let d = y.all in omega arith)
    slice_of (Some k) e (inr x) f (inl y) g = absurd (let l = y.left in let d = x.all in omega arith)
    slice_of (Some k) e (inr x) f (inr y) g =
        end_once s.held k (no_placeholder plan s.held kept.numbers)
        (subst (λ o. IsSound plan.paging (with_slot plan s.held o)) e kept.sound) was a b now next x.ends (f.ends x.all) y.ends (g.ends y.all)

    pub slice_once : IsSlice plan s a → SliceFollows plan s.held (job_slot s.job) a.job was now → IsSlice plan s b
        → SliceFollows plan s.held (job_slot s.job) b.job was next → (a ≡ b) × (now ≡ next)
    slice_once x f y g = slice_of (job_slot s.job) refl x f y g

  -- two such slices leave the same words too
  slid_once : (old a b : HeapWithWords) (was now next : Order) → IsKept plan old.state → SlicesInOrder plan old a was now → SlicesInOrder plan old b was next
      → length a.words ≡ length b.words → (a ≡ b) × (now ≡ next)
  slid_once old a b was now next kept x y long =
      let (state, order) = slice_once old.state kept a.state b.state was now next x.slices.slice x.follows y.slices.slice y.follows in
      let words = does_once old.state.held old.state.job (words_of_slice plan (job_slot old.state.job)) old.words a.words b.words x.slices.words
      y.slices.words long in
      (same_working a b state words, order)

  malloc_in_order : (old : HeapWithWords) (bytes : ℕ) (h q : Handle) (a b : HeapWithWords) (was now next : Order)
      → MallocsInOrder plan old (record { number = h.0; length = bytes }) a was now
      → MallocsInOrder plan old (record { number = q.0; length = bytes }) b was next → length a.words ≡ length b.words
      → (h ≡ q) × (a ≡ b) × (now ≡ next)
  malloc_in_order old bytes h q a b was now next x y long =
      let g = x.mallocs.gives in
      let f = y.mallocs.gives in
      let (number, place, order) = malloc_once plan.paging (occupied plan old.state) (record { number = h.0; length = bytes })
      (record { number = q.0; length = bytes }) g.place f.place was now next x.follows y.follows refl in
      let state : a.state ≡ b.state = g.placed ∙ ap (λ n. record old.state { held = insert old.state.held n (zeros_at g.place bytes) }) number
      ∙ ap (λ at. record old.state { held = insert old.state.held q.0 (zeros_at at bytes) }) place ∙ sym f.placed in
      let again : Rewrites old.words b.words (record { from = g.place; count = 1 }) (λ _. header_word h.0 bytes) =
      subst (λ at. Rewrites old.words b.words (record { from = at; count = 1 }) (λ _. header_word h.0 bytes)) (sym place)
      (subst (λ n. Rewrites old.words b.words (record { from = f.place; count = 1 }) (λ _. header_word n bytes)) (sym number) y.mallocs.words) in
      let words = rewrites_once old.words a.words b.words (record { from = g.place; count = 1 }) (λ _. header_word h.0 bytes) x.mallocs.words again long in
      ((λ i. record { 0 = number i }), same_working a b state words, order)

  -- the first slice of a free is a slice from the state in which its job begins
  freed_slices : (old : HeapWithWords) (h : ℕ) (new : HeapWithWords) (was now : Order) → (x : FreesInOrder plan old h new was now)
      → SlicesInOrder plan (record { state = x.frees.removes.begun; words = old.words }) new (record was { spare = h ∷ was.spare }) now
  freed_slices old h new was now x = record {
    slices = record { slice = x.frees.removes.slice; words = x.frees.words };
    follows = x.follows;
  }

  free_in_order : (old : HeapWithWords) (h : ℕ) (a b : HeapWithWords) (was now next : Order) → IsKept plan old.state → FreesInOrder plan old h a was now
      → FreesInOrder plan old h b was next → length a.words ≡ length b.words → (a ≡ b) × (now ≡ next)
  free_in_order old h a b was now next kept x y long =
      let r = x.frees.removes in
      let idle : IsKept plan (record { held = old.state.held; job = Idle }) =
      subst (λ j. IsKept plan (record { held = old.state.held; job = j })) r.idle kept in
      let begun : y.frees.removes.begun ≡ r.begun = removed_once plan old.state h b.state a.state was kept y.frees.removes r y.next x.next in
      let kept_now = kept_begun plan ok old.state.held idle h r.freed r.found r.moved r.moves r.begun r.begins in
      slid_once (record { state = r.begun; words = old.words }) a b (record was { spare = h ∷ was.spare }) now next kept_now
      (freed_slices old h a was now x)
      (subst (λ z. SlicesInOrder plan (record { state = z; words = old.words }) b (record was { spare = h ∷ was.spare }) next) begun
      (freed_slices old h b was next y)) long

  write_once : (old : HeapWithWords) (position : Position) (bytes : List ℕ) (a b : HeapWithWords) → WritesWithWords old position bytes a → WritesWithWords old position bytes b
      → length a.words ≡ length b.words → a ≡ b
  write_once old position bytes a b x y long =
      let object : y.object ≡ x.object = found_once old.state.held position.number y.object x.object y.found x.found in
      let state : a.state ≡ b.state = x.state ∙ ap (λ (z : Placed). record old.state {
        held = insert old.state.held position.number (record { place = z.place; bytes = written z.bytes position.from bytes });
      }) (sym object) ∙ sym y.state in
      let again = subst (λ (z : Placed). RewritesObject old.state.job position.number z (written z.bytes position.from bytes)
      (record { from = 1 + position.from / 8; count = (position.from % 8 + length bytes + 7) / 8 }) old.words b.words) object y.words in
      let words = rewritten_once old.state.job position.number x.object (written x.object.bytes position.from bytes)
      (record { from = 1 + position.from / 8; count = (position.from % 8 + length bytes + 7) / 8 }) old.words a.words b.words x.words again long in
      same_working a b state words

  module _ (old new other : HeapWithWords) (was now next : Order) (good : IsConsistent plan old) (long : length new.words ≡ length other.words) where
    -- two calls that change nothing leave the same heap and the same order
    both_stay : new ≡ old → now ≡ was → other ≡ old → next ≡ was → (new ≡ other) × (now ≡ next)
    both_stay a b c d = (a ∙ sym c, b ∙ sym d)

    pub one_malloc : (bytes : ℕ) (r s : Result Handle SliceRefusal) → HappensInOrder plan old (Malloc bytes r) new was now
        → HappensInOrder plan old (Malloc bytes s) other was next → (r ≡ s) × (new ≡ other) × (now ≡ next)
    one_malloc bytes (Ok h) (Ok q) x y = (let z = malloc_in_order old bytes h q new other was now next x y long in (ap Ok z.0, z.1, z.2))
    one_malloc bytes (Ok h) (Err e) x y =
        absurd (given_or_refused plan ok old.state good.kept (record { number = h.0; length = bytes }) new.state x.mallocs.gives e y.0.0)
    one_malloc bytes (Err e) (Ok q) x y =
        absurd (given_or_refused plan ok old.state good.kept (record { number = q.0; length = bytes }) other.state y.mallocs.gives e x.0.0)
    one_malloc bytes (Err e) (Err f) x y =
        (let z = both_stay x.0.1 x.1 y.0.1 y.1 in (ap Err (one_cause plan old.state bytes e f x.0.0 y.0.0), z.0, z.1))

    pub one_free : (h : ℕ) (r s : Option SliceFault) → HappensInOrder plan old (Free h r) new was now → HappensInOrder plan old (Free h s) other was next
        → (r ≡ s) × (new ≡ other) × (now ≡ next)
    one_free h None None x y = (let z = free_in_order old h new other was now next good.kept x y long in (refl, z.0, z.1))
    one_free h None (Some e) x y = absurd (freed_or_faulty plan old.state h new.state x.frees.removes e y.0.0)
    one_free h (Some e) None x y = absurd (freed_or_faulty plan old.state h other.state y.frees.removes e x.0.0)
    one_free h (Some e) (Some f) x y = (let z = both_stay x.0.1 x.1 y.0.1 y.1 in (ap Some (one_fault old.state h e f x.0.0 y.0.0), z.0, z.1))

    pub one_slice : HappensInOrder plan old Step new was now → HappensInOrder plan old Step other was next → (new ≡ other) × (now ≡ next)
    one_slice x y = slid_once old new other was now next good.kept x y long

    pub one_write : (position : Position) (bytes : List ℕ) (r s : Option AccessFault) → HappensInOrder plan old (Write position bytes r) new was now
        → HappensInOrder plan old (Write position bytes s) other was next → (r ≡ s) × (new ≡ other) × (now ≡ next)
    one_write position bytes r s x y =
        let z = writes position bytes r s x y in (
          write_answers (objects old.state.held) position bytes r s (objects new.state.held) (objects other.state.held)
              (call_on_map plan ok old (Write position bytes r) new good x.0).0 (call_on_map plan ok old (Write position bytes s) other good y.0).0,
          z.0,
          z.1,
        )
      where
        writes : (position : Position) (bytes : List ℕ) (r s : Option AccessFault) → HappensInOrder plan old (Write position bytes r) new was now
            → HappensInOrder plan old (Write position bytes s) other was next → (new ≡ other) × (now ≡ next)
        writes position bytes None None x y = (write_once old position bytes new other x.0 y.0 long, x.1 ∙ sym y.1)
        writes position bytes None (Some f) x y = absurd (not_both (objects old.state.held) position (length bytes)
            (within (objects old.state.held) position bytes (objects new.state.held) (call_on_map plan ok old (Write position bytes None) new good x.0).0) f y.0.0)
        writes position bytes (Some e) None x y = absurd (not_both (objects old.state.held) position (length bytes)
            (within (objects old.state.held) position bytes (objects other.state.held) (call_on_map plan ok old (Write position bytes None) other good y.0).0) e x.0.0)
        writes position bytes (Some e) (Some f) x y = both_stay x.0.1 x.1 y.0.1 y.1

    pub one_read : (position : Position) (n : ℕ) (r s : Result (List ℕ) AccessFault) → HappensInOrder plan old (Read position n r) new was now
        → HappensInOrder plan old (Read position n s) other was next → (r ≡ s) × (new ≡ other) × (now ≡ next)
    one_read position n r s x y =
        let z = reads position n r s x y in (
          read_answers (objects old.state.held) position n r s (objects new.state.held) (objects other.state.held)
              (call_on_map plan ok old (Read position n r) new good x.0).0 (call_on_map plan ok old (Read position n s) other good y.0).0,
          z.0,
          z.1,
        )
      where
        reads : (position : Position) (n : ℕ) (r s : Result (List ℕ) AccessFault) → HappensInOrder plan old (Read position n r) new was now
            → HappensInOrder plan old (Read position n s) other was next → (new ≡ other) × (now ≡ next)
        reads position n (Ok out) (Ok text) x y = both_stay x.0.1 x.1 y.0.1 y.1
        reads position n (Ok out) (Err f) x y = both_stay x.0.1 x.1 y.0.1 y.1
        reads position n (Err e) (Ok text) x y = both_stay x.0.1 x.1 y.0.1 y.1
        reads position n (Err e) (Err f) x y = both_stay x.0.1 x.1 y.0.1 y.1
