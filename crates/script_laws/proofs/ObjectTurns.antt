-- Sessions over any heap of objects: each command keeps the run in progress, and changes the ids and their objects as its reply shows; each command has a
-- reply; and the replies to `m`, `f`, `w` and `r`, and the objects by id after them, follow from the objects by id before them.
use Rattle.std.proofs.Common.{◌≡◌, ◌∙◌, ◌+◌, ◌≤◌, ◌<◌, ℕ, List, length, Some, None, true, false, replicate, sym, ap, refl, subst, inl, inr, ◌++◌, take, drop, cond, arith, Option, Result, Ok, Err, codes}
use Rattle.std.specs.Option.{MatchOption}
use Rattle.run_model.specs.Terms.{AccessFault, AreBytes, AreInRange, Command, empty, get, Handle, Ids, insert, Objects, Position, Profile, Refusal, remove, Reply, said, written}
use Rattle.id_table.specs.Ties.{AreTiedTo}
use Rattle.script_laws.specs.ObjectRun.{Calls, FreesId, IsGoingObjects, MallocsId, ObjectRun, ObjectStep, WritesId, ids_without, object_run, object_bytes}
use Rattle.run_model.specs.Replies.{malloc_text, write_text}
use Rattle.run_model.specs.Steps.{Stays, ids_given}
use Rattle.script_laws.specs.IdBytes.{is_ok, read_shown}
use Rattle.script_laws.proofs.NamedTurns.{IsSame, Named, NamedTurn, NamesObjects, refuses, same_named, still_tied, through}
use Rattle.hex.specs.Hex.{encode_lower}
use Rattle.cf_base.proofs.Tests.{le_no, le_yes}
use Rattle.script_laws.specs.ValidItems.{IsValidCommand}
use Rattle.script_laws.proofs.RunsExist.{CanGoOn}
use Rattle.std.proofs.lemmas.Option.{same_Some}
use Rattle.run_model.specs.ById.{objects_by_id}
use Rattle.run_model.proofs.CallerLemmas.{by_id_changed, by_id_given, by_id_gone, gone_by_id, live_by_id}
use Rattle.script_laws.specs.RepliesById.{ok_or, put_unless, write_fault, write_leaves, write_said}
use Rattle.cf_base.specs.declared.results.AccessFault.TheVariants as access
use Rattle.script_reader.specs.declared.command.Command.TheVariants as command

-- For a session over any heap of objects: if the calls of the heap change its map of objects as they should (`KeepsObjects`), each command keeps the run in
-- progress, and changes the ids and their objects as its reply shows.

-- the cause of each fault of a read or a write of `count` bytes
abbrev pub IsAccessFault : Objects → Position → ℕ → AccessFault → Type 0
IsAccessFault o p count access.Unknown = get o p.number ≡ None
IsAccessFault o p count access.Range = (v : List ℕ) × (get o p.number ≡ Some v) × (length v < p.from + count)

-- what a malloc, a free and a write with this result do to the map of objects
abbrev pub MallocsOn : {R : Type 0} → Objects → ℕ → Result Handle R → Objects → Type 0
MallocsOn old n (Ok h) new = (get old h.0 ≡ None) × (new ≡ insert old h.0 (replicate n 0))
MallocsOn old n (Err e) new = new ≡ old

abbrev pub FreesOn : {F : Type 0} → Objects → ℕ → Option F → Objects → Type 0
FreesOn old h None new = new ≡ remove old h
FreesOn old h (Some e) new = new ≡ old

abbrev pub WritesOn : Objects → Position → List ℕ → Result Unit AccessFault → Objects → Type 0
WritesOn old p bytes (Ok u) new = (v : List ℕ) × (get old p.number ≡ Some v) × (p.from + length bytes ≤ length v)
    × (new ≡ insert old p.number (written v p.from bytes))
WritesOn old p bytes (Err e) new = IsAccessFault old p (length bytes) e × (new ≡ old)

-- The rules of the calls of a heap that is ready: each changes the map of objects as its result says and leaves the heap ready, and only a call that isn't
-- refused has the reply `ok`. `Stay old new` is what else each call keeps, for instance the settings.
pub record KeepsObjects {S R F : Type 0} (calls : Calls S R F) (Stay : S → S → Type 0) : Type 0 where
  pub ready : (old new : S) → Stay old new → calls.is_ready new
  pub same : (s : S) → calls.is_ready s → Stay s s
  pub mallocs : (old new : S) (n : ℕ) (answer : Result Handle R) → calls.is_ready old → calls.mallocs old n answer new
      → MallocsOn (calls.objects old) n answer (calls.objects new) × Stay old new
  pub frees : (old new : S) (h : ℕ) (answer : Option F) → calls.is_ready old → calls.frees old h answer new
      → FreesOn (calls.objects old) h answer (calls.objects new) × Stay old new
  pub writes : (old new : S) (p : Position) (bytes : List ℕ) (answer : Result Unit AccessFault) → calls.is_ready old → calls.writes old p bytes answer new
      → WritesOn (calls.objects old) p bytes answer (calls.objects new) × Stay old new
  pub others : (old new : ObjectRun S) (c : Command) (reply : Reply) → calls.is_ready old.heap → calls.others old c reply new
      → (new.ids ≡ old.ids) × (calls.objects new.heap ≡ calls.objects old.heap) × Stay old.heap new.heap
  pub given : (h : Handle) → is_ok (said (calls.malloc_text (Ok h))) ≡ true
  pub refused : (e : R) → is_ok (said (calls.malloc_text (Err e))) ≡ false
  pub freed : is_ok (said (calls.free_text None)) ≡ true
  pub kept : (e : F) → is_ok (said (calls.free_text (Some e))) ≡ false

-- refusals have other replies than `ok`
write_refused : (e : AccessFault) → is_ok (said (write_text (Err e))) ≡ false
write_refused access.Unknown = refl
write_refused access.Range = refl

module _ {S R F : Type 0} (calls : Calls S R F) where
  -- the ids and the objects of a run
  abbrev pub named : ObjectRun S → Named
  named s = record { ids = s.ids; objects = calls.objects s.heap }

  -- a session with these ids over a ready heap whose objects they name is in progress
  pub going_before : (ids inside : Ids) (heap : S) → ids ≡ inside → calls.is_ready heap → AreTiedTo ids (calls.objects heap) → IsGoingObjects calls (object_run inside heap)
  going_before ids inside heap same ready tied =
      record { ready = ready; tied = subst (λ (i : Ids). AreTiedTo i (calls.objects heap)) same tied }

  module _ {Stay : S → S → Type 0} (rules : KeepsObjects calls Stay) (old new : ObjectRun S) (ready : calls.is_ready old.heap) (reply : Reply) where
    abbrev Turn : Command → Type 0
    Turn c = NamedTurn (named old) c reply (named new) × Stay old.heap new.heap

    malloc_turn : (id n : ℕ) → get old.ids id ≡ None → MallocsId calls old id n reply new → Turn (command.Malloc id n)
    malloc_turn id n free m = go m.answer (rules.mallocs old.heap new.heap n m.answer ready m.step) m.ids m.reply_is
      where
        go : (answer : Result Handle R) → MallocsOn (calls.objects old.heap) n answer (calls.objects new.heap) × Stay old.heap new.heap
            → new.ids ≡ ids_given old.ids id answer → reply ≡ said (calls.malloc_text answer) → Turn (command.Malloc id n)
        go (Ok h) ((unused, on), stay) e is =
            (inl (record { handle = h.0; shown = ap is_ok is ∙ rules.given h; free = free; unused = unused; ids = e; objects = on }), stay)
        go (Err f) (on, stay) e is = (inr (refuses (calls.malloc_text (Err f)) (rules.refused f) is (record { ids = e; objects = on })), stay)

    free_turn : (id h : ℕ) → get old.ids id ≡ Some h → FreesId calls old id h reply new → Turn (command.Free id)
    free_turn id h live m = go m.answer (rules.frees old.heap new.heap h m.answer ready m.step) m.ids m.reply_is
      where
        go : (answer : Option F) → FreesOn (calls.objects old.heap) h answer (calls.objects new.heap) × Stay old.heap new.heap
            → new.ids ≡ ids_without old.ids id answer → reply ≡ said (calls.free_text answer) → Turn (command.Free id)
        go None (on, stay) e is = (inl (record { handle = h; shown = ap is_ok is ∙ rules.freed; live = live; ids = e; objects = on }), stay)
        go (Some f) (on, stay) e is = (inr (refuses (calls.free_text (Some f)) (rules.kept f) is (record { ids = e; objects = on })), stay)

    write_turn : (id h from : ℕ) (bytes : List ℕ) → get old.ids id ≡ Some h → WritesId calls old (record { number = h; from = from }) bytes reply new
        → Turn (command.Write id from bytes)
    write_turn id h from bytes live m = go m.answer (rules.writes old.heap new.heap (record { number = h; from = from }) bytes m.answer ready m.step) m.reply_is
      where
        go : (answer : Result Unit AccessFault)
            → WritesOn (calls.objects old.heap) (record { number = h; from = from }) bytes answer (calls.objects new.heap) × Stay old.heap new.heap
            → reply ≡ said (write_text answer) → Turn (command.Write id from bytes)
        go (Ok u) ((v, found, fits, on), stay) is =
            (inl (record { handle = h; bytes = v; shown = ap is_ok is; live = live; found = found; ids = m.ids; objects = on }), stay)
        go (Err f) ((cause, on), stay) is = (inr (refuses (write_text (Err f)) (write_refused f) is (record { ids = m.ids; objects = on })), stay)

    unmoved : new ≡ old → IsSame (named old) (named new) × Stay old.heap new.heap
    unmoved same = (same_named named same, subst (λ (s : ObjectRun S). Stay old.heap s.heap) (sym same) (rules.same old.heap ready))

    bytes_same : (o : Option ℕ)
        → elim o as (λ _. Option (List ℕ)) [ None ↦ None | Some h ↦ get (calls.objects old.heap) h ] ≡ through (calls.objects old.heap) o
    bytes_same None = refl
    bytes_same (Some h) = refl

    other_turn : (c : Command) → calls.others old c reply new → IsSame (named old) (named new) × Stay old.heap new.heap
    other_turn c step = (let o = rules.others old new c reply ready step in (record { ids = o.0; objects = o.1 }, o.2))

    -- what a command does to the ids and the objects that they name, and what else it keeps
    pub turn : (c : Command) → ObjectStep calls old c reply new → Turn c
    turn (command.Malloc id n) step = go (get old.ids id) refl step
      where
        go : (o : Option ℕ) → get old.ids id ≡ o → MatchOption o (MallocsId calls old id n reply new) (λ h. Stays old (codes "live") reply new)
            → Turn (command.Malloc id n)
        go None free m = malloc_turn id n free m
        go (Some h) live st = (let u = unmoved st.1 in (inr (refuses (codes "live") refl st.0 u.0), u.1))
    turn (command.Free id) step = go (get old.ids id) refl step
      where
        go : (o : Option ℕ) → get old.ids id ≡ o → MatchOption o (Stays old (codes "unknown") reply new) (λ h. FreesId calls old id h reply new)
            → Turn (command.Free id)
        go None free st = (let u = unmoved st.1 in (inr (refuses (codes "unknown") refl st.0 u.0), u.1))
        go (Some h) live m = free_turn id h live m
    turn (command.Write id from bytes) step = go (get old.ids id) refl step
      where
        go : (o : Option ℕ) → get old.ids id ≡ o
            → MatchOption o (Stays old (codes "unknown") reply new) (λ h. WritesId calls old (record { number = h; from = from }) bytes reply new)
            → Turn (command.Write id from bytes)
        go None free st = (let u = unmoved st.1 in (inr (refuses (codes "unknown") refl st.0 u.0), u.1))
        go (Some h) live m = write_turn id h from bytes live m
    turn (command.Read id from count) step =
        let u = unmoved step.1 in
        ((step.0 ∙ ap (λ (o : Option (List ℕ)). said (read_shown o from count)) (bytes_same (get old.ids id)), u.0), u.1)
    turn (command.Resize id n) step = (let u = unmoved step.1 in (inr (refuses (codes "none") refl step.0 u.0), u.1))
    turn c step = other_turn c step

  module _ {Stay : S → S → Type 0} (rules : KeepsObjects calls Stay) where
    -- the run stays in progress
    pub still_going : (old new : ObjectRun S) (c : Command) (reply : Reply) → IsGoingObjects calls old → ObjectStep calls old c reply new → IsGoingObjects calls new
    still_going old new c reply going step =
        let t = turn rules old new going.ready reply c step in
        record { ready = rules.ready old.heap new.heap t.1; tied = still_tied (named old) (named new) going.tied c reply t.0 }

    -- a run is one whose ids name objects, if it begins without ids
    pub names_objects : (begins : Profile → Reply → ObjectRun S → Type 0) → ((p : Profile) (reply : Reply) (s : ObjectRun S) → begins p reply s → IsGoingObjects calls s)
        → ((p : Profile) (reply : Reply) (s : ObjectRun S) → begins p reply s → s.ids ≡ empty) → NamesObjects begins (ObjectStep calls)
    names_objects begins going none = record {
      is_going = IsGoingObjects calls;
      named = named;
      tied = λ s going. going.tied;
      begins_going = going;
      begins_empty = none;
      still_going = λ old c reply new going step. still_going old new c reply going step;
      turns_named = λ old c reply new going step. (turn rules old new going.ready reply c step).0;
    }

-- The reply to a read by each of its three cases: the id isn't live, the bytes are read, or the heap refuses.

module _ {S R F : Type 0} (calls : Calls S R F) (run : ObjectRun S) (id from count : ℕ) where
  abbrev text : Option (List ℕ) → List ℕ
  text o = read_shown o from count

  bytes_at : (o : Option ℕ) → o ≡ get run.ids id
      → object_bytes calls run id ≡ elim o as (λ _. Option (List ℕ)) [ None ↦ None | Some h ↦ get (calls.objects run.heap) h ]
  bytes_at o is = ap (λ (o : Option ℕ). elim o as (λ _. Option (List ℕ)) [ None ↦ None | Some h ↦ get (calls.objects run.heap) h ]) (sym is)

  pub read_unknown : None ≡ get run.ids id → read_shown (object_bytes calls run id) from count ≡ codes "unknown"
  read_unknown is = ap text (bytes_at None is)

  module _ (h : ℕ) (is : Some h ≡ get run.ids id) where
    pub read_said : (v out : List ℕ) → get (calls.objects run.heap) h ≡ Some v → from + count ≤ length v → out ≡ take count (drop from v)
        → read_shown (object_bytes calls run id) from count ≡ codes "=" ++ encode_lower out
    read_said v out found within value =
        ap text (bytes_at (Some h) is ∙ found) ∙ rw (le_yes (from + count) (length v) within) (ap (λ (b : List ℕ). codes "=" ++ encode_lower b) (sym value))

    pub read_fault : (e : AccessFault) → IsAccessFault (calls.objects run.heap) (record { number = h; from = from }) count e
        → read_shown (object_bytes calls run id) from count ≡ write_text (Err e)
    read_fault access.Unknown none = ap text (bytes_at (Some h) is ∙ none)
    read_fault access.Range (v, found, past) = ap text (bytes_at (Some h) is ∙ found) ∙ rw (le_no (from + count) (length v) past) refl

-- For a session over any heap of objects: if each call of a heap that is ready has a result and a heap after it (`HasCalls`), each command has a reply, and a
-- run can always go on.

-- each call of a heap that is ready has a result and a heap after it: a malloc, a free of a live object, a write into one; and so has each other command
pub record HasCalls {S R F : Type 0} (calls : Calls S R F) : Type 0 where
  pub malloc : (s : S) (n : ℕ) → calls.is_ready s → (answer : Result Handle R) × (new : S) × calls.mallocs s n answer new
  pub free : (s : S) (h : ℕ) (v : List ℕ) → calls.is_ready s → get (calls.objects s) h ≡ Some v → (answer : Option F) × (new : S) × calls.frees s h answer new
  pub write : (s : S) (p : Position) (bytes v : List ℕ) → calls.is_ready s → get (calls.objects s) p.number ≡ Some v → AreBytes bytes → 1 ≤ length bytes
      → length bytes ≤ 4096 → (answer : Result Unit AccessFault) × (new : S) × calls.writes s p bytes answer new
  pub other : (s : ObjectRun S) (c : Command) → calls.is_ready s.heap → (reply : Reply) × (new : ObjectRun S) × calls.others s c reply new

-- a reply, and the state after it
record HasAnswer (S : Type 0) (R : Reply → ObjectRun S → Type 0) : Type 0 where
  reply : Reply
  new : ObjectRun S
  done : R reply new

module _ {S R F : Type 0} (calls : Calls S R F) (there : HasCalls calls) (old : ObjectRun S) (going : IsGoingObjects calls old) where
  malloc_at : (o : Option ℕ) (id n : ℕ) → HasAnswer S (λ reply new. MatchOption o (MallocsId calls old id n reply new) (λ h. Stays old (codes "live") reply new))
  malloc_at (Some h) id n = record { reply = said (codes "live"); new = old; done = (refl, refl) }
  malloc_at None id n =
      let m = there.malloc old.heap n going.ready in
      record {
        reply = said (calls.malloc_text m.0);
        new = record { ids = ids_given old.ids id m.0; heap = m.1 };
        done = record { answer = m.0; step = m.2; ids = refl; reply_is = refl };
      }

  free_at : (o : Option ℕ) (id : ℕ) → get old.ids id ≡ o
      → HasAnswer S (λ reply new. MatchOption o (Stays old (codes "unknown") reply new) (λ h. FreesId calls old id h reply new))
  free_at None id is = record { reply = said (codes "unknown"); new = old; done = (refl, refl) }
  free_at (Some h) id is =
      let x = going.tied.named id h is in
      let f = there.free old.heap h x.0 going.ready x.1 in
      record {
        reply = said (calls.free_text f.0);
        new = record { ids = ids_without old.ids id f.0; heap = f.1 };
        done = record { answer = f.0; step = f.2; ids = refl; reply_is = refl };
      }

  write_at : (o : Option ℕ) (id from : ℕ) (bytes : List ℕ) → IsValidCommand (command.Write id from bytes) → get old.ids id ≡ o
      → HasAnswer S (λ reply new. MatchOption o (Stays old (codes "unknown") reply new)
      (λ h. WritesId calls old (record { number = h; from = from }) bytes reply new))
  write_at None id from bytes can is = record { reply = said (codes "unknown"); new = old; done = (refl, refl) }
  write_at (Some h) id from bytes can is =
      let x = going.tied.named id h is in
      let w = there.write old.heap (record { number = h; from = from }) bytes x.0 going.ready x.1 can.bytes can.formed.0 can.formed.1 in
      record {
        reply = said (write_text w.0);
        new = record { ids = old.ids; heap = w.1 };
        done = record { answer = w.0; step = w.2; ids = refl; reply_is = refl };
      }

  other_at : (c : Command) → HasAnswer S (calls.others old c)
  other_at c = (let o = there.other old c going.ready in record { reply = o.0; new = o.1; done = o.2 })

  step_there : (c : Command) → IsValidCommand c → HasAnswer S (ObjectStep calls old c)
  step_there (command.Malloc id n) can = malloc_at (get old.ids id) id n
  step_there (command.Free id) can = free_at (get old.ids id) id refl
  step_there (command.Write id from bytes) can = write_at (get old.ids id) id from bytes can refl
  step_there (command.Read id from count) can =
      record { reply = said (read_shown (object_bytes calls old id) from count); new = old; done = (refl, refl) }
  step_there (command.Resize id n) can = record { reply = said (codes "none"); new = old; done = (refl, refl) }
  step_there c can = other_at c

-- every command of the grammar has a reply
pub object_step_exists : {S R F : Type 0} (calls : Calls S R F) → HasCalls calls → (old : ObjectRun S) (c : Command) → IsGoingObjects calls old → IsValidCommand c
    → (reply : Reply) × (new : ObjectRun S) × ObjectStep calls old c reply new
object_step_exists calls there old c going can = (let s = step_there calls there old going c can in (s.reply, s.new, s.done))

-- a run can be continued after each command
abbrev pub can_go_on : {S R F : Type 0} (calls : Calls S R F) {Stay : S → S → Type 0} → KeepsObjects calls Stay → HasCalls calls
    → (begins : Profile → Reply → ObjectRun S → Type 0) → ((p : Profile) (reply : Reply) (s : ObjectRun S) → begins p reply s → IsGoingObjects calls s)
    → ((p : Profile) → AreInRange p → (reply : Reply) × (s : ObjectRun S) × begins p reply s) → CanGoOn begins (ObjectStep calls)
can_go_on calls rules there begins going begin_exists = record {
  is_going = IsGoingObjects calls;
  begins_going = going;
  still_going = λ old c reply new going can step. still_going calls rules old new c reply going step;
  begin_exists = begin_exists;
  step_exists = object_step_exists calls there;
}

-- For the claims of the modes: the replies to `m`, `f`, `w` and `r`, and the objects by id after them, follow from the objects by id before them.

-- why a malloc was refused; None if it wasn't
abbrev pub refused : {R : Type 0} → Result Handle R → Option R
refused (Ok h) = None
refused (Err e) = Some e

-- the reply to `m`, by the cause of a refusal
pub malloc_text_by : (answer : Result Handle Refusal) → malloc_text answer ≡ ok_or (λ e. malloc_text (Err e)) (refused answer)
malloc_text_by (Ok h) = refl
malloc_text_by (Err e) = refl

-- the objects by id after a free with this fault
abbrev pub taken_unless : {F : Type 0} → Option F → Objects → ℕ → Objects
taken_unless None o id = remove o id
taken_unless (Some e) o id = o

-- a free that no heap refuses
pub always_taken : (fault : Option ⊥) (o : Objects) (id : ℕ) → taken_unless fault o id ≡ remove o id
always_taken None o id = refl
always_taken (Some e) o id = absurd e

module _ {S R F : Type 0} (calls : Calls S R F) where
  -- the objects of a run by id
  abbrev pub by_id : ObjectRun S → Objects
  by_id s = objects_by_id s.ids (calls.objects s.heap)

  module _ (old : ObjectRun S) (going : IsGoingObjects calls old) where
    abbrev m : Objects
    m = calls.objects old.heap

    pub gone : (id : ℕ) → get old.ids id ≡ None → get (by_id old) id ≡ None
    gone id none = gone_by_id old.ids m id none

    pub found : (id h : ℕ) → get old.ids id ≡ Some h → (v : List ℕ) × (get m h ≡ Some v) × (get (by_id old) id ≡ Some v)
    found id h named = (let v = going.tied.named id h named in (v.0, v.1, live_by_id old.ids m id h v.0 named v.1))

    -- `r`: the bytes of an id
    pub bytes_by_id : (id : ℕ) → object_bytes calls old id ≡ get (by_id old) id
    bytes_by_id id = go (get old.ids id) refl
      where
        go : (o : Option ℕ) → get old.ids id ≡ o → elim o as (λ _. Option (List ℕ)) [ None ↦ None | Some h ↦ get m h ] ≡ get (by_id old) id
        go None none = sym (gone id none)
        go (Some h) named = (let v = found id h named in v.1 ∙ sym v.2)

  module _ {Stay : S → S → Type 0} (rules : KeepsObjects calls Stay) (old new : ObjectRun S) (going : IsGoingObjects calls old) (reply : Reply) where
    -- `m`: the id is live, or the heap did a malloc
    pub malloc_by_id : {C : Type 0} (id n : ℕ) → ObjectStep calls old (command.Malloc id n) reply new
        → ((v : List ℕ) → get (by_id old) id ≡ Some v → Stays old (codes "live") reply new → C)
        → (get (by_id old) id ≡ None → (s : MallocsId calls old id n reply new) → by_id new ≡ put_unless (refused s.answer) (by_id old) id (replicate n 0) → C)
        → C
    malloc_by_id {C = C} id n step live made = go (get old.ids id) refl step
      where
        left : (answer : Result Handle R) → MallocsOn (calls.objects old.heap) n answer (calls.objects new.heap) → new.ids ≡ ids_given old.ids id answer
            → by_id new ≡ put_unless (refused answer) (by_id old) id (replicate n 0)
        left (Ok h) (unused, on) ids = (λ i. objects_by_id (ids i) (on i)) ∙ by_id_given old.ids (calls.objects old.heap) going.tied id h.0 (replicate n 0) unused
        left (Err e) on ids = λ i. objects_by_id (ids i) (on i)

        go : (o : Option ℕ) → get old.ids id ≡ o → MatchOption o (MallocsId calls old id n reply new) (λ h. Stays old (codes "live") reply new) → C
        go None none s = made (gone old going id none) s (left s.answer (rules.mallocs old.heap new.heap n s.answer going.ready s.step).0 s.ids)
        go (Some h) named s = (let v = found old going id h named in live v.0 v.2 s)

    -- `f`: the id isn't live, or the heap did a free
    pub free_by_id : {C : Type 0} (id : ℕ) → ObjectStep calls old (command.Free id) reply new
        → (get (by_id old) id ≡ None → Stays old (codes "unknown") reply new → C)
        → ((h : ℕ) (v : List ℕ) → get (calls.objects old.heap) h ≡ Some v → get (by_id old) id ≡ Some v → (s : FreesId calls old id h reply new)
        → by_id new ≡ taken_unless s.answer (by_id old) id → C) → C
    free_by_id {C = C} id step unknown freed = go (get old.ids id) refl step
      where
        left : (h : ℕ) → get old.ids id ≡ Some h → (fault : Option F) → FreesOn (calls.objects old.heap) h fault (calls.objects new.heap) → new.ids ≡ ids_without old.ids id fault
            → by_id new ≡ taken_unless fault (by_id old) id
        left h named None on ids = (λ i. objects_by_id (ids i) (on i)) ∙ by_id_gone old.ids (calls.objects old.heap) going.tied id h named
        left h named (Some e) on ids = λ i. objects_by_id (ids i) (on i)

        go : (o : Option ℕ) → get old.ids id ≡ o → MatchOption o (Stays old (codes "unknown") reply new) (λ h. FreesId calls old id h reply new) → C
        go None none s = unknown (gone old going id none) s
        go (Some h) named s =
            let v = found old going id h named in
            freed h v.0 v.1 v.2 s (left h named s.answer (rules.frees old.heap new.heap h s.answer going.ready s.step).0 s.ids)

    -- `w`
    module _ (id from : ℕ) (bytes : List ℕ) where
      abbrev Written : Option (List ℕ) → Type 0
      Written o = (reply ≡ said (write_said o from (length bytes))) × (by_id new ≡ write_leaves o (by_id old) (record { id = id; at = from; bytes = bytes }))

      by_fault : (v : List ℕ) (f : Option AccessFault) → write_fault v from (length bytes) ≡ f → reply ≡ said (ok_or (λ e. write_text (Err e)) f)
          → by_id new ≡ put_unless f (by_id old) id (written v from bytes) → Written (Some v)
      by_fault v f is r l =
          (r ∙ ap (λ x. said (ok_or (λ e. write_text (Err e)) x)) (sym is), l ∙ ap (λ x. put_unless x (by_id old) id (written v from bytes)) (sym is))

      written_live : (h : ℕ) (v : List ℕ) → get old.ids id ≡ Some h → get (calls.objects old.heap) h ≡ Some v → (answer : Result Unit AccessFault)
          → WritesOn (calls.objects old.heap) (record { number = h; from = from }) bytes answer (calls.objects new.heap) → new.ids ≡ old.ids
          → reply ≡ said (write_text answer) → Written (Some v)
      written_live h v named there (Ok u) (w, some, fits, on) ids r =
          let same = same_Some w v (sym some ∙ there) in
          let len = ap (λ (b : List ℕ). length b) same in
          let within : from + length bytes ≤ length v = omega arith in
          by_fault v None (ap (λ b. cond b None (Some access.Range)) (le_yes (from + length bytes) (length v) within)) r ((λ i. objects_by_id (ids i) (on i))
          ∙ ap (λ (b : List ℕ). objects_by_id old.ids (insert (calls.objects old.heap) h (written b from bytes))) same
          ∙ by_id_changed old.ids (calls.objects old.heap) going.tied id h named (written v from bytes))
      written_live h v named there (Err access.Unknown) (none, on) ids r = absurd (let e : Some v ≡ None = sym there ∙ none in cc)
      written_live h v named there (Err access.Range) ((w, some, beyond), on) ids r =
          let len = ap (λ (b : List ℕ). length b) (same_Some w v (sym some ∙ there)) in
          let past : length v < from + length bytes = omega arith in
          by_fault v (Some access.Range) (ap (λ b. cond b None (Some access.Range)) (le_no (from + length bytes) (length v) past)) r
          (λ i. objects_by_id (ids i) (on i))

      pub write_by_id : ObjectStep calls old (command.Write id from bytes) reply new → Written (get (by_id old) id)
      write_by_id step = go (get old.ids id) refl step
        where
          go : (o : Option ℕ) → get old.ids id ≡ o
              → MatchOption o (Stays old (codes "unknown") reply new) (λ h. WritesId calls old (record { number = h; from = from }) bytes reply new)
              → Written (get (by_id old) id)
          go None none s = subst Written (sym (gone old going id none)) (s.0, ap by_id s.1)
          go (Some h) named s =
              let v = found old going id h named in
              let on = (rules.writes old.heap new.heap (record { number = h; from = from }) bytes s.answer going.ready s.step).0 in
              subst Written (sym v.2) (written_live h v.0 named v.1 s.answer on s.ids s.reply_is)
