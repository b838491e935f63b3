-- For `one_sliced_output`: two runs over one script in mode `slice` have the same replies, with each word that `p` prints, and end in the same state.
use Rattle.std.proofs.Common.{◌≡◌, ℕ, List, [], ◌∷◌, Option, Some, None, length, sym, ◌∙◌, ap, refl, subst, Result, Ok, Err, codes, option_map}
use Rattle.std.specs.Option.{MatchOption}
use Rattle.run_model.specs.Terms.{AccessFault, asks, bad, Command, get, Item, Position, Profile, Reply, said, starts, with_number}
use Rattle.run_model.specs.Plays.{IsAt, PlayRun, PlayStep}
use Rattle.script_loop.specs.Semantics.{RunBy}
use Rattle.script_reader.specs.declared.command.Command.TheVariants as command
use Rattle.slice_model.specs.State.{Plan, left_of}
use Rattle.slice_model.specs.Runs.{HeapWithWords}
use Rattle.slice_model.proofs.CallerLemmas.{one_free, one_malloc, one_slice, one_write}
use Rattle.sliced_heap.specs.Access.{access_fault}
use Rattle.sliced_heap.specs.Shown.{SlicedState, StaysSlicedOpen, plan_in, working_in}
use Rattle.slice_session.specs.Playing.{BeginsSliced, BeginsSlices, RunsSliced, SlicePlay, run_of_play, slices}
use Rattle.script_laws.specs.ObjectRun.{FreesId, MallocsId, WritesId, ids_without}
use Rattle.slice_session.specs.SliceRun.{IsGoingSliced, SliceRun, SliceStep, StepsSliced}
use Rattle.run_model.specs.Replies.{write_text}
use Rattle.run_model.specs.Steps.{Stays, ids_given}
use Rattle.slice_session.specs.SliceRun.{slice_free_text, slice_malloc_text, sliced_calls}
use Rattle.slice_session.proofs.RunInvariant.{begins_going, play_seen, sliced_keeps}
use Rattle.script_laws.proofs.CallerLemmas.{still_going}

same_heap : (old a b : SlicedState) → StaysSlicedOpen old a → StaysSlicedOpen old b → working_in a ≡ working_in b → a.order ≡ b.order → b ≡ a
same_heap old a b x y w order = λ i. record {
  is_open = (y.is_open ∙ sym x.is_open) i;
  profile = (y.profile ∙ sym x.profile) i;
  quantum = (y.quantum ∙ sym x.quantum) i;
  held = (ap (λ (v : HeapWithWords). v.state.held) (sym w)) i;
  job = (ap (λ (v : HeapWithWords). v.state.job) (sym w)) i;
  words = (ap (λ (v : HeapWithWords). v.words) (sym w)) i;
  order = (sym order) i;
}

same_run : (a b : SliceRun) → b.ids ≡ a.ids → b.heap ≡ a.heap → b ≡ a
same_run a b e f = λ i. record { ids = e i; heap = f i }

-- the reply to a write, by its fault
abbrev fault_text : Option AccessFault → List ℕ
fault_text None = codes "ok"
fault_text (Some e) = write_text (Err e)

text_is : (answer : Result Unit AccessFault) → write_text answer ≡ fault_text (access_fault answer)
text_is (Ok u) = refl
text_is (Err e) = refl

-- ---- one command

module _ (old new next : SliceRun) (going : IsGoingSliced old) where
  abbrev Same : Reply → Reply → Type 0
  Same reply other = (other ≡ reply) × (next ≡ new)

  abbrev plan : Plan
  plan = plan_in old.heap

  words_long : StaysSlicedOpen old.heap new.heap → StaysSlicedOpen old.heap next.heap → length new.heap.words ≡ length next.heap.words
  words_long a b = a.region ∙ sym b.region

  malloc_once : (id n : ℕ) (reply other : Reply) → MallocsId sliced_calls old id n reply new → MallocsId sliced_calls old id n other next → Same reply other
  malloc_once id n reply other g f =
      let (answer, working, order) = one_malloc plan going.ready.rules.plan (working_in old.heap) (working_in new.heap) (working_in next.heap) old.heap.order
      new.heap.order next.heap.order going.ready.rules.consistent (words_long g.step.stays f.step.stays) n g.answer f.answer g.step.ordered f.step.ordered in (
        f.reply_is ∙ ap (λ a. said (slice_malloc_text a)) (sym answer) ∙ sym g.reply_is,
        same_run new next (f.ids ∙ ap (ids_given old.ids id) (sym answer) ∙ sym g.ids)
            (same_heap old.heap new.heap next.heap g.step.stays f.step.stays working order),
      )

  free_once : (id h : ℕ) (reply other : Reply) → FreesId sliced_calls old id h reply new → FreesId sliced_calls old id h other next → Same reply other
  free_once id h reply other g f =
      let (answer, working, order) = one_free plan going.ready.rules.plan (working_in old.heap) (working_in new.heap) (working_in next.heap) old.heap.order
      new.heap.order next.heap.order going.ready.rules.consistent (words_long g.step.stays f.step.stays) h g.answer f.answer g.step.ordered f.step.ordered in (
        f.reply_is ∙ ap (λ a. said (slice_free_text a)) (sym answer) ∙ sym g.reply_is,
        same_run new next (f.ids ∙ ap (ids_without old.ids id) (sym answer) ∙ sym g.ids)
            (same_heap old.heap new.heap next.heap g.step.stays f.step.stays working order),
      )

  slice_once : (reply other : Reply) → StepsSliced old reply new → StepsSliced old other next → Same reply other
  slice_once reply other g f =
      let (working, order) = one_slice plan going.ready.rules.plan (working_in old.heap) (working_in new.heap) (working_in next.heap) old.heap.order
      new.heap.order next.heap.order going.ready.rules.consistent (words_long g.does.stays f.does.stays) g.does.ordered f.does.ordered in
      let heap = same_heap old.heap new.heap next.heap g.does.stays f.does.stays working order in (
        f.reply_is ∙ ap (λ (h : SlicedState). said (with_number (codes "left ") (left_of (plan_in h) (working_in h).state))) heap ∙ sym g.reply_is,
        same_run new next (f.ids ∙ sym g.ids) heap,
      )

  write_once : (position : Position) (bytes : List ℕ) (reply other : Reply) → WritesId sliced_calls old position bytes reply new
      → WritesId sliced_calls old position bytes other next → Same reply other
  write_once position bytes reply other g f =
      let (answer, working, order) = one_write plan going.ready.rules.plan (working_in old.heap) (working_in new.heap) (working_in next.heap) old.heap.order
      new.heap.order next.heap.order going.ready.rules.consistent (words_long g.step.stays f.step.stays)
      (record { number = position.number; from = position.from }) bytes (access_fault g.answer) (access_fault f.answer) g.step.ordered f.step.ordered in (
        f.reply_is ∙ ap said (text_is f.answer ∙ ap fault_text (sym answer) ∙ sym (text_is g.answer)) ∙ sym g.reply_is,
        same_run new next (f.ids ∙ sym g.ids) (same_heap old.heap new.heap next.heap g.step.stays f.step.stays working order),
      )

  stays_once : (text : List ℕ) (reply other : Reply) → Stays old text reply new → Stays old text other next → Same reply other
  stays_once text reply other g f = (f.0 ∙ sym g.0, f.1 ∙ sym g.1)

  malloc_at : (o : Option ℕ) (id n : ℕ) (reply other : Reply)
      → MatchOption o (MallocsId sliced_calls old id n reply new) (λ h. Stays old (codes "live") reply new)
      → MatchOption o (MallocsId sliced_calls old id n other next) (λ h. Stays old (codes "live") other next) → Same reply other
  malloc_at None id n reply other g f = malloc_once id n reply other g f
  malloc_at (Some h) id n reply other g f = stays_once (codes "live") reply other g f

  free_at : (o : Option ℕ) (id : ℕ) (reply other : Reply)
      → MatchOption o (Stays old (codes "unknown") reply new) (λ h. FreesId sliced_calls old id h reply new)
      → MatchOption o (Stays old (codes "unknown") other next) (λ h. FreesId sliced_calls old id h other next) → Same reply other
  free_at None id reply other g f = stays_once (codes "unknown") reply other g f
  free_at (Some h) id reply other g f = free_once id h reply other g f

  write_at : (o : Option ℕ) (from : ℕ) (bytes : List ℕ) (reply other : Reply)
      → MatchOption o (Stays old (codes "unknown") reply new) (λ h. WritesId sliced_calls old (record { number = h; from = from }) bytes reply new)
      → MatchOption o (Stays old (codes "unknown") other next) (λ h. WritesId sliced_calls old (record { number = h; from = from }) bytes other next) → Same reply other
  write_at None from bytes reply other g f = stays_once (codes "unknown") reply other g f
  write_at (Some h) from bytes reply other g f = write_once (record { number = h; from = from }) bytes reply other g f

  one_step : (c : Command) (reply other : Reply) → SliceStep old c reply new → SliceStep old c other next → Same reply other
  one_step (command.Malloc id n) reply other g f = malloc_at (get old.ids id) id n reply other g f
  one_step (command.Free id) reply other g f = free_at (get old.ids id) id reply other g f
  one_step (command.Write id from bytes) reply other g f = write_at (get old.ids id) from bytes reply other g f
  one_step command.Slice reply other g f = slice_once reply other g f
  one_step _ reply other g f = (f.0 ∙ sym g.0, f.1 ∙ sym g.1)

-- ---- many items

begun_once : (quantum : ℕ) (p : Profile) (new next : SliceRun) → BeginsSliced quantum p new → BeginsSliced quantum p next → next ≡ new
begun_once quantum p new next g f = same_run new next (f.ids ∙ sym g.ids) (f.heap ∙ sym g.heap)

module _ (quantum : ℕ) where
  -- two runs in the same state reply the same to an item, and go on from the same state
  item_once : (old : Option SliceRun) (item : Item) (reply other : Reply) (mid also : Option SliceRun) → IsAt IsGoingSliced old
      → PlayStep (BeginsSlices quantum) SliceStep old item reply mid → PlayStep (BeginsSlices quantum) SliceStep old item other also
      → (other ≡ reply) × (also ≡ mid) × IsAt IsGoingSliced mid
  item_once old (starts p) reply other mid also goes (s, begins, is) (t, begins', is') = (
    begins'.1 ∙ sym begins.1,
    is' ∙ ap Some (begun_once quantum p s t begins.0 begins'.0) ∙ sym is,
    subst (IsAt IsGoingSliced) (sym is) (begins_going quantum p s begins.0),
  )
  item_once None (asks c) reply other mid also goes g f = (f.0 ∙ sym g.0, f.1 ∙ sym g.1, subst (IsAt IsGoingSliced) (sym g.1) tt)
  item_once (Some old) (asks c) reply other mid also goes (s, step, is) (t, step', is') =
      let (same, state) = one_step old s t goes c reply other step step' in
      (same, is' ∙ ap Some state ∙ sym is, subst (IsAt IsGoingSliced) (sym is) (still_going sliced_calls sliced_keeps old s c reply goes step))
  item_once old (bad n) reply other mid also goes g f = (f.0 ∙ sym g.0, f.1 ∙ sym g.1, subst (IsAt IsGoingSliced) (sym g.1) goes)

  run_once : (items : List Item) (old : Option SliceRun) (replies others : List Reply) (end last : Option SliceRun) → IsAt IsGoingSliced old
      → PlayRun (BeginsSlices quantum) SliceStep old items replies end → PlayRun (BeginsSlices quantum) SliceStep old items others last
      → (others ≡ replies) × (last ≡ end)
  run_once [] old replies others end last goes g f = (f.0 ∙ sym g.0, f.1 ∙ sym g.1)
  run_once (item ∷ rest) old replies others end last goes (mid, reply, more, step, are, run) (mid', reply', more', step', are', run') =
      let (same, state, on) = item_once old item reply reply' mid mid' goes step step' in
      let (tail, final) = run_once rest mid more more' end last on run (subst (λ o. PlayRun (BeginsSlices quantum) SliceStep o rest more' last) state run') in
      (are' ∙ ap (λ r. r ∷ more') same ∙ ap (λ l. reply ∷ l) tail ∙ sym are, final)

pub one_run : (quantum : ℕ) (items : List Item) (replies others : List Reply) (last end : Option SliceRun) → RunsSliced quantum None items replies last
    → RunsSliced quantum None items others end → (others ≡ replies) × (end ≡ last)
one_run quantum items replies others last end g f = run_once quantum items None replies others last end tt g f

pub one_play : (from other : SlicePlay) (items : List Item) (replies others : List Reply) (last end : Option SlicePlay) → from.quantum ≡ other.quantum
    → RunBy slices from None items replies last → RunBy slices other None items others end
    → (others ≡ replies) × (option_map run_of_play end ≡ option_map run_of_play last)
one_play from other items replies others last end same g f =
    one_run from.quantum items replies others (option_map run_of_play last) (option_map run_of_play end) (play_seen from items replies last g)
    (subst (λ q. RunsSliced q None items others (option_map run_of_play end)) (sym same) (play_seen other items others end f))
