-- From what a mode did and why it ended to the claims of `cf_main`; and the law `each_meets_the_headline`.
use Rattle.std.proofs.Common.{List, [], ◌∷◌, Option, ◌≡◌, ◌∙◌, ℕ, Some, None, true, false, refl, ap, sym, subst, arith, inl, inr, ◌≢◌}
use Rattle.run_model.specs.Terms.{Item, Kind, Reply, RunState, closed_state, fresh_session, Moving, SinkFailsIf, SourceFailsIf, Status, HeapState}
use Rattle.script_laws.proofs.CallerLemmas.{headline_met}
use Rattle.top_call.specs.OwnRuns.{MeetHeadlines, OwnRuns}
use Rattle.std.specs.Prelude.{Err, ⊤}
use Rattle.cf_base.specs.declared.status.Status.TheVariants.{Done, Words, BadScript, ReadFault, WriteFault, OutOfMemory, TooLong, BadImage}
use Rattle.cf_session.specs.Apply.{run_at}
use Rattle.top_call.specs.declared.choice.Choice.{Choice}
use Rattle.script_laws.specs.Headline.{MeetsHeadline}
use Rattle.script_loop.proofs.CallerLemmas.{observed_row, some_row, wrote_by, within_all}
use Rattle.script_loop.specs.Consequences.{AnswersAll}
use Rattle.script_loop.specs.OneManager.{one_manager}
use Rattle.script_loop.specs.ScriptOutcome.{Effects, IsClean, IsStatusRow, MeetsOutcome, Wrote, has_bad, is_read_fault, is_write_fault, items_within}
use Rattle.script_loop.specs.Semantics.{RunBy, Semantics}
use Rattle.heap_image.proofs.CallerLemmas.{observed_load}
use Rattle.heap_image.specs.Decoded.{Decoded, decoded}
use Rattle.heap_image.specs.Feed.{Feed}
use Rattle.heap_image.specs.Load.{LoadsBy}
use Rattle.top_call.specs.Saves.{unseen}
use Rattle.top_call.proofs.FirstOfKindLemmas.{chosen_kind}
use Rattle.top_call.proofs.OwnOutcomes.{own_of}
use Rattle.top_call.specs.FirstOfKind.{chosen_manager}
use Rattle.top_call.specs.SideBySide.{fresh_side_by_side, many_managers}
use Rattle.top_call.specs.Claims.{GivesImage, MeetsClaim}
use Rattle.top_call.specs.Outcomes.{Benches, Compares, EndsWithCause, EndsWhole, CallState, Loads, OrLacks, PlaysOwn, RunsChosen, Saves, effects_of, kinds_in, IsMadeLarge}
use Rattle.clap.specs.Words.{Text}
use Rattle.top_call.proofs.ClaimsMet.{load_met, save_met}
use Rattle.top_call.specs.ImageClaims.{LoadsAs, Prints, SavesAs}
use Rattle.top_call.proofs.ReadAlike.{one_choice}
use Rattle.top_call.specs.Choices.{Chooses}
use Rattle.top_call.specs.declared.choice.Mode.{Mode}
use Rattle.top_call.specs.declared.choice.Mode.TheVariants.{Run, Compare, Bench, Large, Save, Load, Slice, Quota}
use Rattle.large_session.specs.Playing.{large_heap}
use Rattle.large_session.proofs.CallerLemmas.{large_met}
use Rattle.large_session.specs.LargeHeadline.{MeetsLarge}
use Rattle.slice_session.specs.Playing.{SlicePlay, slices}
use Rattle.slice_session.proofs.CallerLemmas.{sliced_headline_met}
use Rattle.slice_session.specs.SliceHeadline.{MeetsSliced}
use Rattle.quota_session.specs.Transcript.{MeetsTasks}
use Rattle.quota_session.proofs.CallerLemmas.{tasks_met}
use Rattle.quota_session.specs.Playing.{quota_tasks}
use Rattle.top_call.specs.TopOutcome.{AnswersInput, DoesChosen, EndsWell, HasRightInput, InMode, IsMadeForTasks, IsMadeSliced, IsRightInput, PrintsBytes, PrintsAsClaimed, PrintsInMode}
use Rattle.heap_image.specs.declared.fault.LoadFault.TheVariants as fault

-- For the law `each_meets_the_headline`: if each of many managers has a run of its own over a script, its replies meet the headline of its kind.

pub headlines_met : (kinds : List Kind) (items : List Item) (replies : List Reply) (end : Option (List RunState)) → OwnRuns kinds items replies end
    → MeetHeadlines kinds items replies
headlines_met [] items replies end runs = runs.0
headlines_met (kind ∷ kinds) items replies end runs =
    let (owns, others, own, rest, run, more, interleaved_reply, together) = runs in
    (owns, others, headline_met kind items owns own run, headlines_met kinds items others rest more, interleaved_reply)

-- What follows from `EndsWithCause` (what a mode did, and why it ended so): if the input is right and source and sink didn't fail, the status is `Done` or
-- `OutOfMemory`, and the output is as the mode claims.

-- A mode is sound: no call ends by `Words`, the status of refused arguments; a call whose input is right, and that met no fault of source or sink, ends by
-- `Done` or `OutOfMemory`.
pub record IsSound (Does : CallState → Status → CallState → Type 0) (IsRight : Option (List ℕ) → Type 0) : Type 0 where
  pub never_words : (old new : CallState) → Does old Words new → ⊥
  pub whole : (old : CallState) (st : Status) (new : CallState) → EndsWithCause Does old st new → IsRight old.source.rest
      → ¬ SourceFailsIf true old.source new.source → ¬ SinkFailsIf true old.sink new.sink → EndsWhole st

-- P holds of the status if it holds of `OutOfMemory` and of each status for which the mode's record `Does` holds
outcome_at : (Does : CallState → Status → CallState → Type 0) (old new : CallState) (P : Status → Type 0) → P OutOfMemory
    → ((st : Status) → Does old st new → P st) → (st : Status) → OrLacks Does old st new → P st
outcome_at Does old new P lacks does OutOfMemory done = lacks
outcome_at Does old new P lacks does st done = does st done

-- a call ends by `Done` or `OutOfMemory` if each outcome of its mode does, given the causes of its status
whole_of : (Does : CallState → Status → CallState → Type 0) (old new : CallState)
    → ((st : Status) → Does old st new → (st ≡ ReadFault → SourceFailsIf true old.source new.source)
    → (st ≡ WriteFault → SinkFailsIf true old.sink new.sink) → EndsWhole st)
    → (st : Status) → EndsWithCause Does old st new → EndsWhole st
whole_of Does old new does st ends =
    outcome_at Does old new (λ st. (st ≡ ReadFault → SourceFailsIf true old.source new.source)
    → (st ≡ WriteFault → SinkFailsIf true old.sink new.sink) → EndsWhole st) (λ read wrote. inr refl) does st ends.outcome
    (λ is. subst (λ (s : Status). SourceFailsIf (is_read_fault s) old.source new.source) is ends.causes.source_fault)
    (λ is. subst (λ (s : Status). SinkFailsIf (is_write_fault s) old.sink new.sink) is ends.causes.sink_fault)

-- no script ends by `Words`
never_words : {S P : Type 0} (m : Semantics S P) (from to : S) (call : Effects) → call.status ≡ Words → MeetsOutcome m from call to → ⊥
never_words m from to call is met =
    let row = some_row m from to call met in
    subst (λ (st : Status). IsStatusRow m st from row.0 row.1 call to) is row.2

-- no script ends by `BadImage`
pub never_bad_image : {S P : Type 0} (m : Semantics S P) (from to : S) (call : Effects) → call.status ≡ BadImage → MeetsOutcome m from call to → ⊥
never_bad_image m from to call is met =
    let row = some_row m from to call met in
    subst (λ (st : Status). IsStatusRow m st from row.0 row.1 call to) is row.2

-- without a fault, a script within the limit and with no bad line ends by `Done` or `OutOfMemory`
row_whole : {S P : Type 0} (m : Semantics S P) (from to : S) (all left : List ℕ) (call : Effects) (st : Status) {Read Wrote : Type 0}
    → IsStatusRow m st from all left call to → (st ≡ ReadFault → Read) → (st ≡ WriteFault → Wrote)
    → IsClean (Some all) → ¬ Read → ¬ Wrote → EndsWhole st
row_whole m from to all left call Words row read wrote clean sure firm = absurd row
row_whole m from to all left call BadImage row read wrote clean sure firm = absurd row
row_whole m from to all left call Done row read wrote clean sure firm = inl refl
row_whole m from to all left call OutOfMemory row read wrote clean sure firm = inr refl
row_whole m from to all left call BadScript row read wrote clean sure firm =
    let both : true ≡ false = sym row.0 ∙ ap has_bad (within_all all clean.0) ∙ clean.1 in absurd cc
row_whole m from to all left call TooLong row read wrote clean sure firm = absurd (let past = row.0 in let few = clean.0 in omega arith)
row_whole m from to all left call ReadFault row read wrote clean sure firm = absurd (sure (read refl))
row_whole m from to all left call WriteFault row read wrote clean sure firm = absurd (firm (wrote refl))

met_whole : {S P : Type 0} (m : Semantics S P) (from to : S) (call : Effects) {Read Wrote : Type 0}
    → MeetsOutcome m from call to → (call.status ≡ ReadFault → Read) → (call.status ≡ WriteFault → Wrote)
    → IsClean call.had → ¬ Read → ¬ Wrote → EndsWhole call.status
met_whole m from to call met read wrote clean sure firm = go call.had refl clean
  where
    go : (had : Option (List ℕ)) → had ≡ call.had → IsClean had → EndsWhole call.status
    go None is clean = absurd clean
    go (Some all) is clean =
        let row = observed_row m from to call all (sym is) met in
        row_whole m from to all row.0 call call.status row.1 read wrote clean sure firm

-- A mode that runs a script.
script_sound : {S P : Type 0} (m : Semantics S P) (Does : CallState → Status → CallState → Type 0)
    → ((old : CallState) (st : Status) (new : CallState) → Does old st new → (ends : S × S) × MeetsOutcome m ends.0 (effects_of old st new) ends.1)
    → IsSound Does IsClean
script_sound m Does met = record {
  never_words = λ old new done.
      let outcome = met old Words new done in
      never_words m outcome.0.0 outcome.0.1 (effects_of old Words new) refl outcome.1;
  whole = λ old st new ends clean sure firm.
      whole_of Does old new (λ st done read wrote.
      let outcome = met old st new done in
      met_whole m outcome.0.0 outcome.0.1 (effects_of old st new) outcome.1 read wrote clean sure firm) st ends;
}

-- If all items are answered, their replies are as claimed.
claim_of : {S P : Type 0} (m : Semantics S P) (from to : S) (Claim : List Item → List Reply → Type 0)
    → ((all : List ℕ) (call : Effects) (w : Wrote m from (items_within all) call to) → Claim (items_within all) w.replies)
    → (call : Effects) (had : Option (List ℕ)) → had ≡ call.had → MeetsOutcome m from call to → AnswersAll call.status → MeetsClaim Claim had call
claim_of m from to Claim claims call None shown met is = tt
claim_of m from to Claim claims call (Some all) shown met is =
    let w = wrote_by m from to call all (sym shown) met is in
    record { replies = w.replies; printed = w.written; claimed = claims all call w }

-- if the status is one after which all items are answered, the mode's record `Does` holds
pub did_all : (Does : CallState → Status → CallState → Type 0) (old new : CallState) (st : Status) → OrLacks Does old st new → AnswersAll st → Does old st new
did_all Does old new = outcome_at Does old new (λ st. AnswersAll st → Does old st new) absurd (λ st done all. done)

-- Mode `run`.
module _ (kind : Kind) where
  pub run_sound : IsSound (RunsChosen kind) IsClean
  run_sound = script_sound one_manager (RunsChosen kind) λ old st new done. ((run_at fresh_session (chosen_manager kind old.managers), done.end), done.outcome)

  pub run_shown : (old : CallState) (st : Status) (new : CallState) → OrLacks (RunsChosen kind) old st new → AnswersAll st
      → MeetsClaim (MeetsHeadline kind) old.source.rest (effects_of old st new)
  run_shown old st new done is =
      let did = did_all (RunsChosen kind) old new st done is in
      subst (λ (k : Kind). MeetsClaim (MeetsHeadline k) old.source.rest (effects_of old st new)) (chosen_kind kind old.managers)
      (claim_of one_manager (run_at fresh_session (chosen_manager kind old.managers)) did.end (MeetsHeadline (chosen_manager kind old.managers).kind)
      (λ all call w. headline_met (chosen_manager kind old.managers).kind (items_within all) w.replies w.end w.run) (effects_of old st new) old.source.rest refl did.outcome is)

-- Mode `compare`.
pub compare_sound : IsSound Compares IsClean
compare_sound = script_sound many_managers Compares λ old st new done. ((fresh_side_by_side old.managers, done.end), done.outcome)

pub compare_shown : (old : CallState) (st : Status) (new : CallState) → OrLacks Compares old st new → AnswersAll st
    → MeetsClaim (MeetHeadlines (kinds_in old)) old.source.rest (effects_of old st new)
compare_shown old st new done is =
    let did = did_all Compares old new st done is in
    claim_of many_managers (fresh_side_by_side old.managers) did.end (MeetHeadlines (kinds_in old))
    (λ all call w. headlines_met (kinds_in old) (items_within all) w.replies _ (own_of (fresh_side_by_side old.managers) did.end (items_within all) call w))
    (effects_of old st new) old.source.rest refl did.outcome is

-- Mode `bench`.
module _ (choice : Choice) where
  bench_whole : (old : CallState) (st : Status) (new : CallState) → EndsWithCause (Benches choice) old st new → ¬ SinkFailsIf true old.sink new.sink → EndsWhole st
  bench_whole old Done new ends firm = inl refl
  bench_whole old OutOfMemory new ends firm = inr refl
  bench_whole old WriteFault new ends firm = absurd (firm ends.causes.sink_fault)
  bench_whole old _ new ends firm = absurd ends.outcome.outcome.written

  pub bench_sound : IsSound (Benches choice) (λ had. ⊤)
  bench_sound = record {
    never_words = λ old new done. done.outcome.written;
    whole = λ old st new ends right sure firm. bench_whole old st new ends firm;
  }

-- A mode that runs a script on a heap that is made for it.
module _ {S P : Type 0} (m : Semantics S P) (IsMade : S → Type 0) where
  pub own_sound : IsSound (PlaysOwn m IsMade) IsClean
  own_sound = script_sound m (PlaysOwn m IsMade) λ old st new done. ((done.begin, done.end), done.outcome)

  -- Suppose `Claim` holds of the items and replies of each run that begins in a state of which `IsMade` holds. Then the call printed a reply to each
  -- item, and `Claim` holds of the items and these replies.
  pub own_shown : (Claim : List Item → List Reply → Type 0)
      → ((begin : S) → IsMade begin → (all : List ℕ) (replies : List Reply) (end : Option S) → RunBy m begin None (items_within all) replies end
      → Claim (items_within all) replies)
      → (old : CallState) (st : Status) (new : CallState) → OrLacks (PlaysOwn m IsMade) old st new → AnswersAll st
      → MeetsClaim Claim old.source.rest (effects_of old st new)
  own_shown Claim claims old st new done is =
      let did = did_all (PlaysOwn m IsMade) old new st done is in
      claim_of m did.begin did.end Claim (λ all call w. claims did.begin did.made all w.replies w.end w.run) (effects_of old st new) old.source.rest refl
      did.outcome is

-- Mode `save`.
save_whole : (old new : CallState) → IsClean old.source.rest → ¬ SourceFailsIf true old.source new.source → ¬ SinkFailsIf true old.sink new.sink
    → (st : Status) → Saves old st new → (st ≡ ReadFault → SourceFailsIf true old.source new.source)
    → (st ≡ WriteFault → SinkFailsIf true old.sink new.sink) → EndsWhole st
save_whole old new clean sure firm WriteFault done read wrote = absurd (firm (wrote refl))
save_whole old new clean sure firm st done read wrote = met_whole one_manager (run_at fresh_session (closed_state Moving)) done.end
    (unseen (effects_of old st new)) done.outcome.script read wrote clean sure firm

pub save_sound : IsSound Saves IsClean
save_sound = record {
  never_words = λ old new done.
      never_words one_manager (run_at fresh_session (closed_state Moving)) done.end (unseen (effects_of old Words new)) refl done.outcome.script;
  whole = λ old st new ends clean sure firm. whole_of Saves old new (save_whole old new clean sure firm) st ends;
}

-- Mode `load`.
-- an image isn't broken
not_broken : (from to : RunState) (at : ℕ) (had left : Feed) → GivesImage had.rest → LoadsBy from had (Err (fault.Bad at)) left to → ⊥
not_broken from to at had left image q = go had.rest refl image
  where
    go : (o : Option (List ℕ)) → o ≡ had.rest → GivesImage o → ⊥
    go None is image = image
    go (Some all) is image =
        let row = observed_load from to had left (Err (fault.Bad at)) q all (sym is) in
        let e : None ≡ Some at = sym image ∙ ap (λ (b : List ℕ). (decoded b).broken) row.1 ∙ ap (λ (t : Decoded). t.broken) row.2.reads_all ∙ row.2.broken in
        absurd cc

load_whole : (old new : CallState) → GivesImage old.source.rest → ¬ SourceFailsIf true old.source new.source → ¬ SinkFailsIf true old.sink new.sink
    → (st : Status) → Loads old st new → (st ≡ ReadFault → SourceFailsIf true old.source new.source)
    → (st ≡ WriteFault → SinkFailsIf true old.sink new.sink) → EndsWhole st
load_whole old new image sure firm Done done read wrote = inl refl
load_whole old new image sure firm OutOfMemory done read wrote = inr refl
load_whole old new image sure firm WriteFault done read wrote = absurd (firm (wrote refl))
load_whole old new image sure firm ReadFault done read wrote = absurd (sure (read refl))
load_whole old new image sure firm BadImage done read wrote =
    absurd (not_broken (run_at fresh_session (closed_state Moving)) done.end done.outcome.0 _ _ image done.outcome.1)
load_whole old new image sure firm Words done read wrote = absurd done.outcome
load_whole old new image sure firm BadScript done read wrote = absurd done.outcome
load_whole old new image sure firm TooLong done read wrote = absurd done.outcome

pub load_sound : IsSound Loads GivesImage
load_sound = record {
  never_words = λ old new done. done.outcome;
  whole = λ old st new ends image sure firm. whole_of Loads old new (load_whole old new image sure firm) st ends;
}

-- For `cf_main` and `run_mode`, which runs the chosen mode: from what that mode did and the cause of its status (`EndsWithCause`) to each clause of
-- `cf_main`.

sound : (mode : Mode) (choice : Choice) → IsSound (InMode mode choice) (IsRightInput mode)
sound Run choice = run_sound choice.kind
sound Compare choice = compare_sound
sound Bench choice = bench_sound choice
sound Large choice = own_sound large_heap IsMadeLarge
sound Save choice = save_sound
sound Load choice = load_sound
sound Slice choice = own_sound slices (IsMadeSliced choice.quantum)
sound Quota choice = own_sound quota_tasks IsMadeForTasks

-- if the choice is of this mode, what holds of the mode (`EndsWithCause`) holds of the choice
pub in_mode : (mode : Mode) (choice : Choice) → choice.mode ≡ mode → (old : CallState) (st : Status) (new : CallState) → EndsWithCause (InMode mode choice) old st new
    → EndsWithCause (InMode choice.mode choice) old st new
in_mode mode choice is old st new ends = subst (λ (m : Mode). EndsWithCause (InMode m choice) old st new) (sym is) ends

-- a call that answered all items did not fail to write
not_cut : (st : Status) → AnswersAll st → st ≢ WriteFault
not_cut st is cut = subst (λ (s : Status). AnswersAll s) cut is

-- what was printed is as claimed
printed_of : (Claim : Status → List ℕ → List ℕ → Type 0) (call : Effects) → ((read : List ℕ) → call.had ≡ Some read → Prints Claim read call)
    → (had : Option (List ℕ)) → had ≡ call.had → PrintsBytes Claim had call
printed_of Claim call met None is = tt
printed_of Claim call met (Some read) is = met read (sym is)

-- what a mode claims of its output holds
shown : (mode : Mode) (choice : Choice) (old : CallState) (st : Status) (new : CallState) → OrLacks (InMode mode choice) old st new → AnswersAll st
    → PrintsInMode mode choice (kinds_in old) (effects_of old st new)
shown Run choice = run_shown choice.kind
shown Compare choice = compare_shown
shown Large choice = own_shown large_heap IsMadeLarge (MeetsLarge Moving) λ begin made all replies end run.
    subst (λ (s : HeapState). MeetsLarge s.kind (items_within all) replies) made.inner (large_met begin (items_within all) replies end run)
shown Save choice = λ old st new done is.
    let did = did_all Saves old new st done is in
    printed_of SavesAs (effects_of old st new)
    (λ read had. save_met (run_at fresh_session (closed_state Moving)) did.end (effects_of old st new) read refl refl had (not_cut st is) did.outcome)
    old.source.rest refl
shown Load choice = λ old st new done is.
    let did = did_all Loads old new st done is in
    printed_of LoadsAs (effects_of old st new)
    (λ read had. load_met (run_at fresh_session (closed_state Moving)) did.end (effects_of old st new) read had (not_cut st is) did.outcome)
    old.source.rest refl
shown Slice choice = own_shown slices (IsMadeSliced choice.quantum) (MeetsSliced choice.quantum) λ begin made all replies end run.
    subst (λ (n : ℕ). MeetsSliced n (items_within all) replies) (ap (λ (s : SlicePlay). s.quantum) made)
    (sliced_headline_met begin (items_within all) replies end run)
shown Quota choice = own_shown quota_tasks IsMadeForTasks MeetsTasks λ begin made. tasks_met begin
shown mode choice = λ old st new done is. tt

-- only mode `load` ends by `BadImage`, and then the text is that of the refused image
bad_image_shown : (mode : Mode) (choice : Choice) (old new : CallState) → InMode mode choice old BadImage new
    → PrintsInMode mode choice (kinds_in old) (effects_of old BadImage new)
bad_image_shown Run choice old new done =
    absurd (never_bad_image one_manager (run_at fresh_session (chosen_manager choice.kind old.managers)) done.end (effects_of old BadImage new) refl done.outcome)
bad_image_shown Compare choice old new done =
    absurd (never_bad_image many_managers (fresh_side_by_side old.managers) done.end (effects_of old BadImage new) refl done.outcome)
bad_image_shown Large choice old new done = absurd (never_bad_image large_heap done.begin done.end (effects_of old BadImage new) refl done.outcome)
bad_image_shown Save choice old new done =
    absurd (never_bad_image one_manager (run_at fresh_session (closed_state Moving)) done.end (unseen (effects_of old BadImage new)) refl done.outcome.script)
bad_image_shown Load choice old new done = printed_of LoadsAs (effects_of old BadImage new)
    (λ read had. load_met (run_at fresh_session (closed_state Moving)) done.end (effects_of old BadImage new) read had
    (λ cut. subst (λ (s : Status). AnswersInput s) cut tt) done.outcome) old.source.rest refl
bad_image_shown Slice choice old new done = absurd (never_bad_image slices done.begin done.end (effects_of old BadImage new) refl done.outcome)
bad_image_shown Quota choice old new done = absurd (never_bad_image quota_tasks done.begin done.end (effects_of old BadImage new) refl done.outcome)
bad_image_shown Bench choice old new done = tt

-- the output is as claimed at each status at which every item was answered, or an image loaded or refused
shown_at : (mode : Mode) (choice : Choice) (old : CallState) (st : Status) (new : CallState) → OrLacks (InMode mode choice) old st new → AnswersInput st
    → PrintsInMode mode choice (kinds_in old) (effects_of old st new)
shown_at mode choice old BadImage new done is = bad_image_shown mode choice old new done
shown_at mode choice old Done new done is = shown mode choice old Done new done is
shown_at mode choice old BadScript new done is = shown mode choice old BadScript new done is
shown_at mode choice old TooLong new done is = shown mode choice old TooLong new done is
shown_at mode choice old _ new done is = absurd is

-- The whole call, if the arguments make this choice and its mode ends like this.
module _ (words : List Text) (choice : Choice) (chosen : Chooses words choice) (old : CallState) (st : Status) (new : CallState)
    (ends : EndsWithCause (InMode choice.mode choice) old st new) where
  pub chosen_ends : EndsWell words old st new
  chosen_ends = go st ends.outcome
    where
      does : (st : Status) → InMode choice.mode choice old st new → DoesChosen words old st new
      does st done = record { choice = choice; chosen = chosen; done = done }

      go : (st : Status) → OrLacks (InMode choice.mode choice) old st new → EndsWell words old st new
      go Words done = absurd ((sound choice.mode choice).never_words old new done)
      go OutOfMemory (silent, inl same) = (silent, inl same)
      go OutOfMemory (silent, inr done) = (silent, inr (does OutOfMemory done))
      go st done = does st done

  pub chosen_shows : PrintsAsClaimed words old st new
  chosen_shows is = record { choice = choice; chosen = chosen; shows = shown_at choice.mode choice old st new ends.outcome is }

  pub chosen_whole : HasRightInput words old.source.rest → ¬ SourceFailsIf true old.source new.source → ¬ SinkFailsIf true old.sink new.sink → EndsWhole st
  chosen_whole have = (sound choice.mode choice).whole old st new ends
      (subst (λ (c : Choice). IsRightInput c.mode old.source.rest) (one_choice words choice have.choice chosen have.chosen) have.right)
