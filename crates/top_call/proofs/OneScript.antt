-- For the laws of `cf_main`, mode by mode: two calls with the same arguments and script that answer every line print the same and have the same status, if the
-- managers promise an order, as managers that were never open do. In modes `run` and `compare` they print the replies of runs in that order.
use Rattle.std.proofs.Common.{◌≡◌, ℕ, List, [], ◌∷◌, Option, Some, None, refl, sym, ◌∙◌, ap, subst, length, get_or, map, inl, inr}
use Rattle.std.proofs.lemmas.Bool.{cases_lt}
use Rattle.std.proofs.lemmas.List.{get_or_past}
use Rattle.std.proofs.lemmas.List.Elements.{All-cons, All-head, All-nil, All-tail}
use Rattle.std.specs.List.{All}
use Rattle.std.specs.Prelude.{IsSome, ⊤, codes, is_some, nat_le, option_map, take}
use Rattle.clap.specs.Words.{Text}
use Rattle.run_model.specs.Terms.{appended, asks, closed_state, Command, fresh_session, HeapState, Item, Kind, Moving, Reply, RunState, said, Status, text_of}
use Rattle.cf_base.specs.declared.status.Status.TheVariants.{Done, Words, BadScript, ReadFault, WriteFault, OutOfMemory, TooLong, BadImage}
use Rattle.cf_session.specs.Apply.{run_at}
use Rattle.top_call.proofs.ReadAlike.{one_choice}
use Rattle.top_call.specs.Choices.{Chooses}
use Rattle.top_call.specs.declared.choice.Choice.{Choice}
use Rattle.top_call.specs.declared.choice.Mode.{Mode}
use Rattle.top_call.specs.declared.choice.Mode.TheVariants.{Run, Compare, Bench, Large, Save, Load, Slice, Quota}
use Rattle.script_laws.specs.OneOutput.{BeginNone, BeginOnce, IsOrdered}
use Rattle.script_laws.proofs.CallerLemmas.{begins_once, begun_alike}
use Rattle.heap_image.specs.Decoded.{Decoded, whole as image_of}
use Rattle.top_call.specs.ImageClaims.{LoadsAs, MeetsLoad, Prints}
use Rattle.top_call.specs.Loads.{EndsLoadBy}
use Rattle.top_call.specs.Saves.{WritesAtEnd, saved, script_status, unseen}
use Rattle.top_call.specs.ImageScript.{script_under}
use Rattle.large_session.specs.Playing.{large_heap}
use Rattle.large_session.specs.LargeHeadline.{MeetsLarge}
use Rattle.top_call.specs.Claims.{MeetsClaim}
use Rattle.top_call.specs.Outcomes.{Benches, Compares, CallState, IsMadeLarge, Loads, PlaysOwn, RunsChosen, Saves, effects_of, kinds_in, orders_in}
use Rattle.quota_session.specs.Transcript.{MeetsTasks}
use Rattle.quota_session.specs.Playing.{quota_tasks}
use Rattle.run_model.specs.Runs.{Run as RunOver}
use Rattle.script_loop.proofs.CallerLemmas.{met_status, wrote_by}
use Rattle.cf_io.proofs.CallerLemmas.{appended_none}
use Rattle.script_loop.specs.Consequences.{AnswersAll, status_of}
use Rattle.script_loop.specs.OneManager.{one_manager}
use Rattle.script_loop.specs.ScriptOutcome.{Effects, MOST_BYTES, EndsAt, items_within}
use Rattle.script_loop.specs.Semantics.{RunBy, Semantics}
use Rattle.top_call.proofs.FirstOfKindLemmas.{chosen_kind}
use Rattle.top_call.proofs.OwnOutcomes.{own_of, stand_of}
use Rattle.top_call.specs.FirstOfKind.{chosen_manager, first_of_kind}
use Rattle.top_call.specs.SideBySide.{SideBySide, fresh_side_by_side, kinds_of, many_managers, runs_of}
use Rattle.top_call.specs.OwnRuns.{JoinStates, OwnRuns, EachEndsAt, interleaved_replies}
use Rattle.slice_session.proofs.CallerLemmas.{one_play}
use Rattle.slice_session.specs.Playing.{SlicePlay, slices}
use Rattle.top_call.specs.Bench.{EndsBench, bench_items, bench_text}
use Rattle.script_reader.specs.Generated.{generated}
use Rattle.top_call.specs.OneScript.{AnswersWhole, AreRunsInOrder, IsRunInOrder, KeepsContract, LeavesNoChoice, PrintsReplies, PromisesOrder, TopCall}
use Rattle.top_call.specs.TopOutcome.{AnswersInput, DoesChosen, EndsWell, InMode, IsMadeForTasks, IsMadeSliced, PrintsBytes, PrintsChosen, PrintsInMode}

-- ---- the replies of one manager

-- if a claim leaves one list of replies, one text is printed
one_text : (Claim : List Item → List Reply → Type 0) (all : List ℕ) (one two : TopCall)
    → ((replies others : List Reply) → Claim (items_within all) replies → Claim (items_within all) others → others ≡ replies)
    → PrintsReplies Claim all one → PrintsReplies Claim all two → two.old.sink.written ≡ one.old.sink.written
    → (two.status ≡ one.status) × (two.new.sink.written ≡ one.new.sink.written)
one_text Claim all one two fixed a b before =
    let same = fixed a.replies b.replies a.claimed b.claimed in (
      b.status ∙ sym a.status,
      b.written ∙ ap (λ w. appended w (text_of [] b.replies)) before ∙ ap (λ r. appended one.old.sink.written (text_of [] r)) same ∙ sym a.written,
    )

ordered_end : (from to : RunState) (end : Option RunState) → EndsAt from end to → PromisesOrder to.heap → IsOrdered end
ordered_end from to None stands order = tt
ordered_end from to (Some s) stands order = subst (λ (r : RunState). PromisesOrder r.heap) stands order

run_printed : (kind : Kind) (all : List ℕ) (call : TopCall) → AnswersWhole all call → PromisesOrder (chosen_manager kind call.old.managers)
    → RunsChosen kind call.old call.status call.new → PrintsReplies (IsRunInOrder kind) all call
run_printed kind all call whole order did =
    let from = run_at fresh_session (chosen_manager kind call.old.managers) in
    let w = wrote_by one_manager from did.end (effects_of call.old call.status call.new) all whole.had did.outcome whole.answered in
    record {
      status = met_status one_manager from did.end all (effects_of call.old call.status call.new) whole.had did.outcome whole.answered;
      replies = w.replies;
      written = w.written;
      claimed = record {
        end = w.end;
        run = subst (λ (k : Kind). RunOver k None (items_within all) w.replies w.end) (chosen_kind kind call.old.managers) w.run;
        ordered = ordered_end from did.end w.end w.stands (did.promise ∙ order);
      };
    }

-- ---- many managers

abbrev AllOrdered : List RunState → Type 0
AllOrdered [] = ⊤
AllOrdered (r ∷ rs) = IsSome r.heap.order × AllOrdered rs

abbrev AreOrdered : Option (List RunState) → Type 0
AreOrdered None = ⊤
AreOrdered (Some all) = AllOrdered all

parted : (own : Option RunState) (rest : Option (List RunState)) (end : Option (List RunState)) → JoinStates own rest end → AreOrdered end
    → IsOrdered own × AreOrdered rest
parted None None end is some = (tt, tt)
parted None (Some others) end is some = absurd is
parted (Some own) None end is some = absurd is
parted (Some own) (Some others) end is some = (let both : AreOrdered (Some (own ∷ others)) = subst AreOrdered is some in (both.0, both.1))

-- separate runs whose last managers promise an order are runs in order
in_order : (kinds : List Kind) (items : List Item) (replies : List Reply) (end : Option (List RunState))
    → OwnRuns kinds items replies end → AreOrdered end → AreRunsInOrder kinds items replies
in_order [] items replies end runs some = runs.0
in_order (kind ∷ kinds) items replies end (owns, rest, own, runs, run, more, are, together) some = (let (here, behind) = parted own runs end together some in (
  owns,
  rest,
  record { end = own; run = run; ordered = here },
  in_order kinds items rest runs more behind,
  are,
))

pub replies_once : (kinds : List Kind) (items : List Item) (replies others : List Reply) → BeginOnce items
    → AreRunsInOrder kinds items replies → AreRunsInOrder kinds items others → others ≡ replies
replies_once [] items replies others once runs runs' = runs' ∙ sym runs
replies_once (kind ∷ kinds) items replies others once (owns, rest, run, more, are) (owns', rest', run', more', are') =
    let same = (begun_alike kind items owns owns' run.end run'.end once run.ordered run'.ordered run.run run'.run).0 in
    let more_same = replies_once kinds items rest rest' once more more' in
    are' ∙ ap (λ o. interleaved_replies kind items o rest') same ∙ ap (λ r. interleaved_replies kind items owns r) more_same ∙ sym are

each_ordered : (rs : List RunState) → All PromisesOrder (map (λ (r : RunState). r.heap) rs) → AllOrdered rs
each_ordered [] order = tt
each_ordered (r ∷ rs) order = (
  All-head PromisesOrder r.heap (map (λ (q : RunState). q.heap) rs) order,
  each_ordered rs (All-tail PromisesOrder r.heap (map (λ (q : RunState). q.heap) rs) order),
)

all_ordered : (olds news : List HeapState) (end : Option (List RunState)) → EachEndsAt olds end news → All PromisesOrder news → AreOrdered end
all_ordered olds news None stand order = tt
all_ordered olds news (Some rs) stand order = each_ordered rs (subst (All PromisesOrder) stand order)

-- if the call keeps the promises, and each manager promised an order before it, each does after it
all_kept : (olds news : List HeapState) → map (λ h. is_some h.order) news ≡ map (λ h. is_some h.order) olds → All PromisesOrder olds → All PromisesOrder news
all_kept olds [] same order = All-nil PromisesOrder
all_kept [] (y ∷ news) same order = absurd cc
all_kept (x ∷ olds) (y ∷ news) same order =
    let both : is_some y.order ∷ map (λ (h : HeapState). is_some h.order) news ≡ is_some x.order ∷ map (λ (h : HeapState). is_some h.order) olds = same in
    let first : is_some y.order ≡ is_some x.order = cc in
    let rest : map (λ (h : HeapState). is_some h.order) news ≡ map (λ (h : HeapState). is_some h.order) olds = cc in
    All-cons PromisesOrder y news (first ∙ All-head PromisesOrder x olds order) (all_kept olds news rest (All-tail PromisesOrder x olds order))

compare_printed : (all : List ℕ) (call : TopCall) → kinds_in call.new ≡ kinds_in call.old → orders_in call.new ≡ orders_in call.old → AnswersWhole all call
    → All PromisesOrder call.old.managers → Compares call.old call.status call.new
    → PrintsReplies (AreRunsInOrder (kinds_in call.old)) all call
compare_printed all call kinds orders whole order did =
    let from : SideBySide = fresh_side_by_side call.old.managers in
    let call_effects = effects_of call.old call.status call.new in
    let w = wrote_by many_managers from did.end call_effects all whole.had did.outcome whole.answered in
    let same : kinds_of did.end ≡ kinds_of from = ap (map (λ (h : HeapState). h.kind)) (sym did.stand) ∙ kinds in
    let stand = stand_of from did.end (items_within all) call_effects same w in
    let left : All PromisesOrder did.end.heaps = subst (All PromisesOrder) did.stand (all_kept call.old.managers call.new.managers orders order) in
    record {
      status = met_status many_managers from did.end all call_effects whole.had did.outcome whole.answered;
      replies = w.replies;
      written = w.written;
      claimed = in_order (kinds_in call.old) (items_within all) w.replies (option_map runs_of w.end) (own_of from did.end (items_within all) call_effects w)
          (all_ordered from.heaps did.end.heaps (option_map runs_of w.end) stand left);
    }

-- ---- each mode

shown_printed : (Claim : List Item → List Reply → Type 0) (all : List ℕ) (call : TopCall) → AnswersWhole all call → call.status ≡ status_of all
    → MeetsClaim Claim call.old.source.rest (effects_of call.old call.status call.new) → PrintsReplies Claim all call
shown_printed Claim all call whole status shows =
    let t = subst (λ had. MeetsClaim Claim had (effects_of call.old call.status call.new)) whole.had shows in
    record { status = status; replies = t.replies; written = t.printed; claimed = t.claimed }

own_status : {S P : Type 0} (m : Semantics S P) (IsMade : S → Type 0) (all : List ℕ) (call : TopCall) → AnswersWhole all call
    → PlaysOwn m IsMade call.old call.status call.new → call.status ≡ status_of all
own_status m IsMade all call whole did = met_status m did.begin did.end all (effects_of call.old call.status call.new) whole.had did.outcome whole.answered

-- the replies of a run in slices of at most `quantum` words
record RunInSlices (quantum : ℕ) (items : List Item) (replies : List Reply) : Type 0 where
  begin : SlicePlay
  plan : begin.quantum ≡ quantum
  end : Option SlicePlay
  run : RunBy slices begin None items replies end

slices_printed : (quantum : ℕ) (all : List ℕ) (call : TopCall) → AnswersWhole all call
    → PlaysOwn slices (IsMadeSliced quantum) call.old call.status call.new → PrintsReplies (RunInSlices quantum) all call
slices_printed quantum all call whole did =
    let w = wrote_by slices did.begin did.end (effects_of call.old call.status call.new) all whole.had did.outcome whole.answered in
    record {
      status = own_status slices (IsMadeSliced quantum) all call whole did;
      replies = w.replies;
      written = w.written;
      claimed = record { begin = did.begin; plan = ap (λ (s : SlicePlay). s.quantum) did.made; end = w.end; run = w.run };
    }

-- what mode `load` prints is determined by the bytes read
record PrintedLoad (all : List ℕ) (call : TopCall) : Type 0 where
  status : call.status ≡ Done
  printed : List ℕ
  written : call.new.sink.written ≡ appended call.old.sink.written printed
  claimed : MeetsLoad all printed

load_done : (st : Status) (from to : RunState) (call : Effects) → AnswersAll st → EndsLoadBy st from call to → st ≡ Done
load_done Done from to call all ends = refl
load_done BadScript from to call all ends = absurd ends
load_done TooLong from to call all ends = absurd ends
load_done _ from to call all ends = absurd all

load_printed : (all : List ℕ) (call : TopCall) → AnswersWhole all call → Loads call.old call.status call.new
    → PrintsBytes LoadsAs call.old.source.rest (effects_of call.old call.status call.new) → PrintedLoad all call
load_printed all call whole did shows =
    let t : Prints LoadsAs all (effects_of call.old call.status call.new) =
    subst (λ had. PrintsBytes LoadsAs had (effects_of call.old call.status call.new)) whole.had shows in
    let done = load_done call.status (run_at fresh_session (closed_state Moving)) did.end (effects_of call.old call.status call.new) whole.answered did.outcome in
    record {
      status = done;
      printed = t.printed;
      written = t.written;
      claimed = subst (λ (st : Status). LoadsAs st all t.printed) done t.claimed;
    }

load_once : (all : List ℕ) (one two : TopCall) → PrintedLoad all one → PrintedLoad all two → two.old.sink.written ≡ one.old.sink.written
    → (two.status ≡ one.status) × (two.new.sink.written ≡ one.new.sink.written)
load_once all one two a b before =
    let read : image_of a.claimed.profile a.claimed.objects ≡ image_of b.claimed.profile b.claimed.objects = sym a.claimed.image ∙ b.claimed.image in
    let settings : Some a.claimed.profile ≡ Some b.claimed.profile = ap (λ (d : Decoded). d.settings) read in
    let profile : a.claimed.profile ≡ b.claimed.profile = cc in
    let objects : a.claimed.objects ≡ b.claimed.objects = ap (λ (d : Decoded). d.objects) read in
    let same : b.printed ≡ a.printed = b.claimed.script ∙ ap (λ p. script_under p b.claimed.objects) (sym profile)
    ∙ ap (script_under a.claimed.profile) (sym objects) ∙ sym a.claimed.script in (
      b.status ∙ sym a.status,
      b.written ∙ ap (λ w. appended w b.printed) before ∙ ap (appended one.old.sink.written) same ∙ sym a.written,
    )

-- the image that mode `save` writes, by the status
abbrev saved_at : Status → RunState → List ℕ
saved_at Done to = saved to
saved_at status to = []

saved_text : (st : Status) (before after : Option (List ℕ)) (to : RunState) → AnswersAll st → WritesAtEnd st before (saved to) after
    → after ≡ appended before (saved_at st to)
saved_text Done before after to all put = put
saved_text BadScript before after to all put = put ∙ appended_none before
saved_text TooLong before after to all put = put ∙ appended_none before
saved_text _ before after to all put = absurd all

-- a script whose items were all answered ended as the call did
script_alike : (st : Status) → AnswersAll st → script_status st ≡ st
script_alike Done all = refl
script_alike BadScript all = refl
script_alike TooLong all = refl
script_alike _ all = absurd all

-- the moving manager that a mode makes, and a new session
abbrev made : RunState
made = run_at fresh_session (closed_state Moving)

-- the end of a run is determined by the state that the run leaves
end_once : (from : RunState) (end : Option RunState) (to there : RunState) → EndsAt from end to → EndsAt from end there → there ≡ to
end_once from None to there a b = b ∙ sym a
end_once from (Some s) to there a b = b ∙ sym a

-- what mode `save` prints is determined by the end of a run
record PrintedSave (all : List ℕ) (call : TopCall) : Type 0 where
  status : call.status ≡ status_of all
  to : RunState
  replies : List Reply
  ran : IsRunInOrder Moving (items_within all) replies
  stands : EndsAt made ran.end to
  written : call.new.sink.written ≡ appended call.old.sink.written (saved_at call.status to)

save_printed : (all : List ℕ) (call : TopCall) → AnswersWhole all call → Saves call.old call.status call.new → PrintedSave all call
save_printed all call whole did =
    let seen_alone = unseen (effects_of call.old call.status call.new) in
    let alike = script_alike call.status whole.answered in
    let answered : AnswersAll seen_alone.status = subst AnswersAll (sym alike) whole.answered in
    let w = wrote_by one_manager made did.end seen_alone all whole.had did.outcome.script answered in
    record {
      status = sym alike ∙ met_status one_manager made did.end all seen_alone whole.had did.outcome.script answered;
      to = did.end;
      replies = w.replies;
      ran = record { end = w.end; run = w.run; ordered = ordered_end made did.end w.end w.stands did.ordered };
      stands = w.stands;
      written = saved_text call.status call.old.sink.written call.new.sink.written did.end whole.answered did.outcome.written;
    }

save_once : (all : List ℕ) (one two : TopCall) → BeginOnce (items_within all) → PrintedSave all one → PrintedSave all two
    → two.old.sink.written ≡ one.old.sink.written
    → (two.status ≡ one.status) × (two.new.sink.written ≡ one.new.sink.written)
save_once all one two once a b before =
    let status : two.status ≡ one.status = b.status ∙ sym a.status in
    let ends : b.ran.end ≡ a.ran.end =
    (begun_alike Moving (items_within all) a.replies b.replies a.ran.end b.ran.end once a.ran.ordered b.ran.ordered a.ran.run b.ran.run).1 in
    let to : b.to ≡ a.to = end_once made a.ran.end a.to b.to a.stands (subst (λ e. EndsAt made e b.to) ends b.stands) in (
      status,
      b.written ∙ ap (λ w. appended w (saved_at two.status b.to)) before ∙ ap (λ st. appended one.old.sink.written (saved_at st b.to)) status
          ∙ ap (λ s. appended one.old.sink.written (saved_at one.status s)) to ∙ sym a.written,
    )

-- ---- the bench

commands_begin_none : (commands : List Command) → BeginNone (map (λ c. asks c) commands)
commands_begin_none [] = tt
commands_begin_none (c ∷ rest) = (tt, commands_begin_none rest)

pub bench_once : (seed count : ℕ) (from other to there : RunState) (before after written : Option (List ℕ))
    → other.heap.kind ≡ from.heap.kind → EndsBench Done seed count from to before after → EndsBench Done seed count other there before written
    → IsSome to.heap.order → IsSome there.heap.order → written ≡ after
bench_once seed count from other to there before after written kinds one two some also =
    let run = one.run in
    let again : RunOver from.heap.kind None (bench_items seed count) (said (codes "ok") ∷ two.run.replies) (Some there) =
    subst (λ (k : Kind). RunOver k None (bench_items seed count) (said (codes "ok") ∷ two.run.replies) (Some there)) kinds two.run.run in
    let (same, states) = begun_alike from.heap.kind (bench_items seed count) (said (codes "ok") ∷ run.replies) (said (codes "ok") ∷ two.run.replies)
    (Some to) (Some there) (commands_begin_none (generated seed count)) some also run.run again in
    let replies : two.run.replies ≡ run.replies = cc in
    let end : there ≡ to = cc in
    two.written ∙ ap (λ (r : List Reply). appended before (bench_text count r there)) replies
    ∙ ap (λ (s : RunState). appended before (bench_text count run.replies s)) end ∙ sym one.written

pub bench_calls_once : (choice : Choice) (one two last end : CallState) → Benches choice one Done last → Benches choice two Done end
    → two.sink.written ≡ one.sink.written → end.sink.written ≡ last.sink.written
bench_calls_once choice one two last end a b before =
    let begun = run_at fresh_session (closed_state choice.kind) in
    let again : EndsBench Done choice.seed choice.count begun b.end one.sink.written end.sink.written =
    subst (λ w. EndsBench Done choice.seed choice.count begun b.end w end.sink.written) before b.outcome in
    bench_once choice.seed choice.count begun begun a.end b.end one.sink.written last.sink.written end.sink.written refl a.outcome again a.ordered b.ordered

-- a bench whose status is one after which all items are answered ended by `Done`
bench_ended : (st : Status) (seed count : ℕ) (from to : RunState) (before after : Option (List ℕ)) → EndsBench st seed count from to before after → AnswersAll st
    → st ≡ Done
bench_ended Done seed count from to before after ends all = refl
bench_ended BadScript seed count from to before after ends all = absurd ends.written
bench_ended TooLong seed count from to before after ends all = absurd ends.written
bench_ended _ seed count from to before after ends all = absurd all

bench_status : (choice : Choice) (call : TopCall) → AnswersAll call.status → Benches choice call.old call.status call.new → call.status ≡ Done
bench_status choice call all did = bench_ended call.status choice.seed choice.count (run_at fresh_session (closed_state choice.kind)) did.end
    call.old.sink.written call.new.sink.written did.outcome all

-- ---- any mode

-- the call kept the kinds of the managers and their promises of an order
record KeepsAlike (call : TopCall) : Type 0 where
  kinds : kinds_in call.new ≡ kinds_in call.old
  orders : orders_in call.new ≡ orders_in call.old

module _ (choice : Choice) (all : List ℕ) (one two : TopCall) (keeps : KeepsAlike one) (keeps' : KeepsAlike two)
    (whole : AnswersWhole all one) (whole' : AnswersWhole all two) (kinds : kinds_in two.old ≡ kinds_in one.old)
    (before : two.old.sink.written ≡ one.old.sink.written) where
  abbrev Does : Mode → TopCall → Type 0
  Does mode call = InMode mode choice call.old call.status call.new

  abbrev IsClaimed : Mode → TopCall → Type 0
  IsClaimed mode call = PrintsInMode mode choice (kinds_in call.old) (effects_of call.old call.status call.new)

  abbrev Alike : Type 0
  Alike = (two.status ≡ one.status) × (two.new.sink.written ≡ one.new.sink.written)

  once : BeginOnce (items_within all)
  once = begins_once (take MOST_BYTES all) (nat_le (length all) MOST_BYTES)

  mode_once : (mode : Mode) → Does mode one → Does mode two → IsClaimed mode one → IsClaimed mode two → LeavesNoChoice mode choice one.old.managers
      → LeavesNoChoice mode choice two.old.managers → Alike
  mode_once Run does does' shows shows' order order' =
      one_text (IsRunInOrder choice.kind) all one two
      (λ replies others a b. (begun_alike choice.kind (items_within all) replies others a.end b.end once a.ordered b.ordered a.run b.run).0)
      (run_printed choice.kind all one whole order does) (run_printed choice.kind all two whole' order' does') before
  mode_once Compare does does' shows shows' order order' =
      one_text (AreRunsInOrder (kinds_in one.old)) all one two
      (λ replies others a b. replies_once (kinds_in one.old) (items_within all) replies others once a b)
      (compare_printed all one keeps.kinds keeps.orders whole order does)
      (subst (λ ks. PrintsReplies (AreRunsInOrder ks) all two) kinds (compare_printed all two keeps'.kinds keeps'.orders whole' order' does')) before
  mode_once Large does does' shows shows' order order' =
      one_text (MeetsLarge Moving) all one two (λ replies others a b. b ∙ sym a)
      (shown_printed (MeetsLarge Moving) all one whole (own_status large_heap IsMadeLarge all one whole does) shows)
      (shown_printed (MeetsLarge Moving) all two whole' (own_status large_heap IsMadeLarge all two whole' does') shows') before
  mode_once Quota does does' shows shows' order order' =
      one_text MeetsTasks all one two (λ replies others a b. b ∙ sym a)
      (shown_printed MeetsTasks all one whole (own_status quota_tasks IsMadeForTasks all one whole does) shows)
      (shown_printed MeetsTasks all two whole' (own_status quota_tasks IsMadeForTasks all two whole' does') shows') before
  mode_once Slice does does' shows shows' order order' =
      one_text (RunInSlices choice.quantum) all one two
      (λ replies others a b. (one_play a.begin b.begin (items_within all) replies others a.end b.end (a.plan ∙ sym b.plan) a.run b.run).0)
      (slices_printed choice.quantum all one whole does) (slices_printed choice.quantum all two whole' does') before
  mode_once Bench does does' shows shows' order order' =
      let done = bench_status choice one whole.answered does in
      let done' = bench_status choice two whole'.answered does' in (
        done' ∙ sym done,
        bench_calls_once choice one.old two.old one.new two.new (subst (λ st. Benches choice one.old st one.new) done does)
            (subst (λ st. Benches choice two.old st two.new) done' does') before,
      )
  mode_once Save does does' shows shows' order order' =
      save_once all one two once (save_printed all one whole does) (save_printed all two whole' does') before
  mode_once Load does does' shows shows' order order' =
      load_once all one two (load_printed all one whole does shows) (load_printed all two whole' does' shows') before

-- if all items are answered (`AnswersAll`), the input is (`AnswersInput`)
as_input : (st : Status) → AnswersAll st → AnswersInput st
as_input Done all = all
as_input BadScript all = all
as_input TooLong all = all
as_input _ all = absurd all

-- a call that answered all items did what its arguments choose
did_chosen : (words : List Text) (old : CallState) (st : Status) (new : CallState) → EndsWell words old st new → AnswersAll st → DoesChosen words old st new
did_chosen words old Done new ends all = ends
did_chosen words old BadScript new ends all = ends
did_chosen words old TooLong new ends all = ends
did_chosen words old _ new ends all = absurd all

module _ (words : List Text) (choice : Choice) (chosen : Chooses words choice) (all : List ℕ) (call : TopCall) (keeps : KeepsContract words call)
    (whole : AnswersWhole all call) where
  chosen_does : InMode choice.mode choice call.old call.status call.new
  chosen_does =
      let d = did_chosen words call.old call.status call.new keeps.outcome whole.answered in
      subst (λ (c : Choice). InMode c.mode c call.old call.status call.new) (one_choice words choice d.choice chosen d.chosen) d.done

  chosen_shows : PrintsInMode choice.mode choice (kinds_in call.old) (effects_of call.old call.status call.new)
  chosen_shows =
      let t : PrintsChosen words (kinds_in call.old) (effects_of call.old call.status call.new) = keeps.claimed (as_input call.status whole.answered) in
      subst (λ (c : Choice). PrintsInMode c.mode c (kinds_in call.old) (effects_of call.old call.status call.new))
      (one_choice words choice t.choice chosen t.chosen) t.shows

pub output_once : (words : List Text) (choice : Choice) (all : List ℕ) (one two : TopCall) → Chooses words choice → KeepsContract words one
    → KeepsContract words two → AnswersWhole all one → AnswersWhole all two → kinds_in two.old ≡ kinds_in one.old
    → LeavesNoChoice choice.mode choice one.old.managers → LeavesNoChoice choice.mode choice two.old.managers → two.old.sink.written ≡ one.old.sink.written
    → (two.status ≡ one.status) × (two.new.sink.written ≡ one.new.sink.written)
output_once words choice all one two chosen keeps keeps' whole whole' kinds order order' before =
    mode_once choice all one two (record { kinds = keeps.kinds; orders = keeps.orders }) (record { kinds = keeps'.kinds; orders = keeps'.orders }) whole whole' kinds before choice.mode
    (chosen_does words choice chosen all one keeps whole) (chosen_does words choice chosen all two keeps' whole')
    (chosen_shows words choice chosen all one keeps whole) (chosen_shows words choice chosen all two keeps' whole') order order'

pub run_once : (words : List Text) (choice : Choice) (all : List ℕ) (call : TopCall) → Chooses words choice → choice.mode ≡ Run → KeepsContract words call
    → AnswersWhole all call → PromisesOrder (chosen_manager choice.kind call.old.managers) → PrintsReplies (IsRunInOrder choice.kind) all call
run_once words choice all call chosen is keeps whole order =
    run_printed choice.kind all call whole order
    (subst (λ (m : Mode). InMode m choice call.old call.status call.new) is (chosen_does words choice chosen all call keeps whole))

pub comparison_once : (words : List Text) (choice : Choice) (all : List ℕ) (call : TopCall) → Chooses words choice → choice.mode ≡ Compare
    → KeepsContract words call → AnswersWhole all call → All PromisesOrder call.old.managers → PrintsReplies (AreRunsInOrder (kinds_in call.old)) all call
comparison_once words choice all call chosen is keeps whole order =
    compare_printed all call keeps.kinds keeps.orders whole order
    (subst (λ (m : Mode). InMode m choice call.old call.status call.new) is (chosen_does words choice chosen all call keeps whole))

-- ---- managers that were never open

each_promises : (kinds : List Kind) → All PromisesOrder (map closed_state kinds)
each_promises [] = All-nil PromisesOrder
each_promises (k ∷ kinds) = All-cons PromisesOrder (closed_state k) (map closed_state kinds) refl (each_promises kinds)

-- if each manager of a list promises an order, so does its item i or, past its end, the closed manager that is the default
read_promises : (kind : Kind) (heaps : List HeapState) (i : ℕ) → All PromisesOrder heaps → PromisesOrder (get_or heaps i (closed_state kind))
read_promises kind heaps i each = elim (cases_lt i (length heaps)) [
  | inl lt ↦ each i (closed_state kind) lt
  | inr past ↦ subst PromisesOrder (sym (get_or_past heaps i (closed_state kind) past)) refl
]

chosen_promises : (kind : Kind) (heaps : List HeapState) (first : Option ℕ) → All PromisesOrder heaps
    → PromisesOrder (elim first [ None ↦ closed_state kind | Some i ↦ get_or heaps i (closed_state kind) ])
chosen_promises kind heaps None each = refl
chosen_promises kind heaps (Some i) each = read_promises kind heaps i each

pub closed_leave_none : (mode : Mode) (choice : Choice) (kinds : List Kind) → LeavesNoChoice mode choice (map closed_state kinds)
closed_leave_none Run choice kinds =
    chosen_promises choice.kind (map closed_state kinds) (first_of_kind choice.kind (map closed_state kinds)) (each_promises kinds)
closed_leave_none Compare choice kinds = each_promises kinds
closed_leave_none _ choice kinds = tt
