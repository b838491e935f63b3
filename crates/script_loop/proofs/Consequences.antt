-- From a script's outcome (`MeetsOutcome`): what its status claims of the source's bytes; that reads print what was written, chunks don't matter, and the
-- output is the transcript if every bound is 1 and no address or cost is asked; and, for any mode handler, that a cut output is a prefix of a run's.
use Rattle.std.proofs.Common.{◌≡◌, ◌++◌, ◌∙◌, ◌≤◌, true, ℕ, List, [], Option, Some, None, length, refl, ap, sym, subst, ◌∷◌, append_assoc, ◌<◌, Bool, false, arith, le-leb, take_all, nat_le, take, cond}
use Rattle.std.proofs.lemmas.Bool.{lt-leb}
use Rattle.run_model.specs.Terms.{Item, items, Status, asks, bad, bad_line, Command, led, Reply, said, starts, text_of, appended, Kind, RunState}
use Rattle.cf_base.specs.declared.status.Status.TheVariants.{Done, Words, BadScript, ReadFault, WriteFault, OutOfMemory, TooLong, BadImage}
use Rattle.cf_io.specs.Feeds.{MayFollow, preceded}
use Rattle.cf_io.proofs.CallerLemmas.{nothing_may_follow}
use Rattle.script_loop.specs.ScriptOutcome.{Effects, IsStatusRow, MOST_BYTES, MeetsOutcome, Wrote, items_within, WroteInPart, has_bad}
use Rattle.script_loop.specs.Semantics.{Semantics, PartBy, RunBy, StepBy}
use Rattle.script_laws.proofs.CallerLemmas.{CanGoOn, IsOn, all_items_valid, run_on, run_there, valid_before, sayable_behind, step_on, kind_goes_on, reads_are_shown, one_shown}
use Rattle.script_laws.specs.ValidItems.{AreValidItems, IsValidCommand, IsValidItem}
use Rattle.run_model.proofs.CallerLemmas.{run_joined, text_joined}
use Rattle.script_loop.specs.Consequences.{IsPrefixBy, AnswersAll, ArePlain, IsPrefixOfRun, PrintsReads, PrintsTranscript, status_of}
use Rattle.run_model.specs.Runs.{IsCommandStep}
use Rattle.script_loop.specs.Applying.{TurnsInPart}
use Rattle.script_loop.specs.OneManager.{one_manager}
use Rattle.script_laws.specs.Transcripts.{transcript}

-- From a script's outcome (`MeetsOutcome`) to what its status claims of the source's bytes (`IsStatusRow`): of all bytes, if the source is observable; else
-- of those taken and some that may follow.

-- a script within the limit is read whole
pub within_all : (all : List ℕ) → length all ≤ MOST_BYTES → items_within all ≡ items all true
within_all all fits = ap (λ (l : List ℕ). items l (nat_le (length all) MOST_BYTES)) (take_all MOST_BYTES all fits)
    ∙ ap (items all) (le-leb (length all) MOST_BYTES fits)

module _ {S P : Type 0} (m : Semantics S P) (from to : S) (call : Effects) where
  -- over the bytes that the source had
  pub observed_row : (all : List ℕ) → call.had ≡ Some all → MeetsOutcome m from call to → (left : List ℕ) × IsStatusRow m call.status from all left call to
  observed_row all shown met = go call.left refl
    where
      go : (left : Option (List ℕ)) → left ≡ call.left → (rest : List ℕ) × IsStatusRow m call.status from all rest call to
      go None is =
          let e : Some all ≡ None = sym shown ∙ met.took ∙ ap (preceded met.taken) (sym is) in
          absurd cc
      go (Some left) is =
          let e : Some all ≡ Some (met.taken ++ left) = sym shown ∙ met.took ∙ ap (preceded met.taken) (sym is) in
          let same : met.taken ++ left ≡ all = cc in (
            left,
            subst (λ (l : List ℕ). IsStatusRow m call.status from l left call to) same
                (met.row left (subst (λ (o : Option (List ℕ)). MayFollow o met.ended left) is refl)),
          )

  -- what the status claims (`IsStatusRow`) of the bytes taken and some bytes that may follow them
  pub some_row : MeetsOutcome m from call to → (all : List ℕ) × (left : List ℕ) × IsStatusRow m call.status from all left call to
  some_row met = go call.left refl
    where
      go : (left : Option (List ℕ)) → left ≡ call.left → (all : List ℕ) × (left : List ℕ) × IsStatusRow m call.status from all left call to
      go None is = (met.taken ++ [], [], met.row [] (subst (λ (o : Option (List ℕ)). MayFollow o met.ended []) is (nothing_may_follow met.ended)))
      go (Some left) is = (met.taken ++ left, left, met.row left (subst (λ (o : Option (List ℕ)). MayFollow o met.ended left) is refl))

  -- if a script was answered to its end, a run over its items led to the state `to`
  pub whole_run : MeetsOutcome m from call to → call.status ≡ Done → (wanted : List Item) × Wrote m from wanted call to
  whole_run met done =
      let row = some_row met in
      let whole = subst (λ (st : Status). IsStatusRow m st from row.0 row.1 call to) done row.2 in
      (items_within row.0, whole.3)

-- For the laws on failed sinks, of any mode handler whose commands always have a turn: what a call wrote before the sink failed is a prefix of the output of a
-- whole run.

-- The premises: runs of the mode handler can go on, and each cut reply is a prefix of the reply of some turn.
module _ {S P : Type 0} (m : Semantics S P) (from : S) (rules : CanGoOn (m.begins (m.plan from)) m.turns)
    (cut_whole : (old : S) (c : Command) (out : List ℕ) (new : S) → rules.is_going old → IsValidCommand c → m.turns_in_part old c out new
    → (reply : Reply) × (mid : S) × (lost : List ℕ) × m.turns old c reply mid × (led [] reply ≡ out ++ lost)) where
  abbrev OnRun : Option S → Type 0
  OnRun = IsOn (m.begins (m.plan from)) m.turns rules

  part_whole : (old : Option S) (item : Item) (out : List ℕ) (new : Option S) → OnRun old → IsValidItem item → PartBy m from old item out new
      → (reply : Reply) × (mid : Option S) × (lost : List ℕ) × StepBy m from old item reply mid × (led [] reply ≡ out ++ lost)
  part_whole old (starts p) out new on can part = (part.1, Some part.0, part.2, (part.0, part.3, refl), part.4)
  part_whole None (asks c) out new on can part = absurd part
  part_whole (Some old) (asks c) out new on can part = let w = cut_whole old c out part.0 on can part.1 in (w.0, Some w.1, w.2, (w.1, w.3, refl), w.4)
  part_whole old (bad n) out new on can part = (said (bad_line n), old, part.0, (refl, refl), part.1)

  pub part_is_prefix : (wanted before after : List Item) (item : Item) (replies : List Reply) (mid end : Option S) (front : List ℕ) → AreValidItems wanted
      → wanted ≡ before ++ item ∷ after
      → RunBy m from None before replies mid → PartBy m from mid item front end
      → (all : List Reply) × (last : Option S) × (missing : List ℕ) × RunBy m from None wanted all last
      × (text_of [] all ≡ (text_of [] replies ++ front) ++ missing)
  part_is_prefix wanted before after item replies mid end front can parts run part =
      let rest = sayable_behind before (item ∷ after) (subst AreValidItems parts can) in
      let on = run_on (m.begins (m.plan from)) m.turns rules None before replies mid tt (valid_before before (item ∷ after) (subst AreValidItems parts can)) run in
      let whole = part_whole mid item front end on rest.0 part in
      let more = run_there (m.begins (m.plan from)) m.turns rules whole.1 after
      (step_on (m.begins (m.plan from)) m.turns rules mid item whole.0 whole.1 on rest.0 whole.3) rest.1 in
      let both : RunBy m from mid (item ∷ after) (whole.0 ∷ more.0) more.1 = (whole.1, whole.0, more.0, whole.3, refl, more.2) in (
        replies ++ whole.0 ∷ more.0,
        more.1,
        whole.2 ++ text_of [] more.0,
        subst (λ (items : List Item). RunBy m from None items (replies ++ whole.0 ∷ more.0) more.1) (sym parts)
            (run_joined (m.begins (m.plan from)) m.turns None before (item ∷ after) replies (whole.0 ∷ more.0) mid more.1 run both),
        text_joined [] replies (whole.0 ∷ more.0) ∙ ap (λ (l : List ℕ). text_of [] replies ++ (l ++ text_of [] more.0)) whole.4
            ∙ ap (λ (l : List ℕ). text_of [] replies ++ l) (append_assoc front whole.2 (text_of [] more.0))
            ∙ sym (append_assoc (text_of [] replies) front (whole.2 ++ text_of [] more.0)),
      )

  -- what a call wrote before the sink failed is a prefix of the output of a whole run, over the items of any bytes
  pub cut_is_prefix_by : (to : S) (call : Effects) (all : List ℕ) (w : WroteInPart m from (items_within all) call to)
      → IsPrefixBy m from (items_within all) (text_of [] w.replies ++ w.front)
  cut_is_prefix_by to call all w =
      let p = part_is_prefix (items_within all) w.before w.after w.item w.replies w.mid w.end w.front
      (all_items_valid (take MOST_BYTES all) (nat_le (length all) MOST_BYTES)) w.parts w.run w.part in
      record { replies = p.0; end = p.1; run = p.3; missing = p.2; prefix = p.4 }

-- For the laws on a script over one manager: reads print what was written, a cut output is a prefix of a run's, chunks don't matter, and if every bound is 1
-- and no address or cost is asked, the output is the transcript.

-- if all items were answered, a run over all of them led to the end
module _ {S P : Type 0} (m : Semantics S P) (from to : S) where
  row_wrote : (all left : List ℕ) (call : Effects) (st : Status) → IsStatusRow m st from all left call to → AnswersAll st
      → Wrote m from (items_within all) call to
  row_wrote all left call Done row is = row.3
  row_wrote all left call BadScript row is = row.1
  row_wrote all left call TooLong row is = row.2
  row_wrote all left call _ row is = absurd is

  pub wrote_by : (call : Effects) (all : List ℕ) → call.had ≡ Some all → MeetsOutcome m from call to → AnswersAll call.status
      → Wrote m from (items_within all) call to
  wrote_by call all shown met is = let row = observed_row m from to call all shown met in row_wrote all row.0 call call.status row.1 is

pub wrote_all : (from to : RunState) (call : Effects) (all : List ℕ) → call.had ≡ Some all → MeetsOutcome one_manager from call to → AnswersAll call.status
    → Wrote one_manager from (items_within all) call to
wrote_all from to call all shown met is = wrote_by one_manager from to call all shown met is

pub prints_reads : (from to : RunState) (wanted : List Item) (call : Effects) → Wrote one_manager from wanted call to → PrintsReads wanted call
prints_reads from to wanted call w = record { replies = w.replies; reads = reads_are_shown from.heap.kind wanted w.replies w.end w.run; written = w.written }

-- ---- the output of one manager, and a prefix of it

cut_whole : (kind : Kind) (old : RunState) (c : Command) (out : List ℕ) (new : RunState) → (kind_goes_on kind).is_going old → IsValidCommand c
    → TurnsInPart IsCommandStep old c out new
    → (reply : Reply) × (mid : RunState) × (lost : List ℕ) × IsCommandStep old c reply mid × (led [] reply ≡ out ++ lost)
cut_whole kind old c out new on can part = (part.reply, new, part.lost, part.turn, part.cut)

pub cut_is_prefix : (from to : RunState) (call : Effects) (all : List ℕ)
    → (w : WroteInPart one_manager from (items_within all) call to)
    → IsPrefixOfRun from.heap.kind (items_within all) (text_of [] w.replies ++ w.front)
cut_is_prefix from to call all w =
    let kind = from.heap.kind in
    let p = part_is_prefix one_manager from (kind_goes_on kind) (cut_whole kind)
    (items_within all) w.before w.after w.item w.replies w.mid w.end w.front
    (all_items_valid (take MOST_BYTES all) (nat_le (length all) MOST_BYTES)) w.parts w.run w.part in
    record { replies = p.0; end = p.1; run = p.3; missing = p.2; prefix = p.4 }

-- ---- transcripts

pub shows : (from to : RunState) (wanted : List Item) (call : Effects) → Wrote one_manager from wanted call to → ArePlain from.heap.kind wanted
    → call.after ≡ appended call.before (text_of [] (transcript from.heap.kind wanted))
shows from to wanted call w plain =
    w.written ∙ ap (λ (r : List Reply). appended call.before (text_of [] r))
    (one_shown from.heap.kind wanted w.replies w.end plain.paged plain.ones plain.placeless w.run)

shows_of : (from to : RunState) (call : Effects) (had : Option (List ℕ)) → had ≡ call.had → MeetsOutcome one_manager from call to → AnswersAll call.status
    → PrintsTranscript from.heap.kind had call
shows_of from to call None shown met is = tt
shows_of from to call (Some all) shown met is = shows from to (items_within all) call (wrote_all from to call all (sym shown) met is)

pub transcript_shown : (from to : RunState) (call : Effects) → MeetsOutcome one_manager from call to → AnswersAll call.status
    → PrintsTranscript from.heap.kind call.had call
transcript_shown from to call met is = shows_of from to call call.had refl met is

-- ---- two calls over the same bytes, cut into other chunks

-- the status of a call that answered all items is determined by the bytes
module _ {S P : Type 0} (m : Semantics S P) (from to : S) (all : List ℕ) where
  by_tests : (wrong few : Bool) → has_bad (items_within all) ≡ wrong → nat_le (length all) MOST_BYTES ≡ few
      → status_of all ≡ cond wrong BadScript (cond few Done TooLong)
  by_tests wrong few is are = ap (λ b. cond b BadScript (cond (nat_le (length all) MOST_BYTES) Done TooLong)) is
      ∙ ap (λ f. cond wrong BadScript (cond f Done TooLong)) are

  row_status : (left : List ℕ) (call : Effects) (st : Status) → IsStatusRow m st from all left call to → AnswersAll st → st ≡ status_of all
  row_status left call Done row is = sym (by_tests false true row.2 (le-leb (length all) MOST_BYTES row.0))
  row_status left call BadScript row is = sym (by_tests true (nat_le (length all) MOST_BYTES) row.0 refl)
  row_status left call TooLong row is = sym (by_tests false false row.1 (lt-leb (length all) MOST_BYTES row.0))
  row_status left call _ row is = absurd is

  pub met_status : (call : Effects) → call.had ≡ Some all → MeetsOutcome m from call to → AnswersAll call.status → call.status ≡ status_of all
  met_status call shown met is = (let row = observed_row m from to call all shown met in row_status row.0 call call.status row.1 is)

pub same_status : (from other to there : RunState) (one two : Effects) (all : List ℕ) → one.had ≡ Some all → two.had ≡ Some all
    → MeetsOutcome one_manager from one to
    → MeetsOutcome one_manager other two there → AnswersAll one.status → AnswersAll two.status → two.status ≡ one.status
same_status from other to there one two all shown shown2 met met2 is is2 =
    met_status one_manager other there all two shown2 met2 is2 ∙ sym (met_status one_manager from to all one shown met is)

pub same_output : (from other to there : RunState) (one two : Effects) (all : List ℕ) → one.had ≡ Some all → two.had ≡ Some all
    → MeetsOutcome one_manager from one to
    → MeetsOutcome one_manager other two there → AnswersAll one.status → AnswersAll two.status → other.heap.kind ≡ from.heap.kind
    → ArePlain from.heap.kind (items_within all)
    → two.before ≡ one.before → two.after ≡ one.after
same_output from other to there one two all shown shown2 met met2 is is2 kinds plain before =
    let first = shows from to (items_within all) one (wrote_all from to one all shown met is) plain in
    let second = shows other there (items_within all) two (wrote_all other there two all shown2 met2 is2)
    (subst (λ (k : Kind). ArePlain k (items_within all)) (sym kinds) plain) in
    second ∙ ap (λ (k : Kind). appended two.before (text_of [] (transcript k (items_within all)))) kinds
    ∙ ap (λ (w : Option (List ℕ)). appended w (text_of [] (transcript from.heap.kind (items_within all)))) before ∙ sym first
