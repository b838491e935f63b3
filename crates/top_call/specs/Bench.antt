-- For `run_bench`, one bench of a manager: the run of its generated script, the numbers of that run, the line that it prints, and how it may end; for its loop,
-- `apply_commands`, that commands were applied. The generator makes the first `count` commands of the seed `seed`.
use Rattle.std.specs.Prelude.{◌≡◌, ◌++◌, ℕ, Bool, true, false, List, [], ◌∷◌, Option, Some, None, map, codes}
use Rattle.std.specs.List.{count_by}
use Rattle.top_call.specs.declared.figures.BenchFigures.{BenchFigures}
use Rattle.run_model.specs.Terms.{appended, asks, Command, Item, Kind, led, Profile, Reply, RunState, said, starts, Status, totals_in, with_number}
use Rattle.cf_base.specs.Settings.{profile_from}
use Rattle.cf_base.specs.declared.status.Status.TheVariants.{Done, WriteFault, OutOfMemory}
use Rattle.cf_io.specs.Feeds.{WritesPrefix}
use Rattle.cf_session.specs.Apply.{outcome_of, LacksOne}
use Rattle.cf_session.specs.declared.outcome.Outcome.{Outcome}
use Rattle.cf_session.specs.declared.outcome.Outcome.TheVariants.{Good, Refused}
use Rattle.script_reader.specs.Generated.{generated}
use Rattle.run_model.specs.Runs.{Run}

-- true if the outcome of a command is `Good` (a reply `ok`, or the bytes of a read)
abbrev pub is_good : Outcome → Bool
is_good Good = true
is_good outcome = false

-- true if the outcome of a command is `Refused` (a reply that begins with `refused`)
abbrev pub is_refusal : Outcome → Bool
is_refusal Refused = true
is_refusal outcome = false

-- how many of the replies are good
abbrev pub good_ones : List Reply → ℕ
good_ones replies = count_by (λ reply. is_good (outcome_of reply)) replies

-- how many of the replies are refusals
abbrev pub refusals : List Reply → ℕ
refusals replies = count_by (λ reply. is_refusal (outcome_of reply)) replies

-- the settings of `heap 64 16384 1 4096`
abbrev pub bench_settings : Profile
bench_settings = profile_from 64 16384 1 4096

-- the generated script, as items: the `heap` line with these settings, then the first `count` commands of the seed
abbrev pub bench_items : ℕ → ℕ → List Item
bench_items seed count = starts bench_settings ∷ map (λ c. asks c) (generated seed count)

-- A run over the generated script on a manager of this kind, which ends in the state `end`. `replies` are those to the commands, without the `ok` to the
-- `heap` line.
pub record BenchRun (kind : Kind) (seed count : ℕ) (end : RunState) : Type 0 where
  pub replies : List Reply
  pub run : Run kind None (bench_items seed count) (said (codes "ok") ∷ replies) (Some end)

-- the numbers of a bench of `count` commands, with these replies and this end
abbrev pub bench_figures : ℕ → List Reply → RunState → BenchFigures
bench_figures count replies end = record {
  commands = count;
  ok = good_ones replies;
  refused = refusals replies;
  live = (totals_in end.heap.kind end.heap).live;
  pages = (totals_in end.heap.kind end.heap).used;
  moves = end.session.moves;
}

-- the line of these numbers, without its line feed
abbrev pub bench_line : BenchFigures → List ℕ
bench_line f = with_number (codes "bench commands ") f.commands ++ (with_number (codes " ok ") f.ok ++ (with_number (codes " refused ") f.refused
    ++ (with_number (codes " live ") f.live ++ (with_number (codes " pages ") f.pages ++ with_number (codes " moves ") f.moves))))

-- the text that a bench with these replies and this end prints: the line of its numbers, with the line feed
abbrev pub bench_text : ℕ → List Reply → RunState → List ℕ
bench_text count replies end = led [] (said (bench_line (bench_figures count replies end)))

-- with this status the bytes of the sink went from `before` to `after`: at `Done` the text was added, at `WriteFault` a prefix of it; no other status occurs
abbrev pub IsTextWritten : Status → Option (List ℕ) → List ℕ → Option (List ℕ) → Type 0
IsTextWritten Done before text after = after ≡ appended before text
IsTextWritten WriteFault before text after = WritesPrefix before text after
IsTextWritten status before text after = ⊥

-- the bench ran from state `from` to state `to`, and its line was added to the sink's bytes, or a prefix of the line if the sink failed
pub record PrintsBench (status : Status) (seed count : ℕ) (from to : RunState) (before after : Option (List ℕ)) : Type 0 where
  pub run : BenchRun from.heap.kind seed count to
  pub written : IsTextWritten status before (bench_text count run.replies to) after

-- an allocation failed at the opening, so that the manager has no heap, and nothing was written
pub record LacksBench (from to : RunState) (before after : Option (List ℕ)) : Type 0 where
  pub lacks : LacksOne from to
  pub unwritten : after ≡ before

-- how a bench may end with this status, from state `from` to state `to`, with the sink's bytes before and after it
abbrev pub EndsBench : Status → ℕ → ℕ → RunState → RunState → Option (List ℕ) → Option (List ℕ) → Type 0
EndsBench OutOfMemory seed count from to before after = LacksBench from to before after
EndsBench status seed count from to before after = PrintsBench status seed count from to before after

-- the commands were applied in state `old`, and led to state `new`; `ok` of the replies are good, and `refused` are refusals
pub record IsAppliedTo (old : RunState) (commands : List Command) (new : RunState) (ok refused : ℕ) : Type 0 where
  pub replies : List Reply
  pub run : Run old.heap.kind (Some old) (map (λ c. asks c) commands) replies (Some new)
  pub ok_are : ok ≡ good_ones replies
  pub refused_are : refused ≡ refusals replies
