-- How far a script has come: the state of its reader, the state of its run, and the bytes written; and when the next item may be answered. `m` is the semantics
-- of the mode handler, `p` a `Playing`.
use Rattle.std.specs.Prelude.{ℕ, List, Option, Some, None}
use Rattle.script_reader.specs.Reading.{Reading}
use Rattle.script_reader.specs.declared.stage.Stage.{Stage}
use Rattle.script_reader.specs.declared.stage.Stage.TheVariants.{Opening, Bounding, Running}
use Rattle.script_loop.specs.Semantics.{Semantics}

-- the state of the reader (what it was fed and keeps), and the state of the run after the replies so far
pub record Playing (S : Type 0) : Type 0 where
  pub reading : Reading
  pub state : S

-- the record `Playing` of a state of the reader and a state of the run
abbrev pub playing : {S : Type 0} → Reading → S → Playing S
playing reading state = record { reading = reading; state = state }

-- the state of the run by the reader's stage: none while the reader awaits the `heap` line (`Opening`), else `s`
abbrev pub run_in : {S : Type 0} → Stage → S → Option S
run_in Opening s = None
run_in Bounding s = Some s
run_in Running s = Some s

-- the state of the run; none before the `heap` line
abbrev pub run_of : {S : Type 0} → Playing S → Option S
run_of p = run_in p.reading.stage p.state

-- the handler may answer the next item in state `s`: before the `heap` line (stage `Opening`) the state is fresh, after that line the run is in progress
abbrev pub IsReadyAt : {S P : Type 0} → Semantics S P → Stage → S → Type 0
IsReadyAt m Opening s = m.is_fresh s
IsReadyAt m Bounding s = m.is_going s
IsReadyAt m Running s = m.is_going s

-- the next item may be answered: the state of the run fits the stage of the reader
abbrev pub IsReady : {S P : Type 0} → Semantics S P → Playing S → Type 0
IsReady m p = IsReadyAt m p.reading.stage p.state

-- the reader and the run, and the bytes written by then; `None` if the sink isn't observable
pub record Progress (S : Type 0) : Type 0 where
  pub playing : Playing S
  pub written : Option (List ℕ)

-- the record `Progress` of reader and run (`p`) and of the bytes written by then
abbrev pub progress : {S : Type 0} → Playing S → Option (List ℕ) → Progress S
progress p written = record { playing = p; written = written }
