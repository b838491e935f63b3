-- The semantics of a mode handler, `m` below: a record of relations that fixes which reply each item may get, and to which state it leads. Also runs by it; and
-- what a `heap` line or a command does to the state and the bytes written, by its result.
use Rattle.std.specs.Prelude.{◌≡◌, ◌++◌, ℕ, Bool, true, false, List, [], Option, Result, Ok, Err}
use Rattle.run_model.specs.Terms.{appended, Command, Failed, Item, led, Profile, profile_of, Reply}
use Rattle.cf_base.specs.declared.settings.Settings.{Settings}
use Rattle.run_model.specs.Plays.{PlayPart, PlayRun, PlayStep}
use Rattle.script_loop.specs.declared.mode_handler.OpenFault.{OpenFault}
use Rattle.script_loop.specs.declared.mode_handler.OpenFault.TheVariants as fault

-- `S` is the type of the states of a run. `P` is the type of their plan: what of a state the effect of a `heap` line depends on; no item changes it.
-- `is_fresh`: in this state the handler can answer a `heap` line. `is_going`: in this state it can answer a command. `begins plan settings reply new`: the
-- `heap` line may get this reply and lead to `new`. `turns old command reply new`: the command may get this reply and lead to `new`. `turns_in_part old command
-- out new`: the command led to `new`, but the sink cut its reply after the bytes `out`. `lacks old new`: an allocation failed at the `heap` line.
pub record Semantics (S P : Type 0) : Type 1 where
  pub plan : S → P
  pub is_fresh : S → Type 0
  pub is_going : S → Type 0
  pub begins : P → Profile → Reply → S → Type 0
  pub turns : S → Command → Reply → S → Type 0
  pub turns_in_part : S → Command → List ℕ → S → Type 0
  pub lacks : S → S → Type 0

-- by the semantics `m` with the plan of `from`, one item may get this reply and lead from `old` to `new`; a state is `None` before the `heap` line
abbrev pub StepBy : {S P : Type 0} → Semantics S P → S → Option S → Item → Reply → Option S → Type 0
StepBy m from old item reply new = PlayStep (m.begins (m.plan from)) m.turns old item reply new

-- by the semantics `m` with the plan of `from`, the items in turn may get these replies, one each, and lead from `old` to `new`
abbrev pub RunBy : {S P : Type 0} → Semantics S P → S → Option S → List Item → List Reply → Option S → Type 0
RunBy m from old items replies new = PlayRun (m.begins (m.plan from)) m.turns old items replies new

-- by the semantics `m` with the plan of `from`, one item takes effect and leads from `old` to `new`, but only `out`, a prefix of its reply, is written
abbrev pub PartBy : {S P : Type 0} → Semantics S P → S → Option S → Item → List ℕ → Option S → Type 0
PartBy m from old item out new = PlayPart (m.begins (m.plan from)) m.turns_in_part old item out new

-- a state of a run, and the bytes written by then; `None` if the sink isn't observable
pub record Snapshot (S : Type 0) : Type 0 where
  pub state : S
  pub written : Option (List ℕ)

-- the record `Snapshot` of a state and the bytes written by then
abbrev pub snapshot : {S : Type 0} → S → Option (List ℕ) → Snapshot S
snapshot s written = record { state = s; written = written }

-- the `heap` line with settings `p` took effect, and its whole reply was written
pub record IsOpened {S P : Type 0} (m : Semantics S P) (old : Snapshot S) (p : Profile) (new : Snapshot S) : Type 0 where
  pub reply : Reply
  pub begins : m.begins (m.plan old.state) p reply new.state
  pub written : new.written ≡ appended old.written (led [] reply)

-- the `heap` line with settings `p` took effect, but only `front`, a prefix of its reply, was written; `lost` is the rest of the reply
pub record IsOpenedInPart {S P : Type 0} (m : Semantics S P) (old : Snapshot S) (p : Profile) (new : Snapshot S) : Type 0 where
  pub reply : Reply
  pub front : List ℕ
  pub lost : List ℕ
  pub begins : m.begins (m.plan old.state) p reply new.state
  pub cut : led [] reply ≡ front ++ lost
  pub written : new.written ≡ appended old.written front

-- what a `heap` line did, by its result: its reply was written, or a prefix of it (`Failed`), or an allocation failed and nothing was written (`OutOfMemory`)
abbrev pub OpensBy : {S P T : Type 0} → Semantics S P → Snapshot S → Settings → Result T OpenFault → Snapshot S → Type 0
OpensBy m old settings (Ok u) new = IsOpened m old (profile_of settings) new
OpensBy m old settings (Err fault.Failed) new = IsOpenedInPart m old (profile_of settings) new
OpensBy m old settings (Err fault.OutOfMemory) new = m.lacks old.state new.state × (new.written ≡ old.written)

-- whether the sink failed at the reply to a `heap` line
abbrev pub is_cut_reply : {T : Type 0} → Result T OpenFault → Bool
is_cut_reply (Ok u) = false
is_cut_reply (Err fault.Failed) = true
is_cut_reply (Err fault.OutOfMemory) = false

-- a command took effect, and its whole reply was written
pub record HasTurn {S P : Type 0} (m : Semantics S P) (old : Snapshot S) (command : Command) (new : Snapshot S) : Type 0 where
  pub reply : Reply
  pub turns : m.turns old.state command reply new.state
  pub written : new.written ≡ appended old.written (led [] reply)

-- a command took effect, but only `out`, a prefix of its reply, was written
pub record HasTurnInPart {S P : Type 0} (m : Semantics S P) (old : Snapshot S) (command : Command) (new : Snapshot S) : Type 0 where
  pub out : List ℕ
  pub turns : m.turns_in_part old.state command out new.state
  pub written : new.written ≡ appended old.written out

-- what a command did, by its result: its whole reply was written, or a prefix of it
abbrev pub AnswersBy : {S P T : Type 0} → Semantics S P → Snapshot S → Command → Result T Failed → Snapshot S → Type 0
AnswersBy m old command (Ok u) new = HasTurn m old command new
AnswersBy m old command (Err failed) new = HasTurnInPart m old command new
