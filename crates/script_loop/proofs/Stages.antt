-- How the reader's stage (`Opening` before the `heap` line) fits the state of the run: before that line no run has begun, after it the run is in progress.
use Rattle.std.proofs.Common.{◌≡◌, Bool, true, false, Some, refl}
use Rattle.script_reader.specs.Items.{stage_after_command}
use Rattle.script_reader.specs.declared.stage.Stage.{Stage}
use Rattle.script_reader.specs.declared.stage.Stage.TheVariants.{Opening, Bounding, Running}
use Rattle.script_loop.specs.Progress.{IsReadyAt, run_in}
use Rattle.script_loop.specs.ScriptOutcome.{EndsAt}
use Rattle.script_loop.specs.Semantics.{Semantics}

-- the stage after a command isn't `Opening`
pub never_opening : (a b : Stage) (k : Bool) → stage_after_command a k ≡ Some b → b ≡ Opening → ⊥
never_opening Opening b k leads is = absurd cc
never_opening Bounding b true leads is = absurd cc
never_opening Bounding b false leads is = absurd cc
never_opening Running b true leads is = absurd cc
never_opening Running b false leads is = absurd cc

-- a stage that allows a command isn't `Opening`, so the run has begun
pub run_before : {S : Type 0} (a b : Stage) (k : Bool) → stage_after_command a k ≡ Some b → (s : S) → run_in a s ≡ Some s
run_before Opening b k leads s = absurd cc
run_before Bounding b k leads s = refl
run_before Running b k leads s = refl

pub run_after : {S : Type 0} (a b : Stage) (k : Bool) → stage_after_command a k ≡ Some b → (s : S) → run_in b s ≡ Some s
run_after a Opening k leads s = absurd (never_opening a Opening k leads refl)
run_after a Bounding k leads s = refl
run_after a Running k leads s = refl

pub going_after : {S P : Type 0} (m : Semantics S P) (a b : Stage) (k : Bool) (s : S) → stage_after_command a k ≡ Some b → m.is_going s → IsReadyAt m b s
going_after m a Opening k s leads going = absurd (never_opening a Opening k leads refl)
going_after m a Bounding k s leads going = going
going_after m a Running k s leads going = going

-- the state after a run; before the `heap` line it is the first state, unchanged
pub stands : {S : Type 0} (a : Stage) (s t : S) → (a ≡ Opening → t ≡ s) → EndsAt s (run_in a t) t
stands Opening s t untouched = untouched refl
stands Bounding s t untouched = refl
stands Running s t untouched = refl
