-- The contract of `load_script`, by status: an image is loaded and the script that makes its objects is written, or a line `bad image`, whole or in part, or
-- nothing. `from` is the state of the run before, `to` after it.
use Rattle.std.specs.Prelude.{◌≡◌, ℕ, List, [], Option, Result, Ok, Err, codes}
use Rattle.cf_base.specs.declared.settings.Settings.{Settings}
use Rattle.run_model.specs.Terms.{appended, led, RunState, said, Status, with_number}
use Rattle.cf_base.specs.declared.status.Status.TheVariants.{Done, ReadFault, WriteFault, OutOfMemory, BadImage}
use Rattle.cf_io.specs.Feeds.{WritesPrefix}
use Rattle.heap_image.specs.Feed.{feed_at}
use Rattle.heap_image.specs.Load.{LoadsBy}
use Rattle.heap_image.specs.declared.fault.LoadFault.{LoadFault}
use Rattle.heap_image.specs.declared.fault.LoadFault.TheVariants as fault
use Rattle.top_call.specs.ImageScript.{heap_script}
use Rattle.script_loop.specs.ScriptOutcome.{Effects}

-- the line `bad image` with the offset of the first field that breaks a rule
abbrev pub bad_image : ℕ → List ℕ
bad_image at = led [] (said (with_number (codes "bad image ") at))

-- the sink failed: a prefix was written of the script, if the image was loaded, or of the line `bad image`, if it was refused; no other result of the load is
-- possible
abbrev pub IsCutOff : Result Settings LoadFault → Option (List ℕ) → RunState → Option (List ℕ) → Type 0
IsCutOff (Ok settings) before to after = WritesPrefix before (heap_script to) after
IsCutOff (Err (fault.Bad at)) before to after = WritesPrefix before (bad_image at) after
IsCutOff (Err fault.Read) before to after = ⊥
IsCutOff (Err fault.OutOfMemory) before to after = ⊥

-- `load` read the source of the call with this result; the run was `from` before and is `to` after
abbrev pub LoadsIn : RunState → Effects → Result Settings LoadFault → RunState → Type 0
LoadsIn from call result to = LoadsBy from (feed_at call.had call.given_before) result (feed_at call.left call.given_after) to

-- for each status, how the load ended, and what was written
abbrev pub EndsLoadBy : Status → RunState → Effects → RunState → Type 0
EndsLoadBy Done from call to = (settings : Settings) × LoadsIn from call (Ok settings) to × (call.after ≡ appended call.before (heap_script to))
EndsLoadBy BadImage from call to = (at : ℕ) × LoadsIn from call (Err (fault.Bad at)) to × (call.after ≡ appended call.before (bad_image at))
EndsLoadBy ReadFault from call to = LoadsIn from call (Err fault.Read) to × (call.after ≡ call.before)
EndsLoadBy OutOfMemory from call to = LoadsIn from call (Err fault.OutOfMemory) to × (call.after ≡ call.before)
EndsLoadBy WriteFault from call to = (result : Result Settings LoadFault) × LoadsIn from call result to × IsCutOff result call.before to call.after
EndsLoadBy status from call to = ⊥

-- what the call `call` did, by its status
abbrev pub EndsLoad : RunState → Effects → RunState → Type 0
EndsLoad from call to = EndsLoadBy call.status from call to
