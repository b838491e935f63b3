-- What a call of the tool from a page does: it runs `cf_main`, with a manager of each kind, on a script that is given, and shows the output in a buffer, or
-- shows nothing.
use Rattle.std.specs.Prelude.{◌≡◌, ◌≢◌, ◌++◌, ◌∷◌, ◌⊎◌, ℕ, ℤ, pos, List, [], Option, Some, None, IsUtf8, length, drop, map, nat_le, if◌then◌else◌}
use Rattle.clap.specs.Words.{Text}
use Rattle.cf_base.specs.Status.{status_code}
use Rattle.cf_base.specs.declared.kind.Kind.{Kind}
use Rattle.cf_base.specs.declared.kind.Kind.TheVariants.{Moving, NonMoving, Tlsf, HalfFit}
use Rattle.cf_base.specs.declared.status.Status.{Status}
use Rattle.cf_base.specs.declared.status.Status.TheVariants.{OutOfMemory, ReadFault, Words, WriteFault}
use Rattle.cf_model.specs.State.{closed_state}
use Rattle.top_call.specs.Outcomes.{EndsWhole}
use Rattle.top_call.specs.OneScript.{KeepsContract, TopCall}
use Rattle.top_call.specs.TopOutcome.{HasRightInput}
use Rattle.cf_page.specs.ArgumentWords.{argument_words}

-- the kinds of the managers of the tool, in the order of mode `compare`
abbrev pub all_kinds : List Kind
all_kinds = Moving ∷ NonMoving ∷ Tlsf ∷ HalfFit ∷ []

-- `call` keeps the contract of `cf_main` for these arguments. Before it the source had the bytes `script`, the sink was empty, and the managers, one of each
-- kind, were never open. No device failed. If the script is right for the mode, it was done, or memory ran out before any reply.
pub record RunsScript (words : List Text) (script : List ℕ) (call : TopCall) : Type 0 where
  pub keeps : KeepsContract words call
  pub read : call.old.source.rest ≡ Some script
  pub unwritten : call.old.sink.written ≡ Some []
  pub managers : call.old.managers ≡ map closed_state all_kinds
  pub complete : HasRightInput words (Some script) → EndsWhole call.status
  pub unread : call.status ≢ ReadFault
  pub uncut : call.status ≢ WriteFault

-- the buffer `old` with the output at its start; as it was, if the output is longer
abbrev pub shown_in : List ℕ → List ℕ → List ℕ
shown_in output old = if nat_le (length output) (length old) then output ++ drop (length output) old else old

-- The tool ran on the script with this status. All that it wrote, `count` bytes, is in the buffer `new`, which was `old`, if it fits there.
pub record IsPlayed (words : List Text) (script old : List ℕ) (status : Status) (count : ℕ) (new : List ℕ) : Type 0 where
  pub call : TopCall
  pub runs : RunsScript words script call
  pub ended : call.status ≡ status
  pub output : List ℕ
  pub written : call.new.sink.written ≡ Some output
  pub counted : count ≡ length output
  pub shown : new ≡ shown_in output old

-- `None` is returned and the buffer stays as it was, or `holds` is true of what is returned
abbrev pub OrKept : {A : Type 0} → Option A → List ℕ → List ℕ → (A → Type 0) → Type 0
OrKept None old new holds = new ≡ old
OrKept (Some r) old new holds = holds r

-- nothing was shown: an allocation failed (6), or the arguments are no UTF-8 (2)
pub record IsUnshown (lines : List ℕ) (code : ℤ) (count : ℕ) (old new : List ℕ) : Type 0 where
  pub cause : (code ≡ pos (status_code OutOfMemory)) ⊎ ((code ≡ pos (status_code Words)) × (¬ IsUtf8 lines))
  pub none : count ≡ 0
  pub kept : new ≡ old

-- the tool ran, and `code` is its exit status, or that of `WriteFault` if the buffer is too short for the output
pub record ShowsRun (words : List Text) (script old : List ℕ) (code : ℤ) (count : ℕ) (new : List ℕ) : Type 0 where
  pub status : Status
  pub played : IsPlayed words script old status count new
  pub exit : code ≡ pos (status_code (if nat_le count (length old) then status else WriteFault))

-- A call of the tool with the arguments in `lines`, and this script, returned `code`, and left the number `count` and the buffer `new`, which was `old`: it ran
-- the tool, or shows nothing.
abbrev pub IsPageRun : List ℕ → List ℕ → List ℕ → ℤ → ℕ → List ℕ → Type 0
IsPageRun lines script old code count new = IsUnshown lines code count old new ⊎ ShowsRun (argument_words lines) script old code count new
