-- What `Session::apply` does: the command takes effect, and its reply is written, with its outcome as result (good, refused or other); or, if the sink
-- fails, a prefix is written. Re-exports the state of a run, and `LacksOne`: an allocation failed when the manager was opened.
use Rattle.std.specs.Prelude.{◌≡◌, ℕ, ◌||◌, List, [], ◌∷◌, Option, Result, Ok, Err, codes, nat_eq, if◌then◌else◌}
use Rattle.std.specs.List.{starts_with}
use Rattle.std.specs.Str.{bytes_eq}
use Rattle.run_model.specs.Terms.{Failed, HeapState, Reply, SessionState}
use Rattle.cf_session.specs.declared.outcome.Outcome.{Outcome}
use Rattle.cf_session.specs.declared.outcome.Outcome.TheVariants.{Good, Refused, Other}
use Rattle.run_model.specs.Answering.{Asked, IsAnswered, IsCutShort, Moment}
pub use Rattle.id_table.specs.Sessions.{LacksOne, run_at}

-- the state of a run at one moment, and the bytes written by then; `None` if the sink isn't observable
abbrev pub moment_at : SessionState → HeapState → Option (List ℕ) → Moment
moment_at session heap written = record { run = run_at session heap; written = written }

-- the outcome of a reply of one line: `Good` if the line is `ok` or begins with `=`, `Refused` if it begins with `refused`, else `Other`
abbrev pub outcome_in : List ℕ → Outcome
outcome_in text = if bytes_eq text (codes "ok") || starts_with nat_eq text (codes "=") then Good
    else (if starts_with nat_eq text (codes "refused") then Refused else Other)

-- the outcome of a whole reply, which is that of its first line; `Other` if it has no line
abbrev pub outcome_of : Reply → Outcome
outcome_of [] = Other
outcome_of (text ∷ rest) = outcome_in text

-- Between the moments `old` and `new` the command of `asked` took effect. If the result is `Ok`, its whole reply was written, and the result is the outcome of
-- that reply; if it is `Err`, a prefix of the reply was written.
abbrev pub AppliesOneManager : Moment → Asked → Result Outcome Failed → Moment → Type 0
AppliesOneManager old asked (Ok outcome) new = (a : IsAnswered old asked new) × (outcome ≡ outcome_of a.reply)
AppliesOneManager old asked (Err failed) new = IsCutShort old asked new

-- `answer` is the result of a command, by the result of writing its reply: the reply's outcome (`outcome`), or the error if the sink failed
abbrev pub IsEnded : {T : Type 0} → Result T Failed → Outcome → Result Outcome Failed → Type 0
IsEnded (Ok u) outcome answer = answer ≡ Ok outcome
IsEnded (Err failed) outcome answer = answer ≡ Err failed
