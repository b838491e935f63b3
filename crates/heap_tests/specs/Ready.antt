-- When the tests can write the image of a heap: it is open, its manager is the moving one, and the session belongs to it.
use Rattle.std.specs.Prelude.{◌≡◌}
use Rattle.cf_base.specs.Settings.{Profile}
use Rattle.cf_base.specs.declared.kind.Kind.TheVariants.{Moving}
use Rattle.run_model.specs.Sessions.{IsGoing, RunState}

-- the run s, a session and its heap, is in progress; the heap is of kind Moving and was opened with the settings p
pub record IsReady (p : Profile) (s : RunState) : Type 0 where
  pub going : IsGoing s
  pub kind : s.heap.kind ≡ Moving
  pub profile : s.heap.profile ≡ p
