-- For `Openable`: how heaps of a type are opened.
use Rattle.std.specs.Prelude.{ℕ}
use Rattle.cf_base.specs.Settings.{Profile}
use Rattle.cf_base.specs.declared.needed.BytesNeeded.{BytesNeeded}

-- For the type T of an open heap: the bounds k that an open takes; what is true of a heap that was just opened with some settings, after a heap with a given
-- largest handle; what is true of the memory that such an open asks for; and the largest handle of a heap, 0 if objects have none.
pub record Opening (T : Type 0) : Type 1 where
  pub takes : ℕ → Type 0
  pub is_fresh : Profile → ℕ → T → Type 0
  pub needs : Profile → BytesNeeded → Type 0
  pub last : T → ℕ
