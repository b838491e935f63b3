-- The lemmas that other crates' proofs cite: a call that leaves the settings and the quantum of a sliced heap unchanged (`StaysSlicedOpen`) leaves the model's
-- settings (`plan_in`) unchanged; and what a write into lent words does.
use Rattle.std.proofs.Common.{◌≡◌, ℕ, ap₂}
use Rattle.cf_base.specs.Settings.{Profile}
use Rattle.cf_base.specs.declared.kind.Layout.TheVariants.{Words}
use Rattle.page_model.specs.Paging.{first_bounds, paging_of}
use Rattle.slice_model.specs.State.{Plan}
use Rattle.sliced_heap.specs.Shown.{SlicedState, StaysSlicedOpen, plan_in}
pub use Rattle.sliced_heap.proofs.LentWrite.{lent_held, lent_valid}

-- the plan, as a function of the settings and the quantum
abbrev plan_by : Profile → ℕ → Plan
plan_by p n = record { paging = paging_of p Words (first_bounds p Words); proxies = p.proxies; quantum = n }

pub plan_stays : (old new : SlicedState) → StaysSlicedOpen old new → plan_in new ≡ plan_in old
plan_stays old new stays = ap₂ plan_by stays.profile stays.quantum
