-- The state from which the transcript is computed: objects by the ids of the script, without addresses.
use Rattle.std.specs.Prelude.{ℕ, List}
use Rattle.run_model.specs.Terms.{empty, Kind, Objects, Paging, Profile}
use Rattle.page_model.specs.Paging.{paging_of}
use Rattle.cf_model.specs.State.{layout_of}
use Rattle.cf_model.specs.Steps.{opening_bounds}

-- The kind, the settings, the bounds of the classes, and `objects`: the bytes of the object of each live id. There are no handles, addresses, words or costs.
pub record ById : Type 0 where
  pub kind : Kind
  pub profile : Profile
  pub bounds : List ℕ
  pub objects : Objects

-- the state after the `heap` line with settings `p`: no object is live
abbrev pub begun : Kind → Profile → ById
begun kind p = record { kind = kind; profile = p; bounds = opening_bounds kind p; objects = empty }

-- the pages and size classes of a heap in state `t`
abbrev pub paging_by_id : ById → Paging
paging_by_id t = paging_of t.profile (layout_of t.kind) t.bounds
