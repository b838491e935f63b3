-- For `Held`: a walk over the live objects, by rising number, and its steps.
use Rattle.std.specs.Prelude.{◌≡◌, ℕ, ℤ, pos, ◌+◌, ◌-◌, ◌<◌, ◌≤◌, Option, Some, None, if◌then◌else◌, length, nat_eq, option_map}
use Rattle.std.specs.FinMap.{get}
use Rattle.cf_base.specs.declared.results.Handle.{Handle}
use Rattle.page_model.specs.Held.{Held, Placed}
use Rattle.step_ledger.specs.Counting.{RoseBy}
use Rattle.c_base.specs.Handles.{moved_handle, none, number_in}
use Rattle.held_heap.specs.HeldState.{HeldState}

-- this is the first number from `from` on that has an object
pub record IsFirstLive (m : Held) (from number : ℕ) : Type 0 where
  pub object : Placed
  pub found : get m number ≡ Some object
  pub after : from ≤ number
  pub before : (n : ℕ) → from ≤ n → n < number → get m n ≡ None

-- the first number with an object from `from` on and below `count`, or that there is none
abbrev pub IsNextLive : Held → ℕ → ℕ → Option Handle → Type 0
IsNextLive m from count (Some h) = IsFirstLive m from h.0 × (h.0 < count)
IsNextLive m from count None = (n : ℕ) → from ≤ n → n < count → get m n ≡ None

-- how many numbers from `from` on were looked at to find this one, or that none of those below `count` has an object
abbrev pub looked_at : ℕ → ℕ → Option Handle → ℕ
looked_at from count (Some h) = h.0 + 1 - from
looked_at from count None = count - from

-- from which number on the walk looks: from 0 if `handle` is `none`, else from the number after that of the object that it names, if there is one
abbrev pub walk_from : HeldState → ℕ → Option ℕ
walk_from s handle =
    if nat_eq handle none then Some 0 else option_map (λ (x : Placed). number_in s.handles handle + 1) (get s.heap.held (number_in s.handles handle))

-- the steps to find the object that `handle` names; with `none` no object is looked for
abbrev pub lookup_steps : ℕ → ℕ
lookup_steps handle = if nat_eq handle none then 0 else 1

-- a call for the next object where the walk looks from this number on: code 0, and its handle, or `none` after the last. If there is no such number, the code is 4
-- (`UNKNOWN`)
abbrev pub IsNextFrom : Option ℕ → HeldState → ℕ → ℕ → ℤ → ℕ → ℕ → Type 0
IsNextFrom (Some from) s handle before code after steps =
    (answer : Option Handle) × IsNextLive s.heap.held from (length s.handles) answer × (code ≡ pos 0) × (after ≡ moved_handle s.handles answer)
    × RoseBy 0 steps (lookup_steps handle + looked_at from (length s.handles) answer)
IsNextFrom None s handle before code after steps = (code ≡ pos 4) × (after ≡ before) × RoseBy 0 steps 1

-- a call for the object after the one that `handle` names; nothing but the steps changes
pub record IsNextCall (old : HeldState) (handle before : ℕ) (code : ℤ) (after : ℕ) (new : HeldState) : Type 0 where
  pub next : IsNextFrom (walk_from old handle) old handle before code after new.steps
  pub kept : new ≡ record old { steps = new.steps }
