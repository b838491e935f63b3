-- The handles that C has. `handles` has for each number below its length, a power of two, the handle that names it now. A free raises that handle by the
-- length. So the low bits of a handle are the number of an object, and the others its generation. The handles of a heap just opened are larger than those of
-- the heap before, or begin from 0 if too few are larger.
use Rattle.std.specs.Prelude.{ℕ, ◌+◌, ◌-◌, ◌*◌, ◌%◌, ◌^◌, List, Option, Some, None, Result, Ok, Err, cond, length, max, nat_eq, nat_lt, slice_index, slice_set}
use Rattle.std.specs.List.{fold, range_with_len}
use Rattle.cf_base.specs.declared.results.Handle.{Handle}

-- the value in place of a handle or an object's number that says that there is none; it is larger than every handle and every number
abbrev pub none : ℕ
none = 4294967295

-- the handle that C has for object `number`, of which only the low bits count
abbrev pub handle_of : List ℕ → ℕ → ℕ
handle_of handles number = slice_index handles (number % length handles)

-- the number of the object that a handle of C names; `none`, which no object has, if it is not the handle that its number has now
abbrev pub number_in : List ℕ → ℕ → ℕ
number_in handles handle = cond (nat_eq (slice_index handles (handle % length handles)) handle) (handle % length handles) none

-- the handle after this one among those of `count` numbers: the same number in the next generation, and after the last generation in the first
abbrev pub next : ℕ → ℕ → ℕ
next count handle = cond (nat_lt (handle + 2 * count) (2 ^ 32)) (handle + count) (handle % count)

-- the handles after object `number` was freed
abbrev pub raised : List ℕ → ℕ → List ℕ
raised handles number = slice_set handles number (next (length handles) (slice_index handles number))

-- the handles after a free with this result of what `handle` names: only a free that succeeds raises one
abbrev pub raised_by : {T E : Type 0} → List ℕ → ℕ → Result T E → List ℕ
raised_by handles handle (Ok u) = raised handles (handle % length handles)
raised_by handles handle (Err e) = handles

-- the handle of the object that moved, as C gets it; `none` if none did
abbrev pub moved_handle : List ℕ → Option Handle → ℕ
moved_handle handles (Some h) = handle_of handles h.0
moved_handle handles None = none

-- the handle of number 0 in a heap of `count` numbers that was just opened: the least multiple of `count` that is larger than `last`, or 0 if fewer than three times
-- `count` values of 32 bits are larger
abbrev pub base_of : ℕ → ℕ → ℕ
base_of count last = cond (nat_lt (last + 3 * count) (2 ^ 32)) (last - last % count + count) 0

-- the handles of a heap of `count` numbers that was just opened: larger than `last`, or from 0 on if too few are larger
abbrev pub first_handles : ℕ → ℕ → List ℕ
first_handles count last = range_with_len (base_of count last) count

-- the largest of these handles
abbrev pub largest : List ℕ → ℕ
largest handles = fold (λ (a h : ℕ). max a h) 0 handles
