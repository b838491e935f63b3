-- The three sources in memory as contracts see them, and what a call does to each: one never fails, one fails by a schedule, one repeats its bytes without
-- end.
use Rattle.std.specs.Prelude.{ℕ, ◌≡◌, ◌%◌, EachIndex, slice_index, ◌+◌, ◌++◌, List, length, take, drop, min, if◌then◌else◌, Option, Some, None}
use Rattle.cf_io.specs.Feeds.{last_count, one_more}
use Rattle.cf_io.specs.Schedules.{Schedule, is_due, count_moved, gone_well, gone_wrong, planned}

-- a source that never fails: the bytes left, how many it returned, and how many calls it had
pub record SureSource : Type 0 where
  pub left : List ℕ
  pub given : ℕ
  pub calls : ℕ

-- a source that fails by a schedule: the bytes left, how many it returned, and the schedule
pub record MemSource : Type 0 where
  pub left : List ℕ
  pub given : ℕ
  pub schedule : Schedule

-- a source that returns its pattern over and over: the pattern, the index of its byte that is next, how many bytes it returned, and how many calls it had
pub record LoopSource : Type 0 where
  pub pattern : List ℕ
  pub at : ℕ
  pub given : ℕ
  pub calls : ℕ

-- a source of these bytes, before its first call
abbrev pub sure_source : List ℕ → SureSource
sure_source bytes = record { left = bytes; given = 0; calls = 0 }

-- a source of these bytes, before its first call: the calls in `fails` fail, and `cuts` limits the bytes of the first calls (`Schedule`)
abbrev pub mem_source : List ℕ → List ℕ → List ℕ → MemSource
mem_source bytes cuts fails = record { left = bytes; given = 0; schedule = planned cuts fails }

-- a source of this pattern, before its first call
abbrev pub loop_source : List ℕ → LoopSource
loop_source pattern = record { pattern = pattern; at = 0; given = 0; calls = 0 }

-- the count `given` of returned bytes after n more, saturated at the last value of a u64
abbrev pub more_given : ℕ → ℕ → ℕ
more_given given n = min (given + n) last_count

-- the buffer `buf` after its start was filled with the first n of these bytes
abbrev pub filled : ℕ → List ℕ → List ℕ → List ℕ
filled n bytes buf = take n bytes ++ drop n buf

-- how many bytes the source s, which never fails, returns into a buffer of `room` bytes
abbrev pub sure_count : SureSource → ℕ → ℕ
sure_count s room = min room (length s.left)

-- the source s after a call that returned n bytes
abbrev pub sure_after : SureSource → ℕ → SureSource
sure_after s n = record { left = drop n s.left; given = more_given s.given n; calls = one_more s.calls }

-- how many bytes the next call of the source s returns into a buffer of `room` bytes if it does not fail
abbrev pub mem_count : MemSource → ℕ → ℕ
mem_count s room = count_moved s.schedule (min room (length s.left))

-- how many bytes the next call of the source s returns into a buffer of `room` bytes; `None` if it fails
abbrev pub mem_answer : MemSource → ℕ → Option ℕ
mem_answer s room = if is_due s.schedule then None else Some (mem_count s room)

-- the source s after the next call, with a buffer of `room` bytes
abbrev pub mem_after : MemSource → ℕ → MemSource
mem_after s room = if is_due s.schedule then record s { schedule = gone_wrong s.schedule }
    else record { left = drop (mem_count s room) s.left; given = more_given s.given (mem_count s room); schedule = gone_well s.schedule }

-- the buffer `buf` after the next call of the source s; it stays if the call fails
abbrev pub mem_buffer : MemSource → List ℕ → List ℕ
mem_buffer s buf = if is_due s.schedule then buf else filled (mem_count s (length buf)) s.left buf

-- the buffer `buf` holds the pattern over and over, beginning with the pattern's byte `at`
abbrev pub RepeatsPattern : List ℕ → ℕ → List ℕ → Type 0
RepeatsPattern pattern at buf = EachIndex buf (λ k. slice_index buf k ≡ slice_index pattern ((at + k) % length pattern))

-- the source s after a call that returned n bytes
abbrev pub loop_after : LoopSource → ℕ → LoopSource
loop_after s n = record s { at = (s.at + n) % length s.pattern; given = more_given s.given n; calls = one_more s.calls }
