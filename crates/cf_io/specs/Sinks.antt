-- The sink in memory as contracts see it: the bytes written, how many more fit, and the schedule by which its calls fail; and what a call does to it.
use Rattle.std.specs.Prelude.{ℕ, Bool, ◌-◌, ◌==◌, ◌++◌, ◌||◌, ◌&&◌, not, List, [], length, take, min, if◌then◌else◌, Option, Some, None}
use Rattle.cf_io.specs.Schedules.{Schedule, is_due, count_moved, gone_well, gone_wrong, planned}

-- a sink in memory: the bytes written, how many more bytes fit (`room`), and the schedule by which its calls fail
pub record MemSink : Type 0 where
  pub written : List ℕ
  pub room : ℕ
  pub schedule : Schedule

-- an empty sink with room for `room` bytes, before its first call: the calls in `fails` fail, and `cuts` limits the bytes of the first calls (`Schedule`)
abbrev pub mem_sink : ℕ → List ℕ → List ℕ → MemSink
mem_sink room cuts fails = record { written = []; room = room; schedule = planned cuts fails }

-- whether the next call of the sink s, with these bytes, fails: by the schedule, or since there are bytes and no room is left
abbrev pub put_fails : MemSink → List ℕ → Bool
put_fails s bytes = is_due s.schedule || (s.room == 0 && not (length bytes == 0))

-- how many of these bytes the next call of the sink s writes if it does not fail
abbrev pub put_count : MemSink → List ℕ → ℕ
put_count s bytes = count_moved s.schedule (min (length bytes) s.room)

-- the result of the next call of the sink s, with these bytes: how many of them it writes; `None` if it fails
abbrev pub put_answer : MemSink → List ℕ → Option ℕ
put_answer s bytes = if put_fails s bytes then None else Some (put_count s bytes)

-- the sink s after the next call, with these bytes
abbrev pub put_after : MemSink → List ℕ → MemSink
put_after s bytes = if put_fails s bytes then record s { schedule = gone_wrong s.schedule }
    else record { written = s.written ++ take (put_count s bytes) bytes; room = s.room - put_count s bytes; schedule = gone_well s.schedule }
