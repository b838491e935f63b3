-- What contracts see of the fields of a `Reader`, and its invariant. `Inside` is the record of these fields. No public clause cites this module.
use Rattle.std.specs.Prelude.{◌≡◌, ◌≤◌, ◌+◌, false, List, ℕ, length, take, drop}
use Rattle.script_reader.specs.Reading.{MOST_FED, Reading, holds_line_feed}
use Rattle.script_reader.specs.declared.reader.Reader.TheInside.{Inside}

-- the bytes that reader r keeps: those that were fed, but not read yet
abbrev pub kept_in : Inside → List ℕ
kept_in r = drop r.start r.buffer.items

-- what contracts see of a reader with these fields
abbrev pub reading_of : Inside → Reading
reading_of r = record { kept = kept_in r; passed = r.passed; stage = r.stage; ended = r.ended; stopped = r.stopped; fed = r.fed }

-- The invariant of a reader: the kept bytes begin within the buffer or at its end; the buffer has at most 18,000 bytes; at most 9,000 bytes are kept; the
-- first `searched` kept bytes hold no line feed; the lines passed are no more than the fed bytes that are not kept; and at most 2^32 - 1 bytes were fed.
pub record IsValid (r : Inside) : Type 0 where
  pub start : r.start ≤ length r.buffer.items
  pub few : length r.buffer.items ≤ 18000
  pub kept : length (kept_in r) ≤ 9000
  pub searched : r.searched ≤ length (kept_in r)
  pub none : holds_line_feed (take r.searched (kept_in r)) ≡ false
  pub lines : r.passed + length (kept_in r) ≤ r.fed
  pub fed : r.fed ≤ MOST_FED
