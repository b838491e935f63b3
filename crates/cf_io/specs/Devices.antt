-- What contracts see of a source over a reader of std and of a sink over a writer of std: the reader or writer, the counts, and which bytes a call moved.
use Rattle.std.specs.Prelude.{ℕ, List, Option, None, Result}
use Rattle.std.specs.Io.KnownBytes.{Appends, ReadConsumes}
use Rattle.cf_base.specs.declared.results.Failed.{Failed}
use Rattle.cf_io.specs.Feeds.{SinkState, SourceState}
use Rattle.cf_io.specs.declared.devices.StdSource.{StdSource}
use Rattle.cf_io.specs.declared.devices.StdSink.{StdSink}

-- the reader that the source s reads from
abbrev pub reader_of : {T : Type 0} → StdSource T → T
reader_of s = s.reader

-- the source s as any source: the bytes left are not observable
abbrev pub source_seen : {T : Type 0} → StdSource T → SourceState
source_seen s = record { rest = None; given = s.given; calls = s.calls; faults = s.faults; last_failed = s.failed }

-- the writer that the sink s writes to
abbrev pub writer_of : {T : Type 0} → StdSink T → T
writer_of s = s.writer

-- the sink s as any sink: the bytes written are not observable
abbrev pub sink_seen : {T : Type 0} → StdSink T → SinkState
sink_seen s = record { written = None; faults = s.faults; last_failed = s.failed }

-- A call of the source `old` returned `answer` and left the source `new`. If the bytes that the reader has left (`remaining`) are known, the call removed from
-- them those that it read into `buf`, and none at an error. It read 0 bytes into a buffer that isn't empty only if no byte was left.
abbrev pub ReadsFrom : {T : Type 0} → (T → Option (List ℕ)) → StdSource T → Result ℕ Failed → StdSource T → List ℕ → Type 0
ReadsFrom remaining old answer new buf = ReadConsumes (remaining (reader_of old)) (remaining (reader_of new)) answer buf

-- a call of the sink `old` left the sink `new`: if the writer's contents (`contents`) are known, the call appended `bytes` to them
abbrev pub WritesTo : {T : Type 0} → (T → Option (List ℕ)) → StdSink T → List ℕ → StdSink T → Type 0
WritesTo contents old bytes new = Appends (contents (writer_of old)) (contents (writer_of new)) bytes
