-- What contracts see of the source and the sink over a slice.
use Rattle.std.specs.Prelude.{false, ◌∷◌, ◌&&◌, Some, length, nat_le, take}
use Rattle.cf_io.specs.Feeds.{SinkState, SourceState}
use Rattle.norphuen_images.specs.declared.slices.SliceSink.{SliceSink}
use Rattle.norphuen_images.specs.declared.slices.SliceSource.{SliceSource}

-- a source over a slice: the slice is the bytes left, and no call fails
abbrev pub slice_source_seen : SliceSource → SourceState
slice_source_seen s = record { rest = Some s.bytes.now; given = s.given; calls = s.calls; faults = 0; last_failed = false }

-- A sink over a slice: the bytes written are its first ones. The list begins with the name of the reference, so that a call that only adds to the list keeps the reference. A call fails only if the
-- slice is full.
abbrev pub slice_sink_seen : SliceSink → SinkState
slice_sink_seen s = record { written = Some (s.bytes.ghost_name ∷ take s.at s.bytes.now); faults = s.faults; last_failed = s.failed && nat_le (length s.bytes.now) s.at }
