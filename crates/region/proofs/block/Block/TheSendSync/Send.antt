-- What a `Block`, the memory of a region, owns names no thread. So it may be sent to another thread.
use denote.Array.{Array}
use denote.Builtin.{u64}
use denote.Param.Send.{AllSend, IsSend, array_send, owning_send, sendable, struct_send}
use denote.Struct.Owning.{fields, shape, to}
use denote.Struct.Struct.{exits_of}
use Rattle.std.proofs.Crossing.{frees}
use Rattle.std.specs.Allocator.{array_of}
use Rattle.std_alloc.proofs.SendSync.{lies, quiet}
use Rattle.region.specs.contracts.block.Block.{the_row, the_type}

pub send : IsSend the_row
send =
    let all : AllSend (fields the_type) = (search sendable, (search sendable, tt)) in
    owning_send the_type all (λ d. (lies (Array u64 d.len) (array_send u64 d.len (search sendable)) d.at d.items, frees.frees _ (array_of u64 d.len) d.at))
    (λ k. quiet (to the_type) (exits_of k (fields the_type)) ((struct_send (shape the_type) all).leaving k))
