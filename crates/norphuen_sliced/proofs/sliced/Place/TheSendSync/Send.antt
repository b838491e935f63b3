-- For `unsafe impl Send for Place`: the open heap, and so the block that has it, may go to another thread.
use denote.Param.Send.{AllSend, IsSend, owning_send, sendable, struct_send}
use denote.Struct.Owning.{fields, shape, to}
use denote.Struct.Struct.{exits_of}
use Rattle.std_alloc.proofs.SendSync.{quiet}
use Rattle.c_base.proofs.CallerLemmas.{place-Keyless}
use Rattle.norphuen_sliced.specs.Sliced.{open_sliced}
use Rattle.norphuen_sliced.specs.contracts.sliced.Place.{the_row, the_type}
use Rattle.norphuen_sliced.proofs.held.Held.TheSendSync.{the_send as heap-send}

pub send : IsSend the_row
send =
    let all : AllSend (fields the_type) = (search sendable, tt) in
    owning_send the_type all (λ d. place-Keyless open_sliced heap-send d.at d.held)
    (λ k. quiet (to the_type) (exits_of k (fields the_type)) ((struct_send (shape the_type) all).leaving k))
