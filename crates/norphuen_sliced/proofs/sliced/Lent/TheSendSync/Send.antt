-- For `unsafe impl Send for Lent`: the fields of the heap, and so the words that are lent, may go to another thread.
use denote.Param.Send.{AllSend, IsSend, owning_send, sendable, struct_send}
use denote.Struct.Owning.{fields, shape, to}
use denote.Struct.Struct.{exits_of}
use Rattle.std_alloc.proofs.SendSync.{quiet}
use Rattle.c_base.proofs.CallerLemmas.{loan-Keyless}
use Rattle.norphuen_sliced.specs.Sliced.{loose_sliced}
use Rattle.norphuen_sliced.specs.Loose.{sliced_lending}
use Rattle.norphuen_sliced.specs.contracts.sliced.Lent.{the_row, the_type}
use Rattle.norphuen_sliced.proofs.loose.LooseHeld.TheSendSync.{the_send as loose-send}

pub send : IsSend the_row
send =
    let all : AllSend (fields the_type) = (search sendable, tt) in
    owning_send the_type all (λ d. loan-Keyless loose_sliced sliced_lending (search sendable) loose-send d.block d.words d.heap)
    (λ k. quiet (to the_type) (exits_of k (fields the_type)) ((struct_send (shape the_type) all).leaving k))
