-- For `unsafe impl Send for Lent`: the fields of the heap, and so the words that are lent, may go to another thread.
use denote.Param.Send.{AllSend, IsSend, owning_send, sendable, struct_send}
use denote.Struct.Owning.{fields, shape, to}
use denote.Struct.Struct.{exits_of}
use Rattle.std_alloc.proofs.SendSync.{quiet}
use Rattle.c_base.proofs.CallerLemmas.{loan-Keyless}
use Rattle.held_heap.specs.LooseTag.{lending}
use Rattle.held_heap.specs.Tag.{loose_heap}
use Rattle.held_heap.specs.Tlsf.{rule}
use Rattle.held_heap.specs.contracts.tlsf.Lent.{the_row, the_type}
use Rattle.held_heap.proofs.loose_tag.LooseTag.TheSendSync.{the_send as loose-send}

pub send : IsSend the_row
send =
    let all : AllSend (fields the_type) = (search sendable, tt) in
    owning_send the_type all (λ d. loan-Keyless loose_heap (lending rule) (search sendable) loose-send d.block d.words d.heap)
    (λ k. quiet (to the_type) (exits_of k (fields the_type)) ((struct_send (shape the_type) all).leaving k))
