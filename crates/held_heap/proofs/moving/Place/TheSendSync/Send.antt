-- For `unsafe impl Send for Place`: the open heap, and so the block that has it, may go to another thread.
use denote.Param.Send.{AllSend, IsSend, owning_send, sendable, struct_send}
use denote.Struct.Owning.{fields, shape, to}
use denote.Struct.Struct.{exits_of}
use Rattle.std_alloc.proofs.SendSync.{quiet}
use Rattle.c_base.proofs.CallerLemmas.{place-Keyless}
use Rattle.held_heap.specs.Moving.{open_heap}
use Rattle.held_heap.specs.contracts.moving.Place.{the_row, the_type}
use Rattle.held_heap.proofs.held.Held.TheSendSync.{the_send as held}
use Rattle.held_heap.specs.contracts.of_kind.PagedHeapOfKind.TheImpl as of_kind
use Rattle.paged_heap.specs.contracts.manager.PagedHeap as paged_heap
use Rattle.paged_heap.specs.contracts.manager.PagedHeapManager.TheImpl as manager
use Rattle.paged_heap.specs.contracts.manager.PagedHeapStepBounds.TheImpl as step_bounds
use Rattle.paged_heap.proofs.manager.PagedHeap.TheSendSync.{the_send as heap}
use Rattle.paged_heap.specs.contracts.page_kind.DirectPageKind.TheImpl as page_kind
use Rattle.virtual_words.specs.contracts.direct.Direct as direct
use Rattle.virtual_words.specs.contracts.direct.DirectMapping.TheImpl as mapping

heap-send : IsSend open_heap
heap-send = held
    (paged_heap.the_row direct.the_row mapping.ghosts)
    (of_kind.ghosts direct.the_row page_kind.ghosts of_kind.no_dict mapping.ghosts of_kind.no_dict)
    (manager.ghosts direct.the_row page_kind.ghosts manager.no_dict mapping.ghosts manager.no_dict)
    (step_bounds.ghosts direct.the_row page_kind.ghosts step_bounds.no_dict mapping.ghosts step_bounds.no_dict)
    (heap direct.the_row mapping.ghosts)

pub send : IsSend the_row
send =
    let all : AllSend (fields the_type) = (search sendable, tt) in
    owning_send the_type all (λ d. place-Keyless open_heap heap-send d.at d.held)
    (λ k. quiet (to the_type) (exits_of k (fields the_type)) ((struct_send (shape the_type) all).leaving k))
