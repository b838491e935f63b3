-- The law `Send` of `NphHeap`: the heap of a caller in C may go to another thread. No function cites the law; it checks that the kit finds it.
use denote.Param.Send.{IsSend}
use Rattle.norphuen_images.specs.contracts.images.NphHeap as heap
use Rattle.norphuen_images.proofs.images.NphHeap.TheSendSync as heap_sent

pub heap-send : IsSend heap.the_row
heap-send = heap_sent.the_send
