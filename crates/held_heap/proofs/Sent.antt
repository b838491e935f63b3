-- The law `Send` of `NphHeap`, for each manager: the heap of a caller in C may go to another thread. No function cites the law; it checks that the kit finds
-- it.
use denote.Param.Send.{IsSend}
use Rattle.held_heap.specs.contracts.moving.NphHeap as moving
use Rattle.held_heap.specs.contracts.nonmoving.NphHeap as nonmoving
use Rattle.held_heap.specs.contracts.tlsf.NphHeap as tlsf
use Rattle.held_heap.specs.contracts.half.NphHeap as half
use Rattle.held_heap.proofs.moving.NphHeap.TheSendSync as moving_sent
use Rattle.held_heap.proofs.nonmoving.NphHeap.TheSendSync as nonmoving_sent
use Rattle.held_heap.proofs.tlsf.NphHeap.TheSendSync as tlsf_sent
use Rattle.held_heap.proofs.half.NphHeap.TheSendSync as half_sent

pub moving-send : IsSend moving.the_row
moving-send = moving_sent.the_send

pub nonmoving-send : IsSend nonmoving.the_row
nonmoving-send = nonmoving_sent.the_send

pub tlsf-send : IsSend tlsf.the_row
tlsf-send = tlsf_sent.the_send

pub half-send : IsSend half.the_row
half-send = half_sent.the_send
