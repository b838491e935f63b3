use Rattle.std.proofs.Common.{ap, length}
use Rattle.std.specs.Prelude.{option_map}
use Rattle.page_model.specs.Held.{Placed}
use Rattle.c_base.specs.Handles.{number_in}
use Rattle.c_base.proofs.CallerLemmas.{none_there, not_found}
use Rattle.held_heap.proofs.HandleLaws.{free_refused, read_refused, resize_refused, write_refused}
use Rattle.held_heap.proofs.laws.a_stale_handle_is_refused.Goals as goal

pub returns-clause-free : goal.returns-clause-free
returns-clause-free c most old new handle before after code call k is =
    free_refused old new before after code call.answer handle (number_in old.handles handle) k is call.by_code call.by_freed call.step call.raises

pub returns-clause-resize : goal.returns-clause-resize
returns-clause-resize c most old new handle bytes before after code call k is =
    resize_refused old new before after code (record { number = number_in old.handles handle; length = bytes }) call.answer k is call.by_code call.by_resized call.step

pub returns-clause-write : goal.returns-clause-write
returns-clause-write c most old new handle from bytes code call k is =
    write_refused old new (record { number = number_in old.handles handle; from = from }) bytes code call.answer k is call.by_code call.step

pub returns-clause-read : goal.returns-clause-read
returns-clause-read c most old new handle from before after code call k is =
    read_refused old (record { number = number_in old.handles handle; from = from }) before after code call.answer k is call.by_code call.read

pub returns-clause-length : goal.returns-clause-length
returns-clause-length c kind old new handle before after code call k is =
    not_found _ (ap (option_map (λ (x : Placed). length x.bytes)) (none_there old.heap.held k is k.rules.numbers.handles)) call.by_code call.by_length

pub returns-clause-place : goal.returns-clause-place
returns-clause-place c old new handle before after code call k is =
    not_found _ (ap (option_map (λ (x : Placed). x.place)) (none_there old.heap.held k is k.rules.numbers.handles)) call.by_code call.by_place
