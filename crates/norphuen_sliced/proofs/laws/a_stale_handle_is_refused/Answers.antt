use Rattle.std.proofs.Common.{ap, length}
use Rattle.std.specs.Prelude.{option_map}
use Rattle.page_model.specs.Arrangement.{class_at}
use Rattle.page_model.specs.Held.{Placed}
use Rattle.page_model.specs.Paging.{slot_words}
use Rattle.sliced_heap.specs.Shown.{plan_in}
use Rattle.c_base.specs.Handles.{number_in}
use Rattle.c_base.proofs.CallerLemmas.{not_found}
use Rattle.norphuen_sliced.proofs.HandleLaws.{free_refused, nothing, read_refused, write_refused}
use Rattle.norphuen_sliced.proofs.laws.a_stale_handle_is_refused.Goals as goal

pub returns-clause-free : goal.returns-clause-free
returns-clause-free c old new handle code call k is =
    free_refused old new code call.answer handle (number_in old.handles handle) k is call.by_code call.call.step call.raises

pub returns-clause-write : goal.returns-clause-write
returns-clause-write c old new handle from bytes code call k is =
    write_refused old new (record { number = number_in old.handles handle; from = from }) bytes code call.answer k is call.by_code call.call.step

pub returns-clause-read : goal.returns-clause-read
returns-clause-read c old new handle from before after code call k is =
    read_refused old (record { number = number_in old.handles handle; from = from }) before after code call.answer k is call.by_code call.refused call.read

pub returns-clause-length : goal.returns-clause-length
returns-clause-length c old new handle before after code call k is =
    not_found _ (ap (option_map (λ (x : Placed). length x.bytes)) (nothing old k is)) call.by_code call.by_length

pub returns-clause-place : goal.returns-clause-place
returns-clause-place c old new handle before after code call k is =
    not_found _ (ap (option_map (λ (x : Placed). x.place)) (nothing old k is)) call.by_code call.by_place

pub returns-clause-slot_words : goal.returns-clause-slot_words
returns-clause-slot_words c old new handle before after code call k is =
    let p = (plan_in old.heap).paging in
    not_found _ (ap (option_map (λ (x : Placed). slot_words p (class_at p x))) (nothing old k is)) call.by_code call.by_words
