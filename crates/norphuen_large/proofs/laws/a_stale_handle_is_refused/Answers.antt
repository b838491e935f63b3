use Rattle.std.proofs.Common.{ap, length}
use Rattle.std.specs.Prelude.{option_map}
use Rattle.c_base.proofs.CallerLemmas.{none_there, not_found}
use Rattle.norphuen_large.specs.Calls.{position_in}
use Rattle.norphuen_large.proofs.HeldLaws.{free_refused, number_small, read_refused, write_refused}
use Rattle.norphuen_large.proofs.laws.a_stale_handle_is_refused.Goals as goal

pub returns-clause-free : goal.returns-clause-free
returns-clause-free c old new handle code call k is = free_refused old new handle code call.answer k is call.by_code call.step call.raises

pub returns-clause-write : goal.returns-clause-write
returns-clause-write c old new handle from bytes code call k is =
    write_refused old new (position_in old handle from) bytes code call.answer k is call.by_code call.step

pub returns-clause-read : goal.returns-clause-read
returns-clause-read c old new handle from before after code call k is =
    read_refused old (position_in old handle from) before after code call.answer k is call.by_code call.read

pub returns-clause-length : goal.returns-clause-length
returns-clause-length c old new handle before after code call k is =
    let none = none_there old.heap.objects k is (λ n v found. number_small old.heap n v k.rules found) in
    not_found _ (ap (option_map length) none) call.by_code call.by_length
