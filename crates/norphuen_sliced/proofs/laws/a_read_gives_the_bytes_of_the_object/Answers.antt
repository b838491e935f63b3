use Rattle.std.proofs.Common.{sym}
use Rattle.c_base.specs.Handles.{number_in}
use Rattle.norphuen_sliced.proofs.HandleLaws.{read_bytes}
use Rattle.norphuen_sliced.proofs.laws.a_read_gives_the_bytes_of_the_object.Goals as goal

pub returns : goal.returns
returns c old new handle from before after call k =
    read_bytes old (record { number = number_in old.handles handle; from = from }) before after call.answer k (sym call.by_code) call.read
