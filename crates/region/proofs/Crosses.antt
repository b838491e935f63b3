-- A `Region` may be sent to another thread.
use denote.Param.Send.{IsSend}
use Rattle.region.proofs.words.Region.TheSendSync.{the_send}
use Rattle.region.specs.contracts.words.Region.{the_row}

pub region-send : IsSend the_row
region-send = the_send
