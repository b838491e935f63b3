use Rattle.script_laws.proofs.OneTranscript.{alike_replies}
use Rattle.script_laws.proofs.headline.equal_objects_get_equal_replies.Goals as goal

pub returns : goal.returns
returns c = λ one other items replies shown last end going going' paged alike ones ones' may run run'. alike_replies one other going going' paged alike ones
    ones' items replies shown last end may run run'
