use Rattle.std.proofs.Common.{◌==◌}
use Rattle.script_reader.proofs.Searches.{next_is_position}
use Rattle.script_reader.proofs.tokens.line_feed_at.Goals as goal

pub returns : goal.returns
returns c = next_is_position (λ x. x == 10) c.args.bytes.now _ _ _ c.memchr_iter.ensures.value c.next.ensures.steps
