use Rattle.std.proofs.Common.{not}
use Rattle.script_reader.specs.Lines.{is_gap}
use Rattle.script_reader.proofs.Words.{place_or_end, place-le-length}
use Rattle.script_reader.proofs.tokens.gaps.Goals as goal

pub returns-clause-value : goal.returns-clause-value
returns-clause-value c = rw (c.unwrap_or.ensures, c.first_other.ensures) (place_or_end (λ x. not (is_gap x)) c.args.text.now)

pub returns-clause-within : goal.returns-clause-within
returns-clause-within c = rw (returns-clause-value c) (place-le-length (λ x. not (is_gap x)) c.args.text.now)
