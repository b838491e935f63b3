use Rattle.std.proofs.Common.{[], ◌∷◌}
use Rattle.std.specs.Prelude.{decimal}
use Rattle.script_reader.proofs.TextLemmas.{next_token}
use Rattle.script_reader.proofs.line_text.push_three.Goals as goal

pub returns-clause-text : goal.returns-clause-text
returns-clause-text c = next_token c.args.word.now (decimal c.args.a ∷ decimal c.args.b ∷ []) (decimal c.args.c) c.push_two.new.line c.push_field.new.line
    c.push_two.ensures.text c.push_field.ensures.text
