use Rattle.std.proofs.Common.{[], false, refl}
use Rattle.script_reader.specs.Reading.{fresh, items_left}
use Rattle.script_reader.proofs.CallerLemmas.{given_then_left}
use Rattle.script_reader.proofs.laws.answers_are_items.Goals as goal

pub returns-clause-first : goal.returns-clause-first
returns-clause-first c = λ calls now are. (items_left now [] false, given_then_left calls fresh now refl are)

pub returns-clause-rest : goal.returns-clause-rest
returns-clause-rest c = λ calls now are. given_then_left calls fresh now refl are
