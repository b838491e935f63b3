use Rattle.c_base.proofs.Generations.{names_itself, refused_since_freed}
use Rattle.c_base.proofs.laws.a_freed_handle_names_nothing.Goals as goal

pub returns-clause-names : goal.returns-clause-names
returns-clause-names c handles n k within = names_itself handles k n within

pub returns-clause-freed : goal.returns-clause-freed
returns-clause-freed c handles ns n k within = refused_since_freed handles k n within ns
