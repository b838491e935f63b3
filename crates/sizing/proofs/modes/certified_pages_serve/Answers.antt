use Rattle.sizing.proofs.ModePages.{all_mallocs, certified_mallocs, certified_resizes, certified_spare}
use Rattle.sizing.proofs.modes.certified_pages_serve.Goals as goal

pub returns-clause-mallocs : goal.returns-clause-mallocs
returns-clause-mallocs c = λ p modes points ok. certified_mallocs p ok modes points

pub returns-clause-within : goal.returns-clause-within
returns-clause-within c = λ p modes points ok. all_mallocs p ok modes points

pub returns-clause-resizes : goal.returns-clause-resizes
returns-clause-resizes c = λ p modes points ok. certified_resizes p ok modes points

pub returns-clause-spare : goal.returns-clause-spare
returns-clause-spare c = λ p modes points ok. certified_spare p ok modes points
