use Rattle.page_model.proofs.Sizes.{class_fits, class_holds, class_least, class_known, class_none}
use Rattle.page_model.proofs.classes.a_class_holds_its_requests.Goals as goal

pub returns-clause-fits : goal.returns-clause-fits
returns-clause-fits c = λ p n ok. class_fits p ok n

pub returns-clause-holds : goal.returns-clause-holds
returns-clause-holds c = λ p n ok. class_holds p ok n

pub returns-clause-least : goal.returns-clause-least
returns-clause-least c = λ p n c ok. class_least p ok n c

pub returns-clause-known : goal.returns-clause-known
returns-clause-known c = λ p n ok. class_known p ok n

pub returns-clause-none : goal.returns-clause-none
returns-clause-none c = λ p n ok. class_none p ok n
