use Rattle.quota_model.proofs.AdmissionLaws.{one_answer}
use Rattle.quota_model.proofs.laws.there_is_one_admission.Goals as goal

pub returns : goal.returns
returns c = one_answer
