use Rattle.quota_model.proofs.SharedPages.{page_left}
use Rattle.quota_model.proofs.laws.a_page_is_there_for_each_quota.Goals as goal

pub returns : goal.returns
returns c = λ s quotas m task shared are is_page lt less. page_left s quotas m shared are is_page task lt less
