use Rattle.large_objects.proofs.MovingCosts.{access_is, few_share, free_is, malloc_is}
use Rattle.large_objects.proofs.laws.long_calls_take_steps_for_parts_and_words.Goals as goal

pub returns-clause-malloc : goal.returns-clause-malloc
returns-clause-malloc c = malloc_is

pub returns-clause-free : goal.returns-clause-free
returns-clause-free c = free_is

pub returns-clause-few : goal.returns-clause-few
returns-clause-few c = few_share

pub returns-clause-access : goal.returns-clause-access
returns-clause-access c = access_is
