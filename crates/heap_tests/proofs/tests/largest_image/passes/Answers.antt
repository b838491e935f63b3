use Rattle.heap_image.proofs.CallerLemmas.{some_load}
use Rattle.heap_tests.proofs.tests.largest_image.passes.Goals as goal

pub save-saved-requires-clause-open : goal.save-saved-requires-clause-open
save-saved-requires-clause-open g = (some_load _ _ _ _ _ g.in-Ok.ensures.loads).1.holds.loading.going.opened

pub save-saved-requires-clause-settings : goal.save-saved-requires-clause-settings
save-saved-requires-clause-settings g = (some_load _ _ _ _ _ g.in-Ok.ensures.loads).1.holds.profile

pub save-saved-requires-clause-tied : goal.save-saved-requires-clause-tied
save-saved-requires-clause-tied g = (some_load _ _ _ _ _ g.in-Ok.ensures.loads).1.holds.loading.going.tied
