use Rattle.heap_image.proofs.CallerLemmas.{some_load}
use Rattle.heap_tests.proofs.tests.images.load_and_save.Goals as goal

pub image-requires : goal.image-requires
image-requires g c = (let h = (some_load _ _ _ _ _ c.in-Ok.ensures.loads).1.holds in record { going = h.loading.going; kind = h.loading.kind; profile = h.profile })
