use Rattle.heap_image.specs.Heaps.{live_objects}
use Rattle.cf_base.specs.Settings.{at_bound_one}
use Rattle.norphuen_images.proofs.ThereAndBack.{loaded_again}
use Rattle.norphuen_images.proofs.laws.a_saved_heap_is_loaded_again.Goals as goal

pub returns : goal.returns
returns c = λ p s kept before after last k offset offset2 code new named saved least most loaded. loaded_again p s kept before after last k offset offset2 code new
    (c.an_image_is_read_back.ensures (at_bound_one s.heap.profile) (live_objects s) (c.live_objects_have_an_image.ensures.lives s named.going named.within named.kind).0)
    saved least most loaded
