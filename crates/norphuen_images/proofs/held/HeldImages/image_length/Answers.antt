use Rattle.std.proofs.Common.{arith, ◌+◌, ◌*◌, ◌∙◌, ap, length}
use Rattle.heap_image.specs.Heaps.{heap_image}
use Rattle.id_table.specs.Sessions.{run_at}
use Rattle.norphuen_images.proofs.Lengths.{image_fits, image_is}
use Rattle.norphuen_images.proofs.held.HeldImages.image_length.Goals as goal

pub overflow_add-result-2 : goal.overflow_add-result-2
overflow_add-result-2 c =
    let named = c.self.invariant in
    let s = run_at c.self.inside.names c.self.inside.heap.state in
    let have = c.live_objects_have_an_image.ensures.lives s named.going named.within named.kind in
    let small = image_fits s named.going.tied named.kind c.totals-totals.result c.totals-totals.ensures.value have.0 in
    let is = c.from.ensures in
    omega (arith, small, is)

pub returns : goal.returns
returns c =
    let named = c.self.invariant in
    let s = run_at c.self.inside.names c.self.inside.heap.state in
    ap (λ n. 20 + 6 * n + c.totals-totals.result.asked) c.from.ensures
    ∙ image_is s named.going.tied named.kind c.totals-totals.result c.totals-totals.ensures.value ∙ ap (λ t. length (heap_image t)) c.self.view_is
