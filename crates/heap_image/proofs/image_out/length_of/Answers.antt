use Rattle.std.proofs.Common.{sym}
use Rattle.heap_image.proofs.Headers.{header_is_there, header_says}
use Rattle.heap_image.proofs.image_out.length_of.Goals as goal

pub unreachable-requires-in_default-peek : goal.unreachable-requires-in_default-peek
unreachable-requires-in_default-peek g c =
    let x = c.requires.live in
    header_is_there (g.H.Manager.state c.args.heap.now) c.requires.moving c.peek.ensures.rules c.args.h.0 x.0 x.1 c.in-Some.place c.in-Some.ensures.value
    (sym c.in_default-peek.ensures.value)

pub returns : goal.returns
returns g c = λ x some. header_says (g.H.Manager.state c.args.heap.now) c.requires.moving c.peek.ensures.rules c.args.h.0 x some c.in-Some.place
    c.in-Some.ensures.value c.in-Some-peek.header c.in-Some-peek.ensures.value
