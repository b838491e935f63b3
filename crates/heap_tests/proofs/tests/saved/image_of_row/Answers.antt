use Rattle.heap_tests.proofs.tests.saved.image_of_row.Goals as goal

pub image-requires : goal.image-requires
image-requires g c = c.do_commands.ensures _ c.in_ok-open.ensures.opened

pub returns : goal.returns
returns g c = (c.do_commands.ensures _ c.in_ok-open.ensures.opened).kind
