use Rattle.top_call.proofs.PrintLemmas.{object_cut, object_put}
use Rattle.top_call.proofs.image_script.LinesObjectWriter.put_object.Goals as goal

pub put_writes-requires-clause-live : goal.put_writes-requires-clause-live
put_writes-requires-clause-live g c = (c.requires.live.0, c.requires.live.1, c.length_of-n.ensures c.requires.live.0 c.requires.live.1)

pub returns : goal.returns
returns g c = λ x some. object_put _ _ _ c.args.id c.length_of-n.result x.bytes c.put_writes.result (c.length_of-n.ensures x some)
    c.in-Ok.ensures (c.put_writes.ensures x some)

pub returns-in-Err : goal.returns-in-Err
returns-in-Err g c = λ x some. object_cut _ _ c.args.id c.length_of-n.result x.bytes c.in-Err.failed (c.length_of-n.ensures x some)
    c.in-Err.ensures
