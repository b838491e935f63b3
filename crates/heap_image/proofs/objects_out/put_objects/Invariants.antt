use Rattle.id_table.specs.Sessions.{run_at}
use Rattle.heap_image.proofs.ObjectsOut.{CameTo}
use Rattle.heap_image.proofs.objects_out.put_objects.Given as goal

abbrev pub invariant-ids : goal.invariant-ids
invariant-ids g l = record {
  came : CameTo g.W.ObjectWriter.text (run_at (g.N.Namer.state l.names) (g.H.Manager.state l.heap)) (g.K.Sink.state l.fn.out) (g.K.Sink.state l.out) l.id;
}
