use Rattle.std.proofs.Common.{◌∙◌, length, ◌-◌}
use Rattle.heap_image.proofs.FillLemmas.{chunk_taken, filled_more, filled_within}
use Rattle.heap_image.proofs.fields_in.fill.Goals as goal

pub fills-preserved : goal.fills-preserved
fills-preserved g c = record {
  within = filled_within c.fills.at c.in-Ok.n (length c.fills.buffer - c.fills.at) c.fills.buffer c.take.new.buf c.fills.invariant.within
      c.in-Ok.ensures.2;
  took = filled_more c.fills.at c.in-Ok.n (length c.fills.buffer - c.fills.at) c.fills.buffer c.take.new.buf c.fills.invariant.within c.in-Ok.ensures.2
      _ _ _ c.fills.invariant.took (chunk_taken c.in-Ok.n c.take.new.buf _ _ c.in-Ok.ensures.2 c.in-Ok.ensures.0 c.in-Ok.ensures.1);
  same = c.in-Ok.ensures.5 ∙ c.fills.invariant.same;
}
