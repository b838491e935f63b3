use Rattle.std.proofs.Common.{arith, sym}
use Rattle.std.proofs.lemmas.Option.{slice_get_past}
use Rattle.tag_heap.proofs.Preserved.{rules}
use Rattle.tag_heap.proofs.open_heap.OpenHeap.peek.Goals as goal

pub returns-then-word-self-clause-rules : goal.returns-then-word-self-clause-rules
returns-then-word-self-clause-rules g c = rw (← c.self.view_is) (rules _ c.self.invariant g.met.B.FitPolicy.tiled)

pub returns-else-word-self-clause-value : goal.returns-else-word-self-clause-value
returns-else-word-self-clause-value g c = rw (← c.self.view_is) (sym (slice_get_past c.self.inside.blocks.words c.args.word
    (let e = c.self.invariant.words_long in let past = c.if-word-self.false in omega arith)))

pub returns-else-word-self-clause-rules : goal.returns-else-word-self-clause-rules
returns-else-word-self-clause-rules g c = rw (← c.self.view_is) (rules _ c.self.invariant g.met.B.FitPolicy.tiled)
