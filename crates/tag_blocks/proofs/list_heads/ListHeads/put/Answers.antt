use Rattle.tag_blocks.proofs.MarkLemmas.{group_written, head_written, put_marked}
use Rattle.tag_blocks.proofs.list_heads.ListHeads.put.Goals as goal

pub invariant_of-self : goal.invariant_of-self
invariant_of-self c =
    let within = rw (← c.self.view_is) at c.requires.list in
    rw (c.set.ensures.cells, c.write_bit.ensures.cells, c.write_bit-2.ensures.cells) (put_marked _ _ _ c.self.invariant c.args.list c.args.head _ _ within
    (head_written _ _ _ _ c.requires.some c.write_bit.ensures.written) c.write_bit.ensures.within
    (group_written _ _ _ _ _ _ c.write_bit.ensures.written c.write_bit-2.ensures.written) c.write_bit-2.ensures.within)
