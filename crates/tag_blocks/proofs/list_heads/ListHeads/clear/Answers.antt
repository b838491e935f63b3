use Rattle.tag_blocks.specs.ListHeads.{no_block}
use Rattle.tag_blocks.proofs.MarkLemmas.{put_marked}
use Rattle.tag_blocks.proofs.list_heads.ListHeads.clear.Goals as goal

pub invariant_of-self : goal.invariant_of-self
invariant_of-self c =
    let within = rw (← c.self.view_is) at c.requires in
    rw (c.set.ensures.cells, c.write_bit-lists.ensures.cells, c.write_bit.ensures.cells) (put_marked _ _ _ c.self.invariant c.args.list no_block _ _ within
    c.write_bit-lists.ensures.written c.write_bit-lists.ensures.within c.write_bit.ensures.written c.write_bit.ensures.within)
