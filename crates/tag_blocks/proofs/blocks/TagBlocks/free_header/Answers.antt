use Rattle.std.proofs.Common.{arith}
use Rattle.tag_blocks.proofs.ClaimLemmas.{claim_within, claim_size}
use Rattle.tag_blocks.proofs.blocks.TagBlocks.free_header.Goals as goal

pub read-requires : goal.read-requires
read-requires g c =
    let w = claim_within _ _ _ _ c.self.invariant c.self.view_is c.args.at c.requires.free.0 c.requires.free.1 in
    let l = w.0 in let h = w.1 in record { within = omega arith }

pub returns-clause-size : goal.returns-clause-size
returns-clause-size g c x is = claim_size _ _ _ _ c.self.invariant c.self.view_is c.args.at x is _ c.read.ensures.size

pub returns-clause-described : goal.returns-clause-described
returns-clause-described g c = rw (← c.self.view_is) c.read.ensures.size

pub returns-clause-before : goal.returns-clause-before
returns-clause-before g c = rw (← c.self.view_is) c.read.ensures.before
