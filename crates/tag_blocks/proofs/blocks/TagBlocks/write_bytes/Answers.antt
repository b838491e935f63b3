use Rattle.std.proofs.Common.{◌+◌, ◌/◌, ◌%◌, arith, subst}
use Rattle.region.specs.Overwriting.{Overwrites}
use Rattle.tag_blocks.specs.Blocks.{Tagged}
use Rattle.tag_blocks.proofs.ViewLemmas.{tags_kept}
use Rattle.tag_blocks.proofs.AccessLemmas.{access_within, bytes_kept, bytes_blocks}
use Rattle.tag_blocks.proofs.AccessLemmas.{bytes_lists}
use Rattle.tag_blocks.proofs.blocks.TagBlocks.write_bytes.Goals as goal

pub overflow_add-first : goal.overflow_add-first
overflow_add-first g c = (let w = access_within _ _ _ _ c.self.invariant c.self.view_is c.args.at c.requires.used in let a = w.0 in let b = w.1 in let m =
    w.2 in omega arith)

pub overflow_cast-first : goal.overflow_cast-first
overflow_cast-first g c = (let w = access_within _ _ _ _ c.self.invariant c.self.view_is c.args.at c.requires.used in let a = w.0 in let b = w.1 in let m =
    w.2 in let h = c.requires.within in omega arith)

pub overflow_add-first-2 : goal.overflow_add-first-2
overflow_add-first-2 g c = (let w = access_within _ _ _ _ c.self.invariant c.self.view_is c.args.at c.requires.used in let a = w.0 in let b = w.1 in let m =
    w.2 in let h = c.requires.within in omega arith)

pub words_with-n-requires : goal.words_with-n-requires
words_with-n-requires g c = (let w = access_within _ _ _ _ c.self.invariant c.self.view_is c.args.at c.requires.used in let b = w.1 in let m =
    w.2 in let h = c.requires.within in omega arith)

pub write_run-requires-clause-within : goal.write_run-requires-clause-within
write_run-requires-clause-within g c = (let w = access_within _ _ _ _ c.self.invariant c.self.view_is c.args.at c.requires.used in let b = w.1 in let n =
    c.words_with-n.ensures in let h = c.requires.within in omega arith)

pub invariant_of-self : goal.invariant_of-self
invariant_of-self g c = bytes_kept _ _ _ _ c.self.invariant c.self.view_is c.args.at c.requires.used c.write_run.new.region c.args.from
    c.words_with-n.result c.args.bytes.now c.requires.within c.words_with-n.ensures c.write_run.ensures.words

pub returns-clause-words : goal.returns-clause-words
returns-clause-words g c =
    let at = c.args.at in
    let from = c.args.from in
    let bytes = c.args.bytes.now in
    let new = c.write_run.new.region in
    subst (λ n. Overwrites c.args.self.now.words new (record { from = at + 2 + from / 8; count = n }) (from % 8) bytes) c.words_with-n.ensures
    (subst (λ (w : Tagged). Overwrites w.words new (record { from = at + 2 + from / 8; count = c.words_with-n.result }) (from % 8) bytes) c.self.view_is
    c.write_run.ensures.words)

pub returns-clause-blocks : goal.returns-clause-blocks
returns-clause-blocks g c = bytes_blocks _ _ _ _ c.self.invariant c.self.view_is c.args.at c.requires.used c.write_run.new.region c.args.from
    c.words_with-n.result c.args.bytes.now c.requires.within c.words_with-n.ensures c.write_run.ensures.words

pub returns-clause-kept : goal.returns-clause-kept
returns-clause-kept g c = tags_kept _ _ _
    (bytes_kept _ _ _ _ c.self.invariant c.self.view_is c.args.at c.requires.used c.write_run.new.region c.args.from
    c.words_with-n.result c.args.bytes.now c.requires.within c.words_with-n.ensures c.write_run.ensures.words).kept

pub returns-clause-lists : goal.returns-clause-lists
returns-clause-lists g c = bytes_lists _ _ _ _ c.self.invariant c.self.view_is c.args.at c.requires.used c.write_run.new.region c.args.from
    c.words_with-n.result c.args.bytes.now c.requires.within c.words_with-n.ensures c.write_run.ensures.words
