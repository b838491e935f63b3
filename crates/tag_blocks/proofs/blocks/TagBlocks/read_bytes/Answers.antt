use Rattle.std.proofs.Common.{◌+◌, ◌-◌, ◌*◌, ◌/◌, ◌%◌, ◌≡◌, arith, ◌∙◌, ap}
use Rattle.region.specs.Overwriting.{byte_from}
use Rattle.region.proofs.CallerLemmas.{byte_shift}
use Rattle.tag_blocks.specs.Blocks.{Tagged}
use Rattle.tag_blocks.proofs.FindLemmas.{tags_seen}
use Rattle.tag_blocks.proofs.AccessLemmas.{access_within}
use Rattle.tag_blocks.proofs.blocks.TagBlocks.read_bytes.Goals as goal

pub overflow_add-first : goal.overflow_add-first
overflow_add-first g c = (let w = access_within _ _ _ _ c.self.invariant c.self.view_is c.args.at c.requires.used in let a = w.0 in let b = w.1 in let m =
    w.2 in omega arith)

pub overflow_cast-first : goal.overflow_cast-first
overflow_cast-first g c = (let w = access_within _ _ _ _ c.self.invariant c.self.view_is c.args.at c.requires.used in let a = w.0 in let b = w.1 in let m =
    w.2 in let h = c.requires.within in omega arith)

pub overflow_add-first-2 : goal.overflow_add-first-2
overflow_add-first-2 g c = (let w = access_within _ _ _ _ c.self.invariant c.self.view_is c.args.at c.requires.used in let a = w.0 in let b = w.1 in let m =
    w.2 in let h = c.requires.within in omega arith)

pub words_with-n-requires : goal.words_with-n-requires
words_with-n-requires g c = (let w = access_within _ _ _ _ c.self.invariant c.self.view_is c.args.at c.requires.used in let b = w.1 in let m =
    w.2 in let h = c.requires.within in omega arith)

pub read_run-requires-clause-within : goal.read_run-requires-clause-within
read_run-requires-clause-within g c = (let w = access_within _ _ _ _ c.self.invariant c.self.view_is c.args.at c.requires.used in let b = w.1 in let n =
    c.words_with-n.ensures in let h = c.requires.within in omega arith)

pub returns-clause-value : goal.returns-clause-value
returns-clause-value g c = λ j lt.
    let at = c.args.at in
    let from = c.args.from in
    let index : from % 8 + j ≡ from + j - 8 * (from / 8) = omega arith in
    c.read_run.ensures.bytes j lt
    ∙ ap (byte_from c.self.inside.region (at + 2 + from / 8)) index
    ∙ byte_shift c.self.inside.region (at + 2) (from / 8) (from + j) (omega arith)
    ∙ ap (λ (w : Tagged). byte_from w.words (at + 2) (from + j)) c.self.view_is

pub returns-clause-kept : goal.returns-clause-kept
returns-clause-kept g c = tags_seen _ _ _ _ c.self.invariant c.self.view_is
