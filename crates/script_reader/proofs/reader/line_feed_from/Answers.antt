use Rattle.std.proofs.Common.{◌∙◌, ◌+◌, ap, option_map, refl}
use Rattle.script_reader.proofs.FirstLine.{found_from}
use Rattle.script_reader.proofs.reader.line_feed_from.Goals as goal

pub returns-in_err-at : goal.returns-in_err-at
returns-in_err-at c = c.from_residual.ensures ∙ ap (option_map (λ i. c.args.from + i)) c.in_err-at.ensures
    ∙ found_from c.args.kept.now _ c.args.from refl c.requires.within c.requires.searched

pub returns : goal.returns
returns c = ap (option_map (λ i. c.args.from + i)) c.in_ok-at.ensures
    ∙ found_from c.args.kept.now _ c.args.from refl c.requires.within c.requires.searched
