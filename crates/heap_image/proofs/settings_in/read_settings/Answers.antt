use Rattle.std.proofs.Common.{refl, subst, sym, ◌∙◌}
use Rattle.heap_image.specs.Feed.{feed_of}
use Rattle.heap_image.specs.Stages.{TakesFewer}
use Rattle.heap_image.specs.declared.fault.LoadFault.TheVariants as fault
use Rattle.heap_image.proofs.MarkLemmas.{mark_bad, mark_stops, mark_then}
use Rattle.heap_image.proofs.settings_in.read_settings.Goals as goal

pub returns-in-Cut-clause-settings : goal.returns-in-Cut-clause-settings
returns-in-Cut-clause-settings g c =
    let falls = subst (λ n. TakesFewer n (feed_of (g.S.Source.state c.args.source.now))
    (feed_of (g.S.Source.state c.fill.new.source))) c.fill.auto.buffer c.in-Cut.ensures.fills.0 in
    mark_stops 16 _ _ (fault.Bad 0) (refl, falls, c.in-Cut.ensures.fills.1)

pub returns-in-Failed-clause-settings : goal.returns-in-Failed-clause-settings
returns-in-Failed-clause-settings g c =
    let falls = subst (λ n. TakesFewer n (feed_of (g.S.Source.state c.args.source.now))
    (feed_of (g.S.Source.state c.fill.new.source))) c.fill.auto.buffer c.in-Failed.ensures.fills in
    mark_stops 16 _ _ fault.Read falls

pub returns-then-not-is_mark-clause-settings : goal.returns-then-not-is_mark-clause-settings
returns-then-not-is_mark-clause-settings g c = mark_bad 16 c.fill.new.buffer _ _ c.fill.auto.buffer (sym c.is_mark.ensures ∙ c.if-not-is_mark.true)
    c.in-Whole.ensures.fills

pub returns-clause-settings : goal.returns-clause-settings
returns-clause-settings g c = mark_then c.fill.new.buffer 12 _ _ _ c.read_pages.result c.fill.auto.buffer (sym c.is_mark.ensures ∙ c.if-not-is_mark.false)
    c.in-Whole.ensures.fills c.read_pages.ensures.settings
