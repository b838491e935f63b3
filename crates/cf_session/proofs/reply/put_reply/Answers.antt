use Rattle.std.proofs.Common.{subst}
use Rattle.cf_session.specs.OneLine.{HasRoom}
use Rattle.cf_session.specs.declared.short.OneLine.{OneLine}
use Rattle.cf_session.proofs.Reporting.{shown_short, shown_written}
use Rattle.cf_session.proofs.reply.put_reply.Goals as goal

pub returns-in-Short : goal.returns-in-Short
returns-in-Short g c = λ text on. shown_short c.args.lead.now _ text _ _ c.args.reply c.in-Short.short c.put_short_line.result c.in-Short.is on
    c.put_short_line.ensures

pub put_line-requires : goal.put_line-requires
put_line-requires g c = subst (λ (o : OneLine). HasRoom c.args.line.now o) c.in-Written.is c.requires.room

pub returns-in-Written : goal.returns-in-Written
returns-in-Written g c = λ text on. shown_written c.args.lead.now _ text _ _ c.args.reply c.in-Written.outcome c.put_line.result c.ended.result
    c.in-Written.is on c.put_line.ensures c.ended.ensures
