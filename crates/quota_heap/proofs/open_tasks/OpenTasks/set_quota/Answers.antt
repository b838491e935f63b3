use Rattle.std.proofs.Common.{arith, refl}
use Rattle.quota_heap.proofs.SetQuota.{quota_granted, quota_within, used_refused}
use Rattle.quota_heap.proofs.open_tasks.OpenTasks.set_quota.Goals as goal

pub returns-then-pages-clause-step : goal.returns-then-pages-clause-step
returns-then-pages-clause-step c =
    let h = c.args.self.now in let k = c.requires.kept in
    let q = quota_within h k c.args.t c.requires.sixteen c.args.pages in
    let e = c.quota.ensures in let a = c.from.ensures in let b = c.from-2.ensures in let d = c.from-3.ensures in
    let le = c.if-from.false in
    let p = c.pages.ensures in
    let less = c.if-pages.true in
    (used_refused h k c.args.t c.requires.sixteen c.args.pages (omega arith) (omega arith), refl)

pub grant-requires-clause-fits : goal.grant-requires-clause-fits
grant-requires-clause-fits c =
    let h = c.args.self.now in let k = c.requires.kept in
    let q = quota_within h k c.args.t c.requires.sixteen c.args.pages in
    let e = c.quota.ensures in let a = c.from.ensures in let b = c.from-2.ensures in let d = c.from-3.ensures in
    let le = c.if-from.false in
    let p = c.pages.ensures in
    let fine = c.if-pages.false in
    quota_granted h k c.args.t c.requires.sixteen c.args.pages (omega arith) (omega arith)
