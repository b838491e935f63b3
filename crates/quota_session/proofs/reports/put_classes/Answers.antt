use Rattle.std.proofs.Common.{◌≡◌, ◌∙◌, [], Ok, ap, arith, rules}
use Rattle.cf_io.proofs.CallerLemmas.{puts_same}
use Rattle.run_model.specs.Terms.{classes, led}
use Rattle.frag_report.specs.Classes.{classes_below}
use Rattle.frag_report.proofs.CallerLemmas.{class_cut, class_put}
use Rattle.quota_heap.specs.State.{held_by}
use Rattle.quota_model.specs.Refusals.{task_paging}
use Rattle.quota_session.proofs.ClassLines.{all_pages, class_of_task, few_classes, pages_more, past_classes}
use Rattle.quota_session.proofs.reports.put_classes.Goals as goal

pub returns-in_default-clause-puts : goal.returns-in_default-clause-puts
returns-in_default-clause-puts g c =
    let s = c.args.heap.now in
    let all : c.loop-c.c ≡ classes (task_paging s.profile) =
    omega (arith, c.loop-c.invariant.within, past_classes s c.args.task c.loop-c.c c.in_default.ensures) in
    puts_same {T = Unit {0}} _ _ _ _ (Ok tt) (ap (λ k. led [] (classes_below (task_paging s.profile) (held_by s c.args.task) k)) all) c.loop-c.invariant.put

pub returns-in_default-clause-used : goal.returns-in_default-clause-used
returns-in_default-clause-used g c = all_pages c.args.heap.now c.args.task c.loop-c.c c.loop-c.used
    (omega (arith, c.loop-c.invariant.within, past_classes c.args.heap.now c.args.task c.loop-c.c c.in_default.ensures)) c.loop-c.invariant.used

pub returns-in-Err-clause-puts : goal.returns-in-Err-clause-puts
returns-in-Err-clause-puts g c =
    let s = c.args.heap.now in
    let there = class_of_task s c.args.task c.loop-c.c c.in-Some.figures c.in-Some.ensures in
    class_cut (task_paging s.profile) (held_by s c.args.task) [] c.loop-c.c _ c.in-Some.figures _ _ _ _ there.0 there.1 c.loop-c.invariant.put
    c.in-Err.ensures

pub loop-c-preserved : goal.loop-c-preserved
loop-c-preserved g c =
    let s = c.args.heap.now in
    let there = class_of_task s c.args.task c.loop-c.c c.in-Some.figures c.in-Some.ensures in
    record {
      put = class_put (task_paging s.profile) (held_by s c.args.task) [] c.loop-c.c c.in-Some.figures _ _ _ there.1 c.loop-c.invariant.put c.in-Ok.ensures;
      used = pages_more s c.args.task c.loop-c.c c.loop-c.used c.in-Some.figures there.1 c.loop-c.invariant.used;
      within = omega (arith, there.0);
      few = search rules;
    }

pub returns-clause-puts : goal.returns-clause-puts
returns-clause-puts g c =
    let s = c.args.heap.now in
    let few = few_classes s c.args.task (c.is_open-open.ensures.rules (c.is_open-open.ensures.value ∙ c.requires.opened)) in
    let all : c.loop-c.c ≡ classes (task_paging s.profile) = omega (arith, c.loop-c.invariant.within, c.loop-c-test.false, few) in
    puts_same {T = Unit {0}} _ _ _ _ (Ok tt) (ap (λ k. led [] (classes_below (task_paging s.profile) (held_by s c.args.task) k)) all) c.loop-c.invariant.put

pub returns-clause-used : goal.returns-clause-used
returns-clause-used g c = all_pages c.args.heap.now c.args.task c.loop-c.c c.loop-c.used
    (omega (
      arith,
      c.loop-c.invariant.within,
      c.loop-c-test.false,
      few_classes c.args.heap.now c.args.task (c.is_open-open.ensures.rules (c.is_open-open.ensures.value ∙ c.requires.opened)),
    )) c.loop-c.invariant.used
