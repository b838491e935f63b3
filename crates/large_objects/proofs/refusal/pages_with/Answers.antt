use Rattle.std.proofs.Common.{◌≡◌, arith, refl, sym, ◌∙◌, ap}
use Rattle.page_model.specs.Held.{objects}
use Rattle.cf_model.specs.State.{paging_in}
use Rattle.large_objects.specs.InnerObjects.{inner_lengths}
use Rattle.large_objects.proofs.Fitting.{none_before, pages_up_to}
use Rattle.large_objects.proofs.PagesWith.{before_within, classes_are, objects_small, pages_fit, pages_low, pages_summed, slots_positive, within_all}
use Rattle.large_objects.proofs.refusal.pages_with.Goals as goal

pub loop-c-init : goal.loop-c-init
loop-c-init g c = record {
  sum = refl;
  before = sym (none_before (paging_in (g.H.Manager.state c.args.inner.now)) (inner_lengths c.args.part_bytes c.args.bytes));
  small = omega arith;
}

pub overflow_sub-within : goal.overflow_sub-within
overflow_sub-within g c = before_within (g.H.Manager.state c.args.inner.now) c.requires.ready c.args.part_bytes c.args.bytes c.requires.some (omega arith) c.loop-c.c
    (let lt = c.loop-c-test.true in let e = c.classes-c-end.ensures in omega arith) c.in-Some.figures c.in-Some.ensures c.count_inner_objects_within-within.result
    c.loop-c.before
    c.count_inner_objects_within-within.ensures c.loop-c.invariant.before

pub overflow_add-figures : goal.overflow_add-figures
overflow_add-figures g c =
    let small = objects_small (g.H.Manager.state c.args.inner.now) c.requires.ready c.args.part_bytes c.args.bytes c.requires.some (omega arith) c.loop-c.c
    (let lt = c.loop-c-test.true in let e = c.classes-c-end.ensures in omega arith) c.in-Some.figures c.in-Some.ensures c.count_inner_objects_within-within.result
    c.loop-c.before
    c.count_inner_objects_within-within.ensures c.loop-c.invariant.before in omega arith

pub div_ceil-pages-requires : goal.div_ceil-pages-requires
div_ceil-pages-requires g c = slots_positive (g.H.Manager.state c.args.inner.now) c.requires.ready c.args.part_bytes c.args.bytes c.requires.some (omega arith)
    c.loop-c.c
    (let lt = c.loop-c-test.true in let e = c.classes-c-end.ensures in omega arith) c.in-Some.figures c.in-Some.ensures c.count_inner_objects_within-within.result
    c.loop-c.before
    c.count_inner_objects_within-within.ensures c.loop-c.invariant.before

pub overflow_add-pages : goal.overflow_add-pages
overflow_add-pages g c =
    let fit = pages_fit (g.H.Manager.state c.args.inner.now) c.requires.ready c.args.part_bytes c.args.bytes c.requires.some (omega arith) c.loop-c.c
    (let lt = c.loop-c-test.true in let e = c.classes-c-end.ensures in omega arith) c.in-Some.figures c.in-Some.ensures c.count_inner_objects_within-within.result
    c.loop-c.before
    c.count_inner_objects_within-within.ensures c.loop-c.invariant.before c.loop-c.pages c.div_ceil-pages.result c.loop-c.invariant.sum c.loop-c.invariant.small
    c.div_ceil-pages.ensures in omega arith

pub loop-c-preserved : goal.loop-c-preserved
loop-c-preserved g c = record {
  sum = pages_summed (g.H.Manager.state c.args.inner.now) c.requires.ready c.args.part_bytes c.args.bytes c.requires.some (omega arith) c.loop-c.c
      (let lt = c.loop-c-test.true in let e = c.classes-c-end.ensures in omega arith) c.in-Some.figures c.in-Some.ensures c.count_inner_objects_within-within.result
      c.loop-c.before c.count_inner_objects_within-within.ensures c.loop-c.invariant.before c.loop-c.pages c.div_ceil-pages.result c.loop-c.invariant.sum
      c.loop-c.invariant.small c.div_ceil-pages.ensures;
  before = within_all (g.H.Manager.state c.args.inner.now) c.requires.ready c.args.part_bytes c.args.bytes c.requires.some (omega arith) c.loop-c.c
      (let lt = c.loop-c-test.true in let e = c.classes-c-end.ensures in omega arith) c.in-Some.figures c.in-Some.ensures c.count_inner_objects_within-within.result
      c.loop-c.before c.count_inner_objects_within-within.ensures c.loop-c.invariant.before;
  small = pages_low (g.H.Manager.state c.args.inner.now) c.requires.ready c.args.part_bytes c.args.bytes c.requires.some (omega arith) c.loop-c.c
      (let lt = c.loop-c-test.true in let e = c.classes-c-end.ensures in omega arith) c.in-Some.figures c.in-Some.ensures c.count_inner_objects_within-within.result
      c.loop-c.before c.count_inner_objects_within-within.ensures c.loop-c.invariant.before c.loop-c.pages c.div_ceil-pages.result c.loop-c.invariant.sum
      c.loop-c.invariant.small c.div_ceil-pages.ensures;
}

pub returns : goal.returns
returns g c =
    let s = g.H.Manager.state c.args.inner.now in
    let e = c.classes-c-end.ensures ∙ classes_are s c.requires.ready in
    let d : c.loop-c.c ≡ c.classes-c-end.result = (let over = c.loop-c-test.false in let up = c.loop-c.auto.c-end in omega arith) in
    c.loop-c.invariant.sum ∙ ap (pages_up_to (paging_in s) (objects s.held) (inner_lengths c.args.part_bytes c.args.bytes)) (d ∙ e)
