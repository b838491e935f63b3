use Rattle.std.proofs.Common.{arith}
use Rattle.cf_base.specs.Settings.{profile_of}
use Rattle.quota_model.specs.Refusals.{task_paging}
use Rattle.quota_model.proofs.Counted.{ceil_counted, counted_next, counted_none, entry_fits, few_before, few_had, all_counted, short_here}
use Rattle.quota_model.proofs.enough.count_pages.Goals as goal

pub needs-init : goal.needs-init
needs-init c = counted_none (task_paging (profile_of c.args.s.now)) c.args.quota

pub class_at-class-requires-clause-fits : goal.class_at-class-requires-clause-fits
class_at-class-requires-clause-fits c =
    entry_fits (record { profile = profile_of c.args.s.now; quota = c.args.quota }) c.args.s.now.page_size c.args.needs.now c.requires.asked c.needs.entry-index
    (record { bytes = 0; count = 0 }) c.needs-test.true

pub pages_with-requires-clause-counted : goal.pages_with-requires-clause-counted
pages_with-requires-clause-counted c =
    ceil_counted (record { profile = profile_of c.args.s.now; quota = c.args.quota }) c.args.s.now.page_size c.args.needs.now c.requires.asked
    c.needs.entry-index
    (record { bytes = 0; count = 0 }) c.needs-test.true
    c.needs.counts c.needs.pages c.needs.before c.needs.invariant c.class_at-class.result c.class_at-class.ensures.class
    c.slots_at-slots.result c.slots_at-slots.ensures.slots

pub overflow_add-result : goal.overflow_add-result
overflow_add-result c =
    let few = few_before (record { profile = profile_of c.args.s.now; quota = c.args.quota }) c.args.s.now.page_size c.args.needs.now c.requires.asked
    c.needs.entry-index
    (record { bytes = 0; count = 0 }) c.needs-test.true
    c.needs.counts c.needs.pages c.needs.before c.needs.invariant c.class_at-class.result c.class_at-class.ensures.class in
    let fewer = c.in-Err.ensures.past.fewer in
    let proxies = c.args.s.now.few_proxies in
    omega arith

pub overflow_add-result-in-Err : goal.overflow_add-result-in-Err
overflow_add-result-in-Err c =
    let few = few_before (record { profile = profile_of c.args.s.now; quota = c.args.quota }) c.args.s.now.page_size c.args.needs.now c.requires.asked
    c.needs.entry-index
    (record { bytes = 0; count = 0 }) c.needs-test.true
    c.needs.counts c.needs.pages c.needs.before c.needs.invariant c.class_at-class.result c.class_at-class.ensures.class in
    let fewer = c.in-Err.ensures.past.fewer in
    let proxies = c.args.s.now.few_proxies in
    omega arith

pub returns-in-Err-clause-short : goal.returns-in-Err-clause-short
returns-in-Err-clause-short c =
    short_here (record { profile = profile_of c.args.s.now; quota = c.args.quota }) c.args.s.now.page_size c.args.needs.now c.requires.asked c.needs.entry-index
    (record { bytes = 0; count = 0 }) c.needs-test.true
    c.needs.counts c.needs.pages c.needs.before c.needs.invariant c.class_at-class.result c.class_at-class.ensures.class
    c.slots_at-slots.result c.slots_at-slots.ensures.slots c.in-Err.fit c.in-Err.ensures.past

pub overflow_add-counts : goal.overflow_add-counts
overflow_add-counts c =
    let few = few_had (record { profile = profile_of c.args.s.now; quota = c.args.quota }) c.args.s.now.page_size c.args.needs.now c.requires.asked
    c.needs.entry-index
    (record { bytes = 0; count = 0 }) c.needs-test.true
    c.needs.counts c.needs.pages c.needs.before c.needs.invariant c.class_at-class.result c.class_at-class.ensures.class in
    let proxies = c.args.s.now.few_proxies in
    omega arith

pub overflow_add-before : goal.overflow_add-before
overflow_add-before c =
    let few = few_before (record { profile = profile_of c.args.s.now; quota = c.args.quota }) c.args.s.now.page_size c.args.needs.now c.requires.asked
    c.needs.entry-index
    (record { bytes = 0; count = 0 }) c.needs-test.true
    c.needs.counts c.needs.pages c.needs.before c.needs.invariant c.class_at-class.result c.class_at-class.ensures.class in
    let proxies = c.args.s.now.few_proxies in
    omega arith

pub needs-preserved : goal.needs-preserved
needs-preserved c =
    counted_next (record { profile = profile_of c.args.s.now; quota = c.args.quota }) c.args.s.now.page_size c.args.needs.now c.requires.asked
    c.needs.entry-index
    (record { bytes = 0; count = 0 }) c.needs-test.true
    c.needs.counts c.needs.pages c.needs.before c.needs.invariant c.class_at-class.result c.class_at-class.ensures.class
    c.slots_at-slots.result c.slots_at-slots.ensures.slots c.in-Ok.sum c.in-Ok.ensures.sum c.in-Ok.ensures.within
    (let w = c.class_at-class.ensures.within in let few = c.class_at-class.ensures.few in omega arith)

pub returns-clause-pages : goal.returns-clause-pages
returns-clause-pages c =
    all_counted (record { profile = profile_of c.args.s.now; quota = c.args.quota }) c.args.needs.now c.needs.entry-index c.needs.counts c.needs.pages
    c.needs.before (let end = c.needs.auto.entry-index-end in let past = c.needs-test.false in omega arith) c.needs.invariant
