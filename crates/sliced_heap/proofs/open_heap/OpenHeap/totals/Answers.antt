use Rattle.std.proofs.Common.{arith, refl, sym, ap}
use Rattle.std.specs.Prelude.{if◌then◌else◌, nat_eq}
use Rattle.cf_base.proofs.Tests.{eq_no}
use Rattle.sliced_heap.specs.Heap.{sliced_seen}
use Rattle.sliced_heap.proofs.FigureLemmas.{totals_are, used_is}
use Rattle.sliced_heap.proofs.open_heap.OpenHeap.totals.Goals as goal

pub overflow_sub-used : goal.overflow_sub-used
overflow_sub-used c = (let e = used_is (sliced_seen c.args.self.now) c.requires in let l = c.left-free.ensures.len in omega arith)

pub returns-then-free-eq0 : goal.returns-then-free-eq0
returns-then-free-eq0 c =
    let h = sliced_seen c.args.self.now in
    let e = used_is h c.requires in let l = c.left-free.ensures.len in let x = c.from.ensures in let y = c.from-2.ensures in
    totals_are h c.requires _ _ _ _ _ c.left-free.result _ c.live.ensures.count refl c.taken_with_job.ensures l (omega arith) (rw (x, y) refl)
    (sym (ap (λ n. if nat_eq n 0 then 0 else h.settings.page_words) c.if-free-eq0.true))

pub returns-else-free-eq0 : goal.returns-else-free-eq0
returns-else-free-eq0 c =
    let h = sliced_seen c.args.self.now in
    let e = used_is h c.requires in let l = c.left-free.ensures.len in let x = c.from.ensures in let y = c.from-2.ensures in
    totals_are h c.requires _ _ _ _ _ c.left-free.result _ c.live.ensures.count refl c.taken_with_job.ensures l (omega arith) (rw (x, y) refl)
    (sym (ap (λ b. if b then 0 else h.settings.page_words) (eq_no c.left-free.result 0 c.if-free-eq0.false)))
