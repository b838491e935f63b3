use Rattle.std.proofs.Common.{◌≡◌, ◌+◌, ◌∙◌, arith, ap}
use Rattle.slice_model.specs.declared.refusals.SliceRefusal.TheVariants.{Busy}
use Rattle.library_example.proofs.Cycles.{has_frame, has_none, next_slice, not_busy, one_more, stays_on}
use Rattle.library_example.proofs.control_loop.next_frame.Goals as goal

pub loop-i-preserved : goal.loop-i-preserved
loop-i-preserved c =
    let now = c.loop-i.invariant in
    record {
      slices = next_slice c.free.new.self c.loop-i.heap c.step.new.self c.loop-i.i now.same now.slices c.step.ensures.step.slice;
      same = stays_on c.free.new.self c.loop-i.heap c.step.new.self now.same c.step.ensures.same;
      rules = c.step.ensures.rules;
      cost = one_more c.free.new.steps c.loop-i.steps c.step.new.steps c.loop-i.i (15 + c.free.new.self.quantum) _ now.cost c.step.ensures.bound
          (ap (λ q. 15 + q) now.same.quantum);
    }

pub returns-in-Ok-clause-made : goal.returns-in-Ok-clause-made
returns-in-Ok-clause-made c = has_frame c.args.heap.now c.free.new.self c.loop-i.heap c.args.last.0 c.loop-i.i (c.is_open-open.ensures.rules (c.is_open-open.ensures.value ∙ c.requires.open))
    c.in_default.ensures.step c.loop-i.invariant.slices c.loop-i.invariant.rules c.malloc.new.self c.args.bytes c.in-Ok.frame c.in-Ok.ensures.step

pub returns-in-Err-malloc-clause-failed : goal.returns-in-Err-malloc-clause-failed
returns-in-Err-malloc-clause-failed c = has_none c.args.heap.now c.free.new.self c.loop-i.heap c.args.last.0 c.loop-i.i
    (c.is_open-open.ensures.rules (c.is_open-open.ensures.value ∙ c.requires.open)) c.in_default.ensures.step c.loop-i.invariant.slices c.loop-i.invariant.rules c.malloc.new.self c.args.bytes
    c.in-Err-malloc.cause c.malloc.ensures.same c.in-Err-malloc.ensures.step.0 c.in-Err-malloc.ensures.step.1

pub returns-in-Err-malloc-clause-in_time : goal.returns-in-Err-malloc-clause-in_time
returns-in-Err-malloc-clause-in_time c enough same =
    let all = c.loop-i-test.false in
    let busy : c.in-Err-malloc.cause ≡ Busy = cc in
    let ended = c.loop-i.invariant in
    not_busy c.slices_alone_end_every_job.ensures c.a_malloc_is_busy_only_with_a_job.ensures c.args.heap.now c.free.new.self c.loop-i.heap c.loop-i.i c.args.bytes
    c.in-Err-malloc.cause c.free.ensures.same c.free.ensures.rules ended.rules (omega arith) ended.slices c.in-Err-malloc.ensures.step.0 busy
