use Rattle.std.proofs.Common.{length, ◌+◌, ◌/◌, ◌%◌, arith, subst}
use Rattle.region.specs.Overwriting.{Overwrites}
use Rattle.quota_heap.proofs.Parts.{place_small, wrote, wrote_kept, wrote_nothing}
use Rattle.quota_heap.proofs.Facts.{owns}
use Rattle.quota_heap.proofs.Tasks.{a_task}
use Rattle.page_slots.proofs.CallerLemmas.{words_in, count_few}
use Rattle.quota_heap.proofs.open_tasks.OpenTasks.write.Goals as goal

pub returns-then-len-eq0-clause-step : goal.returns-then-len-eq0-clause-step
returns-then-len-eq0-clause-step c =
    let h = c.args.self.now in let k = c.requires.kept in
    let w = a_task h k c.args.t c.requires.sixteen in
    wrote_nothing h k c.args.t w.0 w.1 (record { number = c.args.h.0; from = c.args.at })
    c.in_ok-place.place c.args.bytes.now c.if-len-eq0.true (c.in_ok-place.ensures.found w.0 w.1)

pub overflow_add-first : goal.overflow_add-first
overflow_add-first c =
    let h = c.args.self.now in let k = c.requires.kept in
    let w = a_task h k c.args.t c.requires.sixteen in
    let ne = c.if-len-eq0.false in
    let s = place_small h k c.args.t w.0 w.1 (record { number = c.args.h.0; from = c.args.at }) (length c.args.bytes.now)
    c.in_ok-place.place (c.in_ok-place.ensures.found w.0 w.1) (omega arith) in
    omega arith

pub overflow_add-first-2 : goal.overflow_add-first-2
overflow_add-first-2 c =
    let h = c.args.self.now in let k = c.requires.kept in
    let w = a_task h k c.args.t c.requires.sixteen in
    let ne = c.if-len-eq0.false in
    let s = place_small h k c.args.t w.0 w.1 (record { number = c.args.h.0; from = c.args.at }) (length c.args.bytes.now)
    c.in_ok-place.place (c.in_ok-place.ensures.found w.0 w.1) (omega arith) in
    omega arith

pub words_with-n-requires : goal.words_with-n-requires
words_with-n-requires c =
    let h = c.args.self.now in let k = c.requires.kept in
    let w = a_task h k c.args.t c.requires.sixteen in
    let f = count_few (owns k.shared_pages (k.task c.args.t w.0 w.1)) c.args.h.0 c.args.at (length c.args.bytes.now) c.in_ok-place.place
    (c.in_ok-place.ensures.found w.0 w.1) in
    omega arith

pub write_run-requires-clause-within : goal.write_run-requires-clause-within
write_run-requires-clause-within c =
    let h = c.args.self.now in let k = c.requires.kept in
    let w = a_task h k c.args.t c.requires.sixteen in
    let ne = c.if-len-eq0.false in
    let i = words_in (owns k.shared_pages (k.task c.args.t w.0 w.1)) c.args.h.0 c.args.at (length c.args.bytes.now) c.in_ok-place.place
    (c.in_ok-place.ensures.found w.0 w.1) (omega arith) in
    let e = c.words_with-n.ensures in
    omega arith

pub returns-clause-step : goal.returns-clause-step
returns-clause-step c =
    let h = c.args.self.now in let k = c.requires.kept in
    let w = a_task h k c.args.t c.requires.sixteen in
    let o = subst (λ n. Overwrites h.shared_pages.region c.write_run.new.region (record { from = c.in_ok-place.place + 1 + c.args.at / 8; count = n })
    (c.args.at % 8) c.args.bytes.now) c.words_with-n.ensures c.write_run.ensures.words in
    wrote h k c.args.t w.0 w.1 (record { number = c.args.h.0; from = c.args.at }) c.in_ok-place.place c.args.bytes.now (c.in_ok-place.ensures.found w.0 w.1)
    (λ i. (let f = c.type_inv.bytes i in omega arith)) c.write_run.new.region o

pub returns-clause-kept : goal.returns-clause-kept
returns-clause-kept c =
    let h = c.args.self.now in let k = c.requires.kept in
    let w = a_task h k c.args.t c.requires.sixteen in
    let o = subst (λ n. Overwrites h.shared_pages.region c.write_run.new.region (record { from = c.in_ok-place.place + 1 + c.args.at / 8; count = n })
    (c.args.at % 8) c.args.bytes.now) c.words_with-n.ensures c.write_run.ensures.words in
    wrote_kept h k c.args.t w.0 w.1 (record { number = c.args.h.0; from = c.args.at })
    c.in_ok-place.place c.args.bytes.now (c.in_ok-place.ensures.found w.0 w.1)
    (λ i. (let f = c.type_inv.bytes i in omega arith)) c.write_run.new.region o
