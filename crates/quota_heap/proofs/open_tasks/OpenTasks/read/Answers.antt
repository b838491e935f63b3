use Rattle.std.proofs.Common.{length, arith, refl}
use Rattle.quota_heap.proofs.Parts.{place_small, read_is, reads_nothing}
use Rattle.quota_heap.proofs.Facts.{owns}
use Rattle.quota_heap.proofs.Tasks.{a_task}
use Rattle.page_slots.proofs.CallerLemmas.{words_in, count_few}
use Rattle.quota_heap.proofs.open_tasks.OpenTasks.read.Goals as goal

pub returns-then-len-eq0-clause-answer : goal.returns-then-len-eq0-clause-answer
returns-then-len-eq0-clause-answer c =
    let h = c.args.self.now in let k = c.requires.kept in
    let w = a_task h k c.args.t c.requires.sixteen in
    reads_nothing h k c.args.t w.0 w.1 (record { number = c.args.h.0; from = c.args.at }) (length c.args.out.now)
    c.in_ok-place.place (c.in_ok-place.ensures.found w.0 w.1) c.args.out.now refl
    c.if-len-eq0.true

pub overflow_add-first : goal.overflow_add-first
overflow_add-first c =
    let h = c.args.self.now in let k = c.requires.kept in
    let w = a_task h k c.args.t c.requires.sixteen in
    let ne = c.if-len-eq0.false in
    let s = place_small h k c.args.t w.0 w.1 (record { number = c.args.h.0; from = c.args.at }) (length c.args.out.now)
    c.in_ok-place.place (c.in_ok-place.ensures.found w.0 w.1) (omega arith) in
    omega arith

pub overflow_add-first-2 : goal.overflow_add-first-2
overflow_add-first-2 c =
    let h = c.args.self.now in let k = c.requires.kept in
    let w = a_task h k c.args.t c.requires.sixteen in
    let ne = c.if-len-eq0.false in
    let s = place_small h k c.args.t w.0 w.1 (record { number = c.args.h.0; from = c.args.at }) (length c.args.out.now)
    c.in_ok-place.place (c.in_ok-place.ensures.found w.0 w.1) (omega arith) in
    omega arith

pub words_with-n-requires : goal.words_with-n-requires
words_with-n-requires c =
    let h = c.args.self.now in let k = c.requires.kept in
    let w = a_task h k c.args.t c.requires.sixteen in
    let f = count_few (owns k.shared_pages (k.task c.args.t w.0 w.1)) c.args.h.0 c.args.at (length c.args.out.now) c.in_ok-place.place
    (c.in_ok-place.ensures.found w.0 w.1) in
    omega arith

pub read_run-requires-clause-within : goal.read_run-requires-clause-within
read_run-requires-clause-within c =
    let h = c.args.self.now in let k = c.requires.kept in
    let w = a_task h k c.args.t c.requires.sixteen in
    let ne = c.if-len-eq0.false in
    let i = words_in (owns k.shared_pages (k.task c.args.t w.0 w.1)) c.args.h.0 c.args.at (length c.args.out.now) c.in_ok-place.place
    (c.in_ok-place.ensures.found w.0 w.1) (omega arith) in
    let e = c.words_with-n.ensures in
    omega arith

pub returns-clause-answer : goal.returns-clause-answer
returns-clause-answer c =
    let h = c.args.self.now in let k = c.requires.kept in
    let w = a_task h k c.args.t c.requires.sixteen in
    read_is h k c.args.t w.0 w.1 (record { number = c.args.h.0; from = c.args.at }) (length c.args.out.now)
    c.in_ok-place.place (c.in_ok-place.ensures.found w.0 w.1) c.read_run.new.out
    c.read_run.auto.out c.read_run.ensures.bytes
