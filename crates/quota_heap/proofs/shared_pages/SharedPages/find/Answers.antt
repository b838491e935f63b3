use Rattle.std.proofs.Common.{◌/◌, ◌^◌, arith, sym, ap}
use Rattle.page_model.proofs.CallerLemmas.{bytes_long}
use Rattle.quota_heap.proofs.Facts.{owns}
use Rattle.quota_heap.proofs.shared_pages.SharedPages.find.Goals as goal
use Rattle.quota_heap.proofs.shared_pages.SharedPages.find.Goals.{then-length-count-via-then-length-count}
use Rattle.quota_heap.proofs.shared_pages.SharedPages.find.Goals.{then-length-count-via-else-length-count+then-length-count-2}
use Rattle.page_slots.proofs.CallerLemmas.{place_in}

pub read-requires : goal.read-requires
read-requires c = record { within = place_in (owns c.requires.shared_pages c.requires.kept.1) c.args.h.0 c.in-Some.place (sym c.in-Some.ensures.found) }

pub returns-then-length-count-clause-found : goal.returns-then-length-count-clause-found
returns-then-length-count-clause-found c =
    let long = bytes_long c.args.self.now.region c.in-Some.place in
    let e = ap (λ w. w / 2 ^ 32) c.read.ensures.value in
    let f = c.unpack-length.ensures.length in
    record {
      place = c.in-Some.place;
      found = sym c.in-Some.ensures.found;
      past = elim c.then-length-count.branch [
        | then-length-count-via-then-length-count w ↦ (let lt = w.if-length-count.true in omega arith)
        | then-length-count-via-else-length-count+then-length-count-2 w ↦ (let le = w.if-length-count.false in let lt = w.if-length-count-2.true in omega arith)
      ];
    }

pub returns-clause-found : goal.returns-clause-found
returns-clause-found c =
    let long = bytes_long c.args.self.now.region c.in-Some.place in
    let e = ap (λ w. w / 2 ^ 32) c.read.ensures.value in
    let f = c.unpack-length.ensures.length in
    let a = c.if-length-count.false in let b = c.if-length-count-2.false in
    record { found = sym c.in-Some.ensures.found; within = omega arith }
