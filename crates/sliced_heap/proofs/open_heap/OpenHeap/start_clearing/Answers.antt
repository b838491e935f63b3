use Rattle.std.proofs.Common.{◌-◌, ◌*◌, get_or, set, arith, sym, ◌∙◌, ap, subst}
use Rattle.cf_base.specs.Classes.{slots}
use Rattle.proxy_table.specs.Proxies.{AreBelowLimit}
use Rattle.slice_model.specs.State.{Clear}
use Rattle.slice_model.specs.Steps.{fresh_slot}
use Rattle.step_ledger.proofs.CallerLemmas.{rose_both}
use Rattle.sliced_heap.specs.Heap.{sliced_seen}
use Rattle.sliced_heap.specs.Layout.{opens}
use Rattle.sliced_heap.specs.declared.open_heap.OpenHeap.{OpenHeap}
use Rattle.sliced_heap.proofs.ForgetLemmas.{asked_some, forgets_at, live_some, needed_some, taken_some}
use Rattle.sliced_heap.proofs.FindLemmas.{class_found, found, has_class, length_shown, place_in}
use Rattle.sliced_heap.proofs.open_heap.OpenHeap.start_clearing.Goals as goal

pub read-requires : goal.read-requires
read-requires c = record {
  within = place_in (sliced_seen c.args.self.now) c.requires.kept c.requires.idle c.args.h.0 c.args.place c.requires.known;
}

pub unreachable-requires : goal.unreachable-requires
unreachable-requires c =
    has_class (sliced_seen c.args.self.now) c.requires.kept c.requires.idle c.args.h.0 c.args.place c.requires.known c.unpack-length.result.length
    (let v = c.read.ensures.value in let u = c.unpack-length.ensures.length in omega arith) c.in_default.ensures.found

pub count_out-requires-clause-live : goal.count_out-requires-clause-live
count_out-requires-clause-live c =
    let h = sliced_seen c.args.self.now in
    let w = found h c.requires.kept c.args.h.0 c.args.place c.requires.known in
    let is = class_found h c.requires.kept c.requires.idle c.args.h.0 c.args.place c.requires.known c.unpack-length.result.length
    (let v = c.read.ensures.value in let u = c.unpack-length.ensures.length in omega arith) c.in-Some.c c.in-Some.ensures.found in
    rw (← is) (live_some h c.requires.kept c.requires.idle c.args.h.0 w.0 w.1)

pub count_out-requires-clause-needed : goal.count_out-requires-clause-needed
count_out-requires-clause-needed c =
    let h = sliced_seen c.args.self.now in
    let w = found h c.requires.kept c.args.h.0 c.args.place c.requires.known in
    let is = class_found h c.requires.kept c.requires.idle c.args.h.0 c.args.place c.requires.known c.unpack-length.result.length
    (let v = c.read.ensures.value in let u = c.unpack-length.ensures.length in omega arith) c.in-Some.c c.in-Some.ensures.found in
    rw (← is) (needed_some h c.requires.kept c.requires.idle c.args.h.0 w.0 w.1)

pub count_out-requires-clause-asked : goal.count_out-requires-clause-asked
count_out-requires-clause-asked c =
    let h = sliced_seen c.args.self.now in
    let w = found h c.requires.kept c.args.h.0 c.args.place c.requires.known in
    let long = length_shown h c.requires.kept c.requires.idle c.args.h.0 c.args.place c.requires.known c.unpack-length.result.length
    (let v = c.read.ensures.value in let u = c.unpack-length.ensures.length in omega arith) in
    rw long (asked_some h c.requires.kept c.requires.idle c.args.h.0 w.0 w.1)

pub count_out-requires-clause-taken : goal.count_out-requires-clause-taken
count_out-requires-clause-taken c =
    let h = sliced_seen c.args.self.now in
    let w = found h c.requires.kept c.args.h.0 c.args.place c.requires.known in
    let is = class_found h c.requires.kept c.requires.idle c.args.h.0 c.args.place c.requires.known c.unpack-length.result.length
    (let v = c.read.ensures.value in let u = c.unpack-length.ensures.length in omega arith) c.in-Some.c c.in-Some.ensures.found in
    rw (← is) (taken_some h c.requires.kept c.requires.idle c.args.h.0 w.0 w.1)

pub returns : goal.returns
returns c =
    let h = sliced_seen c.args.self.now in
    let w = found h c.requires.kept c.args.h.0 c.args.place c.requires.known in
    let is = class_found h c.requires.kept c.requires.idle c.args.h.0 c.args.place c.requires.known c.unpack-length.result.length
    (let v = c.read.ensures.value in let u = c.unpack-length.ensures.length in omega arith) c.in-Some.c c.in-Some.ensures.found in
    let forgets = forgets_at h c.requires.kept c.requires.idle c.args.h.0 w.0 w.1 c.unpack-length.result.length c.args.place c.in-Some.c
    (sym (length_shown h c.requires.kept c.requires.idle c.args.h.0 c.args.place c.requires.known c.unpack-length.result.length
    (let v = c.read.ensures.value in let u = c.unpack-length.ensures.length in omega arith))) w.2 is _ (record {
      rest = ap (λ (x : OpenHeap). record (sliced_seen x) { job = Clear (fresh_slot c.args.place c.in-Some.c) }) c.count_out.ensures
          ∙ ap (λ p. record h {
            proxies = p;
            live = set h.live c.in-Some.c (get_or h.live c.in-Some.c 0 - 1);
            needed = h.needed - opens (slots h.classes.page_words h.classes.sizes c.in-Some.c) (get_or h.live c.in-Some.c 0 - 1);
            asked = h.asked - c.unpack-length.result.length;
            taken = h.taken - 8 * get_or h.classes.sizes c.in-Some.c 0;
            job = Clear (fresh_slot c.args.place c.in-Some.c);
          }) c.release.ensures.places;
      handles = subst AreBelowLimit (sym (ap (λ (x : OpenHeap). x.proxies) c.count_out.ensures)) c.release.ensures.kept;
    }) in
    record {
      gone = forgets.0;
      kept = forgets.1;
      steps = rose_both _ _ _ _ _ (rose_both _ _ _ _ _ c.read.ensures.steps c.class_of.ensures.steps) c.release.ensures.steps;
    }
