-- If every bound is 1, the headline fixes each reply, and it is that of the transcript: the law `at_bound_one_the_headline_is_the_transcript`.
use Rattle.std.proofs.Common.{◌≡◌, ◌≢◌, ℕ, Bool, true, false, cond, ◌+◌, ◌<◌, ◌≤◌, ◌++◌, List, [], ◌∷◌, Option, Some, None, Err, length, map, arith, sym, ◌∙◌, ap, refl, subst, inl, inr}
use Rattle.std.specs.Prelude.{⊤, ◌⊎◌, ◌↔◌, codes, filter, nat_eq, nat_le, not, option_map, replicate}
use Rattle.std.proofs.lemmas.Bool.{cases_lt}
use Rattle.std.specs.List.{range_with_len}
use Rattle.run_model.specs.Terms.{Admit, asks, bad, Block, Bound, class_at, classes, Command, EveryBoundIsOne, Frag, Free, get, insert, IsPaged, IsPaging, IsSound, Item, Kind, len, Malloc, Need, need, Objects, Paging, paging_in, Peek, Place, Placed, Profile, Quota, Read, Refusal, remove, Reply, Resize, ResizeFault, said, Slice, starts, Steps, Task, totals_in, Walk, Write, written}
use Rattle.cf_base.specs.declared.results.AccessFault.TheVariants as access
use Rattle.cf_base.specs.declared.results.Refusal.TheVariants as refusal
use Rattle.cf_base.specs.declared.results.ResizeFault.TheVariants as resize
use Rattle.cf_base.proofs.Values.{map_values-empty}
use Rattle.cf_base.proofs.Tests.{eq_no, eq_yes, lt_no, lt_yes}
use Rattle.cf_base.proofs.Maps.{remove_missing}
use Rattle.page_model.specs.Arrangement.{LacksRoom, live, pages_needed_with}
use Rattle.page_model.specs.Figures.{figures_of, totals_of}
use Rattle.page_model.specs.Paging.{class_for}
use Rattle.page_model.specs.Steps.{IsFreePlace, CallResult, resized}
use Rattle.page_model.proofs.CallerLemmas.{class_fits, lacks_room_at_one, len-objects, bytes_held, bytes_missing}
use Rattle.cf_model.specs.Answers.{classes_in}
use Rattle.cf_model.specs.Steps.{IsPlacedBy, IsRefusedBy, IsResizeFault, LacksRoomIn, opening_bounds}
use Rattle.cf_model.proofs.CallerLemmas.{both_kinds, not_none_found}
use Rattle.run_model.specs.Plays.{PlayRun, PlayStep}
use Rattle.run_model.specs.Replies.{malloc_text, read_text, resize_text, write_text}
use Rattle.run_model.specs.Reports.{class_line, frag_line, frag_of, live_classes, pages_report, total_line, walk_of}
use Rattle.run_model.specs.Steps.{bound_text}
use Rattle.script_laws.specs.IdBytes.{changed, is_ok, read_shown}
use Rattle.script_laws.specs.AtOne.{classes_in_use, figures_at_one, totals_at_one, walk_at_one}
use Rattle.script_laws.specs.ById.{ById, begun}
use Rattle.script_laws.specs.RepliesById.{after_by_id, bounds_with, class_bounded, free_said, malloc_fault, malloc_leaves, malloc_said, ok_or, passes_pages}
use Rattle.script_laws.specs.RepliesById.{put_unless, reply_by_id, resize_fault, resize_leaves, resize_said, write_leaves, write_said}
use Rattle.script_laws.specs.Transcripts.{ArePlaceless, IsAtOne, AsksForNoAddress, StaysAtOne, ShowsNoPlace, IsItemAtOne, after_at, replies_from, reply_at, transcript}
use Rattle.script_laws.proofs.PageRules.{has_room}
use Rattle.script_laws.proofs.PagesAtOne.{figures_are, totals_are, said_alike}
use Rattle.script_laws.specs.Headline.{MayReply, ShowsFree, IsAnswer, ShowsMalloc, MeetsHeadline, OpensEmpty, RefitsElsewhere, RefitsInPlace, ShowsResize, ShowsWrite}
use Rattle.script_laws.specs.ShownHeap.{IsArranged, ShownHeap, heap_opened}
use Rattle.script_laws.proofs.After.{changed_there, class_is, class_shown, either, view, view_after, view_is}

freed_shown : (o : Option (List ℕ)) (m : Objects) (id : ℕ) → get m id ≡ o → remove m id ≡ cond (is_ok (said (free_said o))) (remove m id) m
freed_shown None m id is = remove_missing m id is
freed_shown (Some v) m id is = refl

written_shown : (o : Option (List ℕ)) (m : Objects) (id at : ℕ) (bytes : List ℕ) → get m id ≡ o
    → write_leaves o m (record { id = id; at = at; bytes = bytes })
    ≡ cond (is_ok (said (write_said o at (length bytes)))) (changed m id (λ v. written v at bytes)) m
written_shown None m id at bytes is = refl
written_shown (Some v) m id at bytes is = go (nat_le (at + length bytes) (length v))
  where
    go : (b : Bool) → put_unless (cond b None (Some access.Range)) m id (written v at bytes)
        ≡ cond (is_ok (said (ok_or (λ e. write_text (Err e)) (cond b None (Some access.Range))))) (changed m id (λ v. written v at bytes)) m
    go true = changed_there m id (λ v. written v at bytes) v is
    go false = refl

malloc_put : (f : Option Refusal) (m : Objects) (id n : ℕ) → put_unless f m id (replicate n 0)
    ≡ cond (is_ok (said (ok_or (λ e. malloc_text (Err e)) f))) (insert m id (replicate n 0)) m
malloc_put None m id n = refl
malloc_put (Some refusal.Size) m id n = refl
malloc_put (Some refusal.Proxy) m id n = refl
malloc_put (Some refusal.Space) m id n = refl

resize_put : (f : Option ResizeFault) (m : Objects) (id n : ℕ) (v : List ℕ) → get m id ≡ Some v → put_unless f m id (resized v n)
    ≡ cond (is_ok (said (ok_or (λ e. resize_text (Err e)) f))) (changed m id (λ v. resized v n)) m
resize_put None m id n v is = changed_there m id (λ v. resized v n) v is
resize_put (Some resize.Unknown) m id n v is = refl
resize_put _ m id n v is = refl

-- What is known after the transcript's reply is what the transcript leaves.
module _ (h : ById) (is_paged : IsPaged h.kind) where
  class_at_one : (words : ℕ) → class_shown h words ≡ class_bounded h words
  class_at_one words = rw (is_paged, class_shown) refl

  malloc_after : (o : Option (List ℕ)) (id n : ℕ) → cond (is_ok (said (malloc_said o h n))) (insert h.objects id (replicate n 0)) h.objects
      ≡ malloc_leaves o h (record { number = id; length = n })
  malloc_after (Some v) id n = refl
  malloc_after None id n = sym (malloc_put (malloc_fault h n) h.objects id n)

  resize_after : (o : Option (List ℕ)) (id n : ℕ) → get h.objects id ≡ o → cond (is_ok (said (resize_said o h n))) (changed h.objects id (λ v. resized v n)) h.objects
      ≡ resize_leaves o h (record { number = id; length = n })
  resize_after None id n is = refl
  resize_after (Some v) id n is = sym (resize_put (resize_fault h v n) h.objects id n v is)

  abbrev With : Objects → ById
  With o = record h { objects = o }

  after_is : (c : Command) → view_after h c (reply_by_id h c) ≡ after_by_id h c
  after_is (Malloc id n) = ap With (malloc_after (get h.objects id) id n)
  after_is (Free id) = ap With (sym (freed_shown (get h.objects id) h.objects id refl))
  after_is (Write id at bytes) = ap With (sym (written_shown (get h.objects id) h.objects id at bytes refl))
  after_is (Resize id n) = ap With (resize_after (get h.objects id) id n refl)
  after_is (Bound words k) = λ i. record h { bounds = bounds_with h.bounds (class_at_one words i) k; objects = sym (either (is_ok (reply_by_id h (Bound words k))) h.objects) i }
  after_is (Read id at count) = ap With (sym (either (is_ok (reply_by_id h (Read id at count))) h.objects))
  after_is (Place id) = ap With (sym (either (is_ok (reply_by_id h (Place id))) h.objects))
  after_is (Block id i) = ap With (sym (either (is_ok (reply_by_id h (Block id i))) h.objects))
  after_is (Peek word) = ap With (sym (either (is_ok (reply_by_id h (Peek word))) h.objects))
  after_is Walk = ap With (sym (either (is_ok (reply_by_id h Walk)) h.objects))
  after_is Frag = ap With (sym (either (is_ok (reply_by_id h Frag)) h.objects))
  after_is Steps = ap With (sym (either (is_ok (reply_by_id h Steps)) h.objects))
  after_is Slice = ap With (sym (either (is_ok (reply_by_id h Slice)) h.objects))
  after_is (Task task) = ap With (sym (either (is_ok (reply_by_id h (Task task))) h.objects))
  after_is (Quota task n) = ap With (sym (either (is_ok (reply_by_id h (Quota task n))) h.objects))
  after_is (Need task bytes count) = ap With (sym (either (is_ok (reply_by_id h (Need task bytes count))) h.objects))
  after_is (Admit task) = ap With (sym (either (is_ok (reply_by_id h (Admit task))) h.objects))

module _ (t : ShownHeap) (is : IsPaged t.heap.kind) (arranged : IsArranged t.heap) (ones : EveryBoundIsOne (paging_in t.heap)) where
  abbrev p : Paging
  p = paging_in t.heap

  abbrev h : ById
  h = view t

  paging : IsPaging p
  paging = (let a : IsPaging p × IsSound p t.heap.held = rw (is, IsArranged) at arranged in a.0)

  sound : IsSound p t.heap.held
  sound = (let a : IsPaging p × IsSound p t.heap.held = rw (is, IsArranged) at arranged in a.1)

  many : len h.objects ≡ len t.heap.held
  many = len-objects t.heap.held

  room : (n : ℕ) → need n ≤ t.heap.profile.page_words → LacksRoom p t.heap.held (class_for p n) ↔ (t.heap.profile.pages < pages_needed_with p h.objects n)
  room n fits = lacks_room_at_one p paging ones t.heap.held sound n (class_fits p paging n fits)

  passes : (n : ℕ) → need n ≤ t.heap.profile.page_words → LacksRoom p t.heap.held (class_for p n) → passes_pages h n ≡ true
  passes n fits lacks = lt_yes _ _ ((room n fits).0 lacks)

  stays : (n place : ℕ) → need n ≤ t.heap.profile.page_words → IsFreePlace p t.heap.held n place → passes_pages h n ≡ false
  stays n place fits free = elim (cases_lt t.heap.profile.pages (pages_needed_with p h.objects n)) [
    | inl more ↦ absurd (has_room p t.heap.held n place free ((room n fits).1 more))
    | inr enough ↦ lt_no _ _ enough
  ]

  refused_is : (n : ℕ) (e : Refusal) → IsRefusedBy t.heap n e → malloc_fault h n ≡ Some e
  refused_is n refusal.Size large = (let e = lt_yes t.heap.profile.page_words (need n) large in rw e)
  refused_is n refusal.Proxy wants =
      let e = lt_no t.heap.profile.page_words (need n) wants.fits in
      let f = eq_yes (len h.objects) t.heap.profile.proxies (many ∙ wants.all) in
      rw (e, f)
  refused_is n refusal.Space wants =
      let e = lt_no t.heap.profile.page_words (need n) wants.fits in
      let few = wants.few in
      let same = many in
      let f = eq_no (len h.objects) t.heap.profile.proxies (λ is. omega arith) in
      let g = passes n wants.fits (rw (is, LacksRoomIn) at wants.lacking) in
      rw (e, f, g)

  malloc_is : (o : Option Placed) (id n : ℕ) (reply : Reply) (new : ShownHeap) → get t.heap.held id ≡ o → ShowsMalloc o t id n reply new → reply ≡ said (malloc_said (get h.objects id) h n)
  malloc_is (Some x) id n reply new there r = r.0 ∙ ap (λ o. said (malloc_said o h n)) (sym (bytes_held t.heap.held id x there))
  malloc_is None id n reply new none (inl r) =
      let e = lt_no t.heap.profile.page_words (need n) r.fits in
      let few = r.few in
      let same = many in
      let f = eq_no (len h.objects) t.heap.profile.proxies (λ is. omega arith) in
      let g = stays n r.place r.fits (rw (is, IsPlacedBy) at r.placed) in
      let fault : malloc_fault h n ≡ None = rw (e, f, g) in
      r.reply_is ∙ ap (λ f. said (ok_or (λ e. malloc_text (Err e)) f)) (sym fault) ∙ ap (λ o. said (malloc_said o h n)) (sym (bytes_missing t.heap.held id none))
  malloc_is None id n reply new none (inr r) = r.reply_is ∙ ap (λ f. said (ok_or (λ e. malloc_text (Err e)) f)) (sym (refused_is n r.refusal r.cause))
      ∙ ap (λ o. said (malloc_said o h n)) (sym (bytes_missing t.heap.held id none))

  resized_is : (id n : ℕ) (x : Placed) (e : ResizeFault) → get t.heap.held id ≡ Some x → IsResizeFault t.heap (record { number = id; length = n }) e
      → resize_fault h x.bytes n ≡ Some e
  resized_is id n x resize.Unknown there none = absurd (not_none_found t.heap.held id x there none)
  resized_is id n x resize.Kind there cause = absurd (both_kinds t.heap.kind is cause.blocks)
  resized_is id n x resize.Size there cause = (let e = lt_yes t.heap.profile.page_words (need n) cause.large in rw e)
  resized_is id n x resize.Space there cause =
      let same : Some cause.object ≡ Some x = sym cause.found ∙ there in
      let eq : cause.object ≡ x = cc in
      let other : class_for p n ≢ class_at p x = subst (λ y. class_for p n ≢ class_at p y) eq cause.other in
      let e = lt_no t.heap.profile.page_words (need n) cause.fits in
      let f = eq_no (class_for p n) (class_at p x) other in
      let g = passes n cause.fits cause.lacking in
      rw (e, f, g)

  no_fault : (id n : ℕ) (x : Placed) (after : CallResult) → need n ≤ t.heap.profile.page_words → RefitsInPlace t id x n after ⊎ RefitsElsewhere t id x n after
      → resize_fault h x.bytes n ≡ None
  no_fault id n x after fits (inl r) =
      let e = lt_no t.heap.profile.page_words (need n) fits in
      let f = eq_yes (class_for p n) (class_at p x) r.same in
      rw (e, f)
  no_fault id n x after fits (inr r) =
      let e = lt_no t.heap.profile.page_words (need n) fits in
      let f = eq_no (class_for p n) (class_at p x) r.other in
      let g = stays n r.place fits r.free in
      rw (e, f, g)

  resize_is : (o : Option Placed) (id n : ℕ) (reply : Reply) (new : ShownHeap) → get t.heap.held id ≡ o → ShowsResize o t id n reply new
      → reply ≡ said (resize_said (get h.objects id) h n)
  resize_is None id n reply new none r = r.0 ∙ ap (λ o. said (resize_said o h n)) (sym (bytes_missing t.heap.held id none))
  resize_is (Some x) id n reply new there (inl r) = r.reply_is ∙ ap (λ f. said (ok_or (λ e. resize_text (Err e)) f)) (sym (no_fault id n x r.after r.fits r.refits))
      ∙ ap (λ o. said (resize_said o h n)) (sym (bytes_held t.heap.held id x there))
  resize_is (Some x) id n reply new there (inr r) =
      r.reply_is ∙ ap (λ f. said (ok_or (λ e. resize_text (Err e)) f)) (sym (resized_is id n x r.fault there r.cause))
      ∙ ap (λ o. said (resize_said o h n)) (sym (bytes_held t.heap.held id x there))

  -- commands `walk` and `frag`
  totals_here : totals_in t.heap.kind t.heap ≡ totals_at_one p h.objects
  totals_here = totals_paged t.heap.kind is ∙ totals_are p paging ones t.heap.held sound
    where
      totals_paged : (k : Kind) → IsPaged k → totals_in k t.heap ≡ totals_of p t.heap.held
      totals_paged k is = rw (is, totals_in) refl

  pub walk_is : walk_of t.heap.kind t.heap ≡ walk_at_one p h.objects
  walk_is = walk_paged t.heap.kind is ∙ (λ i. lines i ++ said (total_line (totals_here i)))
    where
      walk_paged : (k : Kind) → IsPaged k → walk_of k t.heap ≡ pages_report t.heap
      walk_paged k is = rw (is, walk_of) refl

      classes_here : (k : Kind) → IsPaged k → classes_in k t.heap ≡ classes p
      classes_here k is = rw (is, classes_in) refl

      lines : map (λ c. class_line (figures_of p t.heap.held c)) (live_classes t.heap) ≡ map (λ c. class_line (figures_at_one p h.objects c)) (classes_in_use p h.objects)
      lines =
          ap (λ n. map (λ c. class_line (figures_of p t.heap.held c)) (filter (λ c. not (nat_eq (live p h.objects c) 0)) (range_with_len 0 n)))
          (classes_here t.heap.kind is)
          ∙ said_alike (λ c. class_line (figures_of p t.heap.held c)) (λ c. class_line (figures_at_one p h.objects c)) _ _ 0 (classes p)
          (λ d lt. ap class_line (figures_are p paging ones t.heap.held sound d (omega arith))) (λ d. refl)

  frag_is : frag_of t.heap ≡ said (frag_line (totals_at_one p h.objects))
  frag_is = ap (λ T. said (frag_line T)) totals_here

-- commands whose replies need no premise on the bounds
module _ (t : ShownHeap) where
  abbrev v : ById
  v = view t

  free_is : (o : Option Placed) (id : ℕ) (reply : Reply) (new : ShownHeap) → get t.heap.held id ≡ o → ShowsFree o t id reply new → reply ≡ said (free_said (get v.objects id))
  free_is None id reply new none r = r.0 ∙ ap (λ o. said (free_said o)) (sym (bytes_missing t.heap.held id none))
  free_is (Some x) id reply new there r = r.reply_is ∙ ap (λ o. said (free_said o)) (sym (bytes_held t.heap.held id x there))

  write_is : (o : Option Placed) (id at : ℕ) (bytes : List ℕ) (reply : Reply) (new : ShownHeap) → get t.heap.held id ≡ o → ShowsWrite o t id at bytes reply new
      → reply ≡ said (write_said (get v.objects id) at (length bytes))
  write_is None id at bytes reply new none r = r.0 ∙ ap (λ o. said (write_said o at (length bytes))) (sym (bytes_missing t.heap.held id none))
  write_is (Some x) id at bytes reply new there r = r.0 ∙ ap said (go (nat_le (at + length bytes) (length x.bytes)))
      ∙ ap (λ o. said (write_said o at (length bytes))) (sym (bytes_held t.heap.held id x there))
    where
      go : (b : Bool) → cond b (codes "ok") (codes "range") ≡ ok_or (λ e. write_text (Err e)) (cond b None (Some access.Range))
      go true = refl
      go false = refl

  read_is : (o : Option Placed) (id at count : ℕ) → get t.heap.held id ≡ o → read_text o at count ≡ read_shown (get v.objects id) at count
  read_is None id at count none = ap (λ o. read_shown o at count) (sym (bytes_missing t.heap.held id none))
  read_is (Some x) id at count there = ap (λ o. read_shown o at count) (sym (bytes_held t.heap.held id x there))

-- each reply is the transcript's
reply_is : (t : ShownHeap) → IsPaged t.heap.kind → IsArranged t.heap → (c : Command) (reply : Reply) (new : ShownHeap) → IsAtOne (view t) c → ShowsNoPlace c
    → IsAnswer t c reply new → reply ≡ reply_by_id (view t) c
reply_is t is arranged (Malloc id n) reply new ones none r = malloc_is t is arranged ones (get t.heap.held id) id n reply new refl r
reply_is t is arranged (Free id) reply new ones none r = free_is t (get t.heap.held id) id reply new refl r
reply_is t is arranged (Write id at bytes) reply new ones none r = write_is t (get t.heap.held id) id at bytes reply new refl r
reply_is t is arranged (Read id at count) reply new ones none r = r.0 ∙ ap said (read_is t (get t.heap.held id) id at count refl)
reply_is t is arranged (Place id) reply new ones none r = absurd none
reply_is t is arranged (Block id i) reply new ones none r = absurd none
reply_is t is arranged (Peek word) reply new ones none r = absurd none
reply_is t is arranged Walk reply new ones none r = r.0 ∙ walk_is t is arranged ones
reply_is t is arranged Frag reply new ones none r = r.0 ∙ frag_is t is arranged ones
reply_is t is arranged Steps reply new ones none r = absurd none
reply_is t is arranged (Bound words k) reply new ones none r = r.0 ∙ ap (λ c. said (bound_text c)) (class_is t t words ∙ class_at_one (view t) is words)
reply_is t is arranged (Resize id n) reply new ones none r = resize_is t is arranged ones (get t.heap.held id) id n reply new refl r
reply_is t is arranged _ reply new ones none r = r.0

module _ (kind : Kind) (is_paged : IsPaged kind) where
  abbrev pub IsInOrder : Option ShownHeap → Type 0
  IsInOrder None = ⊤
  IsInOrder (Some t) = IsPaged t.heap.kind × IsArranged t.heap

  abbrev pub view_in : Option ShownHeap → Option ById
  view_in t = option_map view t

  pub item_is : (t : Option ShownHeap) (item : Item) (reply : Reply) (after : Option ShownHeap) → IsInOrder t → IsItemAtOne (view_in t) item → AsksForNoAddress item
      → PlayStep (OpensEmpty kind) MayReply t item reply after
      → (reply ≡ reply_at (view_in t) item) × (view_in after ≡ after_at kind (view_in t) item) × IsInOrder after
  item_is t (starts p) reply after order ones none step =
      let e : view step.0 ≡ begun kind p = ap view step.1.1 ∙ opened_view p in (
        step.1.0,
        ap view_in step.2 ∙ ap (λ (v : ById). Some v) e,
        subst IsInOrder (sym step.2) (subst IsPaged (sym (ap (λ (v : ById). v.kind) e)) is_paged, step.1.2),
      )
    where
      opened_view : (p : Profile) → view (heap_opened kind p) ≡ begun kind p
      opened_view p = λ i. record { kind = kind; profile = p; bounds = opening_bounds kind p; objects = map_values-empty (λ (x : Placed). x.bytes) i }
  item_is None (asks c) reply after order ones none step = (step.0, ap view_in step.1, subst IsInOrder (sym step.1) tt)
  item_is (Some t) (asks c) reply after order ones none step =
      let new = step.0 in
      let r = reply_is t order.0 order.1 c reply new ones none step.1.0 in
      let left : view new ≡ after_by_id (view t) c = view_is t new order.1 c reply step.1.0 ∙ ap (view_after (view t) c) r ∙ after_is (view t) order.0 c in (
        r,
        ap view_in step.2 ∙ ap (λ (v : ById). Some v) left,
        subst IsInOrder (sym step.2) (subst IsPaged (sym (ap (λ (v : ById). v.kind) left)) order.0, step.1.1),
      )
  item_is None (bad n) reply after order ones none step = (step.0, ap view_in step.1, subst IsInOrder (sym step.1) tt)
  item_is (Some t) (bad n) reply after order ones none step = (step.0, ap view_in step.1, subst IsInOrder (sym step.1) order)

  pub run_is_transcript : (items : List Item) (t end : Option ShownHeap) (replies : List Reply) → IsInOrder t → StaysAtOne kind (view_in t) items
      → ArePlaceless items → PlayRun (OpensEmpty kind) MayReply t items replies end → replies ≡ replies_from kind (view_in t) items
  run_is_transcript [] t end replies order ones none run = run.0
  run_is_transcript (item ∷ rest) t end replies order ones none run =
      let one = item_is t item run.1 run.0 order ones.0 none.0 run.3 in
      let ones' : StaysAtOne kind (view_in run.0) rest = subst (λ h. StaysAtOne kind h rest) (sym one.1) ones.1 in
      let more = run_is_transcript rest run.0 end run.2 one.2 ones' none.1 run.5 in
      run.4 ∙ (λ i. one.0 i ∷ more i) ∙ ap (λ h. reply_at (view_in t) item ∷ replies_from kind h rest) one.1

-- all replies that meet the headline are the transcript
pub headline_is_transcript : (kind : Kind) (items : List Item) (replies : List Reply) → IsPaged kind → StaysAtOne kind None items → ArePlaceless items
    → MeetsHeadline kind items replies → replies ≡ transcript kind items
headline_is_transcript kind items replies is ones none meets = run_is_transcript kind is items None meets.0 replies tt ones none meets.1
