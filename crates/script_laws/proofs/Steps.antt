-- Command by command: a step of a run (`Step`) is an answer that the headline allows (`IsAnswer`) between the heaps that lines and replies show before and
-- after it; these heaps are arranged by the rules. And two states of a run with equal sessions and heaps are equal.
use Rattle.std.proofs.Common.{◌≡◌, ℕ, ◌+◌, ◌*◌, ◌<◌, ◌++◌, List, [], Option, Some, None, Result, Ok, Err, max, map, cond, length, arith, sym, ◌∙◌, ap, refl, subst, inl, inr, ◌⊎◌, codes, filter, nat_eq, nat_lt, not, slice_get, slice_index}
use Rattle.std.specs.List.{range_with_len}
use Rattle.std.proofs.lemmas.Bool.{cases_lt}
use Rattle.std.proofs.lemmas.Option.{slice_get-get_or, slice_get_past}
use Rattle.run_model.specs.Terms.{AccessFault, class_at, CostsAtMost, CostsByKind, counted, family_of, get, HalfFit, Handle, HeapState, Held, Ids, insert, IsGoing, IsPaged, Kind, Moving, NonMoving, paged, Paging, paging_in, Placed, Refusal, region_words, remove, Reply, Request, Resized, ResizeFault, RunState, said, SessionState, tiled, Tlsf, totals_in, with_bound, written}
use Rattle.cf_base.specs.declared.results.AccessFault.TheVariants as access
use Rattle.cf_base.specs.declared.results.Refusal.TheVariants as refusal
use Rattle.cf_base.specs.declared.results.ResizeFault.TheVariants as resize
use Rattle.cf_base.specs.declared.results.Totals.{Totals}
use Rattle.cf_base.proofs.Tests.{le_no, le_yes, lt_no, lt_yes}
use Rattle.page_model.specs.Image.{slot_for}
use Rattle.page_model.specs.Paging.{class_for}
use Rattle.page_model.specs.Steps.{CallResult, Moves, RefitsObject, resized_at, without, zeros_at}
use Rattle.page_model.proofs.CallerLemmas.{change_is}
use Rattle.cf_model.specs.Answers.{block_totals, class_with, classes_in}
use Rattle.cf_model.specs.Costs.{resize_bound}
use Rattle.cf_model.specs.Families.{Family}
use Rattle.cf_model.specs.Rules.{IsTiled, KeepsPages, KeepsRulesOf, KeepsTiling}
use Rattle.cf_model.specs.Steps.{IsMallocStep, IsPlacedBy, IsRefusedBy, IsResizeFault, IsResizeStep, IsLeftByRefusal, IsWriteStep, LacksRoomIn, MovesIn, frames_left, number_of, slot_in}
use Rattle.cf_model.specs.Steps.{tiling_left}
use Rattle.cf_model.proofs.CallerLemmas.{not_none_found, pages_kept}
use Rattle.run_model.specs.Replies.{block_text, block_text_at, malloc_text, peek_text, resize_text, write_text}
use Rattle.run_model.specs.Reports.{blocks_line, class_line, frag_line, frag_of, pages_report, total_line, walk_of}
use Rattle.run_model.specs.Steps.{Bounds as GetsBound, Frees as FreesStep, bound_text, class_to_bound, ids_given, session_resized}
use Rattle.run_model.proofs.CallerLemmas.{FreesAt, MallocsAt, ResizesAt, WritesAt, counted_bound, counted_ids, resized_ids}
use Rattle.run_model.proofs.CallerLemmas.{changed_renamed, given_renamed, gone_with, live_renamed}
use Rattle.script_laws.specs.Headline.{ShowsBound, ShowsFree, FreeSucceeds, MallocSucceeds, IsRefusedMalloc, ShowsMalloc, Peeks, RefitsElsewhere, RefitsInPlace, ShowsResize, ShowsWrite}
use Rattle.script_laws.specs.Headline.{resize_bound_for, heap_with}
use Rattle.script_laws.specs.ShownHeap.{IsArranged, ShownHeap, move_counted}
use Rattle.script_laws.proofs.Shown.{asked_alike, figures_same, lacks_same, live_alike, place_same, sound_same, totals_same, IsNamed, apart, counts, frames_by_id, heap_of, held_by_id, missing, moves_by_id, nothing, numbered, object, refitted_by_id, shown, still_named, without_by_id, word_shown}

-- two states of a run with equal sessions and heaps are equal
pub run_is : (s new : RunState) → new.session ≡ s.session → new.heap ≡ s.heap → new ≡ s
run_is s new e f = λ i. record { session = e i; heap = f i }

-- the counters after a move
moves_named : (ids : Ids) (s : SessionState) (base : ShownHeap) (moved : Option Handle) (by_id : Option ℕ) (n : ℕ) → IsNamed ids moved by_id
    → s.moves ≡ base.moves → (counted s moved n).moves ≡ (move_counted base by_id n).moves
moves_named ids s base None None n is e = e
moves_named ids s base None (Some r) n is e = absurd is
moves_named ids s base (Some q) None n is e = absurd is
moves_named ids s base (Some q) (Some r) n is e = rw e refl

words_named : (ids : Ids) (s : SessionState) (base : ShownHeap) (moved : Option Handle) (by_id : Option ℕ) (n : ℕ) → IsNamed ids moved by_id
    → s.words ≡ base.moved_words → (counted s moved n).words ≡ (move_counted base by_id n).moved_words
words_named ids s base None None n is e = e
words_named ids s base None (Some r) n is e = absurd is
words_named ids s base (Some q) None n is e = absurd is
words_named ids s base (Some q) (Some r) n is e = rw e refl

counted_is : (base t : ShownHeap) (moved : Option ℕ) (n : ℕ) → t.heap ≡ base.heap → t.numbers ≡ base.numbers → t.step_bound ≡ base.step_bound → t.moves ≡ (move_counted base moved n).moves
    → t.moved_words ≡ (move_counted base moved n).moved_words → t ≡ move_counted base moved n
counted_is base t None n h u b m w = λ i. record { heap = h i; numbers = u i; step_bound = b i; moves = m i; moved_words = w i }
counted_is base t (Some r) n h u b m w = λ i. record { heap = h i; numbers = u i; step_bound = b i; moves = m i; moved_words = w i }

module _ (s : RunState) (going : IsGoing s) where
  abbrev t : ShownHeap
  t = shown s

  abbrev p : Paging
  p = paging_in s.heap

  abbrev ids : Ids
  ids = s.session.ids

  abbrev m : Held
  m = s.heap.held

  abbrev by_ids : Held
  by_ids = held_by_id ids m

  pages : IsPaged s.heap.kind → KeepsPages s.heap
  pages is = pages_kept s.heap.kind s.heap is going.rules.of_kind

  -- the heap that the run shows is arranged by the rules (`IsArranged`)
  tiling_kept : (k : Kind) → IsTiled k → KeepsRulesOf k s.heap → KeepsTiling s.heap
  tiling_kept k is rules = rw (is, KeepsRulesOf) at rules

  arranged_in : (f : Family) → family_of s.heap.kind ≡ f → IsArranged (heap_of s)
  arranged_in paged is = rw (is, IsArranged) ((pages is).paging, sound_same p m by_ids (counts s going) (numbered s going) (pages is).sound (apart s going))
  arranged_in tiled is = rw (is, IsArranged) (tiling_kept s.heap.kind is going.rules.of_kind).tiling

  pub arranged : IsArranged (heap_of s)
  arranged = arranged_in (family_of s.heap.kind) refl

  -- commands that only read
  totals_here : (k : Kind) → totals_in k s.heap ≡ totals_in k (heap_of s)
  totals_here k = λ i. elim (family_of k) as (λ _. Totals) [
    | paged ↦ sym (totals_same p m by_ids (counts s going)) i
    | tiled ↦ record (block_totals s.heap) { live = sym (counts s going).count i; asked = sym (asked_alike p m by_ids (counts s going)) i }
  ]

  pub frag_here : frag_of s.heap ≡ frag_of (heap_of s)
  frag_here = ap (λ T. said (frag_line T)) (totals_here s.heap.kind)

  report_here : pages_report s.heap ≡ pages_report (heap_of s)
  report_here = λ i. map (λ c. class_line (sym (figures_same p m by_ids (counts s going) c) i))
      (filter (λ c. not (nat_eq (sym (live_alike p m by_ids (counts s going) c) i) 0)) (range_with_len 0 (classes_in s.heap.kind s.heap)))
      ++ said (total_line (totals_here s.heap.kind i))

  pub walk_here : walk_of s.heap.kind s.heap ≡ walk_of s.heap.kind (heap_of s)
  walk_here = λ i. elim (family_of s.heap.kind) as (λ _. Reply) [
    | paged ↦ report_here i
    | tiled ↦ said (blocks_line (totals_here s.heap.kind i))
  ]

  block_in : (k : Kind) (x : Placed) (i : ℕ) → block_text k s.heap x i ≡ block_text k (heap_of s) x i
  block_in Moving x i = refl
  block_in _ x i = refl

  pub block_here : (o : Option Placed) (i : ℕ) → block_text_at s.heap o i ≡ block_text_at (heap_of s) o i
  block_here None i = refl
  block_here (Some x) i = block_in s.heap.kind x i

  pub peek_here : (word : ℕ) (reply : Reply) → reply ≡ said (peek_text (slice_get s.heap.words word)) → (new : ShownHeap) → new ≡ t → Peeks t word reply new
  peek_here word reply r new same =
      let value : ℕ = slice_index s.heap.words word in
      let region = going.rules.region in
      let text : reply ≡ said (peek_text (cond (nat_lt word (region_words s.heap.profile)) (Some value) None)) = elim (cases_lt word (region_words s.heap.profile)) [
        | inl lt ↦ r ∙ ap (λ o. said (peek_text o)) (slice_get-get_or s.heap.words word 0 (omega arith)
            ∙ sym (ap (λ b. cond b (Some value) None) (lt_yes word (region_words s.heap.profile) lt)))
        | inr ge ↦ r ∙ ap (λ o. said (peek_text o)) (slice_get_past s.heap.words word (omega arith)
            ∙ sym (ap (λ b. cond b (Some value) None) (lt_no word (region_words s.heap.profile) ge)))
      ] in
      (value, (text, same), word_shown s going word)

  -- the causes of refusals
  lacks_in : (k : Kind) (f : Family) → family_of k ≡ f → (n : ℕ) → LacksRoomIn k s.heap n → LacksRoomIn k (heap_of s) n
  lacks_in k paged is n lacks = rw (is, LacksRoomIn) (lacks_same p m by_ids (counts s going) (class_for p n) (rw (is, LacksRoomIn) at lacks))
  lacks_in k tiled is n lacks = rw (is, LacksRoomIn) (rw (is, LacksRoomIn) at lacks)

  refused_shown : (n : ℕ) (e : Refusal) → IsRefusedBy s.heap n e → IsRefusedBy (heap_of s) n e
  refused_shown n refusal.Size large = large
  refused_shown n refusal.Proxy cause = record { fits = cause.fits; all = (counts s going).count ∙ cause.all }
  refused_shown n refusal.Space cause = record {
    fits = cause.fits;
    few = subst (λ k. k < s.heap.profile.proxies) (sym (counts s going).count) cause.few;
    lacking = lacks_in s.heap.kind (family_of s.heap.kind) refl n cause.lacking;
  }

  module _ (id h : ℕ) (named : get ids id ≡ Some h) where
    at_id : (x : Placed) → get m h ≡ Some x → get by_ids id ≡ Some x
    at_id x found = live_renamed nothing ids m id h x named found

    fault_shown : (n : ℕ) (e : ResizeFault) → IsResizeFault s.heap (record { number = h; length = n }) e
        → IsResizeFault (heap_of s) (record { number = id; length = n }) e
    fault_shown n resize.Unknown none = (let x = object s going id h named in absurd (not_none_found m h x.0 x.1 none))
    fault_shown n resize.Kind cause = record { object = cause.object; found = at_id cause.object cause.found; blocks = cause.blocks }
    fault_shown n resize.Size cause = record { object = cause.object; found = at_id cause.object cause.found; pages = cause.pages; large = cause.large }
    fault_shown n resize.Space cause = record {
      object = cause.object;
      found = at_id cause.object cause.found;
      pages = cause.pages;
      fits = cause.fits;
      other = cause.other;
      lacking = lacks_same p m by_ids (counts s going) (class_for p n) cause.lacking;
    }

  module _ (new : RunState) (after_going : IsGoing new) (same : new.heap.kind ≡ s.heap.kind) where
    cost_is : (n : ℕ) → CostsAtMost new.heap.kind new.heap.cost n → CostsAtMost s.heap.kind new.heap.cost n
    cost_is n cost = subst (λ k. CostsAtMost k new.heap.cost n) same cost

    within : (n m : ℕ) → CostsByKind new.heap.kind new.heap.cost n m → CostsByKind s.heap.kind new.heap.cost n m
    within n m cost = subst (λ k. CostsByKind k new.heap.cost n m) same cost

    -- command `m`
    placed_in : (k : Kind) (f : Family) → family_of k ≡ f → (asked : Request) (place : ℕ) → IsPlacedBy k s.heap asked place new.heap
        → IsPlacedBy k (heap_of s) asked place (heap_of new)
    placed_in k paged is asked place placed = rw (is, IsPlacedBy) (place_same p m by_ids (counts s going) (numbered s going) asked.length place (rw (is, IsPlacedBy) at placed))
    placed_in k tiled is asked place placed = rw (is, IsPlacedBy) (rw (is, IsPlacedBy) at placed)

    malloc_answer : (id n : ℕ) (reply : Reply) (answer : Result Handle Refusal) → IsMallocStep s.heap n answer new.heap
        → CostsByKind new.heap.kind new.heap.cost 64 25 → new.session ≡ record s.session { ids = ids_given ids id answer; bound = 64 } → reply ≡ said (malloc_text answer)
        → MallocSucceeds t id n reply (shown new) ⊎ IsRefusedMalloc t n reply (shown new)
    malloc_answer id n reply (Ok h) step cost e r =
        let held : held_by_id new.session.ids new.heap.held ≡ insert by_ids id (zeros_at step.place n) =
        (λ i. held_by_id (e i).ids (step.whole i).held) ∙ given_renamed nothing ids m going.tied.ids id h.0 (zeros_at step.place n) step.unused in
        inl (record {
          fits = step.fits;
          few = subst (λ k. k < s.heap.profile.proxies) (sym (counts s going).count) step.few;
          place = step.place;
          number = h.0;
          in_range = step.in_range;
          unused = λ other is. (let x = object s going other h.0 is in not_none_found m h.0 x.0 x.1 step.unused);
          placed = placed_in s.heap.kind (family_of s.heap.kind) refl _ step.place step.placed;
          steps = within 64 25 cost;
          reply_is = r;
          heap_is = λ i. record {
            heap = record (step.whole i) { held = held i; words = []; order = None };
            numbers = (e i).ids;
            step_bound = (e i).bound;
            moves = (e i).moves;
            moved_words = (e i).words;
          };
        })
    malloc_answer id n reply (Err f) step cost e r = inr (record {
      refusal = f;
      cause = refused_shown n f step.0;
      steps = within 64 25 cost;
      reply_is = r;
      heap_is = λ i. record {
        heap = record (step.1 i) { held = held_by_id (e i).ids (step.1 i).held; words = []; order = None };
        numbers = (e i).ids;
        step_bound = (e i).bound;
        moves = (e i).moves;
        moved_words = (e i).words;
      };
    })

    pub malloc_shown : (o : Option ℕ) (id n : ℕ) (reply : Reply) → get ids id ≡ o → MallocsAt o s (record { number = id; length = n }) reply new
        → ShowsMalloc (get by_ids id) t id n reply (shown new)
    malloc_shown None id n reply none step = subst (λ o. ShowsMalloc o t id n reply (shown new)) (sym (missing s going id none))
        (malloc_answer id n reply step.answer step.step step.cost step.session step.reply_is)
    malloc_shown (Some h) id n reply named step = subst (λ o. ShowsMalloc o t id n reply (shown new)) (sym (object s going id h named).2) (step.0, ap shown step.1)

    -- command `f`
    abbrev FreedById : Kind → Placed → Option Handle → ℕ → ℕ → Type 0
    FreedById k x moved id h = (by_id : Option ℕ) × MovesIn k (heap_of s) x by_id × IsNamed ids moved by_id × IsNamed (remove ids id) moved by_id
        × (held_by_id (remove ids id) (without m h x.place (number_of moved)) ≡ without by_ids id x.place by_id)

    none_moved : (moved : Option Handle) (x : Placed) (id h : ℕ) → get ids id ≡ Some h → number_of moved ≡ None → (by_id : Option ℕ) × (by_id ≡ None)
        × IsNamed ids moved by_id × IsNamed (remove ids id) moved by_id × (held_by_id (remove ids id) (without m h x.place (number_of moved)) ≡ without by_ids id x.place by_id)
    none_moved None x id h named is = (None, refl, tt, tt, gone_with nothing ids m going.tied.ids id h named)
    none_moved (Some q) x id h named is = absurd (let e : Some q.0 ≡ None = is in cc)

    freed_by_id : (k : Kind) (f : Family) → family_of k ≡ f → family_of s.heap.kind ≡ f → (moved : Option Handle) (x : Placed) (id h : ℕ) → get ids id ≡ Some h
        → get m h ≡ Some x → MovesIn k s.heap x (number_of moved) → FreedById k x moved id h
    freed_by_id k paged is paged_too moved x id h named found moves =
        let w = pages paged_too in
        let step = rw (is, MovesIn) at moves in
        let b = moves_by_id s going p w.paging w.sound id h x named found moved step in (
          b.0,
          rw (is, MovesIn) b.1,
          b.2,
          still_named s going p w.paging w.sound id h x named found moved b.0 step b.2,
          without_by_id s going p w.paging w.sound id h x named found moved b.0 step b.2,
        )
    freed_by_id k tiled is tiled_too moved x id h named found moves =
        let step : number_of moved ≡ None = rw (is, MovesIn) at moves in
        let b = none_moved moved x id h named step in
        (b.0, rw (is, MovesIn) b.1, b.2, b.3, b.4)

    free_answer : (id h : ℕ) (reply : Reply) (named : get ids id ≡ Some h) (step : FreesStep s (record { id = id; number = h }) reply new)
        → FreeSucceeds t id step.step.object reply (shown new)
    free_answer id h reply named step =
        let x = step.step.object in
        let moved = step.freed.moved in
        let b = freed_by_id s.heap.kind (family_of s.heap.kind) refl refl moved x id h named step.step.found step.step.moves in
        let n : ℕ = slot_in s.heap.kind (heap_of s) x in
        let slot : step.freed.slot_words ≡ n = step.step.slot in
        let names : new.session.ids ≡ remove ids id = ap (λ (z : SessionState). z.ids) step.session ∙ counted_ids _ moved _ in
        let held : held_by_id new.session.ids new.heap.held ≡ without by_ids id x.place b.0 = (λ i. held_by_id (names i) (step.step.held i)) ∙ b.4 in
        let frames : new.heap.frames ≡ frames_left s.heap.kind (heap_of s) (record { held = without by_ids id x.place b.0; moved = b.0 }) =
        step.step.frames ∙ ap (λ l. frames_left s.heap.kind s.heap (record { held = l; moved = number_of moved })) (sym step.step.held)
        ∙ frames_by_id s new going after_going moved b.0 b.2 (subst (λ j. IsNamed j moved b.0) (sym names) b.3) s.heap.kind
        ∙ ap (λ l. frames_left s.heap.kind (heap_of s) (record { held = l; moved = b.0 })) held in
        let rest = step.step.rest in
        let before : SessionState = record s.session { ids = remove ids id; bound = 96 + 2 * step.freed.slot_words } in
        let base : ShownHeap = record t {
          heap = record (heap_of s) {
            held = without by_ids id x.place b.0;
            frames = frames_left s.heap.kind (heap_of s) (record { held = without by_ids id x.place b.0; moved = b.0 });
            tiling = tiling_left s.heap.kind (heap_of s) x.place;
            cost = new.heap.cost;
          };
          numbers = remove ids id;
          step_bound = 96 + 2 * n;
        } in
        record {
          moved = b.0;
          moves = b.1;
          steps = subst (λ k. CostsByKind s.heap.kind new.heap.cost (96 + 2 * k) (41 + k)) slot (within _ _ step.cost);
          reply_is = step.reply_is;
          heap_is = counted_is base (shown new) b.0 n
              (λ i. record {
                kind = rest.kind i;
                is_open = rest.opened i;
                profile = rest.profile i;
                bounds = rest.bounds i;
                held = held i;
                words = [];
                order = None;
                frames = frames i;
                tiling = step.step.tiling i;
                cost = new.heap.cost;
              })
              names
              (ap (λ (z : SessionState). z.bound) step.session ∙ counted_bound before moved step.freed.slot_words ∙ ap (λ k. 96 + 2 * k) slot)
              (ap (λ (z : SessionState). z.moves) step.session ∙ moves_named ids before base moved b.0 step.freed.slot_words b.2 refl
              ∙ ap (λ k. (move_counted base b.0 k).moves) slot)
              (ap (λ (z : SessionState). z.words) step.session ∙ words_named ids before base moved b.0 step.freed.slot_words b.2 refl
              ∙ ap (λ k. (move_counted base b.0 k).moved_words) slot);
        }

    pub free_shown : (o : Option ℕ) (id : ℕ) (reply : Reply) → get ids id ≡ o → FreesAt o s id reply new → ShowsFree (get by_ids id) t id reply (shown new)
    free_shown None id reply none step = subst (λ o. ShowsFree o t id reply (shown new)) (sym (missing s going id none)) (step.0, ap shown step.1)
    free_shown (Some h) id reply named step = subst (λ o. ShowsFree o t id reply (shown new)) (sym (at_id id h named step.step.object step.step.found))
        (free_answer id h reply named step)

    abbrev written_at : ℕ → Placed → ℕ → List ℕ → ShownHeap
    written_at id x at bytes = heap_with t id (record x { bytes = written x.bytes at bytes })

    write_answer : (id h at : ℕ) (bytes : List ℕ) (reply : Reply) (answer : Result Unit AccessFault) → get ids id ≡ Some h → new.session ≡ s.session
        → IsWriteStep s.heap (record { number = h; from = at }) bytes answer new.heap → reply ≡ said (write_text answer)
        → ShowsWrite (get by_ids id) t id at bytes reply (shown new)
    write_answer id h at bytes reply (Ok u) named e step r =
        let x = step.object in
        let yes = le_yes (at + length bytes) (length x.bytes) step.within in
        let held : held_by_id new.session.ids new.heap.held ≡ insert by_ids id (record x { bytes = written x.bytes at bytes }) =
        (λ i. held_by_id (e i).ids (step.whole i).held) ∙ changed_renamed nothing ids m going.tied.ids id h named (record x { bytes = written x.bytes at bytes }) in
        let left : shown new ≡ written_at id x at bytes = λ i. record {
          heap = record (step.whole i) { held = held i; words = []; order = None };
          numbers = (e i).ids;
          step_bound = (e i).bound;
          moves = (e i).moves;
          moved_words = (e i).words;
        } in
        subst (λ o. ShowsWrite o t id at bytes reply (shown new)) (sym (at_id id h named x step.found)) (
          r ∙ ap (λ b. said (cond b (codes "ok") (codes "range"))) (sym yes),
          left ∙ ap (λ b. cond b (written_at id x at bytes) t) (sym yes),
        )
    write_answer id h at bytes reply (Err access.Unknown) named e step r = (let x = object s going id h named in absurd (not_none_found m h x.0 x.1 step.0))
    write_answer id h at bytes reply (Err access.Range) named e step r =
        let x = step.0.object in
        let no = le_no (at + length bytes) (length x.bytes) step.0.past in
        subst (λ o. ShowsWrite o t id at bytes reply (shown new)) (sym (at_id id h named x step.0.found)) (
          r ∙ ap (λ b. said (cond b (codes "ok") (codes "range"))) (sym no),
          ap shown (run_is s new e step.1) ∙ ap (λ b. cond b (written_at id x at bytes) t) (sym no),
        )

    pub write_shown : (o : Option ℕ) (id at : ℕ) (bytes : List ℕ) (reply : Reply) → get ids id ≡ o → WritesAt o s at bytes reply new
        → ShowsWrite (get by_ids id) t id at bytes reply (shown new)
    write_shown None id at bytes reply none step = subst (λ o. ShowsWrite o t id at bytes reply (shown new)) (sym (missing s going id none)) (step.0, ap shown step.1)
    write_shown (Some h) id at bytes reply named step = write_answer id h at bytes reply step.answer named step.session step.step step.reply_is

    -- command `z`
    still_in : (k : Kind) (f : Family) → family_of k ≡ f → new.session.ids ≡ ids → IsLeftByRefusal k s.heap new.heap → IsLeftByRefusal k (heap_of s) (heap_of new)
    still_in k paged is e unmoved = rw (is, IsLeftByRefusal) (
        let u : new.heap ≡ record s.heap { cost = new.heap.cost } = rw (is, IsLeftByRefusal) at unmoved in
        λ i. record (u i) { held = held_by_id (e i) (u i).held; words = []; order = None })
    still_in k tiled is e unmoved = rw (is, IsLeftByRefusal) (
        let u : new.heap ≡ s.heap = rw (is, IsLeftByRefusal) at unmoved in
        λ i. record (u i) { held = held_by_id (e i) (u i).held; words = []; order = None })

    -- the object stays or moves, and another one moves or not
    abbrev Refitted : Placed → ℕ → ℕ → Option Handle → Type 0
    Refitted x id n moved = (by_id : Option ℕ) × IsNamed ids moved by_id
        × (RefitsInPlace t id x n (record { held = (heap_of new).held; moved = by_id }) ⊎ RefitsElsewhere t id x n (record { held = (heap_of new).held; moved = by_id }))

    in_place : (id h n : ℕ) (x : Placed) → get ids id ≡ Some h → (moved : Option Handle) → number_of moved ≡ None → new.session.ids ≡ ids
        → class_for p n ≡ class_at p x → new.heap.held ≡ insert m h (resized_at x.place x n) → Refitted x id n moved
    in_place id h n x named None still names same placed = (
      None,
      tt,
      inl (record {
        same = same;
        still = refl;
        placed = (λ i. held_by_id (names i) (placed i)) ∙ changed_renamed nothing ids m going.tied.ids id h named (resized_at x.place x n);
      }),
    )
    in_place id h n x named (Some q) still names same placed = absurd (let e : Some q.0 ≡ None = still in cc)

    refitted : (id h n : ℕ) (x : Placed) → IsPaged s.heap.kind → get ids id ≡ Some h → get m h ≡ Some x → (moved : Option Handle) → new.session.ids ≡ ids
        → RefitsObject p m (record { number = h; length = n }) (record { held = new.heap.held; moved = number_of moved }) → Refitted x id n moved
    refitted id h n x is named found moved names (inl r) =
        let e : Some r.object ≡ Some x = sym r.found ∙ found in
        let eq : r.object ≡ x = cc in
        in_place id h n x named moved r.still names (r.same ∙ ap (class_at p) eq)
        (r.placed ∙ ap (λ (y : Placed). insert m h (resized_at y.place y n)) eq)
    refitted id h n x is named found moved names (inr r) =
        let e : Some r.object ≡ Some x = sym r.found ∙ found in
        let eq : r.object ≡ x = cc in
        let w = pages is in
        let c = change_is p w.paging m w.sound (record { number = h; length = n }) (record { held = new.heap.held; moved = number_of moved }) r in
        let moves = subst (λ y. Moves p m y (number_of moved)) eq c.0 in
        let placed = c.1 ∙ ap (λ (y : Placed). insert (without m h y.place (number_of moved)) h (resized_at r.place y n)) eq in
        let b = moves_by_id s going p w.paging w.sound id h x named found moved moves in (
          b.0,
          b.2,
          inr (record {
            other = λ same. r.other (same ∙ ap (class_at p) (sym eq));
            place = r.place;
            free = place_same p m by_ids (counts s going) (numbered s going) n r.place r.free;
            moves = b.1;
            placed = (λ i. held_by_id (names i) (placed i))
                ∙ refitted_by_id s going p w.paging w.sound id h x named found moved b.0 (resized_at r.place x n) moves b.2;
          }),
        )

    resize_answer : (id h n : ℕ) (reply : Reply) (answer : Result Resized ResizeFault) → get ids id ≡ Some h
        → IsResizeStep s.heap (record { number = h; length = n }) answer new.heap → CostsAtMost new.heap.kind new.heap.cost (resize_bound answer)
        → new.session ≡ session_resized (record s.session { bound = resize_bound answer }) answer → reply ≡ said (resize_text answer)
        → ShowsResize (get by_ids id) t id n reply (shown new)
    resize_answer id h n reply (Ok done) named step cost e r =
        let x = step.object in
        let names : new.session.ids ≡ ids = ap (λ (z : SessionState). z.ids) e ∙ resized_ids (record s.session { bound = resize_bound (Ok done) }) (Ok done) in
        let f = refitted id h n x step.pages named step.found done.moved names step.step in
        let after : CallResult = record { held = (heap_of new).held; moved = f.0 } in
        let slot : done.old_slot_words ≡ slot_for p (length x.bytes) = step.old_slot in
        let bound : resize_bound (Ok done) ≡ resize_bound_for t x n = λ i. 160 + 3 * max (step.old_slot i) (step.slot i) in
        let frames : new.heap.frames ≡ frames_left s.heap.kind (heap_of s) after = ap (λ (z : HeapState). z.frames) step.whole
        ∙ frames_by_id s new going after_going done.moved f.0 f.1 (subst (λ j. IsNamed j done.moved f.0) (sym names) f.1) s.heap.kind in
        let before : SessionState = record s.session { bound = resize_bound (Ok done) } in
        let base : ShownHeap = record t {
          heap = record (heap_of s) { held = after.held; frames = frames_left s.heap.kind (heap_of s) after; cost = new.heap.cost };
          step_bound = resize_bound_for t x n;
        } in
        subst (λ o. ShowsResize o t id n reply (shown new)) (sym (at_id id h named x step.found)) (inl (record {
          pages = step.pages;
          fits = step.fits;
          after = after;
          refits = f.2;
          steps = subst (λ k. CostsAtMost s.heap.kind new.heap.cost k) bound (cost_is _ cost);
          reply_is = r;
          heap_is = counted_is base (shown new) f.0 (slot_for p (length x.bytes))
              (λ i. record (step.whole i) { held = (heap_of new).held; words = []; frames = frames i; order = None })
              names
              (ap (λ (z : SessionState). z.bound) e ∙ counted_bound before done.moved done.old_slot_words ∙ bound)
              (ap (λ (z : SessionState). z.moves) e ∙ moves_named ids before base done.moved f.0 done.old_slot_words f.1 refl
              ∙ ap (λ k. (move_counted base f.0 k).moves) slot)
              (ap (λ (z : SessionState). z.words) e ∙ words_named ids before base done.moved f.0 done.old_slot_words f.1 refl
              ∙ ap (λ k. (move_counted base f.0 k).moved_words) slot);
        }))
    resize_answer id h n reply (Err f) named step cost e r =
        let x = object s going id h named in
        let names : new.session.ids ≡ ids = ap (λ (z : SessionState). z.ids) e in
        subst (λ o. ShowsResize o t id n reply (shown new)) (sym x.2) (inr (record {
          fault = f;
          cause = fault_shown id h named n f step.0;
          steps = cost_is _ cost;
          reply_is = r;
          still = still_in s.heap.kind (family_of s.heap.kind) refl names step.1;
          heap_is = λ i. record { heap = heap_of new; numbers = (e i).ids; step_bound = (e i).bound; moves = (e i).moves; moved_words = (e i).words };
        }))

    pub resize_shown : (o : Option ℕ) (id n : ℕ) (reply : Reply) → get ids id ≡ o → ResizesAt o s n reply new
        → ShowsResize (get by_ids id) t id n reply (shown new)
    resize_shown None id n reply none step = subst (λ o. ShowsResize o t id n reply (shown new)) (sym (missing s going id none)) (step.0, ap shown step.1)
    resize_shown (Some h) id n reply named step = resize_answer id h n reply step.answer named step.step step.cost step.session step.reply_is

    -- command `k`
    put_shown : (c : Option ℕ) (k : ℕ) → new.session.ids ≡ ids → new.heap ≡ with_bound s.heap c k → heap_of new ≡ with_bound (heap_of s) c k
    put_shown None k e is = λ i. record (is i) { held = held_by_id (e i) (is i).held; words = []; order = None }
    put_shown (Some c) k e is = λ i. record (is i) { held = held_by_id (e i) (is i).held; words = []; order = None }

    class_here : (words : ℕ) → class_to_bound s.heap words ≡ class_to_bound (heap_of s) words
    class_here words = ap (λ n. cond (nat_eq n 0) (class_with s.heap.kind s.heap words) None) (sym (counts s going).count)

    pub bound_shown : (words k : ℕ) (reply : Reply) → GetsBound s words k reply new → ShowsBound t words k reply (shown new)
    bound_shown words k reply step =
        let e = step.session in
        let heap = put_shown (class_to_bound s.heap words) k (ap (λ (z : SessionState). z.ids) e) step.heap
        ∙ ap (λ c. with_bound (heap_of s) c k) (class_here words) in (
          step.reply_is ∙ ap (λ c. said (bound_text c)) (class_here words),
          (λ i. record { heap = heap i; numbers = (e i).ids; step_bound = (e i).bound; moves = (e i).moves; moved_words = (e i).words }),
        )
