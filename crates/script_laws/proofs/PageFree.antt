-- For the law `a_run_can_always_go_on`: every free of a live object of a heap with pages succeeds, and the state after it keeps the heap's rules.
use Rattle.std.proofs.Common.{◌≡◌, ℕ, ◌+◌, ◌*◌, ◌≤◌, List, Option, Some, None, Ok, length, arith, sym, refl, subst, IfSome}
use Rattle.run_model.specs.Terms.{Freed, get, Handle, HeapState, Held, IsPaged, KeepsRules, objects, Paging, paging_in, Placed}
use Rattle.page_model.specs.Image.{slot_for}
use Rattle.page_model.specs.Order.{FreeFollows, IsOrderOf, Order}
use Rattle.page_model.specs.Steps.{CallResult, Moves, RemovesObject, without}
use Rattle.page_model.proofs.CallerLemmas.{can_free, free_frames, free_objects, some_move, sound_free, bytes_held}
use Rattle.cf_model.specs.ExactCosts.{free_cost}
use Rattle.cf_model.specs.Ordered.{FreeByOrder, IsOrderedFree}
use Rattle.cf_model.specs.Rules.{KeepsTable}
use Rattle.cf_model.specs.Steps.{MovesIn, frames_left, call_result, number_of, slot_in, tiling_left}
use Rattle.script_laws.proofs.Answered.{AreFew, HasFree, few_left, follows_none, follows_some}
use Rattle.script_laws.proofs.PageRules.{handle_of, number_of_handle, table_stepped, becomes, costs_by_kind, few_old, order_old, pages, table_old}
use Rattle.script_laws.proofs.OrderCosts.{free_few}

module _ (old : HeapState) (rules : KeepsRules old) (paged : IsPaged old.kind) (h : ℕ) (x : Placed) (there : get old.held h ≡ Some x) where
  abbrev p : Paging
  p = paging_in old

  abbrev freed : Option Handle → Freed
  freed moved = record { slot_words = slot_in old.kind old x; moved = moved }

  abbrev left : Option Handle → Held
  left moved = without old.held h x.place (number_of moved)

  abbrev next : Option Handle → List ℕ → Option Order → ℕ → HeapState
  next moved words order cost = record old {
    held = left moved;
    words = words;
    frames = frames_left old.kind old (call_result old h x (number_of moved));
    order = order;
    cost = cost;
  }

  slot_is : slot_in old.kind old x ≡ slot_for p (length x.bytes)
  slot_is = rw (paged, slot_in) refl

  freed_with : (moved : Option Handle) → Moves p old.held x (number_of moved) → (order : Option Order) (cost : ℕ)
      → IfSome order (IsOrderOf p (left moved) old.profile.proxies) → ((words : List ℕ) → IsOrderedFree old h (Ok (freed moved)) (next moved words order cost))
      → cost ≤ 96 + 2 * slot_in old.kind old x → HasFree old h
  freed_with moved moves order cost is ordered le =
      let ps = pages old rules paged in
      let after : CallResult = call_result old h x (number_of moved) in
      let step : RemovesObject p old.held h after = record { freed = x; found = there; moves = moves; left = refl } in
      let gone = free_objects p ps.paging old.held ps.sound h x there (number_of moved) moves in
      let frames = frames_left old.kind old after in
      let kept : KeepsTable old.kind (record old { frames = frames }) =
      table_stepped old.kind old after refl paged rules (table_old old rules paged)
      (λ blocks count permuted. free_frames p old.held old.frames ps.paging blocks ps.sound count h after step permuted) in
      let few : AreFew old.profile.proxies (objects (left moved)) =
      subst (AreFew old.profile.proxies) (sym gone)
      (few_left old.profile.proxies (objects old.held) (few_old old rules paged) h x.bytes (bytes_held old.held h x there)) in
      let new = becomes old rules paged (left moved) frames order cost (sound_free p old.held h after ps.paging ps.sound step) few kept is in
      record {
        freed = freed moved;
        heap = next moved new.words order cost;
        step = record {
          object = x;
          found = there;
          slot = refl;
          moves = rw (paged, MovesIn) moves;
          held = refl;
          left = gone;
          frames = refl;
          tiling = rw (paged, tiling_left) refl;
          rest = record { kind = refl; opened = refl; profile = refl; bounds = refl };
        };
        ordered = ordered new.words;
        kept = new.kept;
        cost = costs_by_kind old rules paged cost (96 + 2 * slot_in old.kind old x) (41 + slot_in old.kind old x) le;
      }

  by_order : (o : Option Order) → old.order ≡ o → HasFree old h
  by_order None none =
      let ps = pages old rules paged in
      let move = some_move p ps.paging old.held ps.sound h x there in
      let moved = handle_of move.0 in
      freed_with moved (subst (Moves p old.held x) (sym (number_of_handle move.0)) move.1) None 0 tt
      (λ words. follows_none (FreeByOrder old h (Ok (freed moved)) (next moved words None 0)) old.order None none refl) (omega arith)
  by_order (Some was) some =
      let ps = pages old rules paged in
      let c = can_free p ps.paging old.held ps.sound old.profile.proxies was (order_old old rules paged was some) h x there (rules.numbers.handles h x there) in
      let moved = handle_of c.moved in
      let same = sym (number_of_handle c.moved) in
      let cost = free_cost old was h (Ok (freed moved)) in
      freed_with moved (subst (Moves p old.held x) same c.moves) (Some c.new) cost
      (subst (λ q. IsOrderOf p (without old.held h x.place q) old.profile.proxies c.new) same c.is_order)
      (λ words. follows_some (FreeByOrder old h (Ok (freed moved)) (next moved words (Some c.new) cost)) old.order (Some c.new) was c.new some refl
      (rw (paged, FreeByOrder) (record { choice = subst (λ q. FreeFollows p old.held h q was c.new) same c.follows; cost = refl })))
      (free_few old was h x there (freed moved) slot_is)

  -- each live object has a successful free (`HasFree`)
  pub free_done : HasFree old h
  free_done = by_order old.order refl
