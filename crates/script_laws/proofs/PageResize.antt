-- For the law `a_run_can_always_go_on`: every resize of a live object of a heap with pages has a result, and a state after it that keeps the heap's
-- rules, with or without an order.
use Rattle.std.proofs.Common.{◌≡◌, ◌≢◌, ℕ, ◌+◌, ◌≤◌, List, Option, Some, None, Ok, Err, length, arith, sym, ◌∙◌, ap, refl, subst, inl, inr, IfSome}
use Rattle.std.proofs.lemmas.Bool.{cases_eq, cases_lt}
use Rattle.run_model.specs.Terms.{class_at, get, Handle, HeapState, Held, insert, IsPaged, IsPaging, IsSound, KeepsRules, need, objects, Paging, paging_in, Placed, Request, Resized, ResizeFault}
use Rattle.cf_base.specs.declared.results.ResizeFault.TheVariants as resize
use Rattle.cf_base.proofs.MapValues.{map_values-insert}
use Rattle.cf_base.proofs.Searches.{there_or_not}
use Rattle.cf_base.proofs.Sums.{insert_again}
use Rattle.page_model.specs.Image.{slot_for}
use Rattle.page_model.specs.Order.{IsOrderOf, Order, ResizeFollows, word_steps}
use Rattle.page_model.specs.Paging.{class_for}
use Rattle.page_model.specs.Steps.{IsFreePlace, CallResult, Moves, RefitsObject, resized, resized_at, without}
use Rattle.page_model.proofs.CallerLemmas.{can_resize, change_is, changes_class, class_fits, class_holds, free_objects, resize_frames, resized_are_bytes}
use Rattle.page_model.proofs.CallerLemmas.{some_move, sound_resize, bytes_held}
use Rattle.cf_model.specs.Costs.{resize_bound}
use Rattle.cf_model.specs.ExactCosts.{resize_cost}
use Rattle.cf_model.specs.Ordered.{IsOrderedResize, ResizeByOrder}
use Rattle.cf_model.specs.Rules.{KeepsTable}
use Rattle.cf_model.specs.Steps.{IsResizeFault, IsLeftByRefusal, frames_left, number_of}
use Rattle.script_laws.proofs.Answered.{AreFew, HasResize, few_changed, follows_none, follows_same, follows_some}
use Rattle.script_laws.proofs.PageRules.{handle_of, number_of_handle, table_stepped, becomes, costs, few_old, order_old, pages, rules_still, table_old, has_room, room_or_not}
use Rattle.script_laws.proofs.OrderCosts.{resize_few, space_few}

-- a resize changes the bytes of its object alone
objects_refitted : (p : Paging) → IsPaging p → (m : Held) → IsSound p m → (asked : Request) (x : Placed) → get m asked.number ≡ Some x
    → (after : CallResult) → RefitsObject p m asked after → objects after.held ≡ insert (objects m) asked.number (resized x.bytes asked.length)
objects_refitted p ok m s asked x there after (inl r) =
    let one : Some r.object ≡ Some x = sym r.found ∙ there in
    let same : r.object ≡ x = cc in
    ap (λ (n : Held). objects n) r.placed ∙ map_values-insert (λ (z : Placed). z.bytes) m asked.number (resized_at r.object.place r.object asked.length)
    ∙ ap (λ (z : Placed). insert (objects m) asked.number (resized z.bytes asked.length)) same
objects_refitted p ok m s asked x there after (inr r) =
    let one : Some r.object ≡ Some x = sym r.found ∙ there in
    let same : r.object ≡ x = cc in
    let is = change_is p ok m s asked after r in
    let y : Placed = resized_at r.place r.object asked.length in
    let rest : Held = without m asked.number r.object.place after.moved in
    ap (λ (n : Held). objects n) is.1 ∙ map_values-insert (λ (z : Placed). z.bytes) rest asked.number y
    ∙ ap (λ o. insert o asked.number y.bytes) (free_objects p ok m s asked.number r.object r.found after.moved is.0)
    ∙ insert_again (objects m) asked.number y.bytes
    ∙ ap (λ (z : Placed). insert (objects m) asked.number (resized z.bytes asked.length)) same

module _ (old : HeapState) (rules : KeepsRules old) (paged : IsPaged old.kind) (asked : Request) (x : Placed) (there : get old.held asked.number ≡ Some x) where
  abbrev p : Paging
  p = paging_in old

  refused : (e : ResizeFault) → IsResizeFault old asked e → (cost : ℕ) → ((was : Order) → cost ≡ resize_cost old was asked (Err e)) → cost ≤ 160 → HasResize old asked
  refused e cause cost is le = record {
    answer = Err e;
    heap = record old { cost = cost };
    step = (cause, rw (paged, IsLeftByRefusal) refl);
    ordered = follows_same (ResizeByOrder old asked (Err e) (record old { cost = cost })) old.order (λ was. rw (paged, ResizeByOrder) (record { choice = tt; cost = is was }));
    kept = rules_still old rules paged cost;
    cost = costs old rules paged cost 160 le;
  }

  -- the results of a resize to this arrangement
  module _ (fits : need asked.length ≤ old.profile.page_words) (m : Held) (moved : Option Handle) where
    abbrev after : CallResult
    after = record { held = m; moved = number_of moved }

    abbrev done : Resized
    done = record { old_slot_words = slot_for p (length x.bytes); slot_words = slot_for p asked.length; moved = moved }

    abbrev next : List ℕ → Option Order → ℕ → HeapState
    next words order cost = record old { held = m; words = words; frames = frames_left old.kind old after; order = order; cost = cost }

    resized_with : RefitsObject p old.held asked after → (order : Option Order) (cost : ℕ) → IfSome order (IsOrderOf p m old.profile.proxies)
        → ((words : List ℕ) → IsOrderedResize old asked (Ok done) (next words order cost)) → cost ≤ resize_bound (Ok done) → HasResize old asked
    resized_with step order cost is ordered le =
        let ps = pages old rules paged in
        let left = objects_refitted p ps.paging old.held ps.sound asked x there after step in
        let frames = frames_left old.kind old after in
        let kept : KeepsTable old.kind (record old { frames = frames }) =
        table_stepped old.kind old after refl paged rules (table_old old rules paged)
        (λ blocks count permuted. resize_frames p old.held old.frames ps.paging blocks ps.sound count asked after step permuted) in
        let few : AreFew old.profile.proxies (objects m) = subst (AreFew old.profile.proxies) (sym left)
        (few_changed old.profile.proxies (objects old.held) (few_old old rules paged) asked.number x.bytes (resized x.bytes asked.length)
        (bytes_held old.held asked.number x there) (resized_are_bytes x.bytes asked.length (rules.numbers.bytes asked.number x there))) in
        let new = becomes old rules paged m frames order cost (sound_resize p old.held asked after ps.paging ps.sound step) few kept is in
        record {
          answer = Ok done;
          heap = next new.words order cost;
          step = record { pages = paged; fits = fits; object = x; found = there; old_slot = refl; slot = refl; step = step; left = left; whole = refl };
          ordered = ordered new.words;
          kept = new.kept;
          cost = costs old rules paged cost (resize_bound (Ok done)) le;
        }

    -- the resize without an order
    unordered : old.order ≡ None → RefitsObject p old.held asked after → HasResize old asked
    unordered none step = resized_with step None 0 tt
        (λ words. follows_none (ResizeByOrder old asked (Ok done) (next words None 0)) old.order None none refl) (omega arith)

  moved_on : need asked.length ≤ old.profile.page_words → class_for p asked.length ≢ class_at p x → (a : ℕ) → IsFreePlace p old.held asked.length a
      → old.order ≡ None → HasResize old asked
  moved_on fits other a free none =
      let ps = pages old rules paged in
      let unused : get old.held old.profile.proxies ≡ None = elim (there_or_not old.held old.profile.proxies) [
        | inl is ↦ absurd (let l = rules.numbers.handles old.profile.proxies is.0 is.1 in omega arith)
        | inr none ↦ none
      ] in
      let move = some_move p ps.paging old.held ps.sound asked.number x there in
      let moved = handle_of move.0 in
      let moves = subst (Moves p old.held x) (sym (number_of_handle move.0)) move.1 in
      unordered fits (insert (without old.held asked.number x.place (number_of moved)) asked.number (resized_at a x asked.length)) moved none
      (inr (changes_class p ps.paging old.held ps.sound asked.number asked.length a old.profile.proxies x (number_of moved) there other unused free moves))

  -- the resize with an order: into another class the object gets the next slot
  in_order : need asked.length ≤ old.profile.page_words → (class_for p asked.length ≢ class_at p x → (a : ℕ) × IsFreePlace p old.held asked.length a)
      → (was : Order) → old.order ≡ Some was → HasResize old asked
  in_order fits room was some =
      let ps = pages old rules paged in
      let lt = class_fits p ps.paging asked.length fits in
      let c = can_resize p ps.paging old.held ps.sound old.profile.proxies was (order_old old rules paged was some) asked.number asked.length x there lt
      (λ other. has_room p old.held asked.length (room other).0 (room other).1) in
      let moved = handle_of c.after.moved in
      let same = sym (number_of_handle c.after.moved) in
      let m = c.after.held in
      let d : Resized = done fits m moved in
      let cost = resize_cost old was asked (Ok d) in
      let class = (ps.sound.slots asked.number x there).class in
      resized_with fits m moved (subst (λ q. RefitsObject p old.held asked (record { held = m; moved = q })) same c.step) (Some c.new) cost c.is_order
      (λ words. follows_some (ResizeByOrder old asked (Ok d) (next fits m moved words (Some c.new) cost)) old.order (Some c.new) was c.new some refl
      (rw (paged, ResizeByOrder) (record {
        choice = subst (λ q. ResizeFollows p old.held asked (record { held = m; moved = q }) was c.new) same c.follows;
        cost = refl;
      })))
      (resize_few old was asked x there d refl (class_holds p ps.paging (length x.bytes) class) (class_holds p ps.paging asked.length lt))

  by_order : need asked.length ≤ old.profile.page_words → (class_for p asked.length ≢ class_at p x → (a : ℕ) × IsFreePlace p old.held asked.length a)
      → (o : Option Order) → old.order ≡ o → HasResize old asked
  by_order fits room (Some was) some = in_order fits room was some
  by_order fits room None none = elim (cases_eq (class_for p asked.length) (class_at p x)) [
    | inl same ↦ unordered fits (insert old.held asked.number (resized_at x.place x asked.length)) None none
        (inl (record { object = x; found = there; same = same; placed = refl; still = refl }))
    | inr other ↦ (let at = room other in moved_on fits other at.0 at.1 none)
  ]

  -- every resize of a live object has a result
  pub resize_done : HasResize old asked
  resize_done =
      let ps = pages old rules paged in
      elim (cases_lt old.profile.page_words (need asked.length)) [
        | inl large ↦ refused resize.Size (record { object = x; found = there; pages = paged; large = large }) 2 (λ was. refl) (omega arith)
        | inr fits ↦ elim (cases_eq (class_for p asked.length) (class_at p x)) [
          | inl same ↦ by_order fits (λ other. absurd (other same)) old.order refl
          | inr other ↦ elim (room_or_not p ps.paging old.held ps.sound asked.length (class_fits p ps.paging asked.length fits)) [
            | inl lacks ↦ refused resize.Space
                (record { object = x; found = there; pages = paged; fits = fits; other = other; lacking = lacks }) (4 + word_steps old.kind) (λ was. refl)
                (space_few old)
            | inr at ↦ by_order fits (λ _. at) old.order refl
          ]
        ]
      ]
