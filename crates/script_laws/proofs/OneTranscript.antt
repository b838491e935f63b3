-- For `one_transcript` and `equal_objects_get_equal_replies`: at bound 1 runs over the same items, from the start or from equal objects, have the same
-- replies. Also: the bytes of an id's object in a run are those that lines and replies show (`view`).
use Rattle.std.proofs.Common.{◌≡◌, ℕ, ◌<◌, List, [], ◌∷◌, Option, Some, None, length, sym, ◌∙◌, ap, subst, option_map}
use Rattle.std.proofs.lemmas.Grind.{same_number_lists}
use Rattle.run_model.specs.Terms.{asks, bad, Block, Bound, Command, EveryBoundIsOne, get, IsGoing, IsPaged, Item, Kind, paging_in, Peek, Place, Placed, Reply, RunState, starts, Steps}
use Rattle.cf_base.specs.Classes.{sizes}
use Rattle.cf_base.proofs.Maps.{equal_maps}
use Rattle.cf_base.proofs.MapValues.{get-map_values}
use Rattle.cf_model.specs.State.{layout_of}
use Rattle.cf_model.proofs.CallerLemmas.{pages_kept}
use Rattle.run_model.specs.Runs.{Run}
use Rattle.script_laws.specs.Histories.{AreAlike, AreFurther, IsFurther}
use Rattle.run_model.specs.ById.{bytes_of}
use Rattle.script_laws.specs.Transcripts.{ArePlaceless, AskForOne, AsksForOne, AsksForNoAddress, StaysAtOne, replies_from, transcript}
use Rattle.script_laws.proofs.BoundsAtOne.{stays_at_one}
use Rattle.script_laws.proofs.After.{view}
use Rattle.script_laws.proofs.Claims.{headline_met, run_met, shown_at}
use Rattle.script_laws.proofs.Exact.{headline_is_transcript, run_is_transcript}
use Rattle.script_laws.proofs.Shown.{object_is, shown}
use Rattle.script_laws.proofs.Steps.{arranged}

-- all runs over these items have these replies
pub one_shown : (kind : Kind) (items : List Item) (replies : List Reply) (last : Option RunState) → IsPaged kind → StaysAtOne kind None items
    → ArePlaceless items → Run kind None items replies last → replies ≡ transcript kind items
one_shown kind items replies last paged ones less run = headline_is_transcript kind items replies paged ones less (headline_met kind items replies last run)

-- a further command (`IsFurther`) sets no bound, and asks for no address
further_command : (c : Command) → IsFurther (asks c) → AsksForOne (asks c) × AsksForNoAddress (asks c)
further_command (Bound words k) may = absurd may
further_command (Place id) may = absurd may
further_command (Block id i) may = absurd may
further_command (Peek word) may = absurd may
further_command Steps may = absurd may
further_command _ may = (tt, tt)

further_item : (item : Item) → IsFurther item → AsksForOne item × AsksForNoAddress item
further_item (starts p) may = absurd may
further_item (asks c) may = further_command c may
further_item (bad n) may = (tt, tt)

further_asks : (items : List Item) → AreFurther items → AskForOne items
further_asks [] may = tt
further_asks (item ∷ rest) may = ((further_item item may.0).0, further_asks rest may.1)

further_placeless : (items : List Item) → AreFurther items → ArePlaceless items
further_placeless [] may = tt
further_placeless (item ∷ rest) may = ((further_item item may.0).1, further_placeless rest may.1)

-- the bytes of an id's object
pub bytes_are : (s : RunState) (going : IsGoing s) (id : ℕ) → bytes_of s id ≡ get (view (shown s)).objects id
bytes_are s going id = ap (option_map (λ (x : Placed). x.bytes)) (object_is s going id)
    ∙ sym (get-map_values (λ (x : Placed). x.bytes) (shown s).heap.held id)

module _ (one other : RunState) (going : IsGoing one) (going' : IsGoing other) (paged : IsPaged one.heap.kind) (alike : AreAlike one other)
    (ones : EveryBoundIsOne (paging_in one.heap)) (ones' : EveryBoundIsOne (paging_in other.heap)) where
  paged' : IsPaged other.heap.kind
  paged' = subst IsPaged (sym alike.kind) paged

  bounds_alike : other.heap.bounds ≡ one.heap.bounds
  bounds_alike =
      let k = (pages_kept one.heap.kind one.heap paged going.rules.of_kind).paging.bounded in
      let k' = (pages_kept other.heap.kind other.heap paged' going'.rules.of_kind).paging.bounded in
      let same : length (paging_in other.heap).sizes ≡ length (paging_in one.heap).sizes =
      λ i. length (sizes (alike.profile i).page_words (layout_of (alike.kind i))) in
      same_number_lists other.heap.bounds one.heap.bounds (k' ∙ same ∙ sym k)
      (λ d lt. ones' d (subst (λ n. d < n) k' lt) ∙ sym (ones d (subst (λ n. d < n) (k' ∙ same) lt)))

  -- two runs with equal objects by id and equal settings show the same settings, bounds and bytes
  view_alike : view (shown other) ≡ view (shown one)
  view_alike =
      let o : (view (shown other)).objects ≡ (view (shown one)).objects = equal_maps _ _
      (λ id. sym (bytes_are other going' id) ∙ alike.objects id ∙ bytes_are one going id) in
      λ i. record { kind = alike.kind i; profile = alike.profile i; bounds = bounds_alike i; objects = o i }

  -- the same items get the same replies in two such runs
  pub alike_replies : (items : List Item) (replies replies' : List Reply) (last last' : Option RunState) → AreFurther items
      → Run one.heap.kind (Some one) items replies last → Run one.heap.kind (Some other) items replies' last' → replies' ≡ replies
  alike_replies items replies replies' last last' may run run' =
      let kind = one.heap.kind in
      let asked = further_asks items may in
      let less = further_placeless items may in
      let r = run_is_transcript kind paged items (Some (shown one)) (shown_at last) replies (paged, arranged one going)
      (stays_at_one kind paged items (Some (view (shown one))) ones asked) less (run_met kind items (Some one) replies last going run) in
      let r' = run_is_transcript kind paged items (Some (shown other)) (shown_at last') replies' (paged', arranged other going')
      (stays_at_one kind paged items (Some (view (shown other))) ones' asked) less (run_met kind items (Some other) replies' last' going' run') in
      r' ∙ ap (λ v. replies_from kind (Some v) items) view_alike ∙ sym r
