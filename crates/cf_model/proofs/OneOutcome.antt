-- For `an_order_leaves_one_outcome`: if a manager has an order, two outcomes of the same malloc, free or resize have equal results and states. So have two of
-- the same write, without an order too. A manager has an order after a call if and only if it had one before; order, objects and blocks determine the words.
-- The rules of a kind with pages include `KeepsPages`.
use Rattle.std.proofs.Common.{◌≡◌, ℕ, ◌+◌, true, false, List, ◌∷◌, Option, Some, None, Result, Ok, Err, arith, length, refl, sym, ◌∙◌, ap, subst}
use Rattle.std.specs.Prelude.{IfSome, IsSome, is_some, option_map, slice_index}
use Rattle.std.specs.FinMap.{get, insert}
use Rattle.cf_base.proofs.Maps.{found_once, get_inserted}
use Rattle.cf_base.specs.Classes.{need}
use Rattle.cf_base.specs.declared.results.AccessFault.{AccessFault}
use Rattle.cf_base.specs.declared.results.AccessFault.TheVariants as access
use Rattle.cf_base.specs.declared.results.Freed.{Freed}
use Rattle.cf_base.specs.declared.results.Handle.{Handle}
use Rattle.cf_base.specs.declared.results.NotLive.{NotLive}
use Rattle.cf_base.specs.declared.results.Refusal.{Refusal}
use Rattle.cf_base.specs.declared.results.Refusal.TheVariants as refusal
use Rattle.cf_base.specs.declared.results.Resized.{Resized}
use Rattle.cf_base.specs.declared.results.ResizeFault.{ResizeFault}
use Rattle.cf_base.specs.declared.results.ResizeFault.TheVariants as resize
use Rattle.cf_base.specs.declared.kind.Kind.{Kind}
use Rattle.page_model.specs.Bytes.{written}
use Rattle.page_model.specs.Held.{Held, Placed}
use Rattle.page_model.specs.Image.{IsImage, IsOutside, slot_for}
use Rattle.page_model.specs.Order.{Order, FreeFollows, MallocFollows, ResizeFollows}
use Rattle.page_model.specs.Paging.{Paging}
use Rattle.page_model.specs.Steps.{CallResult, Request, without, zeros_at}
use Rattle.page_model.proofs.CallerLemmas.{free_once, image_unique, malloc_once, resize_once}
use Rattle.block_model.specs.Costs.{carve_steps}
use Rattle.block_model.specs.FreeOrder.{CarvesNext, BlocksWithLists, list_in, lists_released, no_block}
use Rattle.block_model.specs.Tiling.{Block, block_at, block_need, size_at, size_of}
use Rattle.block_model.specs.Words.{AreTilingWords}
use Rattle.block_model.proofs.CallerLemmas.{one_carve}
use Rattle.cf_model.specs.Answers.{place_of}
use Rattle.cf_model.specs.ExactCosts.{block_free_cost, block_malloc_cost, free_cost, malloc_cost, resize_cost}
use Rattle.cf_model.specs.Families as family
use Rattle.cf_model.specs.Families.{Family, family_of, free_lists_of, list_count_of}
use Rattle.cf_model.specs.Ordered.{BlockFreeInOrder, BlockMallocInOrder, CarvesInOrder, Follows, FreeByOrder, FreeInOrder, IsOrderedFree, IsOrderedMalloc, IsOrderedResize}
use Rattle.cf_model.specs.Ordered.{MallocByOrder, MallocInOrder, ResizeByOrder, ResizeInOrder}
use Rattle.cf_model.specs.Rules.{IsBlockOrder, IsPaged, IsTiled, KeepsPages, KeepsRules, KeepsRulesOf, KeepsTable, KeepsTiling, content_word, listed_by}
use Rattle.cf_model.specs.State.{HeapState, paging_in, region_words}
use Rattle.cf_model.specs.Steps.{ChangesCost, FreesObject, AddsObject, IsFault, IsFreeStep, IsMallocStep, IsResizeFault, IsResizeStep, IsLeftByRefusal, IsWriteStep, MovesIn, Position}
use Rattle.cf_model.specs.Steps.{ResizesObject, StaysOutside, WritesBytes, frames_left, call_result, number_of, slot_in, tiling_left}
use Rattle.cf_model.proofs.BlockWords.{link_outside, links_agree, some_order, words_once}
use Rattle.cf_model.proofs.Exactly.{both_kinds, given_is_not_refused, not_none_found, one_cause, part_is_not_refused, resized_is_not_refused}
use Rattle.cf_model.proofs.PageSteps.{free_removes}

-- the orders before and after a call, which `step` relates
record Followed (step : Order → Order → Type 0) (old new : Option Order) : Type 0 where
  before : Order
  after : Order
  was : old ≡ Some before
  is : new ≡ Some after
  steps : step before after

followed : (step : Order → Order → Type 0) (old new : Option Order) → IsSome old → Follows step old new → Followed step old new
followed step None new some f = absurd (let e : false ≡ true = some in cc)
followed step (Some o) None some f = absurd f
followed step (Some o) (Some n) some f = record { before = o; after = n; was = refl; is = refl; steps = f }

-- a manager has an order after a call if and only if it had one before
pub order_stays : (step : Order → Order → Type 0) (old new : Option Order) → Follows step old new → is_some new ≡ is_some old
order_stays step None None f = refl
order_stays step None (Some n) f = absurd f
order_stays step (Some o) None f = absurd f
order_stays step (Some o) (Some n) f = refl

-- ---- states that keep the rules

-- the rules of a kind with pages
pub pages_kept : (k : Kind) (s : HeapState) → IsPaged k → KeepsRulesOf k s → KeepsPages s
pages_kept k s is rules = (let kept : KeepsPages s × KeepsTable k s = rw (is, KeepsRulesOf) at rules in kept.0)

tiling_kept : (k : Kind) (s : HeapState) → IsTiled k → KeepsRulesOf k s → KeepsTiling s
tiling_kept k s is rules = rw (is, KeepsRulesOf) at rules

-- with pages the objects determine the words
paged_words : (a b : HeapState) → KeepsPages a → KeepsPages b → length b.words ≡ length a.words → b.held ≡ a.held → b.words ≡ a.words
paged_words a b pa pb long held = image_unique need a.held b.words a.words long (subst (λ m. IsImage m b.words) held pb.image) pa.image

-- with blocks the objects and the blocks determine the words, but for word 1 of each free block
tiled_words : (a b : HeapState) → KeepsRules a → KeepsRules b → KeepsTiling a → KeepsTiling b → b.profile ≡ a.profile → b.held ≡ a.held → b.tiling ≡ a.tiling
    → ((p : ℕ) (c : Block) → block_at a.tiling p ≡ Some c → c.owner ≡ None → slice_index b.words (p + 1) ≡ slice_index a.words (p + 1)) → b.words ≡ a.words
tiled_words a b first second ta tb profile held tiling linked =
    let mine : AreTilingWords (content_word a.held) a.tiling b.words =
    subst (λ bs. AreTilingWords (content_word a.held) bs b.words) tiling (subst (λ m. AreTilingWords (content_word m) b.tiling b.words) held tb.words) in
    words_once b.words a.words (content_word a.held) (region_words a.profile) a.tiling ta.tiling (second.region ∙ ap region_words profile) first.region
    mine ta.words linked

-- with blocks, the order determines word 1 of each free block
linked_by : (a b : HeapState) (order : Order) → IsBlockOrder a order → IsBlockOrder b order → (p : ℕ) (c : Block) → block_at a.tiling p ≡ Some c → c.owner ≡ None
    → slice_index b.words (p + 1) ≡ slice_index a.words (p + 1)
linked_by a b order oa ob p c at free =
    let k : ℕ = (free_lists_of a.kind).bucket c.size in
    links_agree b.words a.words no_block (list_in order.not_full k) (ob.links k) (oa.links k) p
    ((oa.lists.members k p).1 (record { block = c; there = at; free = free; bucket = refl }))

-- states that keep the rules, with the same order, objects and blocks, have the same words
pub same_words : (a b : HeapState) → IsSome a.order → KeepsRules a → KeepsRules b → b.kind ≡ a.kind → b.profile ≡ a.profile → b.held ≡ a.held
    → b.tiling ≡ a.tiling → b.order ≡ a.order → b.words ≡ a.words
same_words a b some first second kind profile held tiling order = by_family (family_of a.kind) refl
  where
    by_family : (f : Family) → family_of a.kind ≡ f → b.words ≡ a.words
    by_family family.paged is = paged_words a b (pages_kept a.kind a is first.of_kind) (pages_kept b.kind b (ap family_of kind ∙ is) second.of_kind)
        (second.region ∙ ap region_words profile ∙ sym first.region) held
    by_family family.tiled is =
        let ta = tiling_kept a.kind a is first.of_kind in
        let tb = tiling_kept b.kind b (ap family_of kind ∙ is) second.of_kind in
        let o = some_order a.order some in
        tiled_words a b first second ta tb profile held tiling
        (linked_by a b o.0 (subst (λ x. IfSome x (IsBlockOrder a)) o.1 ta.order) (subst (λ x. IfSome x (IsBlockOrder b)) (order ∙ o.1) tb.order))

same_state : (a b : HeapState) → IsSome a.order → KeepsRules a → KeepsRules b → b.kind ≡ a.kind → b.is_open ≡ a.is_open → b.profile ≡ a.profile
    → b.bounds ≡ a.bounds → b.held ≡ a.held → b.frames ≡ a.frames → b.tiling ≡ a.tiling → b.order ≡ a.order → b.cost ≡ a.cost → b ≡ a
same_state a b some first second kind open_now profile bounds held frames tiling order cost =
    let words : b.words ≡ a.words = same_words a b some first second kind profile held tiling order in
    λ i. record {
      kind = kind i;
      is_open = open_now i;
      profile = profile i;
      bounds = bounds i;
      held = held i;
      words = words i;
      frames = frames i;
      tiling = tiling i;
      order = order i;
      cost = cost i;
    }

-- with pages there are no blocks
no_blocks : (a b : HeapState) → IsPaged a.kind → KeepsRules a → KeepsRules b → b.kind ≡ a.kind → b.tiling ≡ a.tiling
no_blocks a b is first second kind =
    (pages_kept b.kind b (ap family_of kind ∙ is) second.of_kind).no_tiling ∙ sym (pages_kept a.kind a is first.of_kind).no_tiling

-- ---- answers

same_handle : (a b : Handle) → a.0 ≡ b.0 → a ≡ b
same_handle a b e = λ i. record { 0 = e i }

same_moved : (a b : Option Handle) → number_of a ≡ number_of b → a ≡ b
same_moved None None e = refl
same_moved None (Some b) e = absurd (let f : None ≡ Some b.0 = e in cc)
same_moved (Some a) None e = absurd (let f : Some a.0 ≡ None = e in cc)
same_moved (Some a) (Some b) e = (let f : Some a.0 ≡ Some b.0 = e in let same : a.0 ≡ b.0 = cc in ap Some (same_handle a b same))

-- a resize has at most one cause for a refusal
one_fault : (s : HeapState) (asked : Request) (e f : ResizeFault) → IsResizeFault s asked e → IsResizeFault s asked f → e ≡ f
one_fault s asked resize.Unknown resize.Unknown x y = refl
one_fault s asked resize.Unknown resize.Kind x y = absurd (not_none_found s.held asked.number y.object y.found x)
one_fault s asked resize.Unknown resize.Size x y = absurd (not_none_found s.held asked.number y.object y.found x)
one_fault s asked resize.Unknown resize.Space x y = absurd (not_none_found s.held asked.number y.object y.found x)
one_fault s asked resize.Kind resize.Unknown x y = absurd (not_none_found s.held asked.number x.object x.found y)
one_fault s asked resize.Kind resize.Kind x y = refl
one_fault s asked resize.Kind resize.Size x y = absurd (both_kinds s.kind y.pages x.blocks)
one_fault s asked resize.Kind resize.Space x y = absurd (both_kinds s.kind y.pages x.blocks)
one_fault s asked resize.Size resize.Unknown x y = absurd (not_none_found s.held asked.number x.object x.found y)
one_fault s asked resize.Size resize.Kind x y = absurd (both_kinds s.kind x.pages y.blocks)
one_fault s asked resize.Size resize.Size x y = refl
one_fault s asked resize.Size resize.Space x y = (let large = x.large in let fits = y.fits in absurd (omega arith))
one_fault s asked resize.Space resize.Unknown x y = absurd (not_none_found s.held asked.number x.object x.found y)
one_fault s asked resize.Space resize.Kind x y = absurd (both_kinds s.kind x.pages y.blocks)
one_fault s asked resize.Space resize.Size x y = (let large = y.large in let fits = x.fits in absurd (omega arith))
one_fault s asked resize.Space resize.Space x y = refl

-- a write has at most one cause for a refusal
one_access_fault : (s : HeapState) (position : Position) (n : ℕ) (e f : AccessFault) → IsFault s position n e → IsFault s position n f → e ≡ f
one_access_fault s position n access.Unknown access.Unknown x y = refl
one_access_fault s position n access.Unknown access.Range x y = absurd (not_none_found s.held position.number y.object y.found x)
one_access_fault s position n access.Range access.Unknown x y = absurd (not_none_found s.held position.number x.object x.found y)
one_access_fault s position n access.Range access.Range x y = refl

-- ---- malloc

module _ (old new next : HeapState) (some : IsSome old.order) (before : KeepsRules old) (first : KeepsRules new) (second : KeepsRules next) where
  abbrev p : Paging
  p = paging_in old

  one_order : (a b : Order) → old.order ≡ Some a → old.order ≡ Some b → a ≡ b
  one_order a b is are = (let e : Some a ≡ Some b = sym is ∙ are in cc)

  both_changed : ChangesCost old new → ChangesCost old next → next.cost ≡ new.cost → next ≡ new
  both_changed a b costs = b ∙ ap (λ c. record old { cost = c }) costs ∙ sym a

  -- a state with an order is followed by one with an order
  some_after : (after : Order) → new.order ≡ Some after → IsSome new.order
  some_after after is = ap is_some is

  -- the address of the object that a malloc added
  given_there : (h : Handle) (n : ℕ) (s : HeapState) (g : AddsObject old (record { number = h.0; length = n }) s) → place_of s h.0 ≡ Some g.place
  given_there h n s g = ap (λ (x : HeapState). place_of x h.0) g.whole
      ∙ ap (option_map (λ (x : Placed). x.place)) (get_inserted old.held h.0 (zeros_at g.place n))

  -- two mallocs use the same number and the same address
  record Agree (number other place at : ℕ) : Type 0 where
    numbers : number ≡ other
    places : place ≡ at
    tiling : next.tiling ≡ new.tiling
    some_new : IsSome new.order
    order : next.order ≡ new.order
    cost : next.cost ≡ new.cost

  module _ (bytes : ℕ) (h q : Handle) (g : AddsObject old (record { number = h.0; length = bytes }) new) (first_is : IsOrderedMalloc old bytes (Ok h) new)
      (f : AddsObject old (record { number = q.0; length = bytes }) next) (second_is : IsOrderedMalloc old bytes (Ok q) next) where
    abbrev mine : Request
    mine = record { number = h.0; length = bytes }

    abbrev yours : Request
    yours = record { number = q.0; length = bytes }

    s : Followed (MallocByOrder old bytes (Ok h) new) old.order new.order
    s = followed (MallocByOrder old bytes (Ok h) new) old.order new.order some first_is

    t : Followed (MallocByOrder old bytes (Ok q) next) old.order next.order
    t = followed (MallocByOrder old bytes (Ok q) next) old.order next.order some second_is

    one : s.before ≡ t.before
    one = one_order s.before t.before s.was t.was

    orders : s.after ≡ t.after → next.order ≡ new.order
    orders same = t.is ∙ ap Some (sym same) ∙ sym s.is

    kinds : next.kind ≡ new.kind
    kinds = ap (λ (x : HeapState). x.kind) f.whole ∙ sym (ap (λ (x : HeapState). x.kind) g.whole)

    pages_agree : IsPaged old.kind → Agree h.0 q.0 g.place f.place
    pages_agree is =
        let u : MallocInOrder old bytes (Ok h) new s.before s.after = rw (is, MallocByOrder) at s.steps in
        let v : MallocInOrder old bytes (Ok q) next t.before t.after = rw (is, MallocByOrder) at t.steps in
        let chosen : MallocFollows p old.held mine g.place s.before s.after =
        subst (λ o. IfSome o (λ a. MallocFollows p old.held mine a s.before s.after)) (given_there h bytes new g) u.choice in
        let picked : MallocFollows p old.held yours f.place t.before t.after =
        subst (λ o. IfSome o (λ a. MallocFollows p old.held yours a t.before t.after)) (given_there q bytes next f) v.choice in
        let again : MallocFollows p old.held yours f.place s.before t.after = subst (λ o. MallocFollows p old.held yours f.place o t.after) (sym one) picked in
        let (number, place, order) = malloc_once p old.held mine yours g.place f.place s.before s.after t.after chosen again refl in
        record {
          numbers = number;
          places = place;
          tiling = no_blocks new next (ap (λ (x : HeapState). family_of x.kind) g.whole ∙ is) first second kinds;
          some_new = some_after s.after s.is;
          order = orders order;
          cost = v.cost ∙ ap (λ o. malloc_cost old o bytes (Ok h)) (sym one) ∙ sym u.cost;
        }

    blocks_agree : IsTiled old.kind → Agree h.0 q.0 g.place f.place
    blocks_agree is =
        let u : BlockMallocInOrder old bytes (Ok h) new s.before s.after = rw (is, MallocByOrder) at s.steps in
        let v : BlockMallocInOrder old bytes (Ok q) next t.before t.after = rw (is, MallocByOrder) at t.steps in
        let chosen : CarvesInOrder old mine g.place new s.before s.after =
        subst (λ o. IfSome o (λ a. CarvesInOrder old mine a new s.before s.after)) (given_there h bytes new g) u.choice in
        let picked : CarvesInOrder old yours f.place next t.before t.after =
        subst (λ o. IfSome o (λ a. CarvesInOrder old yours a next t.before t.after)) (given_there q bytes next f) v.choice in
        let again : CarvesInOrder old yours f.place next s.before t.after = subst (λ o. CarvesInOrder old yours f.place next o t.after) (sym one) picked in
        let spare : h.0 ∷ chosen.rest ≡ q.0 ∷ again.rest = sym chosen.number ∙ again.number in
        let number : h.0 ≡ q.0 = cc in
        let rest : chosen.rest ≡ again.rest = cc in
        let carves : CarvesNext (free_lists_of old.kind) (listed_by old s.before) (record { need = block_need bytes; owner = h.0 }) f.place (listed_by next t.after) =
        subst (λ n. CarvesNext (free_lists_of old.kind) (listed_by old s.before) (record { need = block_need bytes; owner = n }) f.place (listed_by next t.after))
        (sym number) again.carves in
        let (place, left) = one_carve (free_lists_of old.kind) (listed_by old s.before) (record { need = block_need bytes; owner = h.0 }) g.place f.place
        (listed_by new s.after) (listed_by next t.after) chosen.carves carves in
        let tiling : next.tiling ≡ new.tiling = sym (ap (λ (l : BlocksWithLists). l.blocks) left) in
        let lists : s.after.not_full ≡ t.after.not_full = ap (λ (l : BlocksWithLists). l.lists) left in
        let order : s.after ≡ t.after = chosen.left ∙ (λ i. record s.before { not_full = lists i; spare = rest i }) ∙ sym again.left in
        let there : place_of next q.0 ≡ place_of new h.0 = given_there q bytes next f ∙ ap Some (sym place) ∙ sym (given_there h bytes new g) in
        let steps : Option ℕ → List Block → ℕ = λ o bs.
        carve_steps (free_lists_of old.kind) (list_count_of old.kind) old.words old.tiling (block_need bytes) o bs + 2 in
        record {
          numbers = number;
          places = place;
          tiling = tiling;
          some_new = some_after s.after s.is;
          order = orders order;
          cost = v.cost ∙ ap (λ o. steps o next.tiling) there ∙ ap (λ bs. steps (place_of new h.0) bs) tiling ∙ sym u.cost;
        }

    they_agree : Agree h.0 q.0 g.place f.place
    they_agree = by_family (family_of old.kind) refl
      where
        by_family : (k : Family) → family_of old.kind ≡ k → Agree h.0 q.0 g.place f.place
        by_family family.paged is = pages_agree is
        by_family family.tiled is = blocks_agree is

    malloc_same : (h ≡ q) × (next ≡ new)
    malloc_same =
        let a = they_agree in
        let held : next.held ≡ new.held = ap (λ (x : HeapState). x.held) f.whole ∙ ap (λ n. insert old.held n (zeros_at f.place bytes)) (sym a.numbers)
        ∙ ap (λ x. insert old.held h.0 (zeros_at x bytes)) (sym a.places) ∙ sym (ap (λ (x : HeapState). x.held) g.whole) in (
          same_handle h q a.numbers,
          same_state new next a.some_new first second kinds
              (ap (λ (x : HeapState). x.is_open) f.whole ∙ sym (ap (λ (x : HeapState). x.is_open) g.whole))
              (ap (λ (x : HeapState). x.profile) f.whole ∙ sym (ap (λ (x : HeapState). x.profile) g.whole))
              (ap (λ (x : HeapState). x.bounds) f.whole ∙ sym (ap (λ (x : HeapState). x.bounds) g.whole))
              held
              (ap (λ (x : HeapState). x.frames) f.whole ∙ sym (ap (λ (x : HeapState). x.frames) g.whole))
              a.tiling a.order a.cost,
        )

  -- what a refused malloc costs
  refused_cost : (bytes : ℕ) (e : Refusal) → block_malloc_cost old bytes (Err e) next ≡ block_malloc_cost old bytes (Err e) new
  refused_cost bytes refusal.Size = refl
  refused_cost bytes refusal.Proxy = refl
  refused_cost bytes refusal.Space = refl

  refused_alike : (bytes : ℕ) (e d : Refusal) → e ≡ d → (a b x y : Order) → MallocByOrder old bytes (Err e) new a b → MallocByOrder old bytes (Err d) next x y
      → next.cost ≡ new.cost
  refused_alike bytes e d same a b x y u v = by_family (family_of old.kind) refl
    where
      by_family : (k : Family) → family_of old.kind ≡ k → next.cost ≡ new.cost
      by_family family.paged is =
          let u' : MallocInOrder old bytes (Err e) new a b = rw (is, MallocByOrder) at u in
          let v' : MallocInOrder old bytes (Err d) next x y = rw (is, MallocByOrder) at v in
          v'.cost ∙ sym u'.cost
      by_family family.tiled is =
          let u' : BlockMallocInOrder old bytes (Err e) new a b = rw (is, MallocByOrder) at u in
          let v' : BlockMallocInOrder old bytes (Err d) next x y = rw (is, MallocByOrder) at v in
          v'.cost ∙ ap (λ c. block_malloc_cost old bytes (Err c) next) (sym same) ∙ refused_cost bytes e ∙ sym u'.cost

  pub one_malloc : (bytes : ℕ) (r s : Result Handle Refusal) → IsMallocStep old bytes r new → IsOrderedMalloc old bytes r new → IsMallocStep old bytes s next
      → IsOrderedMalloc old bytes s next → (r ≡ s) × (next ≡ new)
  one_malloc bytes (Ok h) (Ok q) g first_is f second_is = (let both = malloc_same bytes h q g first_is f second_is in (ap Ok both.0, both.1))
  one_malloc bytes (Ok h) (Err e) g first_is (cause, same) second_is = absurd (given_is_not_refused old new (record { number = h.0; length = bytes }) g e cause)
  one_malloc bytes (Err e) (Ok q) (cause, same) first_is f second_is = absurd (given_is_not_refused old next (record { number = q.0; length = bytes }) f e cause)
  one_malloc bytes (Err e) (Err d) (cause, same) first_is (other, again) second_is =
      let s = followed (MallocByOrder old bytes (Err e) new) old.order new.order some first_is in
      let t = followed (MallocByOrder old bytes (Err d) next) old.order next.order some second_is in
      let alike : e ≡ d = one_cause old bytes e d cause other in
      (ap Err alike, both_changed same again (refused_alike bytes e d alike s.before s.after t.before t.after s.steps t.steps))

  -- ---- free

  -- two frees move the same object and leave the same order; the costs are equal if the answers and the blocks are
  record FreeAgree (h : ℕ) (freed other : Freed) : Type 0 where
    number : number_of freed.moved ≡ number_of other.moved
    some_new : IsSome new.order
    order : next.order ≡ new.order
    cost : freed ≡ other → next.tiling ≡ new.tiling → next.cost ≡ new.cost

  module _ (h : ℕ) (freed other : Freed) (g : FreesObject old h freed new) (first_is : IsOrderedFree old h (Ok freed) new) (f : FreesObject old h other next)
      (second_is : IsOrderedFree old h (Ok other) next) where
    s_free : Followed (FreeByOrder old h (Ok freed) new) old.order new.order
    s_free = followed (FreeByOrder old h (Ok freed) new) old.order new.order some first_is

    t_free : Followed (FreeByOrder old h (Ok other) next) old.order next.order
    t_free = followed (FreeByOrder old h (Ok other) next) old.order next.order some second_is

    one_free_order : s_free.before ≡ t_free.before
    one_free_order = one_order s_free.before t_free.before s_free.was t_free.was

    pages_free : IsPaged old.kind → FreeAgree h freed other
    pages_free is =
        let s = s_free in
        let t = t_free in
        let u : FreeInOrder old h (Ok freed) new s.before s.after = rw (is, FreeByOrder) at s.steps in
        let v : FreeInOrder old h (Ok other) next t.before t.after = rw (is, FreeByOrder) at t.steps in
        let again : FreeFollows p old.held h (number_of other.moved) s.before t.after =
        subst (λ o. FreeFollows p old.held h (number_of other.moved) o t.after) (sym one_free_order) v.choice in
        let (left, order) = free_once p old.held h (record { held = new.held; moved = number_of freed.moved })
        (record { held = next.held; moved = number_of other.moved }) s.before s.after t.after (pages_kept old.kind old is before.of_kind).sound
        (free_removes old new h freed is g) u.choice (free_removes old next h other is f) again in
        record {
          number = ap (λ (l : CallResult). l.moved) left;
          some_new = some_after s.after s.is;
          order = t.is ∙ ap Some (sym order) ∙ sym s.is;
          cost = λ answer tiling. v.cost ∙ ap (λ o. free_cost old o h (Ok other)) (sym one_free_order) ∙ ap (λ a. free_cost old s.before h (Ok a)) (sym answer)
              ∙ sym u.cost;
        }

    blocks_free : IsTiled old.kind → FreeAgree h freed other
    blocks_free is =
        let s = s_free in
        let t = t_free in
        let u : BlockFreeInOrder old h (Ok freed) new s.before s.after = rw (is, FreeByOrder) at s.steps in
        let v : BlockFreeInOrder old h (Ok other) next t.before t.after = rw (is, FreeByOrder) at t.steps in
        let left : Order → ℕ → Order = λ (o : Order) a. record o {
          not_full = lists_released (free_lists_of old.kind) (listed_by old o) a;
          spare = h ∷ o.spare;
        } in
        let there : place_of old h ≡ Some g.object.place = ap (option_map (λ (x : Placed). x.place)) g.found in
        let mine : s.after ≡ left s.before g.object.place = subst (λ o. IfSome o (λ a. s.after ≡ left s.before a)) there u.choice in
        let yours : t.after ≡ left t.before g.object.place = subst (λ o. IfSome o (λ a. t.after ≡ left t.before a)) there v.choice in
        let order : s.after ≡ t.after = mine ∙ ap (λ o. left o g.object.place) one_free_order ∙ sym yours in
        let none : number_of freed.moved ≡ None = rw (is, MovesIn) at g.moves in
        let none' : number_of other.moved ≡ None = rw (is, MovesIn) at f.moves in
        record {
          number = none ∙ sym none';
          some_new = some_after s.after s.is;
          order = t.is ∙ ap Some (sym order) ∙ sym s.is;
          cost = λ answer tiling. v.cost ∙ ap (λ bs. block_free_cost old h (Ok other) (record next { tiling = bs })) tiling ∙ sym u.cost;
        }

    frees_agree : FreeAgree h freed other
    frees_agree = by_family (family_of old.kind) refl
      where
        by_family : (k : Family) → family_of old.kind ≡ k → FreeAgree h freed other
        by_family family.paged is = pages_free is
        by_family family.tiled is = blocks_free is

    pub free_same : (freed ≡ other) × (next ≡ new)
    free_same =
        let a = frees_agree in
        let moved = same_moved freed.moved other.moved a.number in
        let object : g.object ≡ f.object = found_once old.held h g.object f.object g.found f.found in
        let held : next.held ≡ new.held = f.held ∙ ap (λ (x : Placed). without old.held h x.place (number_of other.moved)) (sym object)
        ∙ ap (λ m. without old.held h g.object.place m) (sym a.number) ∙ sym g.held in
        let slot : freed.slot_words ≡ other.slot_words = g.slot ∙ ap (slot_in old.kind old) object ∙ sym f.slot in
        let answer : freed ≡ other = λ i. record { slot_words = slot i; moved = moved i } in
        let frames : next.frames ≡ new.frames = f.frames ∙ ap (λ x. frames_left old.kind old (call_result old h x (number_of other.moved))) (sym object)
        ∙ ap (λ m. frames_left old.kind old (call_result old h g.object m)) (sym a.number) ∙ sym g.frames in
        let tiling : next.tiling ≡ new.tiling = f.tiling ∙ ap (λ (x : Placed). tiling_left old.kind old x.place) (sym object) ∙ sym g.tiling in (
          answer,
          same_state new next a.some_new first second (f.rest.kind ∙ sym g.rest.kind) (f.rest.opened ∙ sym g.rest.opened)
              (f.rest.profile ∙ sym g.rest.profile) (f.rest.bounds ∙ sym g.rest.bounds) held frames tiling a.order (a.cost answer tiling),
        )

  refused_free : (h : ℕ) (e d : NotLive) → (a b x y : Order) → FreeByOrder old h (Err e) new a b → FreeByOrder old h (Err d) next x y → next.cost ≡ new.cost
  refused_free h e d a b x y u v = by_family (family_of old.kind) refl
    where
      by_family : (k : Family) → family_of old.kind ≡ k → next.cost ≡ new.cost
      by_family family.paged is =
          let u' : FreeInOrder old h (Err e) new a b = rw (is, FreeByOrder) at u in
          let v' : FreeInOrder old h (Err d) next x y = rw (is, FreeByOrder) at v in
          v'.cost ∙ sym u'.cost
      by_family family.tiled is =
          let u' : BlockFreeInOrder old h (Err e) new a b = rw (is, FreeByOrder) at u in
          let v' : BlockFreeInOrder old h (Err d) next x y = rw (is, FreeByOrder) at v in
          v'.cost ∙ sym u'.cost

  pub one_free : (h : ℕ) (r s : Result Freed NotLive) → IsFreeStep old h r new → IsOrderedFree old h r new → IsFreeStep old h s next → IsOrderedFree old h s next
      → (r ≡ s) × (next ≡ new)
  one_free h (Ok freed) (Ok other) g first_is f second_is = (let both = free_same h freed other g first_is f second_is in (ap Ok both.0, both.1))
  one_free h (Ok freed) (Err e) g first_is (cause, same) second_is = absurd (not_none_found old.held h g.object g.found cause)
  one_free h (Err e) (Ok other) (cause, same) first_is f second_is = absurd (not_none_found old.held h f.object f.found cause)
  one_free h (Err e) (Err d) (cause, same) first_is (none, again) second_is =
      let s = followed (FreeByOrder old h (Err e) new) old.order new.order some first_is in
      let t = followed (FreeByOrder old h (Err d) next) old.order next.order some second_is in
      (ap Err (same_refusal e d), both_changed same again (refused_free h e d s.before s.after t.before t.after s.steps t.steps))
    where
      same_refusal : (e d : NotLive) → e ≡ d
      same_refusal e d = refl

  -- ---- resize

  resize_same : (asked : Request) (done other : Resized) → ResizesObject old asked done new → IsOrderedResize old asked (Ok done) new
      → ResizesObject old asked other next → IsOrderedResize old asked (Ok other) next → (done ≡ other) × (next ≡ new)
  resize_same asked done other g first_is f second_is =
      let s = followed (ResizeByOrder old asked (Ok done) new) old.order new.order some first_is in
      let t = followed (ResizeByOrder old asked (Ok other) next) old.order next.order some second_is in
      let u : ResizeInOrder old asked (Ok done) new s.before s.after = rw (g.pages, ResizeByOrder) at s.steps in
      let v : ResizeInOrder old asked (Ok other) next t.before t.after = rw (g.pages, ResizeByOrder) at t.steps in
      let pages = pages_kept old.kind old g.pages before.of_kind in
      let one : s.before ≡ t.before = one_order s.before t.before s.was t.was in
      let after : CallResult = record { held = new.held; moved = number_of done.moved } in
      let other_after : CallResult = record { held = next.held; moved = number_of other.moved } in
      let again : ResizeFollows p old.held asked other_after s.before t.after = subst (λ o. ResizeFollows p old.held asked other_after o t.after) (sym one) v.choice in
      let (left, order) = resize_once p old.held asked after other_after s.before s.after t.after pages.paging pages.sound g.step u.choice f.step again in
      let held : next.held ≡ new.held = sym (ap (λ (l : CallResult). l.held) left) in
      let moved = same_moved done.moved other.moved (ap (λ (l : CallResult). l.moved) left) in
      let object : g.object ≡ f.object = found_once old.held asked.number g.object f.object g.found f.found in
      let was : done.old_slot_words ≡ other.old_slot_words = g.old_slot ∙ ap (λ (x : Placed). slot_for p (length x.bytes)) object ∙ sym f.old_slot in
      let now : done.slot_words ≡ other.slot_words = g.slot ∙ sym f.slot in
      let answer : done ≡ other = λ i. record { old_slot_words = was i; slot_words = now i; moved = moved i } in
      let frames : next.frames ≡ new.frames = ap (λ (x : HeapState). x.frames) f.whole ∙ ap (frames_left old.kind old) (sym left)
      ∙ sym (ap (λ (x : HeapState). x.frames) g.whole) in
      let costs : next.cost ≡ new.cost = v.cost ∙ ap (λ o. resize_cost old o asked (Ok other)) (sym one)
      ∙ ap (λ a. resize_cost old s.before asked (Ok a)) (sym answer) ∙ sym u.cost in (
        answer,
        same_state new next (some_after s.after s.is) first second
            (ap (λ (x : HeapState). x.kind) f.whole ∙ sym (ap (λ (x : HeapState). x.kind) g.whole))
            (ap (λ (x : HeapState). x.is_open) f.whole ∙ sym (ap (λ (x : HeapState). x.is_open) g.whole))
            (ap (λ (x : HeapState). x.profile) f.whole ∙ sym (ap (λ (x : HeapState). x.profile) g.whole))
            (ap (λ (x : HeapState). x.bounds) f.whole ∙ sym (ap (λ (x : HeapState). x.bounds) g.whole))
            held frames
            (ap (λ (x : HeapState). x.tiling) f.whole ∙ sym (ap (λ (x : HeapState). x.tiling) g.whole))
            (t.is ∙ ap Some (sym order) ∙ sym s.is) costs,
      )

  refused_resize : (asked : Request) (e d : ResizeFault) → e ≡ d → IsLeftByRefusal old.kind old new → IsOrderedResize old asked (Err e) new
      → IsLeftByRefusal old.kind old next → IsOrderedResize old asked (Err d) next → next ≡ new
  refused_resize asked e d fault same first_is again second_is = by_family (family_of old.kind) refl
    where
      by_family : (k : Family) → family_of old.kind ≡ k → next ≡ new
      by_family family.paged is =
          let s = followed (ResizeByOrder old asked (Err e) new) old.order new.order some first_is in
          let t = followed (ResizeByOrder old asked (Err d) next) old.order next.order some second_is in
          let u : ResizeInOrder old asked (Err e) new s.before s.after = rw (is, ResizeByOrder) at s.steps in
          let v : ResizeInOrder old asked (Err d) next t.before t.after = rw (is, ResizeByOrder) at t.steps in
          let one : s.before ≡ t.before = one_order s.before t.before s.was t.was in
          let costs : next.cost ≡ new.cost = v.cost ∙ ap (λ o. resize_cost old o asked (Err d)) (sym one)
          ∙ ap (λ g. resize_cost old s.before asked (Err g)) (sym fault) ∙ sym u.cost in
          let a : ChangesCost old new = rw (is, IsLeftByRefusal) at same in
          let b : ChangesCost old next = rw (is, IsLeftByRefusal) at again in
          both_changed a b costs
      by_family family.tiled is =
          let a : new ≡ old = rw (is, IsLeftByRefusal) at same in
          let b : next ≡ old = rw (is, IsLeftByRefusal) at again in
          b ∙ sym a

  pub one_resize : (asked : Request) (r s : Result Resized ResizeFault) → IsResizeStep old asked r new → IsOrderedResize old asked r new
      → IsResizeStep old asked s next → IsOrderedResize old asked s next → (r ≡ s) × (next ≡ new)
  one_resize asked (Ok done) (Ok other) g first_is f second_is = (let both = resize_same asked done other g first_is f second_is in (ap Ok both.0, both.1))
  one_resize asked (Ok done) (Err e) g first_is (cause, same) second_is = absurd (resized_is_not_refused old new asked done g e cause)
  one_resize asked (Err e) (Ok other) (cause, same) first_is f second_is = absurd (resized_is_not_refused old next asked other f e cause)
  one_resize asked (Err e) (Err d) (cause, same) first_is (also, again) second_is =
      let fault : e ≡ d = one_fault old asked e d cause also in
      (ap Err fault, refused_resize asked e d fault same first_is again second_is)

-- ---- write

-- a write has one outcome without an order too: it changes no word of a free block
module _ (old new next : HeapState) (first : KeepsRules new) (second : KeepsRules next) where
  -- with blocks, a write keeps word 1 of each free block
  link_kept : (s : HeapState) (position : Position) (bytes : List ℕ) (g : WritesBytes old position bytes s) → IsTiled old.kind → KeepsTiling s
      → (p : ℕ) (c : Block) → block_at s.tiling p ≡ Some c → c.owner ≡ None → slice_index s.words (p + 1) ≡ slice_index old.words (p + 1)
  link_kept s position bytes g is ts p c at free =
      let x : Placed = record g.object { bytes = written g.object.bytes position.from bytes } in
      let found : get s.held position.number ≡ Some x = ap (λ (y : HeapState). get y.held position.number) g.whole ∙ get_inserted old.held position.number x in
      let own = ts.owned.placed position.number x found in
      let size : size_at old.tiling g.object.place ≡ own.0.size =
      ap (λ (bs : List Block). size_at bs g.object.place) (sym (ap (λ (y : HeapState). y.tiling) g.whole)) ∙ ap size_of own.1 in
      let stays : (w : ℕ) → IsOutside g.object.place (size_at old.tiling g.object.place) w → slice_index s.words w ≡ slice_index old.words w =
      rw (is, StaysOutside) at g.outside in
      stays (p + 1) (subst (λ n. IsOutside g.object.place n (p + 1)) (sym size)
      (link_outside (region_words s.profile) s.tiling ts.tiling g.object.place p own.0 c position.number own.1 own.2.owner at free))

  words_written : (position : Position) (bytes : List ℕ) → WritesBytes old position bytes new → WritesBytes old position bytes next → next.held ≡ new.held
      → next.words ≡ new.words
  words_written position bytes g f held = by_family (family_of old.kind) refl
    where
      kind : new.kind ≡ old.kind
      kind = ap (λ (x : HeapState). x.kind) g.whole

      kind' : next.kind ≡ old.kind
      kind' = ap (λ (x : HeapState). x.kind) f.whole

      profile : next.profile ≡ new.profile
      profile = ap (λ (x : HeapState). x.profile) f.whole ∙ sym (ap (λ (x : HeapState). x.profile) g.whole)

      tiling : next.tiling ≡ new.tiling
      tiling = ap (λ (x : HeapState). x.tiling) f.whole ∙ sym (ap (λ (x : HeapState). x.tiling) g.whole)

      by_family : (k : Family) → family_of old.kind ≡ k → next.words ≡ new.words
      by_family family.paged is = paged_words new next (pages_kept new.kind new (ap family_of kind ∙ is) first.of_kind)
          (pages_kept next.kind next (ap family_of kind' ∙ is) second.of_kind)
          (second.region ∙ ap region_words profile ∙ sym first.region) held
      by_family family.tiled is =
          let ta = tiling_kept new.kind new (ap family_of kind ∙ is) first.of_kind in
          let tb = tiling_kept next.kind next (ap family_of kind' ∙ is) second.of_kind in
          tiled_words new next first second ta tb profile held tiling
          (λ p c at free. link_kept next position bytes f is tb p c (ap (λ bs. block_at bs p) tiling ∙ at) free ∙ sym (link_kept new position bytes g is ta p c at free))

  write_same : (position : Position) (bytes : List ℕ) → WritesBytes old position bytes new → WritesBytes old position bytes next → next ≡ new
  write_same position bytes g f =
      let object : f.object ≡ g.object = found_once old.held position.number f.object g.object f.found g.found in
      let put : Placed → Held = λ (x : Placed). insert old.held position.number (record x { bytes = written x.bytes position.from bytes }) in
      let held : next.held ≡ new.held = ap (λ (x : HeapState). x.held) f.whole ∙ ap put object ∙ sym (ap (λ (x : HeapState). x.held) g.whole) in
      let words = words_written position bytes g f held in
      f.whole ∙ (λ i. record old { held = put (object i); words = words i }) ∙ sym g.whole

  pub one_write : (position : Position) (bytes : List ℕ) (r s : Result Unit AccessFault) → IsWriteStep old position bytes r new → IsWriteStep old position bytes s next
      → (r ≡ s) × (next ≡ new)
  one_write position bytes (Ok u) (Ok v) g f = (refl, write_same position bytes g f)
  one_write position bytes (Ok u) (Err e) g (cause, same) =
      absurd (part_is_not_refused old position (length bytes) g.object g.found g.within e cause)
  one_write position bytes (Err e) (Ok v) (cause, same) f =
      absurd (part_is_not_refused old position (length bytes) f.object f.found f.within e cause)
  one_write position bytes (Err e) (Err d) (cause, same) (other, again) = (ap Err (one_access_fault old position (length bytes) e d cause other), again ∙ sym same)
