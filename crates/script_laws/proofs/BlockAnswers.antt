-- For the law `a_run_can_always_go_on`: each call of a heap with blocks (TLSF, Half-Fit), with or without an order, has a result, and a state after
-- it that keeps the heap's rules.
use Rattle.std.proofs.Common.{◌≡◌, ◌≢◌, ℕ, ◌+◌, ◌*◌, ◌<◌, ◌≤◌, List, [], ◌∷◌, Option, Some, None, Ok, Err, length, replicate, arith, sym, ◌∙◌, ap, refl, subst, inl, inr, IfSome, nat_eq, option_map, slice_index}
use Rattle.std.specs.List.{Contains, IsDistinct}
use Rattle.std.proofs.lemmas.Bool.{cases_eq, cases_lt}
use Rattle.run_model.specs.Terms.{AreBytes, CostsAtMost, CostsByKind, Freed, get, HalfFit, Handle, HeapState, Held, insert, KeepsRules, Kind, len, Moving, need, NonMoving, objects, Placed, Position, Refusal, region_words, remove, Request, Tlsf, with_bound, written}
use Rattle.cf_base.proofs.Members.{contains_cases, contains_head, contains_tail, distinct_cons, distinct_head, distinct_tail}
use Rattle.cf_base.specs.declared.results.AccessFault.TheVariants as access
use Rattle.cf_base.specs.declared.results.Refusal.TheVariants as refusal
use Rattle.cf_base.specs.declared.results.ResizeFault.TheVariants as resize
use Rattle.cf_base.proofs.Maps.{get_insert_other, get_inserted, get_remove_other, get_removed, len_fresh, len_rebound}
use Rattle.cf_base.proofs.MapValues.{map_values-insert, map_values-remove}
use Rattle.page_model.specs.Image.{IsOutside}
use Rattle.page_model.specs.Order.{Order}
use Rattle.page_model.specs.Steps.{CallResult, zeros_at}
use Rattle.page_model.proofs.CallerLemmas.{len-objects, malloc_objects, length-written, written_are_bytes, zeros_are_bytes, bytes_held, bytes_missing}
use Rattle.cf_base.proofs.Tests.{eq_no}
use Rattle.block_model.specs.Buckets.{AreLawful, FreeLists}
use Rattle.block_model.specs.Costs.{carve_steps, find_steps, release_steps}
use Rattle.block_model.specs.FreeOrder.{AreListsOf, HaveLinks, lists_released}
use Rattle.block_model.specs.Tiling.{Block, Carves, Demand, IsTiling, Serves, block_at, block_need, released, size_at, size_of}
use Rattle.block_model.specs.Words.{AreTilingWords}
use Rattle.block_model.proofs.CallerLemmas.{carve_at_most, carve_follows, carve_is_malloc, carve_keeps_lists, free_keeps_tiling, malloc_gives}
use Rattle.block_model.proofs.CallerLemmas.{none_at_most, refilled, refilled_long, refilled_outside, refilled_words, carved_or_lacking, release_at_most}
use Rattle.block_model.proofs.CallerLemmas.{malloc_keeps_tiling, release_keeps_lists}
use Rattle.cf_model.specs.Answers.{class_with, place_of}
use Rattle.cf_model.specs.ExactCosts.{block_malloc_cost}
use Rattle.cf_model.specs.Families as family
use Rattle.cf_model.specs.Families.{IsTiled, free_lists_of, list_count_of}
use Rattle.cf_model.specs.Ordered.{CarvesInOrder, FreeByOrder, IsOrderedFree, IsOrderedMalloc, MallocByOrder, ResizeByOrder}
use Rattle.cf_model.specs.Rules.{AreOwned, IsBlockOrder, KeepsRulesOf, KeepsTiling, content_word, listed_by}
use Rattle.cf_model.specs.Steps.{IsPlacedBy, IsRefusedBy, IsLeftByRefusal, LacksRoomIn, MovesIn, StaysOutside, frames_left, call_result, slot_in, tiling_left}
use Rattle.cf_model.proofs.CallerLemmas.{lawful, link_outside, links_stay, need_is_small, owned_free, owned_malloc, owned_replaced}
use Rattle.run_model.specs.Steps.{class_to_bound}
use Rattle.script_laws.proofs.Answered.{AreFew, HasFree, HasMalloc, HasResize, HasWrite, few_added, few_changed, few_in, few_left, follows_none, follows_same, follows_some}
use Rattle.script_laws.proofs.Answered.{objects_in}
use Rattle.script_laws.proofs.LinkedWords.{length-linked, linked, linked_links, linked_words}
use Rattle.cf_base.proofs.Searches.{fresh_key, len_without}

-- ---- the numbers without an object

-- the numbers below n without an object, each once
record AreSpare (n : ℕ) (m : Held) (spare : List ℕ) : Type 0 where
  below : (q : ℕ) → Contains spare q → (q < n) × (get m q ≡ None)
  once : IsDistinct nat_eq spare
  all : length spare + len m ≡ n

-- if there are fewer objects than numbers, some number has no object
some_spare : (spare : List ℕ) (m n : ℕ) → length spare + m ≡ n → m < n → (h : ℕ) × (rest : List ℕ) × (spare ≡ h ∷ rest)
some_spare [] m n all few = absurd (omega arith)
some_spare (h ∷ rest) m n all few = (h, rest, refl)

module _ (n : ℕ) (m : Held) (h : ℕ) (x : Placed) (spare : List ℕ) where
  -- the first of them gets an object
  spare_taken : AreSpare n m (h ∷ spare) → AreSpare n (insert m h x) spare
  spare_taken are = record {
    below = λ q here. (
        let was = are.below q (contains_tail q h spare here) in
        let ne : q ≢ h = λ is. distinct_head h spare are.once (subst (Contains spare) is here) in
        (was.0, get_insert_other m h x q ne ∙ was.1));
    once = distinct_tail h spare are.once;
    all = (let more = len_fresh m h x (are.below h (contains_head h spare)).1 in let all = are.all in omega arith);
  }

  -- the number of an object that is removed becomes the first one without an object
  spare_left : get m h ≡ Some x → h < n → AreSpare n m spare → AreSpare n (remove m h) (h ∷ spare)
  spare_left there low are = record {
    below = λ q here. elim (contains_cases q h spare here) [
      | inl is ↦ (rw is low, rw is (get_removed m h))
      | inr later ↦ (let was = are.below q later in (was.0, get_remove_other m h q (λ is. no_object q was.1 is) ∙ was.1))
    ];
    once = distinct_cons h spare (λ here. no_object h (are.below h here).1 refl) are.once;
    all = (let less = len_without m h x there in let all = are.all in omega arith);
  }
    where
      no_object : (q : ℕ) → get m q ≡ None → q ≡ h → ⊥
      no_object q none is = (let e : Some x ≡ None = sym there ∙ ap (get m) (sym is) ∙ none in cc)

  -- an object changes
  spare_same : (y : Placed) → get m h ≡ Some y → AreSpare n m spare → AreSpare n (insert m h x) spare
  spare_same y there are = record {
    below = λ q here. (
        let was = are.below q here in
        let ne : q ≢ h = λ is. no_object q was.1 is in
        (was.0, get_insert_other m h x q ne ∙ was.1));
    once = are.once;
    all = (let same = len_rebound m h x y there in let all = are.all in omega arith);
  }
    where
      no_object : (q : ℕ) → get m q ≡ None → q ≡ h → ⊥
      no_object q none is = (let e : Some y ≡ None = sym there ∙ ap (get m) (sym is) ∙ none in cc)

-- ---- the calls

module _ (old : HeapState) (rules : KeepsRules old) (with_blocks : IsTiled old.kind) where
  tiling : KeepsTiling old
  tiling = rw (with_blocks, KeepsRulesOf) at rules.of_kind

  abbrev rule : FreeLists
  rule = free_lists_of old.kind

  abbrev count : ℕ
  count = list_count_of old.kind

  abbrev size : ℕ
  size = region_words old.profile

  law : AreLawful rule count
  law = lawful old.kind with_blocks

  few_old : AreFew old.profile.proxies (objects old.held)
  few_old = few_in old rules.numbers

  costs : (cost bound most : ℕ) → cost ≤ most → CostsByKind old.kind cost bound most
  costs cost bound most le = rw (with_blocks, CostsByKind) le

  -- o is an order of these objects and blocks; nothing is said of the links in the words
  record IsOrderFor (m : Held) (blocks : List Block) (o : Order) : Type 0 where
    no_pool : o.pool ≡ []
    lists : AreListsOf rule count (record { blocks = blocks; lists = o.not_full })
    spare : AreSpare old.profile.proxies m o.spare

  -- the order of the old state, if it has one
  order_old : (was : Order) → old.order ≡ Some was → IsBlockOrder old was
  order_old was is = subst (λ o. IfSome o (IsBlockOrder old)) is tiling.order

  spare_old : (was : Order) → IsBlockOrder old was → AreSpare old.profile.proxies old.held was.spare
  spare_old was of = record { below = of.spare; once = of.spare_once; all = of.spare_all }

  abbrev with_parts : Held → List Block → List ℕ → Option Order → ℕ → HeapState
  with_parts m blocks words order cost = record old { held = m; words = words; tiling = blocks; order = order; cost = cost }

  order_with : (m : Held) (blocks : List Block) (words : List ℕ) (order : Option Order) (cost : ℕ) → (o : Order) → IsOrderFor m blocks o → HaveLinks words o.not_full
      → IsBlockOrder (with_parts m blocks words order cost) o
  order_with m blocks words order cost o is links = record {
    no_pool = is.no_pool;
    lists = is.lists;
    links = links;
    spare = is.spare.below;
    spare_once = is.spare.once;
    spare_all = is.spare.all;
  }

  -- the rules hold for other objects in other blocks
  rules_with : (m : Held) (blocks : List Block) (words : List ℕ) (order : Option Order) (cost : ℕ) → IsTiling size blocks → AreOwned m blocks
      → AreTilingWords (content_word m) blocks words → length words ≡ size → AreFew old.profile.proxies (objects m)
      → IfSome order (IsBlockOrder (with_parts m blocks words order cost)) → KeepsRules (with_parts m blocks words order cost)
  rules_with m blocks words order cost tiles owned are long few ordered = record {
    settings = rules.settings;
    region = long;
    numbers = objects_in (with_parts m blocks words order cost) few;
    of_kind = rw (with_blocks, KeepsRulesOf)
        (record { tiling = tiles; owned = owned; words = are; no_frames = tiling.no_frames; no_bounds = tiling.no_bounds; order = ordered });
  }

  -- there are words with which the state with these objects, blocks and order keeps the rules
  record Becomes (m : Held) (blocks : List Block) (order : Option Order) : Type 0 where
    words : List ℕ
    kept : (cost : ℕ) → KeepsRules (with_parts m blocks words order cost)

  abbrev lists_in : Option Order → List (List ℕ)
  lists_in None = []
  lists_in (Some o) = o.not_full

  abbrev words_for : (m : Held) (blocks : List Block) → IsTiling size blocks → Option Order → List ℕ
  words_for m blocks tiles order = linked (content_word m) size blocks tiles rule (lists_in order)

  becomes : (m : Held) (blocks : List Block) (order : Option Order) → IsTiling size blocks → AreOwned m blocks → AreFew old.profile.proxies (objects m)
      → IfSome order (IsOrderFor m blocks) → Becomes m blocks order
  becomes m blocks order tiles owned few ordered = record {
    words = words_for m blocks tiles order;
    kept = λ cost. rules_with m blocks (words_for m blocks tiles order) order cost tiles owned
        (linked_words (content_word m) size blocks tiles rule (lists_in order))
        (length-linked (content_word m) size blocks tiles rule (lists_in order)) few (in_order cost order ordered);
  }
    where
      in_order : (cost : ℕ) (o : Option Order) → IfSome o (IsOrderFor m blocks) → IfSome o (IsBlockOrder (with_parts m blocks (words_for m blocks tiles o) o cost))
      in_order cost None is = tt
      in_order cost (Some o) is = order_with m blocks (words_for m blocks tiles (Some o)) (Some o) cost o is
          (linked_links (content_word m) size blocks tiles rule o.not_full count is.lists)

  -- only the cost changes
  rules_still : (cost : ℕ) → KeepsRules (record old { cost = cost })
  rules_still cost =
      rules_with old.held old.tiling old.words old.order cost tiling.tiling tiling.owned tiling.words rules.region few_old (same_order old.order tiling.order)
    where
      same_order : (o : Option Order) → IfSome o (IsBlockOrder old) → IfSome o (IsBlockOrder (record old { cost = cost }))
      same_order None is = tt
      same_order (Some o) is = order_with old.held old.tiling old.words old.order cost o
          (record { no_pool = is.no_pool; lists = is.lists; spare = spare_old o is }) is.links

  -- ---- malloc

  abbrev with_object : ℕ → ℕ → ℕ → Held
  with_object n h place = insert old.held h (zeros_at place n)

  given : (n place h : ℕ) (new : List Block) (order : Option Order) (cost : ℕ) → need n ≤ old.profile.page_words → len old.held < old.profile.proxies
      → h < old.profile.proxies → get old.held h ≡ None → Carves rule old.tiling (record { need = block_need n; owner = h }) place new
      → IfSome order (IsOrderFor (with_object n h place) new)
      → ((words : List ℕ) → IsOrderedMalloc old n (Ok (record { 0 = h })) (with_parts (with_object n h place) new words order cost)) → cost ≤ 25 → HasMalloc old n
  given n place h new order cost fits few low unused carves is ordered le =
      let d : Demand = record { need = block_need n; owner = h } in
      let m : Held = with_object n h place in
      let none : get (objects old.held) h ≡ None = bytes_missing old.held h unused in
      let room : len (objects old.held) < old.profile.proxies = (let same = len-objects old.held in omega arith) in
      let carved = malloc_gives rule count size old.tiling new d place law rules.settings.small_region (omega arith)
      (need_is_small old.profile rules.settings n fits) tiling.tiling carves in
      let tiles = malloc_keeps_tiling rule size old.tiling new d place (omega arith) tiling.tiling carves in
      let owned = owned_malloc rule size old.held old.tiling new h n place tiling.tiling tiling.owned unused carves carved in
      let added : AreFew old.profile.proxies (objects m) =
      subst (AreFew old.profile.proxies) (sym (malloc_objects old.held h place n))
      (few_added old.profile.proxies (objects old.held) few_old h (replicate n 0) none low room (zeros_are_bytes n)) in
      let after = becomes m new order tiles owned added is in
      record {
        answer = Ok (record { 0 = h });
        heap = with_parts m new after.words order cost;
        step = record { fits = fits; few = few; in_range = low; unused = unused; place = place; placed = rw (with_blocks, IsPlacedBy) carves; whole = refl };
        ordered = ordered after.words;
        kept = after.kept cost;
        cost = costs cost 64 25 le;
      }

  refused : (n : ℕ) (e : Refusal) (cost : ℕ) → IsRefusedBy old n e → cost ≡ block_malloc_cost old n (Err e) (record old { cost = cost }) → cost ≤ 25 → HasMalloc old n
  refused n e cost cause is le = record {
    answer = Err e;
    heap = record old { cost = cost };
    step = (cause, refl);
    ordered = follows_same (MallocByOrder old n (Err e) (record old { cost = cost })) old.order
        (λ was. rw (with_blocks, MallocByOrder) (record { choice = tt; cost = is }));
    kept = rules_still cost;
    cost = costs cost 64 25 le;
  }

  -- a block serves: without an order any number gets it
  unordered : (n : ℕ) → need n ≤ old.profile.page_words → len old.held < old.profile.proxies → (h : ℕ) → h < old.profile.proxies → get old.held h ≡ None
      → (place : ℕ) (new : List Block) → Carves rule old.tiling (record { need = block_need n; owner = h }) place new → old.order ≡ None → HasMalloc old n
  unordered n fits few h low unused place new carves none = given n place h new None 0 fits few low unused carves tt
      (λ words. follows_none (MallocByOrder old n (Ok (record { 0 = h })) (with_parts (with_object n h place) new words None 0)) old.order None none refl)
      (omega arith)

  -- with an order the next number gets the next block
  in_order : (n : ℕ) → need n ≤ old.profile.page_words → len old.held < old.profile.proxies → (a : ℕ) (b : Block) → block_at old.tiling a ≡ Some b
      → Serves rule (block_need n) b → (was : Order) → old.order ≡ Some was → HasMalloc old n
  in_order n fits few a b there serves was is =
      let of = order_old was is in
      let (h, rest, spare) = some_spare was.spare (len old.held) old.profile.proxies of.spare_all few in
      let d : Demand = record { need = block_need n; owner = h } in
      let (place, new, follows) = carve_follows rule count (listed_by old was) of.lists d a b there serves in
      let carves : Carves rule old.tiling d place new.blocks = carve_is_malloc rule count (listed_by old was) of.lists d place new follows in
      let lists = carve_keeps_lists rule count size (listed_by old was) new d place law rules.settings.small_region (omega arith) tiling.tiling of.lists follows in
      let numbers : AreSpare old.profile.proxies old.held (h ∷ rest) = subst (AreSpare old.profile.proxies old.held) spare (spare_old was of) in
      let free = numbers.below h (contains_head h rest) in
      let now : Order = record was { not_full = new.lists; spare = rest } in
      let m : Held = with_object n h place in
      let handle : Handle = record { 0 = h } in
      let steps : Option ℕ → ℕ = λ o. carve_steps rule count old.words old.tiling (block_need n) o new.blocks + 2 in
      let few_steps = carve_at_most rule count old.words old.tiling (block_need n) (Some place) new.blocks in
      given n place h new.blocks (Some now) (steps (Some place)) fits few free.0 free.1 carves
      (record { no_pool = of.no_pool; lists = lists; spare = spare_taken old.profile.proxies old.held h (zeros_at place n) rest numbers })
      (λ words. (
      let next : HeapState = with_parts m new.blocks words (Some now) (steps (Some place)) in
      let at : place_of next h ≡ Some place = ap (option_map (λ (x : Placed). x.place)) (get_inserted old.held h (zeros_at place n)) in
      follows_some (MallocByOrder old n (Ok handle) next) old.order (Some now) was now is refl (rw (with_blocks, MallocByOrder) (record {
        choice = subst (λ o. IfSome o (λ x. CarvesInOrder old (record { number = h; length = n }) x next was now)) (sym at)
            (record { rest = rest; number = spare; carves = follows; left = refl });
        cost = ap steps (sym at);
      }))))
      (omega arith)

  -- every malloc has a result
  pub malloc_done : (n : ℕ) → HasMalloc old n
  malloc_done n = elim (cases_lt old.profile.page_words (need n)) [
    | inl large ↦ refused n refusal.Size 0 large refl (omega arith)
    | inr fits ↦ elim (cases_lt (len old.held) old.profile.proxies) [
      | inr all ↦ refused n refusal.Proxy 0 (record { fits = fits; all = (let few = rules.numbers.few in omega arith) }) refl (omega arith)
      | inl few ↦ (
          let key = fresh_key old.profile.proxies old.held few in
          elim (carved_or_lacking rule size old.tiling (record { need = block_need n; owner = key.0 }) tiling.tiling) [
            | inl at ↦ by_order fits few key.0 key.1 key.2 at.0 at.1 at.2 old.order refl
            | inr lacks ↦ refused n refusal.Space (find_steps rule count old.tiling (block_need n) None)
                (record { fits = fits; few = few; lacking = rw (with_blocks, LacksRoomIn) lacks }) refl
                (let steps = none_at_most rule count old.tiling (block_need n) in omega arith)
          ])
    ]
  ]
    where
      by_order : need n ≤ old.profile.page_words → len old.held < old.profile.proxies → (h : ℕ) → h < old.profile.proxies → get old.held h ≡ None
          → (place : ℕ) (new : List Block) → Carves rule old.tiling (record { need = block_need n; owner = h }) place new
          → (o : Option Order) → old.order ≡ o → HasMalloc old n
      by_order fits few h low unused place new carves None none = unordered n fits few h low unused place new carves none
      by_order fits few h low unused place new carves (Some was) is = in_order n fits few place carves.found carves.there carves.serves was is

  -- ---- free

  -- the block table stays
  frames_stay : (after : CallResult) → frames_left old.kind old after ≡ old.frames
  frames_stay after = by_kind old.kind with_blocks
    where
      by_kind : (k : Kind) → IsTiled k → frames_left k old after ≡ old.frames
      by_kind Moving is = refl
      by_kind NonMoving is = (let e : family.paged ≡ family.tiled = is in cc)
      by_kind Tlsf is = refl
      by_kind HalfFit is = refl

  module _ (h : ℕ) (x : Placed) (there : get old.held h ≡ Some x) where
    abbrev left : Held
    left = remove old.held h

    abbrev blocks_left : List Block
    blocks_left = released old.tiling x.place

    abbrev freed : Freed
    freed = record { slot_words = slot_in old.kind old x; moved = None }

    freed_with : (order : Option Order) (cost : ℕ) → IfSome order (IsOrderFor left blocks_left)
        → ((words : List ℕ) → IsOrderedFree old h (Ok freed) (with_parts left blocks_left words order cost)) → cost ≤ 41 + slot_in old.kind old x → HasFree old h
    freed_with order cost is ordered le =
        let gone : objects left ≡ remove (objects old.held) h = map_values-remove (λ (z : Placed). z.bytes) old.held h in
        let few : AreFew old.profile.proxies (objects left) =
        subst (AreFew old.profile.proxies) (sym gone) (few_left old.profile.proxies (objects old.held) few_old h x.bytes (bytes_held old.held h x there)) in
        let next = becomes left blocks_left order (free_keeps_tiling size old.tiling x.place tiling.tiling)
        (owned_free size old.held old.tiling h x tiling.tiling tiling.owned there) few is in
        record {
          freed = freed;
          heap = with_parts left blocks_left next.words order cost;
          step = record {
            object = x;
            found = there;
            slot = refl;
            moves = rw (with_blocks, MovesIn) refl;
            held = refl;
            left = gone;
            frames = sym (frames_stay (call_result old h x None));
            tiling = rw (with_blocks, tiling_left) refl;
            rest = record { kind = refl; opened = refl; profile = refl; bounds = refl };
          };
          ordered = ordered next.words;
          kept = next.kept cost;
          cost = costs cost (96 + 2 * slot_in old.kind old x) (41 + slot_in old.kind old x) le;
        }

    freed_in_order : (was : Order) → old.order ≡ Some was → HasFree old h
    freed_in_order was is =
        let of = order_old was is in
        let own = tiling.owned.placed h x there in
        let low = rules.numbers.handles h x there in
        let now : Order = record was { not_full = lists_released rule (listed_by old was) x.place; spare = h ∷ was.spare } in
        let lists = release_keeps_lists rule count size (listed_by old was) x.place own.0 h law rules.settings.small_region tiling.tiling of.lists own.1 own.2.owner in
        let steps : ℕ = release_steps rule old.words old.tiling x.place blocks_left + 4 in
        let few_steps = release_at_most rule old.words old.tiling x.place blocks_left in
        let slot : slot_in old.kind old x ≡ size_at old.tiling x.place = rw (with_blocks, slot_in) refl in
        let at : place_of old h ≡ Some x.place = ap (option_map (λ (y : Placed). y.place)) there in
        freed_with (Some now) steps
        (record { no_pool = of.no_pool; lists = lists; spare = spare_left old.profile.proxies old.held h x was.spare there low (spare_old was of) })
        (λ words. (
        let next : HeapState = with_parts left blocks_left words (Some now) steps in
        follows_some (FreeByOrder old h (Ok freed) next) old.order (Some now) was now is refl (rw (with_blocks, FreeByOrder) (record {
          choice = subst (λ o. IfSome o (λ a. now ≡ record was { not_full = lists_released rule (listed_by old was) a; spare = h ∷ was.spare })) (sym at) refl;
          cost = ap (λ (o : Option ℕ). elim o [ None ↦ 0 | Some a ↦ release_steps rule old.words old.tiling a blocks_left + 4 ]) (sym at);
        }))))
        (omega arith)

    -- every free of a live object succeeds
    pub free_done : HasFree old h
    free_done = by_order old.order refl
      where
        by_order : (o : Option Order) → old.order ≡ o → HasFree old h
        by_order None none = freed_with None 0 tt
            (λ words. follows_none (FreeByOrder old h (Ok freed) (with_parts left blocks_left words None 0)) old.order None none refl) (omega arith)
        by_order (Some was) is = freed_in_order was is

  -- ---- write, resize, bound

  -- every write into a live object has a result
  pub write_done : (position : Position) (bytes : List ℕ) (x : Placed) → AreBytes bytes → get old.held position.number ≡ Some x → HasWrite old position bytes
  write_done position bytes x are there = elim (cases_lt (length x.bytes) (position.from + length bytes)) [
    | inl past ↦ record { answer = Err access.Range; heap = old; step = (record { object = x; found = there; past = past }, refl); kept = rules }
    | inr within ↦ (
        let h = position.number in
        let v = written x.bytes position.from bytes in
        let y : Placed = record x { bytes = v } in
        let m : Held = insert old.held h y in
        let long : length v ≡ length x.bytes = length-written x.bytes position.from bytes within in
        let own = tiling.owned.placed h x there in
        let b = own.0 in
        let others : (a : ℕ) (c : Block) (q : ℕ) → a ≢ x.place → block_at old.tiling a ≡ Some c → c.owner ≡ Some q → (i : ℕ)
        → content_word m q i ≡ content_word old.held q i = λ a c q ne at by i. (
        let mine = tiling.owned.live a c q at by in
        let other : q ≢ h = λ is. ne (sym mine.2 ∙ ap (λ (z : Placed). z.place) (same_object mine.0 x (sym mine.1 ∙ ap (get old.held) is ∙ there))) in
        let e = get_insert_other old.held h y q other in
        rw e refl) in
        let words = refilled (content_word old.held) (content_word m)
        size old.tiling old.words x.place b h tiling.tiling tiling.words rules.region own.1 own.2.owner others in
        let outside : (w : ℕ) → IsOutside x.place b.size w → slice_index words w ≡ slice_index old.words w =
        refilled_outside (content_word old.held) (content_word m)
        size old.tiling old.words x.place b h tiling.tiling tiling.words rules.region own.1 own.2.owner others in
        let few : AreFew old.profile.proxies (objects m) = subst (AreFew old.profile.proxies) (sym (map_values-insert (λ (z : Placed). z.bytes) old.held h y))
        (few_changed old.profile.proxies (objects old.held) few_old h x.bytes v (bytes_held old.held h x there)
        (written_are_bytes x.bytes position.from bytes within (rules.numbers.bytes h x there) are)) in
        let block : size_at old.tiling x.place ≡ b.size = ap size_of own.1 in
        record {
          answer = Ok tt;
          heap = record old { held = m; words = words };
          step = record {
            object = x;
            found = there;
            within = within;
            outside = rw (with_blocks, StaysOutside) (λ w out. outside w (rw block at out));
            whole = refl;
          };
          kept = rules_with m old.tiling words old.order old.cost tiling.tiling (owned_replaced old.held old.tiling h x y tiling.owned there refl long)
              (refilled_words (content_word old.held) (content_word m)
              size old.tiling old.words x.place b h tiling.tiling tiling.words rules.region own.1 own.2.owner others)
              (refilled_long (content_word old.held) (content_word m)
              size old.tiling old.words x.place b h tiling.tiling tiling.words rules.region own.1 own.2.owner others) few
              (order_written h x y b words there own.1 own.2.owner outside old.order tiling.order);
        })
  ]
    where
      same_object : (u w : Placed) → Some u ≡ Some w → u ≡ w
      same_object u w e = cc

      -- the links are in no used block
      order_written : (h : ℕ) (u y : Placed) (b : Block) (words : List ℕ) → get old.held h ≡ Some u → block_at old.tiling u.place ≡ Some b → b.owner ≡ Some h
          → ((w : ℕ) → IsOutside u.place b.size w → slice_index words w ≡ slice_index old.words w)
          → (o : Option Order) → IfSome o (IsBlockOrder old) → IfSome o (IsBlockOrder (record old { held = insert old.held h y; words = words }))
      order_written h u y b words found at used outside None is = tt
      order_written h u y b words found at used outside (Some o) is =
          order_with (insert old.held h y) old.tiling words old.order old.cost o
          (record { no_pool = is.no_pool; lists = is.lists; spare = spare_same old.profile.proxies old.held h y o.spare u found (spare_old o is) })
          (links_stay old.words words o.not_full (λ k p here. (
          let f = (is.lists.members k p).0 here in
          outside (p + 1) (link_outside size old.tiling tiling.tiling u.place p b f.block h at used f.there f.free))) is.links)

  -- every resize of a live object is refused
  pub resize_done : (asked : Request) (x : Placed) → get old.held asked.number ≡ Some x → HasResize old asked
  resize_done asked x there = record {
    answer = Err resize.Kind;
    heap = old;
    step = (record { object = x; found = there; blocks = with_blocks }, rw (with_blocks, IsLeftByRefusal) refl);
    ordered = follows_same (ResizeByOrder old asked (Err resize.Kind) old) old.order (λ was. rw (with_blocks, ResizeByOrder) refl);
    kept = rules;
    cost = rw (with_blocks, CostsAtMost) tt;
  }

  -- no class gets a bound
  pub bound_done : (slot_words k : ℕ) → KeepsRules (with_bound old (class_to_bound old slot_words) k)
  bound_done slot_words k = elim (cases_eq (len old.held) 0) [
    | inl none ↦ rw (none, with_blocks, class_with) rules
    | inr ne ↦ (let e = eq_no (len old.held) 0 ne in rw e rules)
  ]
