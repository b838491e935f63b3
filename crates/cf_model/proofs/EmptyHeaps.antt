-- The state after opening a manager of each kind keeps the rules (`KeepsRules`), with an order and without one, and for each kind there are words with which it
-- does: the law `an_empty_heap_keeps_the_rules`.
use Rattle.std.proofs.Common.{◌≡◌, ℕ, zero, suc, true, false, ◌+◌, ◌*◌, ◌/◌, ◌-◌, ◌≤◌, List, [], ◌∷◌, Option, Some, None, length, get_or, replicate, arith, sym}
use Rattle.std.proofs.Common.{◌∙◌, inl, inr, ap, refl}
use Rattle.std.specs.Prelude.{IfSome, nat_eq}
use Rattle.std.proofs.lemmas.List.{get_or-replicate, get_or_past, length-replicate}
use Rattle.cf_base.specs.Classes.{sizes}
use Rattle.std.proofs.lemmas.Bool.{cases_eq, cases_lt}
use Rattle.std.proofs.lemmas.Bool.Decides.{nat_tests}
use Rattle.std.specs.Ordering.{nat_cmp}
use Rattle.std.specs.FinMap.{get, len, empty, get-empty, len-empty}
use Rattle.cf_base.specs.Settings.{Profile}
use Rattle.cf_base.specs.declared.kind.Kind.{Kind}
use Rattle.cf_base.specs.declared.kind.Kind.TheVariants.{Moving, NonMoving, Tlsf, HalfFit}
use Rattle.page_model.specs.Held.{Placed}
use Rattle.page_model.specs.Order.{IsOrderOf, Order}
use Rattle.page_model.specs.Paging.{first_bounds}
use Rattle.page_model.proofs.CallerLemmas.{sound_empty, image_empty, first_permuted, first_paged, in_blocks}
use Rattle.cf_base.proofs.Rising.{are_sizes, size_within}
use Rattle.cf_base.specs.declared.kind.Layout.TheVariants.{Words}
use Rattle.std.proofs.lemmas.Nat.{mul-le}
use Rattle.std.proofs.lemmas.List.FromFn.{length-range_with_len}
use Rattle.block_model.specs.FreeOrder.{link_word, no_block}
use Rattle.block_model.specs.Tiling.{Block, block_at, one_free_block}
use Rattle.cf_model.specs.State.{HeapState, layout_of, region_words}
use Rattle.cf_model.specs.Families.{Family, paged, tiled, family_of}
use Rattle.cf_model.specs.Rules.{AreInRange, AreObjects, IsBlockOrder, IsPaged, IsTiled, KeepsPages, KeepsRules, KeepsTable, KeepsTiling}
use Rattle.cf_model.specs.Steps.{IsOpeningOrder, IsOpeningWords, empty_heap, opening_bounds, opening_frames, opening_order, opening_tiling, ordered_heap}
use Rattle.cf_model.proofs.OpeningOrders.{OpensLists, first_paging, opens_in_block_order, opens_in_order}

pub no_object : (h : ℕ) (x : Placed) → get (empty {X = Placed} {R = nat_cmp}) h ≡ Some x → ⊥
no_object h x e = (let g : Some x ≡ None = sym e ∙ get-empty nat_cmp h in cc)

no_objects : (s : HeapState) → s.held ≡ empty → AreObjects s
no_objects s none = record {
  handles = λ h x e. absurd (no_object h x (ap (λ m. get m h) (sym none) ∙ e));
  bytes = λ h x e. absurd (no_object h x (ap (λ m. get m h) (sym none) ∙ e));
  few = (let e : len s.held ≡ 0 = ap (λ m. len m) none ∙ len-empty nat_cmp Placed in omega arith);
}

-- the kinds with blocks have no block table
no_table : (k : Kind) (p : Profile) → IsTiled k → opening_frames k p ≡ []
no_table Moving p is = refl
no_table NonMoving p is = (let e : paged ≡ tiled = is in cc)
no_table Tlsf p is = refl
no_table HalfFit p is = refl

module _ (p : Profile) (ok : AreInRange p) where
  zeros_are_many : length (replicate {A = ℕ} (region_words p) 0) ≡ region_words p
  zeros_are_many = length-replicate (region_words p) 0

  pages_kept : (k : Kind) (order : Option Order) (s : HeapState)
      → s ≡ record (ordered_heap k p (replicate (region_words p) 0) order) { bounds = first_bounds p (layout_of k); tiling = [] }
      → IfSome order (IsOrderOf (first_paging k p) empty p.proxies) → KeepsPages s
  pages_kept k order s is ordered = rw is (record {
    paging = first_paged p (layout_of k) ok.page_size ok.some_bound;
    low_bounds = λ c. few (length (sizes p.page_words (layout_of k))) c;
    sound = sound_empty _;
    image = image_empty _ (region_words p);
    slots = image_empty _ (region_words p);
    no_tiling = refl;
    order = ordered;
  })
    where
      few : (n c : ℕ) → get_or (replicate n p.k) c 0 ≤ 64
      few n c = (let low = ok.low_bound in elim (cases_lt c n) [
        | inl lt ↦ rw (get_or-replicate {A = ℕ} n c p.k 0 lt) low
        | inr past ↦ (let len : length (replicate {A = ℕ} n p.k) ≡ n =
            length-replicate n p.k in rw (get_or_past {X = ℕ} (replicate n p.k) c 0 (omega arith)) (omega arith))
      ])

  quarters : 4 * (region_words p / 4) ≡ region_words p
  quarters =
      let whole = (in_blocks p [] ok.page_size).page in
      let f : p.page_words ≡ 4 * (p.page_words / 4) = omega arith in
      let g : p.pages * p.page_words ≡ p.pages * (4 * (p.page_words / 4)) = ap (λ n. p.pages * n) f in
      let h : p.pages * p.page_words ≡ 4 * (p.pages * (p.page_words / 4)) = omega arith in
      omega arith

  -- the block table of an empty heap
  first_table : (order : Option Order) (k : Kind) → KeepsTable k (ordered_heap k p (replicate (region_words p) 0) order)
  first_table order Moving = refl
  first_table order NonMoving = record {
    count = ap (λ n. 4 * n) (length-range_with_len 0 (region_words p / 4)) ∙ quarters;
    permuted = first_permuted (region_words p / 4);
  }
  first_table order Tlsf = refl
  first_table order HalfFit = refl

  -- a manager with pages
  pub paged_empty : (k : Kind) → IsPaged k → (order : Option Order) → IsOpeningOrder k p order
      → KeepsRules (ordered_heap k p (replicate (region_words p) 0) order)
  paged_empty k is order opens = record {
    settings = ok;
    region = zeros_are_many;
    numbers = no_objects (ordered_heap k p (replicate (region_words p) 0) order) refl;
    of_kind = rw is (
      pages_kept k order (ordered_heap k p (replicate (region_words p) 0) order) (rw (is, opening_bounds, opening_tiling) refl)
          (opens_in_order k p is order opens),
      first_table order k,
    );
  }

  large : 2 ≤ region_words p
  large =
      let sizes = are_sizes p.page_words Words ok.page_size in
      let a = sizes.least 0 sizes.some in
      let b = size_within p.page_words _ 0 sizes sizes.some in
      let some = ok.some_pages in
      let c = mul-le 1 4 p.pages p.page_words some (omega arith) in
      omega arith

  -- words of one free block: its header, any word, and zeros
  module _ (words : List ℕ) (count : length words ≡ region_words p) (header : get_or words 0 0 ≡ region_words p) (zeros : (w : ℕ) → 2 ≤ w
      → get_or words w 0 ≡ 0) where
    only_block : (a : ℕ) (b : Block) → block_at (one_free_block (region_words p)) a ≡ Some b → (a ≡ 0) × (b.owner ≡ None)
    only_block a b there = elim (cases_eq 0 a) [
      | inl is ↦ (
          let e : nat_eq 0 a ≡ true = grind (arith, nat_tests) in
          let t : ◌≡◌ {A = Option Block} (Some (record { address = 0; size = region_words p; owner = None })) (Some b) = rw e at there in
          let same : ◌≡◌ {A = Block} (record { address = 0; size = region_words p; owner = None }) b = cc in
          (sym is, ap (λ (x : Block). x.owner) (sym same)))
      | inr other ↦ (
          let e : nat_eq 0 a ≡ false = grind (arith, nat_tests) in
          let t : ◌≡◌ {A = Option Block} None (Some b) = rw e at there in
          absurd (let z : ⊥ = cc in z))
    ]

    tiling_kept : (s : HeapState) → s.profile ≡ p → s.tiling ≡ one_free_block (region_words p) → s.held ≡ empty → s.words ≡ words → s.frames ≡ []
        → s.bounds ≡ [] → IfSome s.order (IsBlockOrder s) → KeepsTiling s
    tiling_kept s is tiles none w frames bounds ordered =
        let l = large in
        record {
          tiling = rw (is, tiles) (record { fill = (refl, l, omega arith); merged = (refl, tt) });
          owned = rw (none, tiles) (record {
            placed = λ h x e. absurd (no_object h x e);
            live = λ a b h there owned. absurd (let o = (only_block a b there).1 in let z : Some h ≡ None = sym owned ∙ o in cc);
          });
          words = rw (tiles, w) (record {
            headers = (header ∙ omega arith, tt);
            cleared = λ a b there free i low high. (let o = (only_block a b there).0 in zeros (a + i) (omega arith));
            contents = λ a b h there owned i lt. absurd (let o = (only_block a b there).1 in let z : Some h ≡ None = sym owned ∙ o in cc);
          });
          no_frames = frames;
          no_bounds = bounds;
          order = ordered;
        }

    -- a manager with blocks, with an order or without one
    tiled_in_order : (k : Kind) → IsTiled k → (order : Option Order) → IfSome order (IsBlockOrder (ordered_heap k p words order))
        → KeepsRules (ordered_heap k p words order)
    tiled_in_order k is order ordered = record {
      settings = ok;
      region = count;
      numbers = no_objects (ordered_heap k p words order) refl;
      of_kind = rw is (tiling_kept (ordered_heap k p words order) refl (rw (is, opening_tiling) refl) refl refl (no_table k p is)
          (rw (is, opening_bounds) refl) ordered);
    }

    pub tiled_empty : (k : Kind) → IsTiled k → KeepsRules (empty_heap k p words)
    tiled_empty k is = tiled_in_order k is None tt

    -- in the opening order, where word 1 of the one free block links it with no other
    pub tiled_ordered : OpensLists → get_or words 1 0 ≡ link_word no_block no_block → (k : Kind) → IsTiled k
        → KeepsRules (ordered_heap k p words (Some (opening_order k p)))
    tiled_ordered opens link k is = tiled_in_order k is (Some (opening_order k p)) (opens_in_block_order opens p words large ok.small_region link k is)

  -- words of one free block, which is linked with no other
  abbrev free_words : List ℕ
  free_words = region_words p ∷ link_word no_block no_block ∷ replicate (region_words p - 2) 0

  free_words_long : length free_words ≡ region_words p
  free_words_long = (let l = large in let e = length-replicate {A = ℕ} (region_words p - 2) 0 in omega arith)

  free_words_zero : (w : ℕ) → 2 ≤ w → get_or free_words w 0 ≡ 0
  free_words_zero zero low = absurd (omega arith)
  free_words_zero (suc zero) low = absurd (omega arith)
  free_words_zero (suc (suc w)) low = elim (cases_lt w (region_words p - 2)) [
    | inl lt ↦ get_or-replicate {A = ℕ} (region_words p - 2) w 0 0 lt
    | inr past ↦ (let len = length-replicate {A = ℕ} (region_words p - 2) 0 in get_or_past {X = ℕ} (replicate (region_words p - 2) 0) w 0 (omega arith))
  ]

  -- for each kind there are words with which an empty heap keeps the rules
  pub empty_there : (k : Kind) → (words : List ℕ) × IsOpeningWords k p words × KeepsRules (empty_heap k p words)
  empty_there k = by_family (family_of k) refl
    where
      by_family : (f : Family) → family_of k ≡ f → (words : List ℕ) × IsOpeningWords k p words × KeepsRules (empty_heap k p words)
      by_family paged is = (replicate (region_words p) 0, rw (is, IsOpeningWords) refl, paged_empty k is None tt)
      by_family tiled is = (free_words, rw (is, IsOpeningWords) tt, tiled_empty free_words free_words_long refl free_words_zero k is)

  -- for each kind there are such words with the opening order too
  pub ordered_there : OpensLists → (k : Kind)
      → (words : List ℕ) × IsOpeningWords k p words × KeepsRules (ordered_heap k p words (Some (opening_order k p)))
  ordered_there opens k = by_family (family_of k) refl
    where
      by_family : (f : Family) → family_of k ≡ f
          → (words : List ℕ) × IsOpeningWords k p words × KeepsRules (ordered_heap k p words (Some (opening_order k p)))
      by_family paged is = (replicate (region_words p) 0, rw (is, IsOpeningWords) refl, paged_empty k is (Some (opening_order k p)) refl)
      by_family tiled is = (free_words, rw (is, IsOpeningWords) tt, tiled_ordered free_words free_words_long refl free_words_zero opens refl k is)
