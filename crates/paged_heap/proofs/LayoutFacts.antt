-- What follows from an open heap's invariant: its kind has pages, its tables have the pages and classes of its settings, its bounds are at most 64, it owns its
-- objects, and each live number is below the number of proxies. It keeps the rules of a manager and, open or closed, promises an order. Also, an open heap with
-- other tables.
use Rattle.std.proofs.Common.{◌≡◌, ℕ, ◌<◌, ◌≤◌, length, take, get_or, Option, Some, None, arith, refl, sym, ◌∙◌, ap, subst, inl, inr}
use Rattle.std.specs.Prelude.{IsSome, IsTrue, is_some}
use Rattle.std.proofs.lemmas.Bool.{cases_lt, false≢true}
use Rattle.std.proofs.lemmas.List.{get_or-take, get_or_past, length-take-le}
use Rattle.std.specs.FinMap.{get}
use Rattle.cf_base.specs.Classes.{sizes}
use Rattle.cf_base.specs.Settings.{profile_of}
use Rattle.page_model.specs.Held.{Placed}
use Rattle.page_model.specs.Order.{IsOrderOf}
use Rattle.page_model.specs.Paging.{IsPaging, classes}
use Rattle.page_model.proofs.CallerLemmas.{held_at_bytes, own_words, paged}
use Rattle.size_classes.specs.Table.{ClassTable, IsClassTable}
use Rattle.class_lists.specs.PageLists.{PageLists}
use Rattle.page_slots.specs.declared.page_tables.PageTables.{PageTables}
use Rattle.page_slots.specs.Tables.{AreTables}
use Rattle.page_slots.specs.Occupying.{class_table}
use Rattle.page_slots.specs.Orders.{order_of}
use Rattle.page_slots.proofs.CallerLemmas.{order_is, held_len, no_place, place_known, OwnsObjects, as_many}
use Rattle.cf_model.specs.State.{HeapState, layout_of}
use Rattle.cf_model.specs.Rules.{IsPaged, KeepsRules}
use Rattle.cf_base.specs.declared.kind.Kind.{Kind}
use Rattle.paged_heap.specs.declared.open_heap.OpenHeap.{OpenHeap}
use Rattle.paged_heap.specs.Heap.{Heap, seen}
use Rattle.paged_heap.specs.Layout.{IsValid, IsValidIn, held_in, order_in, paging_at, state_in, state_of, tables_in, owner_in}
use Rattle.paged_heap.proofs.ByKind.{paged_of, rules_by}

-- the heap with other tables
abbrev pub with_tables : OpenHeap → PageTables → PageLists → OpenHeap
with_tables h t lists = record h { tables = t; lists = lists }

-- if the other tables have the same classes, only maps, lists and pool of the heap change
pub retabled : (kind : Kind) (h : OpenHeap) (t : PageTables) (lists : PageLists) → t.classes ≡ h.tables.classes
    → seen kind (with_tables h t lists) ≡ record (seen kind h) { maps = t.maps.pages; lists = lists; pool = t.pool }
retabled kind h t lists same = ap (λ k. record (seen kind h) { classes = k; maps = t.maps.pages; lists = lists; pool = t.pool }) same

module _ (h : Heap) (k : IsValid h) where
  -- the classes are those of the paging
  pub table_is : class_table (paging_at h) ≡ h.classes
  table_is = sym k.table

  pub sizes_are : h.classes.sizes ≡ sizes h.settings.page_words (layout_of h.kind)
  sizes_are = ap (λ (t : ClassTable). t.sizes) k.table

  pub page_is : h.classes.page_words ≡ h.settings.page_words
  page_is = ap (λ (t : ClassTable). t.page_words) k.table

  pub few_classes : classes (paging_at h) ≤ 67
  few_classes = k.serve.part.tables.table.are_sizes.few

  pub bounds_many : length (take (length h.classes.sizes) h.bounds) ≡ length h.classes.sizes
  bounds_many = length-take-le (length h.classes.sizes) h.bounds (let few = few_classes in let e = as_many (paging_at h) table_is in let long = k.bounds_long in omega arith)

  pub bound_is : (c : ℕ) → c < length h.classes.sizes → get_or (take (length h.classes.sizes) h.bounds) c 0 ≡ get_or h.bounds c 0
  bound_is c lt = get_or-take (length h.classes.sizes) h.bounds c 0 lt

  pub paging_ok : IsPaging (paging_at h)
  paging_ok = paged (profile_of h.settings) (layout_of h.kind) (take (length h.classes.sizes) h.bounds) h.settings.page_size (bounds_many ∙ as_many (paging_at h) table_is) (λ c lt. (
      let lt' : c < length h.classes.sizes = (let e = bounds_many in omega arith) in
      let few = few_classes in let e = as_many (paging_at h) table_is in
      let some = k.some_bound c (omega arith) in
      let is = bound_is c lt' in
      omega arith))

  pub tables_ok : AreTables h.classes (tables_in h)
  tables_ok = subst (λ t. AreTables t (tables_in h)) table_is k.serve.part.tables

  pub table_ok : IsClassTable h.classes.page_words h.classes.sizes
  table_ok = subst (λ (t : ClassTable). IsClassTable t.page_words t.sizes) table_is k.serve.part.tables.table

  pub bounds_low : (c : ℕ) → get_or (take (length h.classes.sizes) h.bounds) c 0 ≤ 64
  bounds_low c = elim (cases_lt c (length h.classes.sizes)) [
    | inl lt ↦ (
        let few = few_classes in let e = as_many (paging_at h) table_is in
        let low = k.low_bound c (omega arith) in
        let is = bound_is c lt in
        omega arith)
    | inr past ↦ (let l = bounds_many in let e = get_or_past (take (length h.classes.sizes) h.bounds) c 0 (omega arith) in omega arith)
  ]

  pub number_small : (q : ℕ) (x : Placed) → get (held_in h) q ≡ Some x → q < h.settings.proxies
  number_small q x e = (let lt = k.handles.below q x.place (place_known (owner_in h) q x e) in let s = k.numbers in omega arith)

  -- the heap's kind is one with pages
  pub paged_kind : IsPaged h.kind
  paged_kind = paged_of h.kind h k.framed

  -- the order in the heap's tables is an order of its objects
  order_ok : IsOrderOf (paging_at h) (held_in h) h.settings.proxies (order_in h)
  order_ok =
      let many = k.numbers in
      subst (λ n. IsOrderOf (paging_at h) (held_in h) h.settings.proxies (order_of n (tables_in h) h.proxies.free)) (sym (as_many (paging_at h) table_is))
      (order_is paging_ok k.serve k.occupied h.settings.proxies h.proxies.free
      (λ q among. (let lt = k.handles.free_below q among in omega arith, no_place (owner_in h) q (k.handles.not_live q among)))
      k.handles.once (let all = k.handles.counted in let l = held_len (owner_in h) in omega arith))

  pub rules : KeepsRules (state_of h)
  rules = record {
    settings = record {
      some_pages = h.settings.some_pages;
      few_pages = h.settings.few_pages;
      page_size = h.settings.page_size;
      some_bound = h.settings.some_bound;
      low_bound = h.settings.low_bound;
      some_proxies = h.settings.some_proxies;
      few_proxies = h.settings.few_proxies;
      small_region = h.settings.small_region;
    };
    region = k.words_long;
    numbers = record {
      handles = number_small;
      bytes = held_at_bytes h.words h.proxies.places;
      few = (let e = held_len (owner_in h) in let f = k.handles.few in let s = k.numbers in omega arith);
    };
    of_kind = rules_by h.kind h k.framed k.words_long (record {
      paging = paging_ok;
      low_bounds = bounds_low;
      sound = k.sound;
      image = own_words (paging_at h) paging_ok (held_in h) k.sound h.words k.image;
      slots = k.image;
      no_tiling = refl;
      order = order_ok;
    });
  }

-- the heap owns its objects
pub owns : {h : Heap} → IsValid h → OwnsObjects (owner_in h)
owns {h} k = record {
  table = table_is h k;
  paged = paging_ok h k;
  serve = k.serve.part;
  sound = k.sound;
  occupied = k.occupied;
  long = k.words_long;
  bounds = λ c lt. sym (bound_is h k c (let e = as_many (paging_at h) (table_is h k) in omega arith));
}

-- an open heap keeps its rules
pub rules_in : (kind : Kind) (o : Option OpenHeap) → IsValidIn kind o → IsTrue (is_some o) → KeepsRules (state_in kind o)
rules_in kind None k open_now = absurd (false≢true open_now)
rules_in kind (Some h) k open_now = rules (seen kind h) k.kept

-- as above, for the value s that contracts show
pub rules_of : (kind : Kind) (o : Option OpenHeap) → IsValidIn kind o → (s : HeapState) → state_in kind o ≡ s → IsTrue s.is_open → KeepsRules s
rules_of kind None k s is open_now = absurd (false≢true (ap (λ (t : HeapState). t.is_open) is ∙ open_now))
rules_of kind (Some h) k s is open_now = subst KeepsRules is (rules (seen kind h) k.kept)

-- a heap promises an order, open or closed
pub order_promised : (kind : Kind) (o : Option OpenHeap) → IsSome (state_in kind o).order
order_promised kind None = refl
order_promised kind (Some h) = refl

-- as above, for the value s that contracts show
pub order_of_value : (kind : Kind) (o : Option OpenHeap) (s : HeapState) → state_in kind o ≡ s → IsSome s.order
order_of_value kind o s is = subst (λ (t : HeapState). IsSome t.order) is (order_promised kind o)
