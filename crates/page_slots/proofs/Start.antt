-- For callers that open a heap: the classes of its layout are a class table, and tables in which all pages are free keep their rules, have no foreign page, and
-- fit a heap without objects.
use Rattle.std.proofs.Common.{◌≡◌, ℕ, zero, suc, Bool, false, true, ◌+◌, ◌*◌, ◌^◌, ◌<◌, ◌≤◌, List, [], ◌∷◌, length, get_or}
use Rattle.std.proofs.Common.{replicate, Some, None, arith, refl, sym, ◌∙◌, ap}
use Rattle.std.proofs.Common.{subst, inl, inr}
use Rattle.std.specs.Prelude.{IsTrue, nat_eq}
use Rattle.std.specs.List.{Contains, IsDistinct, range_with_len}
use Rattle.std.proofs.lemmas.Bool.{cases_eq, cases_lt, true≢false}
use Rattle.std.proofs.lemmas.List.{get_or-replicate, get_or_past, length-replicate}
use Rattle.std.specs.Ordering.{nat_cmp}
use Rattle.std.specs.FinMap.{get, empty, get-empty}
use Rattle.cf_base.proofs.Members.{contains_nil, distinct_nil}
use Rattle.cf_base.specs.Classes.{sizes}
use Rattle.cf_base.specs.Limits.{is_page_size}
use Rattle.cf_base.specs.declared.kind.Layout.{Layout}
use Rattle.cf_base.proofs.Rising.{are_sizes, page_size}
use Rattle.size_classes.specs.Table.{ClassTable, IsClassTable}
use Rattle.class_lists.specs.declared.Which.{Which}
use Rattle.class_lists.specs.declared.Which.TheVariants.{Full, NotFull}
use Rattle.class_lists.specs.PageLists.{AreApart, empty_lists, list_number, pages_in}
use Rattle.page_pool.specs.Pool.{Pool, is_in_pool}
use Rattle.page_pool.proofs.CallerLemmas.{pooled_range}
use Rattle.page_model.specs.Held.{Placed}
use Rattle.page_model.specs.Paging.{Paging}
use Rattle.page_slots.specs.PageTables.{new_tables}
use Rattle.page_slots.specs.Tables.{AreTables, IsOf, NoneForeign, Tables, tables, used_in}
use Rattle.page_slots.specs.Occupying.{Occupies, FitPages, class_table}
use Rattle.page_slots.proofs.Listing.{along}
use Rattle.page_slots.proofs.Pages.{other_free}
use Rattle.page_slots.proofs.TablesAfterTake.{free_head}

-- the numbers from a on are all in their range
range_has : (a n q : ℕ) → a ≤ q → q < a + n → is_in_pool (range_with_len a n) q ≡ true
range_has a zero q low high = absurd (omega arith)
range_has a (suc n) q low high = elim (cases_eq q a) [
  | inl is ↦ ap (λ y. is_in_pool (y ∷ range_with_len (a + 1) n) q) (sym is) ∙ free_head q (range_with_len (a + 1) n)
  | inr ne ↦ other_free (range_with_len (a + 1) n) a q ne ∙ range_has (a + 1) n q (omega arith) (omega arith)
]

-- the classes of a heap's pages are a class table
pub first_table : (page_words : ℕ) (layout : Layout) → IsTrue (is_page_size page_words) → IsClassTable page_words (sizes page_words layout)
first_table page_words layout ok = record { are_sizes = are_sizes page_words layout ok; small = (page_size page_words ok).small }

module _ (classes pages : ℕ) where
  -- no list has a page
  pub no_pages : (c : ℕ) (w : Which) → pages_in (empty_lists classes pages) c w ≡ []
  no_pages c w = elim (cases_lt (list_number c w) (2 * classes)) [
    | inl lt ↦ get_or-replicate (2 * classes) (list_number c w) [] [] lt
    | inr past ↦ get_or_past (replicate (2 * classes) []) (list_number c w) [] (let e = length-replicate {A = List ℕ} (2 * classes) [] in omega arith)
  ]

  none_listed : (c : ℕ) (w : Which) (page : ℕ) → ¬ Contains (pages_in (empty_lists classes pages) c w) page
  none_listed c w page h = contains_nil page (along page _ _ (no_pages c w) h)

  apart : AreApart (empty_lists classes pages)
  apart = record {
    page = λ c w page h. absurd (none_listed c w page h);
    class = λ c w page h. absurd (none_listed c w page h);
    distinct = λ c w. (let P : List ℕ → Type 0 = λ xs. IsDistinct nat_eq xs in subst P (sym (no_pages c w)) distinct_nil);
    once = λ c d w v page h _. absurd (none_listed c w page h);
  }

  none_of : (maps : List (List Bool)) (pool : Pool) (c page : ℕ) → ¬ IsOf (tables maps (empty_lists classes pages) pool) c page
  none_of maps pool c page (inl h) = none_listed c Full page h
  none_of maps pool c page (inr h) = none_listed c NotFull page h

  -- the tables at the start; the maps of the free pages may have any number of slots, none of them used
  pub first_tables : (k : ClassTable) (maps : List (List Bool)) → IsClassTable k.page_words k.sizes → pages * k.page_words < 2 ^ 32
      → length maps ≡ pages → ((page : ℕ) → used_in (get_or maps page []) ≡ 0) → classes ≡ length k.sizes
      → AreTables k (tables maps (empty_lists classes pages) (record { pages = pages; free = range_with_len 0 pages }))
  first_tables k maps table small long unused all = record {
    table = table;
    small = small;
    maps = long;
    pages = refl;
    classes = all;
    pool = pooled_range pages;
    lists = apart;
    placed = λ page lt. inl (record {
      free = range_has 0 pages page (omega arith) (omega arith);
      unlisted = λ c w. none_listed c w page;
      unused =
          unused page;
    });
  }

  pub first_whole : (maps : List (List Bool)) → NoneForeign (tables maps (empty_lists classes pages)
      (record { pages = pages; free = range_with_len 0 pages }))
  first_whole maps page lt e = true≢false (sym (range_has 0 pages page (omega arith) (omega arith)) ∙ e.taken)

  -- no objects occupy these tables
  pub first_occupied : (p : Paging) (maps : List (List Bool)) (pool : Pool) → Occupies p empty (tables maps (empty_lists classes pages) pool)
  first_occupied p maps pool = record {
    stands = λ h x e. absurd (let none : get {X = Placed} {R = nat_cmp} empty h ≡ None = get-empty nat_cmp h in let z : Some x ≡ None = sym e ∙ none in cc);
    filled = λ c page slot u. absurd (none_of maps pool c page u.of);
    counted = λ c page of. absurd (none_of maps pool c page of);
  }

-- the tables t of a new heap: no slot is used, no page is listed, and all pages are in the pool
module _ (p : Paging) (n : ℕ) (t : Tables) (table : IsClassTable p.page_words p.sizes) (small : p.pages * p.page_words < 2 ^ 32) (all : n ≡ length p.sizes)
    (are : t ≡ new_tables p.pages n) where
  abbrev maps : List (List Bool)
  maps = replicate p.pages (replicate 1 false)

  none_used : (page : ℕ) → used_in (get_or maps page []) ≡ 0
  none_used page = elim (cases_lt page p.pages) [
    | inl lt ↦ ap used_in (get_or-replicate p.pages page (replicate 1 false) [] lt)
    | inr past ↦ ap used_in (get_or_past maps page [] (let e = length-replicate p.pages (replicate 1 false) in omega arith))
  ]

  pub new_serve : FitPages p t
  new_serve = subst (FitPages p) (sym are) (record {
    part = record {
      tables = first_tables n p.pages (class_table p) maps table small (length-replicate p.pages (replicate 1 false)) none_used all;
      pages = refl;
    };
    whole = first_whole n p.pages maps;
  })
