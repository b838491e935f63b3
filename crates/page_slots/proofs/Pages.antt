-- For all calls: what the tables show of one page, which is free, foreign, or in one list of one class; a class has 1 to 4096 slots on a page. A call that
-- changes one page keeps every other (`IsSame`), and the rules of the tables.
use Rattle.std.proofs.Common.{◌≡◌, ◌≢◌, ℕ, Bool, true, false, ◌<◌, ◌≤◌, List, [], ◌∷◌, length, get_or, set, arith, sym, ◌∙◌, ap, subst, inl, inr, eqb}
use Rattle.std.specs.List.{Contains}
use Rattle.std.proofs.lemmas.Bool.{cases_eq, true≢false, ne_eqb}
use Rattle.std.proofs.lemmas.List.{get_or-set_same, get_or-set_other, length-set}
use Rattle.cf_base.proofs.Rising.{slots_within}
use Rattle.size_classes.specs.Table.{ClassTable}
use Rattle.class_lists.specs.declared.Which.{Which}
use Rattle.class_lists.specs.declared.Which.TheVariants.{Full, NotFull}
use Rattle.class_lists.specs.PageLists.{AreApart, pages_in}
use Rattle.page_pool.specs.Pool.{IsPool, is_in_pool}
use Rattle.page_slots.specs.Tables.{Tables, AreTables, IsOf, IsPlaced, IsPageOf, IsFreePage, IsForeign, NoneForeign}
use Rattle.page_slots.specs.Tables.{KeepsForeign, slots_in, slots_on, used_in}

-- page g is unchanged: whether it is free, the list that it is in, and its slots
pub record IsSame (old new : Tables) (g : ℕ) : Type 0 where
  pub free : is_in_pool new.pool.free g ≡ is_in_pool old.pool.free g
  pub comes : (d : ℕ) (v : Which) → Contains (pages_in old.lists d v) g → Contains (pages_in new.lists d v) g
  pub stays : (d : ℕ) (v : Which) → Contains (pages_in new.lists d v) g → Contains (pages_in old.lists d v) g
  pub slots : slots_on new g ≡ slots_on old g

pub same_of : (old new : Tables) (g d : ℕ) → IsSame old new g → IsOf old d g → IsOf new d g
same_of old new g d s (inl h) = inl (s.comes d Full h)
same_of old new g d s (inr h) = inr (s.comes d NotFull h)

pub was_of : (old new : Tables) (g d : ℕ) → IsSame old new g → IsOf new d g → IsOf old d g
was_of old new g d s (inl h) = inl (s.stays d Full h)
was_of old new g d s (inr h) = inr (s.stays d NotFull h)

pub same_elsewhere : (old new : Tables) (g : ℕ) → IsSame old new g → IsForeign old g → IsForeign new g
same_elsewhere old new g s e = record { taken = s.free ∙ e.taken; unlisted = λ d v h. e.unlisted d v (s.stays d v h) }

pub was_elsewhere : (old new : Tables) (g : ℕ) → IsSame old new g → IsForeign new g → IsForeign old g
was_elsewhere old new g s e = record { taken = sym s.free ∙ e.taken; unlisted = λ d v h. e.unlisted d v (s.comes d v h) }

-- if only one page changes, and it isn't foreign, the foreign pages stay as they are
pub keeps_elsewhere : (old new : Tables) (page : ℕ) → ¬ IsForeign old page → ((g : ℕ) → g ≢ page → IsSame old new g) → KeepsForeign old new
keeps_elsewhere old new page there others = record {
  still = λ g e. same_elsewhere old new g (others g (other g e)) e;
  slots = λ g e. (others g (other g e)).slots;
}
  where
    other : (g : ℕ) → IsForeign old g → g ≢ page
    other g e is = there (subst (IsForeign old) is e)

-- if no page is foreign, only one page changes, and that page isn't foreign afterwards, then no page is foreign afterwards
pub still_whole : (old new : Tables) (page : ℕ) → new.pool.pages ≡ old.pool.pages → ¬ IsForeign new page → ((g : ℕ) → g ≢ page → IsSame old new g)
    → NoneForeign old → NoneForeign new
still_whole old new page pages there others whole g lt e = elim (cases_eq g page) [
  | inl is ↦ there (subst (IsForeign new) is e)
  | inr ne ↦ whole g (omega arith) (was_elsewhere old new g (others g ne) e)
]

-- a page that is free or of a class isn't foreign
pub free_not_elsewhere : (t : Tables) (page : ℕ) → IsFreePage t page → ¬ IsForeign t page
free_not_elsewhere t page f e = true≢false (sym f.free ∙ e.taken)

pub of_not_elsewhere : (t : Tables) (c page : ℕ) → IsOf t c page → ¬ IsForeign t page
of_not_elsewhere t c page (inl h) e = e.unlisted c Full h
of_not_elsewhere t c page (inr h) e = e.unlisted c NotFull h

pub same_placed : (k : ClassTable) (old new : Tables) (g : ℕ) → IsSame old new g → IsPlaced k old g → IsPlaced k new g
same_placed k old new g s (inl f) = inl (record {
  free = s.free ∙ f.free;
  unlisted = λ d v h. f.unlisted d v (s.stays d v h);
  unused = ap used_in s.slots ∙ f.unused;
})
same_placed k old new g s (inr (inl e)) = inr (inl (same_elsewhere old new g s e))
same_placed k old new g s (inr (inr (c, w, p))) =
    let e = sym s.slots in
    inr (inr (
      c,
      w,
      record {
        taken = s.free ∙ p.taken;
        listed = s.comes c w p.listed;
        slots = ap length s.slots ∙ p.slots;
        some = p.some;
        fills = rw s.slots p.fills;
      },
    ))

-- adding or removing one page of the pool doesn't matter for the others
pub other_free : (free : List ℕ) (page g : ℕ) → g ≢ page → is_in_pool (page ∷ free) g ≡ is_in_pool free g
other_free free page g ne = (let e : eqb g page ≡ false = ne_eqb g page ne in rw e)

-- one map is replaced
module _ (old new : List (List Bool)) (page : ℕ) (map : List Bool) (e : new ≡ set old page map) where
  pub map_here : page < length old → get_or new page [] ≡ map
  map_here lt = ap (λ ms. get_or ms page []) e ∙ get_or-set_same old page map [] lt

  pub map_there : (g : ℕ) → g ≢ page → get_or new g [] ≡ get_or old g []
  map_there g ne = ap (λ ms. get_or ms g []) e ∙ get_or-set_other old page g map [] ne

  pub maps_long : length new ≡ length old
  maps_long = ap length e ∙ length-set old page map

module _ (k : ClassTable) (t : Tables) (a : AreTables k t) where
  pub listed_page : (c page : ℕ) (w : Which) → Contains (pages_in t.lists c w) page → page < t.pool.pages
  listed_page c page w h = (let lt = a.lists.page c w page h in let e = a.pages in omega arith)

  pub listed_class : (c page : ℕ) (w : Which) → Contains (pages_in t.lists c w) page → c < length k.sizes
  listed_class c page w h = (let lt = a.lists.class c w page h in let e = a.classes in omega arith)

  -- a page in a list has the slots that the list asks for
  pub placed_in : (c page : ℕ) (w : Which) → Contains (pages_in t.lists c w) page → IsPageOf k t page c w
  placed_in c page w h = elim (a.placed page (listed_page c page w h)) [
    | inl f ↦ absurd (f.unlisted c w h)
    | inr (inl e) ↦ absurd (e.unlisted c w h)
    | inr (inr (d, v, p)) ↦ (
        let o = a.lists.once d c v w page p.listed h in
        subst (λ w. IsPageOf k t page c w) o.1 (subst (λ c. IsPageOf k t page c v) o.0 p))
  ]

  pub of_list : (c page : ℕ) → IsOf t c page → (w : Which) × IsPageOf k t page c w
  of_list c page (inl h) = (Full, placed_in c page Full h)
  of_list c page (inr h) = (NotFull, placed_in c page NotFull h)

  pub list_of : (c page : ℕ) (w : Which) → Contains (pages_in t.lists c w) page → IsOf t c page
  list_of c page Full h = inl h
  list_of c page NotFull h = inr h

  -- a page is of at most one class
  pub one_class : (c d page : ℕ) → IsOf t c page → IsOf t d page → c ≡ d
  one_class c d page x y =
      let p = of_list c page x in let q = of_list d page y in
      (a.lists.once c d p.0 q.0 page p.1.listed q.1.listed).0

  pub free_page : (page : ℕ) → page < t.pool.pages → is_in_pool t.pool.free page ≡ true → IsFreePage t page
  free_page page lt is = elim (a.placed page lt) [
    | inl f ↦ f
    | inr (inl e) ↦ absurd (true≢false (sym is ∙ e.taken))
    | inr (inr (c, w, p)) ↦ absurd (true≢false (sym is ∙ p.taken))
  ]

  pub taken_page : NoneForeign t → (page : ℕ) → page < t.pool.pages → is_in_pool t.pool.free page ≡ false → (c : ℕ) × (w : Which) × IsPageOf k t page c w
  taken_page whole page lt is = elim (a.placed page lt) [
    | inl f ↦ absurd (true≢false (sym f.free ∙ is))
    | inr (inl e) ↦ absurd (whole page lt e)
    | inr (inr p) ↦ p
  ]

  pub some_slots : (c : ℕ) → c < length k.sizes → (1 ≤ slots_in k c) × (slots_in k c ≤ 4096)
  some_slots c lt = slots_within k.page_words k.sizes c a.table.are_sizes a.table.small lt

-- the tables after one page has changed
pub tables_after : (k : ClassTable) (old new : Tables) (page : ℕ) → AreTables k old → length new.maps ≡ length old.maps
    → new.lists.pages ≡ old.lists.pages → new.lists.classes ≡ old.lists.classes
    → new.pool.pages ≡ old.pool.pages → IsPool new.pool → AreApart new.lists → ((g : ℕ) → g ≢ page → IsSame old new g) → IsPlaced k new page → AreTables k new
tables_after k old new page a maps pages classes pool is_pool apart others here = record {
  table = a.table;
  small = rw pool a.small;
  maps = maps ∙ a.maps ∙ sym pool;
  pages = pages ∙ a.pages ∙ sym pool;
  classes = classes ∙ a.classes;
  pool = is_pool;
  lists = apart;
  placed = λ g lt. elim (cases_eq g page) [
    | inl is ↦ rw is here
    | inr ne ↦ same_placed k old new g (others g ne) (a.placed g (omega arith))
  ];
}
