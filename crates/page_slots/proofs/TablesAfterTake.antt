-- For `take_slot`: the tables keep their rules after a slot was taken (`Gains`). Only its page changes; it was partly full or, if its class had no such page,
-- free. Also: the head of a list is in it, and that of the pool is a page of no class.
use Rattle.std.proofs.Common.{◌≡◌, ◌≢◌, ℕ, zero, suc, Bool, true, false, ◌+◌, ◌<◌, ◌≤◌, List, [], ◌∷◌, length, set, replicate, Some, arith, refl, sym, ◌∙◌, ap}
use Rattle.std.proofs.Common.{subst, inl, inr}
use Rattle.std.specs.Prelude.{◌⊎◌, slice_get}
use Rattle.std.specs.List.{Contains}
use Rattle.std.proofs.lemmas.Bool.{cases_eq, eq-eqb}
use Rattle.std.proofs.lemmas.List.{length-set, length-replicate}
use Rattle.std.proofs.lemmas.Option.{slice_get_within}
use Rattle.cf_base.proofs.Members.{contains_head}
use Rattle.slot_bitmap.proofs.CallerLemmas.{count-set, count-replicate}
use Rattle.size_classes.specs.Table.{ClassTable}
use Rattle.class_lists.specs.declared.Which.{Which}
use Rattle.class_lists.specs.declared.Which.TheVariants.{Full, NotFull}
use Rattle.class_lists.specs.PageLists.{PageLists, AreApart, pages_in}
use Rattle.page_pool.specs.Pool.{Pool, IsPool, TakesFront, is_in_pool}
use Rattle.page_pool.proofs.CallerLemmas.{front_gone, front_below}
use Rattle.page_slots.specs.Tables.{Tables, AreTables, IsOf, IsPageOf, IsFreePage, IsForeign, JoinsList, NoneForeign}
use Rattle.page_slots.specs.Tables.{KeepsForeign, slots_in, slots_on, used_in}
use Rattle.page_slots.specs.Take.{FillsPage, TakesAt, TakesOnPartlyFullPage, TakesOnFreePage}
use Rattle.page_slots.proofs.Listing.{along, joined_here, joined_comes, joined_stays, joined_pages, joined_classes, left_comes, left_stays, left_pages}
use Rattle.page_slots.proofs.Listing.{left_classes}
use Rattle.page_slots.proofs.Pages.{IsSame, other_free, map_here, map_there, maps_long, placed_in, listed_page, list_of, free_page, some_slots}
use Rattle.page_slots.proofs.Pages.{free_not_elsewhere, of_not_elsewhere, keeps_elsewhere, still_whole, tables_after}

-- the head of a list is in it
pub front_listed : (xs : List ℕ) (page : ℕ) → slice_get xs 0 ≡ Some page → Contains xs page
front_listed [] page e = absurd (let lt = slice_get_within [] 0 page e in omega arith)
front_listed (x ∷ xs) page e =
    (let same : Some x ≡ Some page = e in let is : x ≡ page = cc in along page _ _ (ap (λ y. y ∷ xs) (sym is)) (contains_head page xs))

pub free_head : (page : ℕ) (free : List ℕ) → is_in_pool (page ∷ free) page ≡ true
free_head page free = (let e = eq-eqb page page refl in rw e)

pub first_of : (n : ℕ) → 1 ≤ n → slice_get (replicate n false) 0 ≡ Some false
first_of zero h = absurd (omega arith)
first_of (suc n) h = refl

-- the first page of the pool is one of the pages, and of no class
pub pool_front : (k : ClassTable) (t : Tables) → AreTables k t → (page : ℕ) (pool : Pool) → TakesFront t.pool (Some page) pool → (page < t.pool.pages)
    × IsFreePage t page
pool_front k t a page pool f =
    let P : List ℕ → Type 0 = λ free. IsPool (record { pages = t.pool.pages; free = free }) in
    let inside = front_below t.pool.pages page pool.free (subst P f.0 a.pool) in
    (inside, free_page k t a page inside (ap (λ free. is_in_pool free page) f.0 ∙ free_head page pool.free))

-- How taking a slot changes the tables: only its page changes, and there the other slots stay; the page was partly full, or free if the class had no partly
-- full page.
pub record Gains (k : ClassTable) (old new : Tables) (c page slot : ℕ) : Type 0 where
  pub others : (g : ℕ) → g ≢ page → IsSame old new g
  pub before : List Bool
  pub was : (Contains (pages_in old.lists c NotFull) page × (before ≡ slots_on old page))
      ⊎ (IsFreePage old page × (pages_in old.lists c NotFull ≡ []) × (before ≡ replicate (slots_in k c) false))
  pub free : slice_get before slot ≡ Some false
  pub after : slots_on new page ≡ set before slot true
  pub of : IsOf new c page
  pub within : page < old.pool.pages
  pub few : slot < slots_in k c
  pub class : c < length k.sizes
  pub pages : new.pool.pages ≡ old.pool.pages
  pub kept : AreTables k new

-- the page isn't foreign, before or after
module _ (k : ClassTable) (old new : Tables) (c page slot : ℕ) (g : Gains k old new c page slot) where
  pub gains_others : KeepsForeign old new
  gains_others = keeps_elsewhere old new page was g.others
    where
      was : ¬ IsForeign old page
      was = elim g.was [
        | inl (there, _) ↦ of_not_elsewhere old c page (inr there)
        | inr (f, _, _) ↦ free_not_elsewhere old page f
      ]

  pub gains_whole : NoneForeign old → NoneForeign new
  gains_whole = still_whole old new page g.pages (of_not_elsewhere new c page g.of) g.others

module _ (k : ClassTable) (old : Tables) (a : AreTables k old) (c page : ℕ) (new : Tables) (apart : AreApart new.lists) where
  -- the slot is on a partly full page
  module _ (slot : ℕ) (t : TakesOnPartlyFullPage old c page slot new) where
    there : Contains (pages_in old.lists c NotFull) page
    there = front_listed (pages_in old.lists c NotFull) page t.front

    was : IsPageOf k old page c NotFull
    was = placed_in k old a c page NotFull there

    lt : page < length old.maps
    lt = (let l = listed_page k old a c page NotFull there in let e = a.maps in omega arith)

    now : slots_on new page ≡ set (slots_on old page) slot true
    now = map_here old.maps new.maps page _ t.maps lt

    pub used : used_in (slots_on new page) ≡ used_in (slots_on old page) + 1
    used = ap used_in now ∙ count-set (slots_on old page) slot t.free

    pub long : length (slots_on new page) ≡ slots_in k c
    long = ap length now ∙ length-set (slots_on old page) slot true ∙ was.slots

    pool_same : (g : ℕ) → is_in_pool new.pool.free g ≡ is_in_pool old.pool.free g
    pool_same g = ap (λ (p : Pool). is_in_pool p.free g) t.pool

    -- the other pages stay in their lists, and the page is in a list of class c afterwards, whether it is filled or not
    record Listed : Type 0 where
      comes : (g d : ℕ) (v : Which) → g ≢ page → Contains (pages_in old.lists d v) g → Contains (pages_in new.lists d v) g
      stays : (g d : ℕ) (v : Which) → g ≢ page → Contains (pages_in new.lists d v) g → Contains (pages_in old.lists d v) g
      pages : new.lists.pages ≡ old.lists.pages
      classes : new.lists.classes ≡ old.lists.classes
      which : Which
      here : IsPageOf k new page c which

    listed_full : FillsPage old.lists c page new.lists → used_in (slots_on new page) ≡ length (slots_on new page) → Listed
    listed_full f is = record {
      comes = λ g d v ne h. joined_comes _ c Full page _ f.joins g d v (left_comes _ c NotFull page _ f.leaves g d v ne h);
      stays = λ g d v ne h. left_stays _ c NotFull page _ f.leaves g d v (joined_stays _ c Full page _ f.joins g d v ne h);
      pages = joined_pages _ c Full page _ f.joins ∙ left_pages _ c NotFull page _ f.leaves;
      classes = joined_classes _ c Full page _ f.joins ∙ left_classes _ c NotFull page _ f.leaves;
      which = Full;
      here = record { taken = pool_same page ∙ was.taken; listed = joined_here _ c Full page _ f.joins; slots = long; some = was.some; fills = is ∙ long };
    }

    listed_open : new.lists ≡ old.lists → used_in (slots_on new page) ≢ length (slots_on new page) → Listed
    listed_open e ne = record {
      comes = λ g d v _ h. along g _ _ (ap (λ l. pages_in l d v) (sym e)) h;
      stays = λ g d v _ h. along g _ _ (ap (λ l. pages_in l d v) e) h;
      pages = ap (λ (l : PageLists). l.pages) e;
      classes = ap (λ (l : PageLists). l.classes) e;
      which = NotFull;
      here = record {
        taken = pool_same page ∙ was.taken;
        listed = along page _ _ (ap (λ l. pages_in l c NotFull) (sym e)) there;
        slots = long;
        some = was.some;
        fills = (let u = used in let l = long in let f = was.fills in let some = f.0 in let few = f.1 in (omega arith, omega arith));
      };
    }

    listed : Listed
    listed = elim (cases_eq (used_in (slots_on new page)) (length (slots_on new page))) [
      | inl is ↦ listed_full (t.filled is) is
      | inr ne ↦ listed_open (t.not_filled ne) ne
    ]

    same : (g : ℕ) → g ≢ page → IsSame old new g
    same g ne = record {
      free = pool_same g;
      comes = λ d v h. listed.comes g d v ne h;
      stays = λ d v h. listed.stays g d v ne h;
      slots = map_there old.maps new.maps page _ t.maps g ne;
    }

    pub gains_open : IsPool new.pool → Gains k old new c page slot
    gains_open pool = record {
      others = same;
      before = slots_on old page;
      was = inl (there, refl);
      free = t.free;
      after = now;
      of = list_of k new kept c page listed.which listed.here.listed;
      within = listed_page k old a c page NotFull there;
      few = (let l = slice_get_within (slots_on old page) slot false t.free in let e = was.slots in omega arith);
      class = (let l = a.lists.class c NotFull page there in let e = a.classes in omega arith);
      pages = ap (λ (p : Pool). p.pages) t.pool;
      kept = kept;
    }
      where
        kept : AreTables k new
        kept = tables_after k old new page a (maps_long old.maps new.maps page _ t.maps) listed.pages listed.classes (ap (λ (p : Pool). p.pages) t.pool)
            pool apart same (inr (inr (c, listed.which, listed.here)))

  -- the slot is on a page of the pool
  module _ (class : c < length k.sizes) (t : TakesOnFreePage k old c page new) where
    front : old.pool.free ≡ page ∷ new.pool.free
    front = t.front.0

    pooled : IsPool (record { pages = old.pool.pages; free = page ∷ new.pool.free })
    pooled = let P : List ℕ → Type 0 = λ free. IsPool (record { pages = old.pool.pages; free = free }) in subst P front a.pool

    inside : page < old.pool.pages
    inside = (pool_front k old a page new.pool t.front).0

    was_free : IsFreePage old page
    was_free = (pool_front k old a page new.pool t.front).1

    some : 1 ≤ slots_in k c
    some = (some_slots k old a c class).0

    abbrev fresh : List Bool
    fresh = replicate (slots_in k c) false

    fresh_long : length fresh ≡ slots_in k c
    fresh_long = length-replicate (slots_in k c) false

    first_free : slice_get fresh 0 ≡ Some false
    first_free = first_of (slots_in k c) some

    now_free : slots_on new page ≡ set fresh 0 true
    now_free = map_here old.maps new.maps page _ t.maps (let e = a.maps in let l = inside in omega arith)

    used_one : used_in (slots_on new page) ≡ 1
    used_one = (let e = ap used_in now_free in let f = count-set fresh 0 first_free in let g = count-replicate (slots_in k c) in omega arith)

    long_free : length (slots_on new page) ≡ slots_in k c
    long_free = ap length now_free ∙ length-set fresh 0 true ∙ fresh_long

    gone : is_in_pool new.pool.free page ≡ false
    gone = front_gone old.pool.pages page new.pool.free pooled

    free_same : (g : ℕ) → g ≢ page → is_in_pool new.pool.free g ≡ is_in_pool old.pool.free g
    free_same g ne = sym (ap (λ free. is_in_pool free g) front ∙ other_free new.pool.free page g ne)

    record Joined : Type 0 where
      which : Which
      joins : JoinsList old.lists c which page new.lists
      here : IsPageOf k new page c which

    joined_free : Joined
    joined_free = elim (cases_eq (slots_in k c) 1) [
      | inl is ↦ record {
        which = Full;
        joins = t.filled is;
        here = record { taken = gone; listed = joined_here _ c Full page _ (t.filled is); slots = long_free; some = some; fills = used_one ∙ sym is };
      }
      | inr ne ↦ record {
        which = NotFull;
        joins = t.not_filled ne;
        here = record {
          taken = gone;
          listed = joined_here _ c NotFull page _ (t.not_filled ne);
          slots = long_free;
          some = some;
          fills = (let u = used_one in let s = some in (omega arith, omega arith));
        };
      }
    ]

    same_free : (g : ℕ) → g ≢ page → IsSame old new g
    same_free g ne = record {
      free = free_same g ne;
      comes = λ d v h. joined_comes _ c joined_free.which page _ joined_free.joins g d v h;
      stays = λ d v h. joined_stays _ c joined_free.which page _ joined_free.joins g d v ne h;
      slots = map_there old.maps new.maps page _ t.maps g ne;
    }

    pub gains_free : IsPool new.pool → Gains k old new c page 0
    gains_free pool = record {
      others = same_free;
      before = fresh;
      was = inr (was_free, t.none, refl);
      free = first_free;
      after = now_free;
      of = list_of k new kept c page joined_free.which joined_free.here.listed;
      within = inside;
      few = (let s = some in omega arith);
      class = class;
      pages = t.front.1;
      kept = kept;
    }
      where
        kept : AreTables k new
        kept = tables_after k old new page a (maps_long old.maps new.maps page _ t.maps) (joined_pages _ c joined_free.which page _ joined_free.joins)
            (joined_classes _ c joined_free.which page _ joined_free.joins) t.front.1 pool apart same_free (inr (inr (c, joined_free.which, joined_free.here)))

-- in both cases: the slot is on a partly full page, or on a page of the pool
module _ (k : ClassTable) (old : Tables) (a : AreTables k old) (c : ℕ) (class : c < length k.sizes) (place : ℕ) (new : Tables)
    (t : TakesAt k old c place new) (apart : AreApart new.lists) (pool : IsPool new.pool) where
  pub taken_gains : Gains k old new c t.page t.slot
  taken_gains = elim t.taken [
    | inl on ↦ gains_open k old a c t.page new apart t.slot on pool
    | inr (first, on) ↦ subst (λ s. Gains k old new c t.page s) (sym first) (gains_free k old a c t.page new apart class on pool)
  ]

  pub taken_others : KeepsForeign old new
  taken_others = gains_others k old new c t.page t.slot taken_gains
