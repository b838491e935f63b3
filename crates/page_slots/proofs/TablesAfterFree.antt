-- For `drop_slot` and `fill_slot`: the tables keep their rules after a slot became free (`Loses`). Only its page changes; it stays in its class or, if it is
-- empty, is free.
use Rattle.std.proofs.Common.{◌≡◌, ◌≢◌, ℕ, true, false, ◌+◌, ◌<◌, length, set, Some, arith, refl, sym, ◌∙◌, ap, subst, inl, inr}
use Rattle.std.specs.Prelude.{◌⊎◌, slice_get}
use Rattle.std.specs.List.{Contains}
use Rattle.std.proofs.lemmas.Bool.{cases_eq}
use Rattle.std.proofs.lemmas.List.{length-set}
use Rattle.slot_bitmap.proofs.CallerLemmas.{count-unset}
use Rattle.size_classes.specs.Table.{ClassTable}
use Rattle.class_lists.specs.declared.Which.{Which}
use Rattle.class_lists.specs.declared.Which.TheVariants.{Full, NotFull}
use Rattle.class_lists.specs.PageLists.{PageLists, AreApart, pages_in}
use Rattle.page_pool.specs.Pool.{Pool, IsPool, is_in_pool}
use Rattle.page_slots.specs.Tables.{Tables, AreTables, IsOf, IsPlaced, IsPageOf, IsFreePage, IsForeign, NoneForeign}
use Rattle.page_slots.specs.Tables.{KeepsForeign, slots_in, slots_on, used_in}
use Rattle.page_slots.specs.Release.{Vacates}
use Rattle.page_slots.proofs.Listing.{along, joined_here, joined_comes, joined_stays, joined_pages, joined_classes, left_comes, left_stays, left_pages}
use Rattle.page_slots.proofs.Listing.{left_classes, left_unlisted}
use Rattle.page_slots.proofs.Pages.{IsSame, other_free, map_here, map_there, maps_long, placed_in, listed_page, list_of, free_not_elsewhere, of_not_elsewhere}
use Rattle.page_slots.proofs.Pages.{keeps_elsewhere, still_whole, tables_after}
use Rattle.page_slots.proofs.TablesAfterTake.{free_head}

-- How freeing a slot changes the tables: only its page changes, and there the other slots stay; the page remains of the class, or is free and empty.
pub record Loses (k : ClassTable) (old new : Tables) (c page slot : ℕ) : Type 0 where
  pub others : (g : ℕ) → g ≢ page → IsSame old new g
  pub of : IsOf old c page
  pub used : slice_get (slots_on old page) slot ≡ Some true
  pub after : slots_on new page ≡ set (slots_on old page) slot false
  pub now : IsOf new c page ⊎ (IsFreePage new page × (used_in (slots_on new page) ≡ 0))
  pub pages : new.pool.pages ≡ old.pool.pages
  pub kept : AreTables k new

-- the page isn't foreign, before or after
module _ (k : ClassTable) (old new : Tables) (c page slot : ℕ) (l : Loses k old new c page slot) where
  pub loses_others : KeepsForeign old new
  loses_others = keeps_elsewhere old new page (of_not_elsewhere old c page l.of) l.others

  pub loses_whole : NoneForeign old → NoneForeign new
  loses_whole = still_whole old new page l.pages there l.others
    where
      there : ¬ IsForeign new page
      there = elim l.now [
        | inl of ↦ of_not_elsewhere new c page of
        | inr (f, _) ↦ free_not_elsewhere new page f
      ]

module _ (k : ClassTable) (old : Tables) (a : AreTables k old) (c page slot : ℕ) (new : Tables) (v : Vacates old c page slot new)
    (apart : AreApart new.lists) (pool : IsPool new.pool) where
  was : IsPageOf k old page c v.which
  was = placed_in k old a c page v.which v.listed

  lt : page < length old.maps
  lt = (let l = listed_page k old a c page v.which v.listed in let e = a.maps in omega arith)

  after : slots_on new page ≡ set (slots_on old page) slot false
  after = map_here old.maps new.maps page _ v.maps lt

  pub used : used_in (slots_on new page) + 1 ≡ used_in (slots_on old page)
  used = ap (λ xs. used_in xs + 1) after ∙ count-unset (slots_on old page) slot v.used

  long : length (slots_on new page) ≡ slots_in k c
  long = ap length after ∙ length-set (slots_on old page) slot false ∙ was.slots

  -- the other pages stay in their lists and in the pool, and the page is free or in a list of class c afterwards
  record Left : Type 0 where
    free : (g : ℕ) → g ≢ page → is_in_pool new.pool.free g ≡ is_in_pool old.pool.free g
    comes : (g d : ℕ) (w : Which) → g ≢ page → Contains (pages_in old.lists d w) g → Contains (pages_in new.lists d w) g
    stays : (g d : ℕ) (w : Which) → g ≢ page → Contains (pages_in new.lists d w) g → Contains (pages_in old.lists d w) g
    pages : new.lists.pages ≡ old.lists.pages
    classes : new.lists.classes ≡ old.lists.classes
    pool_pages : new.pool.pages ≡ old.pool.pages
    here : (IsFreePage new page × (used_in (slots_on new page) ≡ 0)) ⊎ ((w : Which) × IsPageOf k new page c w)

  emptied : used_in (slots_on new page) ≡ 0 → Left
  emptied is = record {
    free = λ g ne. ap (λ (p : Pool). is_in_pool p.free g) (v.returned is) ∙ other_free old.pool.free page g ne;
    comes = λ g d w ne h. left_comes _ c v.which page _ (v.emptied is) g d w ne h;
    stays = λ g d w ne h. left_stays _ c v.which page _ (v.emptied is) g d w h;
    pages = left_pages _ c v.which page _ (v.emptied is);
    classes = left_classes _ c v.which page _ (v.emptied is);
    pool_pages = ap (λ (p : Pool). p.pages) (v.returned is);
    here = inl (
      record {
        free = ap (λ (p : Pool). is_in_pool p.free page) (v.returned is) ∙ free_head page old.pool.free;
        unlisted = left_unlisted _ c v.which page _ (v.emptied is) a.lists v.listed;
        unused = is;
      },
      is,
    );
  }

  pool_same : used_in (slots_on new page) ≢ 0 → (g : ℕ) → is_in_pool new.pool.free g ≡ is_in_pool old.pool.free g
  pool_same ne g = ap (λ (p : Pool). is_in_pool p.free g) (v.kept ne)

  opened : used_in (slots_on new page) ≢ 0 → v.which ≡ Full → Left
  opened ne is =
      let o = v.opened ne is in
      let full : IsPageOf k old page c Full = subst (λ w. IsPageOf k old page c w) is was in record {
        free = λ g _. pool_same ne g;
        comes = λ g d w other h. joined_comes _ c NotFull page _ o.joins g d w (left_comes _ c Full page _ o.leaves g d w other h);
        stays = λ g d w other h. left_stays _ c Full page _ o.leaves g d w (joined_stays _ c NotFull page _ o.joins g d w other h);
        pages = joined_pages _ c NotFull page _ o.joins ∙ left_pages _ c Full page _ o.leaves;
        classes = joined_classes _ c NotFull page _ o.joins ∙ left_classes _ c Full page _ o.leaves;
        pool_pages = ap (λ (p : Pool). p.pages) (v.kept ne);
        here = inr (
          NotFull,
          record {
            taken = pool_same ne page ∙ was.taken;
            listed = joined_here _ c NotFull page _ o.joins;
            slots = long;
            some = was.some;
            fills = (let u = used in let f = full.fills in (omega arith, omega arith));
          },
        );
      }

  still : used_in (slots_on new page) ≢ 0 → v.which ≡ NotFull → Left
  still ne is =
      let e = v.still ne is in
      let part : IsPageOf k old page c NotFull = subst (λ w. IsPageOf k old page c w) is was in record {
        free = λ g _. pool_same ne g;
        comes = λ g d w _ h. along g _ _ (ap (λ l. pages_in l d w) (sym e)) h;
        stays = λ g d w _ h. along g _ _ (ap (λ l. pages_in l d w) e) h;
        pages = ap (λ (l : PageLists). l.pages) e;
        classes = ap (λ (l : PageLists). l.classes) e;
        pool_pages = ap (λ (p : Pool). p.pages) (v.kept ne);
        here = inr (
          NotFull,
          record {
            taken = pool_same ne page ∙ was.taken;
            listed = along page _ _ (ap (λ l. pages_in l c NotFull) (sym e)) part.listed;
            slots = long;
            some = was.some;
            fills = (let u = used in let f = part.fills in let few = f.1 in (omega arith, omega arith));
          },
        );
      }

  by_list : (w : Which) → v.which ≡ w → used_in (slots_on new page) ≢ 0 → Left
  by_list Full is ne = opened ne is
  by_list NotFull is ne = still ne is

  left : Left
  left = elim (cases_eq (used_in (slots_on new page)) 0) [
    | inl is ↦ emptied is
    | inr ne ↦ by_list v.which refl ne
  ]

  same : (g : ℕ) → g ≢ page → IsSame old new g
  same g ne = record {
    free = left.free g ne;
    comes = λ d w h. left.comes g d w ne h;
    stays = λ d w h. left.stays g d w ne h;
    slots = map_there old.maps new.maps page _ v.maps g ne;
  }

  placed : IsPlaced k new page
  placed = elim left.here [
    | inl f ↦ inl f.0
    | inr (w, p) ↦ inr (inr (c, w, p))
  ]

  kept : AreTables k new
  kept = tables_after k old new page a (maps_long old.maps new.maps page _ v.maps) left.pages left.classes left.pool_pages pool apart same placed

  pub loses : Loses k old new c page slot
  loses = record {
    others = same;
    of = list_of k old a c page v.which v.listed;
    used = v.used;
    after = after;
    now = elim left.here [
      | inl f ↦ inr f
      | inr (w, p) ↦ inl (list_of k new kept c page w p.listed)
    ];
    pages = left.pool_pages;
    kept = kept;
  }
