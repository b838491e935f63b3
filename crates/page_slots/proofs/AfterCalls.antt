-- After a slot is taken, freed or filled, the tables fit the heap's pages, and the objects are at the used slots (`Occupies`); so too after an object gets
-- other bytes or another number. Also: which object moves to a freed slot, and when one must; when no slot is left; and that another owner's tables and objects
-- stay.
use Rattle.std.proofs.Common.{◌≡◌, ℕ, Bool, true, false, ◌<◌, ◌≤◌, List, length, Some, None, arith, refl, sym, ◌∙◌, ap, subst, inl, inr}
use Rattle.std.specs.Prelude.{◌⊎◌, ◌↔◌, slice_get}
use Rattle.std.specs.List.{Contains}
use Rattle.std.proofs.lemmas.Bool.{cases_eq}
use Rattle.std.specs.FinMap.{get, insert, remove}
use Rattle.cf_base.proofs.Maps.{get_removed, get_remove_other}
use Rattle.cf_base.proofs.Sums.{insert_again}
use Rattle.page_pool.specs.Pool.{is_in_pool}
use Rattle.size_classes.specs.Table.{ClassTable}
use Rattle.class_lists.specs.declared.Which.{Which}
use Rattle.class_lists.specs.declared.Which.TheVariants.{Full, NotFull}
use Rattle.class_lists.specs.PageLists.{PageLists, pages_in}
use Rattle.page_model.specs.Held.{Held, Placed}
use Rattle.page_model.specs.Paging.{Paging, IsPaging, bound_of, class_for, classes, page_of, slots_of}
use Rattle.page_model.specs.Arrangement.{class_at, objects_on, not_full_pages, count_on, IsSlotAt, IsSound, LacksRoom}
use Rattle.page_model.specs.Steps.{IsFreePlace, MayFill, MustMove, moved_to, without}
use Rattle.page_model.proofs.CallerLemmas.{mover_is_other, removed_twice}
use Rattle.page_slots.specs.Tables.{Tables, AreOthers, AreTables, IsOf, IsPageOf, IsPlaced, IsUsed, NoneForeign}
use Rattle.page_slots.specs.Tables.{KeepsForeign, slot_at, slots_on, tables, used_in}
use Rattle.page_slots.specs.Take.{TakesAt, TakesSlot}
use Rattle.page_slots.specs.Release.{FillsFrom, IsFiller, MovesObject, Vacates}
use Rattle.page_slots.specs.Occupying.{Occupies, FitPages, FitPagesShared, class_table}
use Rattle.page_slots.proofs.Pages.{free_page, listed_page, of_list, placed_in}
use Rattle.page_slots.proofs.TablesAfterTake.{Gains, front_listed, gains_whole, taken_gains}
use Rattle.page_slots.proofs.TablesAfterFree.{Loses, loses, loses_whole}
use Rattle.page_slots.proofs.Occupied.{free_bare, occupied_renamed, stands_at}
use Rattle.page_slots.proofs.OccupiedAfterTake.{gained_address, gained_unused, occupied_gained}
use Rattle.page_slots.proofs.OccupiedAfterFree.{occupied_lost}
use Rattle.page_slots.proofs.PageNumbers.{not_full_pages_are}
use Rattle.page_slots.proofs.PageNumbers.{lacks_room}

module _ {p : Paging} (ok : IsPaging p) {m : Held} {old new : Tables} (serve : FitPagesShared p old) (o : Occupies p m old)
    (kept : AreTables (class_table p) new) where
  -- a slot of class c was taken
  module _ {c a : ℕ} (class : c < classes p) (t : TakesAt (class_table p) old c a new) where
    gains : Gains (class_table p) old new c t.page t.slot
    gains = taken_gains (class_table p) old serve.tables c class a new t kept.lists kept.pool

    pub taken_part : FitPagesShared p new
    taken_part = record { tables = kept; pages = gains.pages ∙ serve.pages }

    pub taken_serve : NoneForeign old → FitPages p new
    taken_serve whole = record { part = taken_part; whole = gains_whole (class_table p) old new c t.page t.slot gains whole }

    on_page_of : page_of p a ≡ t.page
    on_page_of = ap (page_of p) t.address ∙ (gained_address p ok m old new serve o c t.page t.slot gains).1

    -- its address is a free place for each object of the class
    pub taken_is_free : (n : ℕ) → class_for p n ≡ c → IsFreePlace p m n a
    taken_is_free n is =
        let g = gains in
        let at = (gained_address p ok m old new serve o c t.page t.slot g).0 in record {
          slot = subst (λ d. IsSlotAt p d a) (sym is) (subst (IsSlotAt p c) (sym t.address) at);
          unused = λ q y f e. gained_unused p ok m old new serve o c t.page t.slot g q y f (e ∙ t.address);
          choice = subst (λ d. ((0 < objects_on p m d (page_of p a)) × (objects_on p m d (page_of p a) < slots_of p d))
              ⊎ ((not_full_pages p m d ≡ 0) × (count_on p m (page_of p a) ≡ 0))) (sym is)
              (subst (λ page. ((0 < objects_on p m c page) × (objects_on p m c page < slots_of p c))
              ⊎ ((not_full_pages p m c ≡ 0) × (count_on p m page ≡ 0))) (sym on_page_of)
              (elim g.was [
                | inl (there, _) ↦ inl (
                    let q = placed_in (class_table p) old serve.tables c t.page NotFull there in
                    let e = o.counted c t.page (inr there) in
                    let f = q.fills in let some = f.0 in let few = f.1 in
                    (omega arith, omega arith))
                | inr (f, none, _) ↦ inr (not_full_pages_are p ok m old serve o c ∙ ap length none, free_bare p ok old serve m o t.page f)
              ]));
        }

    -- an object that is added at the address occupies the slot
    pub taken_occupied : (h : ℕ) (x : Placed) → get m h ≡ None → x.place ≡ a → class_at p x ≡ c → Occupies p (insert m h x) new
    taken_occupied h x none at is_c = occupied_gained p ok m old new serve o c t.page t.slot gains h x none (at ∙ t.address) is_c

  -- An object is removed, and its slot is now free.
  module _ (s : IsSound p m) (h : ℕ) {x : Placed} (some : get m h ≡ Some x) {c page slot : ℕ} (v : Vacates old c page slot new)
      (is_c : class_at p x ≡ c) (on : page_of p x.place ≡ page) (at : slot_at (class_table p) c x.place ≡ slot) where
    lost : Loses (class_table p) old new c page slot
    lost = loses (class_table p) old serve.tables c page slot new v kept.lists kept.pool

    pub vacated_part : FitPagesShared p new
    vacated_part = record { tables = kept; pages = lost.pages ∙ serve.pages }

    pub vacated_serve : NoneForeign old → FitPages p new
    vacated_serve whole = record { part = vacated_part; whole = loses_whole (class_table p) old new c page slot lost whole }

    pub vacated_occupied : Occupies p (remove m h) new
    vacated_occupied = occupied_lost p ok m s old new serve o c page slot lost h x some is_c on at

-- the object that moves is the one that `filler` finds
abbrev pub filler_in : {k : ClassTable} {old new : Tables} {c a : ℕ} → FillsFrom k old c a new → IsFiller k old.maps old.lists c a
filler_in f = record { page = f.page; slot = f.slot; address = f.address; front = f.front; least = f.least; used = f.vacates.used }

module _ {p : Paging} (ok : IsPaging p) {m : Held} {t : Tables} (serve : FitPagesShared p t) (o : Occupies p m t) where
  -- the object that moves into a freed slot of class c
  module _ {c a : ℕ} (f : IsFiller (class_table p) t.maps t.lists c a) where
    filler_page : Contains (pages_in t.lists c NotFull) f.page
    filler_page = front_listed (pages_in t.lists c NotFull) f.page f.front

    pub filler_used : IsUsed t c f.page f.slot
    filler_used = record { of = inr filler_page; used = f.used }

    -- there is such an object
    pub filler : (q : ℕ) × (y : Placed) × (get m q ≡ Some y) × (y.place ≡ a)
    filler = (let w = stands_at p ok t serve m o c f.page f.slot filler_used in (w.0, w.1, w.2, w.4 ∙ sym f.address))

    -- and no other object is at its address
    module _ (s : IsSound p m) (q : ℕ) {y : Placed} (found : get m q ≡ Some y) (at : y.place ≡ a) where
      pub filler_is : (class_at p y ≡ c) × (page_of p y.place ≡ f.page) × (slot_at (class_table p) c y.place ≡ f.slot)
      filler_is =
          let w = stands_at p ok t serve m o c f.page f.slot filler_used in
          elim (cases_eq q w.0) [
            | inl is ↦ (
                let e : Some y ≡ Some w.1 = sym found ∙ ap (get m) is ∙ w.2 in
                let y_is : y ≡ w.1 = cc in (
                  ap (class_at p) y_is ∙ w.3,
                  ap (λ (z : Placed). page_of p z.place) y_is
                      ∙ w.5,
                  ap (λ (z : Placed). slot_at (class_table p) c z.place) y_is ∙ w.6,
                ))
            | inr ne ↦ absurd (s.own_place w.0 w.1 q y w.2 found ne (w.4 ∙ sym f.address ∙ sym at))
          ]

      pub filler_not_full : objects_on p m c (page_of p y.place) < slots_of p c
      filler_not_full =
          let placed = placed_in (class_table p) t serve.tables c f.page NotFull filler_page in
          let e = o.counted c f.page (inr filler_page) in
          let few = placed.fills.1 in
          subst (λ page. objects_on p m c page < slots_of p c) (sym filler_is.1) (omega arith)

  pub filler_may : (x : Placed) {a : ℕ} (f : IsFiller (class_table p) t.maps t.lists (class_at p x) a)
      → IsSound p m → (q : ℕ) {y : Placed} → get m q ≡ Some y → y.place ≡ a → MayFill p m x y
  filler_may x f s q found at = record { class = (filler_is f s q found at).0; not_full = filler_not_full f s q found at }

module _ {p : Paging} (ok : IsPaging p) {m : Held} {old new : Tables} (serve : FitPagesShared p old) (o : Occupies p m old) (kept : AreTables (class_table p) new)
    (h : ℕ) {x : Placed} (some : get m h ≡ Some x) {a : ℕ} (f : FillsFrom (class_table p) old (class_at p x) a new) where
  abbrev filling : IsFiller (class_table p) old.maps old.lists (class_at p x) a
  filling = filler_in f

  filled_lost : Loses (class_table p) old new (class_at p x) f.page f.slot
  filled_lost = loses (class_table p) old serve.tables (class_at p x) f.page f.slot new f.vacates kept.lists kept.pool

  pub filled_part : FitPagesShared p new
  filled_part = record { tables = kept; pages = filled_lost.pages ∙ serve.pages }

  pub filled_serve : NoneForeign old → FitPages p new
  filled_serve whole = record { part = filled_part; whole = loses_whole (class_table p) old new (class_at p x) f.page f.slot filled_lost whole }

  -- x is freed, and the object at a moves to its address
  pub filled_occupied : IsSound p m → (q : ℕ) {y : Placed} → get m q ≡ Some y → y.place ≡ a → MustMove p m x → Occupies p (without m h x.place (Some q)) new
  filled_occupied s q {y} found at must =
      let is = filler_is ok serve o filling s q found at in
      let other = mover_is_other p ok m s h x some q y found must (filler_may ok serve o x filling s q found at) in
      let less = occupied_lost p ok m s old new serve o (class_at p x) f.page f.slot filled_lost q y found is.0 is.1 is.2 in
      let x_there : get (remove m q) h ≡ Some x = get_remove_other m q h (λ e. other (sym e)) ∙ some in
      let gone : get (remove (remove m q) h) q ≡ None = get_remove_other (remove m q) h q other ∙ get_removed m q in
      let renamed = occupied_renamed p (remove m q) new less h x x_there q y.bytes gone is.0 in
      let once : Occupies p (insert (remove m h) q (record { place = x.place; bytes = y.bytes })) new =
      subst (λ n. Occupies p n new) (removed_twice m h q (record { place = x.place; bytes = y.bytes })) renamed in
      subst (λ z. Occupies p (moved_to (remove m h) q z x.place) new) (sym found) once

module _ {p : Paging} (ok : IsPaging p) {m : Held} {t : Tables} (serve : FitPagesShared p t) (o : Occupies p m t) where
  -- if no slot was taken, the class has no slot left
  pub refused_lacks_room : NoneForeign t → (c : ℕ) (new : Tables) → TakesSlot (class_table p) t c None new → LacksRoom p m c
  refused_lacks_room whole c new r = lacks_room p ok m t serve o whole c r.0 r.1

  -- an object of the arrangement
  module _ (h : ℕ) {x : Placed} (some : get m h ≡ Some x) where
    at : IsUsed t (class_at p x) (page_of p x.place) (slot_at (class_table p) (class_at p x) x.place)
    at = o.stands h x some

    page : (w : Which) × IsPageOf (class_table p) t (page_of p x.place) (class_at p x) w
    page = of_list (class_table p) t serve.tables (class_at p x) (page_of p x.place) at.of

    -- what the calls require of its address and class
    pub found_page : page_of p x.place < length t.maps
    found_page =
        let lt = listed_page (class_table p) t serve.tables (class_at p x) (page_of p x.place) page.0 page.1.listed in
        let e = serve.tables.maps in omega arith

    -- the test for a move agrees with the model's
    pub moves_is : MovesObject (slots_on t (page_of p x.place)) (length (pages_in t.lists (class_at p x) NotFull)) (bound_of p (class_at p x)) ↔ MustMove p m x
    moves_is =
        let long = page.1.slots in
        let used = o.counted (class_at p x) (page_of p x.place) at.of in
        let part = not_full_pages_are p ok m t serve o (class_at p x) in (
          (λ v. (let full = v.full in let several = v.several in let many = v.many in
              record { full = omega arith; several = omega arith; many = omega arith })),
          (λ v. (let full = v.full in let several = v.several in let many = v.many in
              record { full = omega arith; several = omega arith; many = omega arith })),
        )

    -- if an object must move, there is one that can
    pub moves_some : MustMove p m x → class_at p x < classes p → 1 ≤ length (pages_in t.lists (class_at p x) NotFull)
    moves_some must lt =
        let part = not_full_pages_are p ok m t serve o (class_at p x) in
        let many = must.many in
        let some = ok.some (class_at p x) lt in
        omega arith

module _ {p : Paging} {m : Held} {t : Tables} (o : Occupies p m t) (h : ℕ) {x : Placed} (some : get m h ≡ Some x) where
  -- other bytes at the same address, of the same class
  pub rewritten_occupied : (bytes : List ℕ) → class_at p (record { place = x.place; bytes = bytes }) ≡ class_at p x
      → Occupies p (insert m h (record { place = x.place; bytes = bytes })) t
  rewritten_occupied bytes same =
      subst (λ n. Occupies p n t) (insert_again m h (record { place = x.place; bytes = bytes }))
      (occupied_renamed p m t o h x some h bytes (get_removed m h) same)

  -- the same object under another number
  pub renumbered_occupied : (q : ℕ) → get (remove m h) q ≡ None → Occupies p (insert (remove m h) q x) t
  renumbered_occupied q none = occupied_renamed p m t o h x some q x.bytes none refl

-- Another owner of pages of the same pool. A call that keeps the pages that are foreign to it keeps that owner's tables.
module _ (k : ClassTable) (old new : Tables) (kept : AreTables k new) (pages : new.pool.pages ≡ old.pool.pages) (keeps : KeepsForeign old new)
    (others : PageLists) (of_others : AreOthers old others)
    (theirs : AreTables k (tables old.maps others old.pool)) where
  abbrev before : Tables
  before = tables old.maps others old.pool

  abbrev after : Tables
  after = tables new.maps others new.pool

  -- its pages are still foreign to the caller
  pub others_elsewhere : AreOthers new others
  others_elsewhere c page w h = keeps.still page (of_others c page w h)

  unlisted : (page : ℕ) → page < new.pool.pages → ((c : ℕ) (w : Which) → ¬ Contains (pages_in others c w) page) → IsPlaced k after page
  unlisted page within none = by_pool (is_in_pool new.pool.free page) refl
    where
      by_pool : (free : Bool) → is_in_pool new.pool.free page ≡ free → IsPlaced k after page
      by_pool true e = inl (record { free = e; unlisted = none; unused = (free_page k new kept page within e).unused })
      by_pool false e = inr (inl (record { taken = e; unlisted = none }))

  placed : (page : ℕ) → page < new.pool.pages → IsPlaced k before page → IsPlaced k after page
  placed page within (inl f) = unlisted page within f.unlisted
  placed page within (inr (inl e)) = unlisted page within e.unlisted
  placed page within (inr (inr (c, w, q))) =
      let away = of_others c page w q.listed in
      let same : slots_on after page ≡ slots_on before page = keeps.slots page away in
      inr (inr (
        c,
        w,
        record {
          taken = (keeps.still page away).taken;
          listed = q.listed;
          slots = ap length same ∙ q.slots;
          some = q.some;
          fills = rw same q.fills;
        },
      ))

  pub others_tables : AreTables k (tables new.maps others new.pool)
  others_tables = record {
    table = theirs.table;
    small = kept.small;
    maps = kept.maps;
    pages = theirs.pages ∙ sym pages;
    classes = theirs.classes;
    pool = kept.pool;
    lists = theirs.lists;
    placed = λ page lt. placed page lt (theirs.placed page (omega arith));
  }

  others_slots : (c page : ℕ) → IsOf (tables old.maps others old.pool) c page → slots_on new page ≡ slots_on old page
  others_slots c page (inl h) = keeps.slots page (of_others c page Full h)
  others_slots c page (inr h) = keeps.slots page (of_others c page NotFull h)

  -- the other owner's objects still occupy its slots
  pub others_occupied : (p : Paging) (m : Held) → Occupies p m (tables old.maps others old.pool) → Occupies p m (tables new.maps others new.pool)
  others_occupied p m o = record {
    stands = λ h x f. (let u = o.stands h x f in
        record { of = u.of; used = ap (λ xs. slice_get xs (slot_at (class_table p) (class_at p x) x.place)) (others_slots _ _ u.of) ∙ u.used });
    filled = λ c page slot u. o.filled c page slot (record { of = u.of; used = sym (ap (λ xs. slice_get xs slot) (others_slots c page u.of)) ∙ u.used });
    counted = λ c page of. o.counted c page of ∙ sym (ap used_in (others_slots c page of));
  }

-- the pages of one owner are foreign to every other
pub mine_elsewhere : (k : ClassTable) (t : Tables) → AreTables k t → (others : PageLists) → AreOthers t others → AreOthers (tables t.maps others t.pool) t.lists
mine_elsewhere k t a others of_others c page w h = record {
  taken = (placed_in k t a c page w h).taken;
  unlisted = λ d v there. (of_others d page v there).unlisted c w h;
}
