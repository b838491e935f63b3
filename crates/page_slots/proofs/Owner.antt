-- What is known of the objects of an owner of pages if a heap's invariant holds (`OwnsObjects`): their number, the class and the slot of each, the bytes that a
-- read finds, whether another object must move to that slot, and that object, its slot and the tables then. Also how many classes a class table has, and which
-- for a length.
use Rattle.std.proofs.Common.{◌≡◌, ◌≢◌, ℕ, ◌+◌, ◌*◌, ◌/◌, ◌%◌, ◌^◌, ◌<◌, ◌≤◌, List, length, get_or, take, drop, Some, None, arith, sym, ◌∙◌}
use Rattle.std.proofs.Common.{ap, subst, inl, inr}
use Rattle.std.specs.Prelude.{◌⊎◌, option_map}
use Rattle.std.proofs.lemmas.Bool.{cases_lt}
use Rattle.std.proofs.lemmas.Grind.{same_number_lists}
use Rattle.std.proofs.lemmas.List.{get_or-take, get_or-drop, length-take, length-drop}
use Rattle.std.specs.FinMap.{get, len, remove}
use Rattle.cf_base.specs.Classes.{class_of, need}
use Rattle.cf_base.proofs.MapValues.{get-map_values}
use Rattle.cf_base.proofs.Maps.{get_remove_other}
use Rattle.cf_base.proofs.Values.{len-map_values}
use Rattle.class_lists.specs.PageLists.{pages_in}
use Rattle.class_lists.specs.declared.Which.TheVariants.{NotFull}
use Rattle.page_model.specs.Arrangement.{IsSound, class_at}
use Rattle.page_model.specs.Bytes.{byte_of, bytes_at}
use Rattle.page_model.specs.Held.{Placed, objects, places}
use Rattle.page_model.specs.Image.{slot_for}
use Rattle.page_model.specs.Paging.{IsPaging, Paging, bound_of, class_for, classes, page_of, slot_words}
use Rattle.page_model.specs.Steps.{MayFill, Moves, MustMove}
use Rattle.page_model.proofs.CallerLemmas.{byte_is, bytes_held, bytes_long, class_fits, class_holds, class_known, class_none, held_at_is}
use Rattle.page_model.proofs.CallerLemmas.{mover_is_other, object_inside, places-held_at}
use Rattle.page_model.proofs.CallerLemmas.{slot_fits, sound_apart_from}
use Rattle.size_classes.specs.Table.{ClassTable}
use Rattle.page_slots.specs.Occupying.{FitPagesShared, Occupies, class_table}
use Rattle.page_slots.specs.Owner.{HoldsBytesAt, IsObjectAt, MustMoveInto, Owner, owned, placed_at}
use Rattle.page_slots.specs.Release.{FillsFrom, MovesObject}
use Rattle.page_slots.specs.Tables.{AreTables, IsUsed, Tables, page_at, slot_at, slots_on}
use Rattle.page_slots.proofs.AfterCalls.{filler, filler_in, filler_may, found_page, moves_is, moves_some}

pub as_many : (p : Paging) {t : ClassTable} → class_table p ≡ t → length t.sizes ≡ classes p
as_many p table = ap (λ (t : ClassTable). length t.sizes) (sym table)

-- the classes that a table finds
module _ {p : Paging} (ok : IsPaging p) {t : ClassTable} (table : class_table p ≡ t) where
  -- if the table has a class for `bytes` bytes, an object of this length fits a page, and the class is that of the model
  pub class_is : (bytes c : ℕ) → Some c ≡ class_of t.sizes bytes → (need bytes ≤ p.page_words) × (class_for p bytes ≡ c) × (c < classes p)
  class_is bytes c e =
      let e' : Some c ≡ class_of p.sizes bytes = subst (λ (s : ClassTable). Some c ≡ class_of s.sizes bytes) (sym table) e in
      elim (cases_lt p.page_words (need bytes)) [
        | inl more ↦ absurd (let z : Some c ≡ None = e' ∙ class_none p ok bytes more in cc)
        | inr fits ↦ (
            let lt = class_fits p ok bytes fits in
            let z : Some c ≡ Some (class_for p bytes) = e' ∙ class_known p ok bytes lt in
            let is : class_for p bytes ≡ c = cc in
            (fits, is, subst (λ c. c < classes p) is lt))
      ]

  pub class_some : (bytes : ℕ) → class_for p bytes < classes p → None ≡ class_of t.sizes bytes → ⊥
  class_some bytes lt none =
      let e : None ≡ class_of p.sizes bytes = subst (λ (s : ClassTable). None ≡ class_of s.sizes bytes) (sym table) none in
      absurd (let z : None ≡ Some (class_for p bytes) = e ∙ class_known p ok bytes lt in cc)

module _ (w : Owner) where
  pub held_len : len (owned w) ≡ len w.places
  held_len = len-map_values (λ a. placed_at w a) w.places

  pub places_are : w.places ≡ places (owned w)
  places_are = sym (places-held_at w.words w.places)

  -- a number without an address is not live; the address of a live one is its object's
  pub no_place : (q : ℕ) → get w.places q ≡ None → get (owned w) q ≡ None
  no_place q e = get-map_values (λ a. placed_at w a) w.places q ∙ ap (option_map (λ a. placed_at w a)) e

  pub place_known : (q : ℕ) (x : Placed) → get (owned w) q ≡ Some x → get w.places q ≡ Some x.place
  place_known q x e = (held_at_is w.words w.places q x e).0

-- what a heap's invariant says of an owner
pub record OwnsObjects (w : Owner) : Type 0 where
  pub table : class_table w.paging ≡ w.classes
  pub paged : IsPaging w.paging
  pub serve : FitPagesShared w.paging w.tables
  pub sound : IsSound w.paging (owned w)
  pub occupied : Occupies w.paging (owned w) w.tables
  pub long : length w.words ≡ w.paging.pages * w.paging.page_words
  pub bounds : (c : ℕ) → c < classes w.paging → w.bound c ≡ bound_of w.paging c

module _ {w : Owner} (k : OwnsObjects w) where
  -- the object q, at the address a
  module _ (q a : ℕ) (some : get w.places q ≡ Some a) where
    pub held : get (owned w) q ≡ Some (placed_at w a)
    held = get-map_values (λ a. placed_at w a) w.places q ∙ ap (option_map (λ a. placed_at w a)) some

    class_there : class_for w.paging (length (bytes_at w.words a)) < classes w.paging
    class_there = (k.sound.slots q (placed_at w a) held).class

    -- its slot is in the region, and holds its bytes
    pub slot_there : a + slot_for w.paging (length (bytes_at w.words a)) ≤ length w.words
    slot_there = (let l = object_inside w.paging (owned w) k.sound q (placed_at w a) held in let long = k.long in omega arith)

    pub holds : 1 + (length (bytes_at w.words a) + 7) / 8 ≤ slot_for w.paging (length (bytes_at w.words a))
    holds = class_holds w.paging k.paged (length (bytes_at w.words a)) class_there

    pub slot_small : slot_for w.paging (length (bytes_at w.words a)) ≤ 16384
    slot_small =
        let fits = slot_fits w.paging k.paged (class_for w.paging (length (bytes_at w.words a))) class_there in
        let small = k.serve.tables.table.small in
        omega arith

    pub place_in : a < length w.words
    place_in = (let s = slot_there in let o = holds in omega arith)

    pub bytes_few : length (bytes_at w.words a) ≤ 131072
    bytes_few = (let o = holds in let s = slot_small in omega arith)

    -- its header shows its length, which has a class
    module _ (size : ℕ) (shown : size ≡ get_or w.words a 0 / 2 ^ 32) where
      is_long : length (bytes_at w.words a) ≡ size
      is_long = bytes_long w.words a ∙ sym shown

      pub has_class : None ≡ class_of w.classes.sizes size → ⊥
      has_class none = class_some k.paged k.table size (subst (λ n. class_for w.paging n < classes w.paging) is_long class_there) none

      pub object_at : (c : ℕ) → Some c ≡ class_of w.classes.sizes size → IsObjectAt w q a size c
      object_at c found = (let is = class_is k.paged k.table size c found in record { known = some; long = is_long; class = is.1; in_range = is.2 })

  -- `count` bytes of object q from byte `at` on
  module _ (q at count a : ℕ) (l : HoldsBytesAt w q at count a) where
    pub words_in : 1 ≤ count → a + 1 + at / 8 + (at % 8 + count + 7) / 8 ≤ length w.words
    words_in some =
        let s = slot_there q a l.found in
        let o = holds q a l.found in
        let within = l.within in
        omega arith

    pub count_few : count ≤ 131072
    count_few = (let f = bytes_few q a l.found in let within = l.within in omega arith)

    -- the bytes that were read
    pub bytes_read : (out : List ℕ) → length out ≡ count
        → ((j : ℕ) → j < length out → get_or out j 0 ≡ byte_of ((at % 8 + j) % 8) (get_or w.words (a + 1 + at / 8 + (at % 8 + j) / 8) 0))
        → out ≡ take count (drop at (bytes_at w.words a))
    bytes_read out long each =
        let within = l.within in
        let lt = length-take count (drop at (bytes_at w.words a)) in
        let ld = length-drop at (bytes_at w.words a) in
        same_number_lists out (take count (drop at (bytes_at w.words a))) (omega arith) (λ j less.
        let same : a + 1 + at / 8 + (at % 8 + j) / 8 ≡ a + 1 + (at + j) / 8 = omega arith in
        let rest : (at % 8 + j) % 8 ≡ (at + j) % 8 = omega arith in
        each j less ∙ ap (λ i. byte_of ((at % 8 + j) % 8) (get_or w.words i 0)) same ∙ ap (λ r. byte_of r (get_or w.words (a + 1 + (at + j) / 8) 0)) rest
        ∙ sym (byte_is w.words a (at + j) (omega arith)) ∙ sym (get_or-drop at (bytes_at w.words a) j 0)
        ∙ sym (get_or-take count (drop at (bytes_at w.words a)) j 0 (omega arith)))

  -- the object q of class c, at the address a
  module _ {q a size c : ℕ} (o : IsObjectAt w q a size c) where
    abbrev pub it : Placed
    it = placed_at w a

    pub it_found : get (owned w) q ≡ Some (placed_at w a)
    it_found = held q a o.known

    pub it_class : class_at w.paging (placed_at w a) ≡ c
    it_class = ap (class_for w.paging) o.long ∙ o.class

    pub size_is : get_or w.classes.sizes c 0 ≡ slot_words w.paging c
    size_is = ap (λ (t : ClassTable). get_or t.sizes c 0) (sym k.table)

    pub it_slot : get_or w.classes.sizes c 0 ≡ slot_for w.paging (length (bytes_at w.words a))
    it_slot = size_is ∙ ap (slot_words w.paging) (sym it_class)

    pub it_inside : a + get_or w.classes.sizes c 0 ≤ length w.words
    it_inside = (let s = slot_there q a o.known in let e = it_slot in omega arith)

    pub it_bytes : get (objects (owned w)) q ≡ Some (bytes_at w.words a)
    it_bytes = bytes_held (owned w) q (placed_at w a) it_found

    pub class_listed : c < length w.classes.sizes
    class_listed = (let lt = o.in_range in let e = as_many w.paging k.table in omega arith)

    pub page_same : page_of w.paging a ≡ page_at w.classes a
    page_same = ap (λ (t : ClassTable). page_at t a) k.table

    pub slot_same : slot_at (class_table w.paging) c a ≡ slot_at w.classes c a
    slot_same = ap (λ (t : ClassTable). slot_at t c a) k.table

    pub it_used : IsUsed w.tables c (page_at w.classes a) (slot_at w.classes c a)
    it_used =
        let u = k.occupied.stands q (placed_at w a) it_found in
        let v : IsUsed w.tables c (page_of w.paging a) (slot_at (class_table w.paging) c a) =
        subst (λ d. IsUsed w.tables d (page_of w.paging a) (slot_at (class_table w.paging) d a)) it_class u in
        subst (λ (t : ClassTable). IsUsed w.tables c (page_at t a) (slot_at t c a)) k.table v

    pub page_there : page_at w.classes a < length w.tables.maps
    page_there = subst (λ g. g < length w.tables.maps) page_same (found_page k.paged k.serve k.occupied q it_found)

    along : (g g' d d' b b' : ℕ) → g ≡ g' → d ≡ d' → b ≡ b' → MovesObject (slots_on w.tables g) (length (pages_in w.tables.lists d NotFull)) b
        → MovesObject (slots_on w.tables g') (length (pages_in w.tables.lists d' NotFull)) b'
    along g g' d d' b b' eg ed eb m =
        subst (λ b. MovesObject (slots_on w.tables g') (length (pages_in w.tables.lists d' NotFull)) b) eb
        (subst (λ d. MovesObject (slots_on w.tables g') (length (pages_in w.tables.lists d NotFull)) b) ed
        (subst (λ g. MovesObject (slots_on w.tables g) (length (pages_in w.tables.lists d NotFull)) b) eg m))

    bound_same : w.bound c ≡ bound_of w.paging (class_at w.paging (placed_at w a))
    bound_same = k.bounds c o.in_range ∙ ap (bound_of w.paging) (sym it_class)

    -- the test of a move is the model's
    pub must : MustMoveInto w a c → MustMove w.paging (owned w) (placed_at w a)
    must v = (moves_is k.paged k.serve k.occupied q it_found).0 (along _ _ _ _ _ _ (sym page_same) (sym it_class) bound_same v)

    pub moving : MustMove w.paging (owned w) (placed_at w a) → MustMoveInto w a c
    moving v = along _ _ _ _ _ _ page_same it_class (sym bound_same) ((moves_is k.paged k.serve k.occupied q it_found).1 v)

    pub some_not_full : MustMoveInto w a c → 1 ≤ length (pages_in w.tables.lists c NotFull)
    some_not_full v =
        let l = moves_some k.paged k.serve k.occupied q it_found (must v) (let e = it_class in let lt = o.in_range in omega arith) in
        subst (λ d. 1 ≤ length (pages_in w.tables.lists d NotFull)) it_class l

-- A free of object q (address a, `size` bytes, class c) that moves another object to a. The slot that this object leaves, at b, is free in the tables `new`.
pub record Fills (w : Owner) (q a size c b : ℕ) (new : Tables) : Type 0 where
  pub valid : OwnsObjects w
  pub object : IsObjectAt w q a size c
  pub moves : MustMoveInto w a c
  pub filled : FillsFrom w.classes w.tables c b new
  pub tables : AreTables w.classes new

module _ {w : Owner} {q a size c b : ℕ} {new : Tables} (f : Fills w q a size c b new) where
  abbrev k : OwnsObjects w
  k = f.valid

  abbrev o : IsObjectAt w q a size c
  o = f.object

  pub must_fill : MustMove w.paging (owned w) (placed_at w a)
  must_fill = must k o f.moves

  pub other_fills : FillsFrom (class_table w.paging) w.tables (class_at w.paging (placed_at w a)) b new
  other_fills = subst (λ d. FillsFrom (class_table w.paging) w.tables d b new) (sym (it_class k o))
      (subst (λ t. FillsFrom t w.tables c b new) (sym k.table) f.filled)

  pub kept_tables : AreTables (class_table w.paging) new
  kept_tables = subst (λ t. AreTables t new) (sym k.table) f.tables

  found_other : (r : ℕ) × (y : Placed) × (get (owned w) r ≡ Some y) × (y.place ≡ b)
  found_other = filler k.paged k.serve k.occupied (filler_in other_fills)

  -- the other object's number, and the object
  pub other : ℕ
  other = found_other.0

  pub other_object : Placed
  other_object = found_other.1

  pub other_found : get (owned w) other ≡ Some other_object
  unfolding other other_object
  other_found = found_other.2

  pub other_at : other_object.place ≡ b
  unfolding other_object
  other_at = found_other.3

  pub other_known : get w.places other ≡ Some b
  other_known = place_known w other other_object other_found ∙ ap Some other_at

  pub other_may : MayFill w.paging (owned w) (placed_at w a) other_object
  other_may = filler_may k.paged k.serve k.occupied (placed_at w a) (filler_in other_fills) k.sound other other_found other_at

  is_other : other ≢ q
  is_other = mover_is_other w.paging k.paged (owned w) k.sound q (placed_at w a) (it_found k o) other other_object other_found must_fill other_may

  pub mover : Moves w.paging (owned w) (placed_at w a) (Some other)
  mover = (must_fill, (other_object, other_found, other_may))

  pub same_slot : get_or w.classes.sizes c 0 ≡ slot_for w.paging (length other_object.bytes)
  same_slot = it_slot k o ∙ sym (ap (slot_words w.paging) other_may.class)

  -- the words of its slot are in the region, and none of them is in the freed slot
  pub source_in : b + get_or w.classes.sizes c 0 ≤ length w.words
  source_in = (
      let l = object_inside w.paging (owned w) k.sound other other_object other_found in
      let e = same_slot in let p = other_at in let long = k.long in
      omega arith)

  pub header_in : b < length w.words
  header_in = place_in k other b other_known

  pub slots_apart : (b + get_or w.classes.sizes c 0 ≤ a) ⊎ (a + get_or w.classes.sizes c 0 ≤ b)
  slots_apart =
      let d = sound_apart_from w.paging (owned w) k.sound other other_object other_found q (placed_at w a) (it_found k o) (λ e. is_other (sym e)) in
      let e = same_slot in let g = it_slot k o in let p = other_at in
      elim d [ inl l ↦ inl (omega arith) | inr l ↦ inr (omega arith) ]

  -- it is still live after the free
  pub live_still : get (remove w.places q) other ≡ Some b
  live_still = get_remove_other w.places q other is_other ∙ other_known
