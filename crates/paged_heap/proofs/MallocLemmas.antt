-- For mallocs, `has_room` and `enter_class`: when a slot and a number are free, why a malloc is refused otherwise, and the parts of a malloc put together: the
-- slot, which is in the region, the number, the counts. What a malloc does is independent of the stored cost.
use Rattle.std.proofs.Common.{◌≡◌, ◌≢◌, ℕ, ◌+◌, ◌*◌, ◌<◌, ◌∷◌, length, get_or, set, None, Some, Result, Ok, Err, arith, refl}
use Rattle.std.proofs.Common.{sym, ◌∙◌, ap, subst, inl, inr}
use Rattle.std.proofs.lemmas.Bool.{cases_lt}
use Rattle.std.specs.FinMap.{get, len}
use Rattle.std.proofs.lemmas.List.{nil_from_length}
use Rattle.cf_base.specs.Classes.{class_of}
use Rattle.cf_base.specs.declared.results.Handle.{Handle}
use Rattle.cf_base.specs.declared.results.Refusal.{Refusal}
use Rattle.cf_base.specs.declared.results.Refusal.TheVariants as refusal
use Rattle.class_lists.specs.PageLists.{pages_in}
use Rattle.class_lists.specs.declared.Which.TheVariants.{NotFull}
use Rattle.page_pool.proofs.CallerLemmas.{some_free}
use Rattle.page_model.specs.Arrangement.{LacksRoom}
use Rattle.page_model.specs.Image.{header_word}
use Rattle.page_model.specs.Paging.{class_for}
use Rattle.page_model.proofs.CallerLemmas.{slot_inside}
use Rattle.proxy_table.specs.Proxies.{Proxies, AreBelowLimit, with_place}
use Rattle.page_slots.specs.Tables.{AreTables, Tables}
use Rattle.page_slots.specs.Take.{TakesAt}
use Rattle.page_slots.specs.Occupying.{class_table}
use Rattle.page_slots.proofs.CallerLemmas.{free_bare, class_is, held_len}
use Rattle.page_slots.proofs.CallerLemmas.{free_page}
use Rattle.page_slots.proofs.CallerLemmas.{refused_lacks_room, taken_is_free}
use Rattle.cf_model.specs.Rules.{IsPaged}
use Rattle.cf_model.specs.State.{HeapState}
use Rattle.cf_model.specs.Steps.{ChangesCost, IsMallocStep, IsRefusedBy, LacksProxy, LacksSpace}
use Rattle.paged_heap.specs.Heap.{Heap}
use Rattle.paged_heap.specs.Layout.{IsValid, held_in, paging_at, state_of, tables_in, owner_in}
use Rattle.paged_heap.specs.Room.{HasSlot}
use Rattle.paged_heap.proofs.FigureLemmas.{not_full_is}
use Rattle.paged_heap.proofs.ByKind.{lacks_in, lacks_of, placed_same}
use Rattle.paged_heap.proofs.LayoutFacts.{paged_kind, paging_ok, sizes_are, table_is}
use Rattle.paged_heap.proofs.Preserved.{rest_from}
use Rattle.paged_heap.proofs.MallocPreserves.{IsAdded}

module _ (h : Heap) (k : IsValid h) (c : ℕ) where
  -- without a partly full page of the class and a free page there is no room
  pub lacks_slots : length (pages_in h.lists c NotFull) + length h.pool.free ≡ 0 → LacksRoom (paging_at h) (held_in h) c
  lacks_slots none =
      refused_lacks_room (paging_ok h k) k.serve.part k.occupied k.serve.whole c (tables_in h)
      (nil_from_length (pages_in h.lists c NotFull) (omega arith), nil_from_length h.pool.free (omega arith), refl)

  -- with one of them there is room
  pub slot_is_room : HasSlot h.lists h.pool c → LacksRoom (paging_at h) (held_in h) c → ⊥
  slot_is_room some l = elim (cases_lt 0 (length (pages_in h.lists c NotFull))) [
    | inl lt ↦ (let e = not_full_is h k c in let z = l.full in absurd (omega arith))
    | inr none ↦ (
        let p = paging_at h in
        let first = some_free h.pool.free (omega arith) in
        let below = k.serve.part.tables.pool.below first.0 first.1 in
        let free = free_page (class_table p) (tables_in h) k.serve.part.tables first.0 below first.1 in
        let bare = free_bare p (paging_ok h k) (tables_in h) k.serve.part (held_in h) k.occupied first.0 free in
        let stands = l.taken first.0 (let e = k.serve.part.pages in omega arith) in
        absurd (omega arith))
  ]

module _ (h : Heap) (k : IsValid h) (bytes c : ℕ) (found : Some c ≡ class_of h.classes.sizes bytes) where
  pub lacks_proxy : len h.proxies.places ≡ h.settings.proxies → LacksProxy (state_of h) bytes
  lacks_proxy all = record { fits = (class_is (paging_ok h k) (table_is h k) bytes c found).0; all = held_len (owner_in h) ∙ all }

  few_proxies : len h.proxies.places ≢ h.settings.proxies → len h.proxies.places < h.settings.proxies
  few_proxies ne = (let f = k.handles.few in let e = k.numbers in omega arith)

  pub lacks_space : len h.proxies.places ≢ h.settings.proxies → length (pages_in h.lists c NotFull) + length h.pool.free ≡ 0 → LacksSpace (state_of h) bytes
  lacks_space ne none =
      let is = class_is (paging_ok h k) (table_is h k) bytes c found in
      record {
        fits = is.0;
        few = (let e = held_len (owner_in h) in let lt = few_proxies ne in omega arith);
        lacking = lacks_in h.kind (paged_kind h k) (state_of h) bytes
            (subst (LacksRoom (paging_at h) (held_in h)) (sym is.1) (lacks_slots h k c none));
      }

  -- if a number and a slot are free, a malloc has no cause for a refusal
  pub not_refused : len h.proxies.places ≢ h.settings.proxies → HasSlot h.lists h.pool c → (e : Refusal) → IsRefusedBy (state_of h) bytes e → ⊥
  not_refused ne some refusal.Size cause = (let is = class_is (paging_ok h k) (table_is h k) bytes c found in let fits = is.0 in absurd (omega arith))
  not_refused ne some refusal.Proxy cause = ne (sym (held_len (owner_in h)) ∙ cause.all)
  not_refused ne some refusal.Space cause =
      let is = class_is (paging_ok h k) (table_is h k) bytes c found in
      slot_is_room h k c some (subst (LacksRoom (paging_at h) (held_in h)) is.1 (lacks_of h.kind (paged_kind h k) (state_of h) bytes cause.lacking))

  module _ (new : Tables) (a : ℕ) (t : TakesAt h.classes (tables_in h) c a new) (tables : AreTables h.classes new) where
    abbrev at_table : TakesAt (class_table (paging_at h)) (tables_in h) c a new
    at_table = subst (λ t. TakesAt t (tables_in h) c a new) (sym (table_is h k)) t

    abbrev of_table : AreTables (class_table (paging_at h)) new
    of_table = subst (λ t. AreTables t new) (sym (table_is h k)) tables

    -- the address is in the region
    pub place_inside : a < length h.words
    place_inside =
        let is = class_is (paging_ok h k) (table_is h k) bytes c found in
        let lt = is.2 in
        let free = taken_is_free (paging_ok h k) k.serve.part k.occupied of_table lt at_table bytes is.1 in
        let inside = slot_inside (paging_at h) (class_for (paging_at h) bytes) a free.slot in
        let least = (paging_ok h k).sized.least (class_for (paging_at h) bytes) free.slot.class in
        let long = k.words_long in
        omega arith

  -- the parts of a malloc: in the heap t a slot is taken, in b the number is bound to its address, and in n the object is counted
  pub comes : (t b n : Heap) (a q : ℕ) → len h.proxies.places ≢ h.settings.proxies
      → TakesAt h.classes (tables_in h) c a (tables_in t) → AreTables h.classes (tables_in t)
      → t ≡ record h { maps = t.maps; lists = t.lists; pool = t.pool }
      → get t.proxies.places q ≡ None → q < t.proxies.limit → t.proxies.free ≡ q ∷ b.proxies.free
      → b ≡ record t { proxies = with_place t.proxies q a; words = set t.words a (header_word q bytes) } → AreBelowLimit b.proxies
      → n ≡ record b { live = set b.live c (get_or b.live c 0 + 1); asked = b.asked + bytes; taken = b.taken + 8 * get_or b.classes.sizes c 0 }
      → IsAdded h n c a bytes q
  comes t b n a q ne taken tables et unused below first eb handles en =
      let is = class_is (paging_ok h k) (table_is h k) bytes c found in
      let pt : t.proxies ≡ h.proxies = ap (λ (x : Heap). x.proxies) et in
      let on : tables_in n ≡ tables_in t = ap tables_in en ∙ ap tables_in eb in
      record {
        rest = rest_from h n
            (ap (λ (x : Heap). x.kind) en ∙ ap (λ (x : Heap). x.kind) eb ∙ ap (λ (x : Heap). x.kind) et)
            (ap (λ (x : Heap). x.settings) en ∙ ap (λ (x : Heap). x.settings) eb ∙ ap (λ (x : Heap). x.settings) et)
            (ap (λ (x : Heap). x.classes) en ∙ ap (λ (x : Heap). x.classes) eb ∙ ap (λ (x : Heap). x.classes) et)
            (ap (λ (x : Heap). x.bounds) en ∙ ap (λ (x : Heap). x.bounds) eb ∙ ap (λ (x : Heap). x.bounds) et);
        fits = is.0;
        class = is.1;
        in_range = is.2;
        few = few_proxies ne;
        taken = subst (λ x. TakesAt (class_table (paging_at h)) (tables_in h) c a x) (sym on) (at_table (tables_in t) a taken tables);
        tables = subst (λ x. AreTables (class_table (paging_at h)) x) (sym on) (of_table (tables_in t) a taken tables);
        unused = sym (ap (λ (x : Proxies). get x.places q) pt) ∙ unused;
        below = (let e = ap (λ (x : Proxies). x.limit) pt in omega arith);
        proxies = ap (λ (x : Heap). x.proxies) en ∙ ap (λ (x : Heap). x.proxies) eb ∙ ap (λ x. with_place x q a) pt;
        first = sym (ap (λ (x : Proxies). x.free) pt) ∙ first ∙ ap (λ (x : Proxies). q ∷ x.free) (sym (ap (λ (x : Heap). x.proxies) en));
        handles = subst AreBelowLimit (sym (ap (λ (x : Heap). x.proxies) en)) handles;
        frames = ap (λ (x : Heap). x.frames) en ∙ ap (λ (x : Heap). x.frames) eb ∙ ap (λ (x : Heap). x.frames) et;
        words = ap (λ (x : Heap). x.words) en ∙ ap (λ (x : Heap). x.words) eb ∙ ap (λ (x : Heap). set x.words a (header_word q bytes)) et;
        live = ap (λ (x : Heap). x.live) en ∙ ap (λ (x : Heap). set x.live c (get_or x.live c 0 + 1)) (eb' t b q a eb et);
        asked = ap (λ (x : Heap). x.asked) en ∙ ap (λ (x : Heap). x.asked + bytes) (eb' t b q a eb et);
        all_taken = ap (λ (x : Heap). x.taken) en ∙ ap (λ (x : Heap). x.taken + 8 * get_or x.classes.sizes c 0) (eb' t b q a eb et)
            ∙ ap (λ xs. h.taken + 8 * get_or xs c 0) (sizes_are h k);
      }
    where
      eb' : (t b : Heap) (q a : ℕ) → b ≡ record t { proxies = with_place t.proxies q a; words = set t.words a (header_word q bytes) }
          → t ≡ record h { maps = t.maps; lists = t.lists; pool = t.pool }
          → b ≡ record h { maps = t.maps; lists = t.lists; pool = t.pool; proxies = with_place t.proxies q a; words = set t.words a (header_word q bytes) }
      eb' t b q a eb et = eb ∙ ap (λ (x : Heap). record x { proxies = with_place t.proxies q a; words = set t.words a (header_word q bytes) }) et

-- a heap that equals h has the state of h, but for the cost at most
pub same_state : (h t : Heap) → t ≡ h → ChangesCost (state_of h) (state_of t)
same_state h t e = ap state_of e ∙ ap (λ x. record (state_of h) { cost = x }) (sym (ap (λ (x : Heap). x.cost) e))

-- what a malloc does (`IsMallocStep`) does not depend on the cost that is stored after it
pub malloc_with_cost : (o : Heap) → IsPaged o.kind → (bytes : ℕ) (r : Result Handle Refusal) (h : Heap) (cost : ℕ)
    → IsMallocStep (state_of o) bytes r (state_of h) → IsMallocStep (state_of o) bytes r (state_of (record h { cost = cost }))
malloc_with_cost o p bytes (Ok q) h cost g = record {
  fits = g.fits;
  few = g.few;
  in_range = g.in_range;
  unused = g.unused;
  place = g.place;
  placed = placed_same o.kind p (state_of o) (record { number = q.0; length = bytes }) g.place (state_of h) (state_of (record h { cost = cost })) g.placed;
  whole = ap (λ (t : HeapState). record t { cost = cost }) g.whole;
}
malloc_with_cost o p bytes (Err e) h cost (cause, same) = (cause, ap (λ (t : HeapState). record t { cost = cost }) same)
