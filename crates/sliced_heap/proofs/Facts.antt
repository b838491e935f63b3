-- What follows from the invariant of an open sliced heap (`IsValid`) for its settings, its pages and classes, its tables, and the numbers, addresses and bytes
-- of its objects; and the heap with other tables (`seen_with`).
use Rattle.std.proofs.Common.{◌≡◌, ℕ, ◌≤◌, Some, None, arith, refl, sym, ◌∙◌, ap, subst}
use Rattle.std.specs.Prelude.{option_map}
use Rattle.std.specs.FinMap.{get, len}
use Rattle.cf_base.specs.declared.kind.Layout.TheVariants.{Words}
use Rattle.cf_base.proofs.MapValues.{get-map_values}
use Rattle.cf_base.proofs.Values.{len-map_values}
use Rattle.page_model.specs.Bytes.{AreBytes, bytes_at}
use Rattle.page_model.specs.Held.{Placed, places}
use Rattle.page_model.specs.Paging.{IsPaging, EveryBoundIsOne, classes}
use Rattle.page_model.proofs.CallerLemmas.{first_ones, first_paged, held_at_bytes, places-held_at}
use Rattle.class_lists.specs.PageLists.{PageLists}
use Rattle.page_slots.specs.declared.page_tables.PageTables.{PageTables}
use Rattle.page_slots.specs.Tables.{AreTables}
use Rattle.page_slots.specs.Occupying.{class_table}
use Rattle.slice_model.specs.State.{IsPlan}
use Rattle.sliced_heap.specs.declared.open_heap.OpenHeap.{OpenHeap}
use Rattle.sliced_heap.specs.Heap.{Heap, sliced_seen}
use Rattle.sliced_heap.specs.Layout.{IsValid, words_after_job, sliced_paging, plan_of, profile_at, sliced_state_of, sliced_tables_in}

module _ (h : Heap) (k : IsValid h) where
  pub paging_ok : IsPaging (sliced_paging h)
  paging_ok = first_paged (profile_at h.settings) Words h.settings.page_size (omega arith)

  pub ones : EveryBoundIsOne (sliced_paging h)
  ones = first_ones (profile_at h.settings) Words refl

  pub plan_ok : IsPlan (plan_of h)
  plan_ok = record { paging = paging_ok; ones = ones; quantum = k.quantum }

  -- the classes are those of the paging
  pub table_is : class_table (sliced_paging h) ≡ h.classes
  table_is = sym k.table

  pub few_classes : classes (sliced_paging h) ≤ 67
  few_classes = k.serve.part.tables.table.are_sizes.few

  pub tables_ok : AreTables h.classes (sliced_tables_in h)
  tables_ok = subst (λ t. AreTables t (sliced_tables_in h)) table_is k.serve.part.tables

  -- the objects' addresses are those of the proxies; a number without one has no object
  pub places_are : h.proxies.places ≡ places (sliced_state_of h).held
  places_are = sym (places-held_at (words_after_job (sliced_paging h) h.job h.proxies.places h.words) h.proxies.places)

  pub held_is_at : (q : ℕ) → get (sliced_state_of h).held q
      ≡ option_map (λ a. record { place = a; bytes = bytes_at (words_after_job (sliced_paging h) h.job h.proxies.places h.words) a }) (get h.proxies.places q)
  held_is_at q = get-map_values (λ a. record { place = a; bytes = bytes_at (words_after_job (sliced_paging h) h.job h.proxies.places h.words) a }) h.proxies.places q

  pub no_place : (q : ℕ) → get h.proxies.places q ≡ None → get (sliced_state_of h).held q ≡ None
  no_place q e = held_is_at q
      ∙ ap (option_map (λ a. record { place = a; bytes = bytes_at (words_after_job (sliced_paging h) h.job h.proxies.places h.words) a })) e

  pub has_place : (q a : ℕ) → get h.proxies.places q ≡ Some a → (x : Placed) × (get (sliced_state_of h).held q ≡ Some x) × (x.place ≡ a)
  has_place q a e = (
    record { place = a; bytes = bytes_at (words_after_job (sliced_paging h) h.job h.proxies.places h.words) a },
    held_is_at q ∙ ap (option_map (λ a. record { place = a; bytes = bytes_at (words_after_job (sliced_paging h) h.job h.proxies.places h.words) a })) e,
    refl,
  )

  pub place_known : (q : ℕ) (x : Placed) → get (sliced_state_of h).held q ≡ Some x → get h.proxies.places q ≡ Some x.place
  place_known q x there = ap (λ m. get m q) places_are ∙ get-map_values (λ (y : Placed). y.place) (sliced_state_of h).held q
      ∙ ap (option_map (λ (y : Placed). y.place)) there

  pub held_len : len (sliced_state_of h).held ≡ len h.proxies.places
  held_len = len-map_values (λ a. record { place = a; bytes = bytes_at (words_after_job (sliced_paging h) h.job h.proxies.places h.words) a }) h.proxies.places

  pub held_bytes : (q : ℕ) (x : Placed) → get (sliced_state_of h).held q ≡ Some x → AreBytes x.bytes
  held_bytes q x there = held_at_bytes (words_after_job (sliced_paging h) h.job h.proxies.places h.words) h.proxies.places q x there

-- the heap h with other tables and page lists; if the classes are the same, no other field of it changes
abbrev pub seen_with : OpenHeap → PageTables → PageLists → Heap
seen_with h t lists = sliced_seen (record h { tables = t; lists = lists })

pub only_tables : (h : OpenHeap) (t : PageTables) (lists : PageLists) → t.classes ≡ h.tables.classes
    → seen_with h t lists ≡ record (sliced_seen h) { maps = t.maps.pages; lists = lists; pool = t.pool }
only_tables h t lists same = ap (λ k. record (sliced_seen h) { classes = k; maps = t.maps.pages; lists = lists; pool = t.pool }) same
