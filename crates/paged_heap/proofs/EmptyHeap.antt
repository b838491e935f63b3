-- For `empty`: an open heap of new parts (`IsFirst`) keeps its invariant, and its state is that of an empty heap, with pages and numbers in rising order. For
-- `set_bound` too: a heap that holds nothing has no objects.
use Rattle.std.proofs.Common.{◌≡◌, ℕ, ◌*◌, ◌<◌, ◌≤◌, [], length, take, replicate, get_or, arith, sym, ◌∙◌, ap, subst}
use Rattle.std.proofs.lemmas.List.{get_or-replicate, length-replicate, take-replicate}
use Rattle.std.specs.FinMap.{empty}
use Rattle.cf_base.specs.Classes.{sizes}
use Rattle.cf_base.proofs.Rising.{are_sizes}
use Rattle.page_model.specs.Held.{objects}
use Rattle.page_model.specs.Bytes.{held_at}
use Rattle.page_model.specs.Arrangement.{IsSound, live}
use Rattle.page_model.specs.Image.{IsSlotImage, slot_for}
use Rattle.page_model.specs.Figures.{asked_bytes, taken_bytes}
use Rattle.page_model.proofs.CallerLemmas.{sound_empty, image_empty, no_objects, none_asked, none_live, none_taken, nothing_held}
use Rattle.size_classes.specs.Table.{ClassTable, table_of}
use Rattle.proxy_table.specs.Proxies.{Proxies, AreBelowLimit, no_proxies}
use Rattle.page_slots.specs.PageTables.{new_tables}
use Rattle.page_slots.specs.Tables.{Tables}
use Rattle.page_slots.specs.Occupying.{Occupies, FitPages}
use Rattle.page_slots.specs.Orders.{partly_full_lists}
use Rattle.page_slots.proofs.CallerLemmas.{first_occupied, first_table, new_serve, open_empty}
use Rattle.cf_base.specs.Settings.{profile_of}
use Rattle.page_model.specs.Order.{first_order}
use Rattle.cf_model.specs.State.{layout_of, paging_in}
use Rattle.cf_model.specs.Steps.{IsEmptyHeap, empty_heap, opening_bounds, opening_frames, opening_tiling}
use Rattle.cf_model.specs.Rules.{IsPaged}
use Rattle.paged_heap.specs.Heap.{Heap}
use Rattle.paged_heap.proofs.ByKind.{opening_bounds_are, opening_order_is, opening_tiling_is, opening_words, paged_of}
use Rattle.paged_heap.specs.Layout.{IsFramed, IsValid, held_in, order_in, paging_at, state_of, tables_in}

-- the parts of a heap that was just opened
pub record IsFirst (h : Heap) : Type 0 where
  pub table : h.classes ≡ table_of h.settings.page_words (layout_of h.kind)
  pub bounds : h.bounds ≡ replicate 128 h.settings.k
  pub live : h.live ≡ replicate 128 0
  pub asked : h.asked ≡ 0
  pub taken : h.taken ≡ 0
  pub cost : h.cost ≡ 0
  pub framed : IsFramed h.kind h
  pub frames : h.frames ≡ opening_frames h.kind (profile_of h.settings)
  pub words : h.words ≡ replicate (h.settings.pages * h.settings.page_words) 0
  pub tables : tables_in h ≡ new_tables h.settings.pages (length h.classes.sizes)
  pub proxies : h.proxies ≡ no_proxies h.settings.proxies
  pub handles : AreBelowLimit h.proxies

-- a heap that holds nothing has no objects
pub no_objects_in : (h : Heap) → held_in h ≡ empty → objects (held_in h) ≡ empty
no_objects_in h none = ap objects none ∙ no_objects

module _ (h : Heap) (f : IsFirst h) where
  none : held_in h ≡ empty
  none = ap (λ (x : Proxies). held_at h.words x.places) f.proxies ∙ nothing_held h.words

  none_of : objects (held_in h) ≡ empty
  none_of = no_objects_in h none

  many : length h.classes.sizes ≡ length (sizes h.settings.page_words (layout_of h.kind))
  many = ap (λ (t : ClassTable). length t.sizes) f.table

  few : length (sizes h.settings.page_words (layout_of h.kind)) ≤ 67
  few = (are_sizes h.settings.page_words (layout_of h.kind) h.settings.page_size).few

  serve : FitPages (paging_at h) (tables_in h)
  serve =
      let small = h.settings.small_region in
      new_serve (paging_at h) (length h.classes.sizes) (tables_in h) (first_table h.settings.page_words (layout_of h.kind) h.settings.page_size)
      (omega arith) many f.tables

  bound : (c : ℕ) → c < 128 → get_or h.bounds c 0 ≡ h.settings.k
  bound c lt = ap (λ b. get_or b c 0) f.bounds ∙ get_or-replicate 128 c h.settings.k 0 lt

  pub first_kept : IsValid h
  first_kept = record {
    framed = f.framed;
    table = f.table;
    words_long = ap length f.words ∙ length-replicate {A = ℕ} (h.settings.pages * h.settings.page_words) 0;
    image =
        let at : IsSlotImage (paging_at h) empty (replicate (h.settings.pages * h.settings.page_words) 0) =
        image_empty (slot_for (paging_at h)) (h.settings.pages * h.settings.page_words) in
        let held : IsSlotImage (paging_at h) (held_in h) (replicate (h.settings.pages * h.settings.page_words) 0) =
        subst (λ m. IsSlotImage (paging_at h) m (replicate (h.settings.pages * h.settings.page_words) 0)) (sym none) at in
        subst (λ w. IsSlotImage (paging_at h) (held_in h) w) (sym f.words) held;
    sound = subst (IsSound (paging_at h)) (sym none) (sound_empty (paging_at h));
    serve = serve;
    occupied =
        let o = first_occupied (length h.classes.sizes) h.settings.pages (paging_at h) _ _ in
        let l : Occupies (paging_at h) empty (tables_in h) = subst (Occupies (paging_at h) empty) (sym f.tables) o in
        subst (λ m. Occupies (paging_at h) m (tables_in h)) (sym none) l;
    numbers = ap (λ (x : Proxies). x.limit) f.proxies;
    handles = f.handles;
    bounds_long = ap length f.bounds ∙ length-replicate {A = ℕ} 128 h.settings.k;
    some_bound = λ c lt. (let e = bound c lt in let some = h.settings.some_bound in omega arith);
    low_bound = λ c lt. (let e = bound c lt in let low = h.settings.low_bound in omega arith);
    live_long = ap length f.live ∙ length-replicate {A = ℕ} 128 0;
    counted = λ c lt. (
        let l = few in
        let here : c < 128 = omega arith in
        ap (λ b. get_or b c 0) f.live ∙ get_or-replicate {A = ℕ} 128 c 0 0 here ∙ sym (ap (λ o. live (paging_at h) o c) none_of ∙ none_live (paging_at h) c));
    asked_all = f.asked ∙ sym (ap asked_bytes none_of ∙ none_asked);
    taken_all = f.taken ∙ sym (ap (taken_bytes (paging_at h)) none_of ∙ none_taken (paging_at h));
  }

  -- the order lists pages and numbers in rising order
  order_first : order_in h ≡ first_order (paging_in (empty_heap h.kind (profile_of h.settings) [])) h.settings.proxies
  order_first =
      let lists : partly_full_lists (length h.classes.sizes) h.lists ≡ replicate (length (sizes h.settings.page_words (layout_of h.kind))) [] =
      ap (λ (t : Tables). partly_full_lists (length h.classes.sizes) t.lists) f.tables ∙ open_empty (length h.classes.sizes) (length h.classes.sizes) h.settings.pages
      ∙ ap (λ n. replicate n []) many in
      let pool = ap (λ (t : Tables). t.pool.free) f.tables in
      let spare = ap (λ (x : Proxies). x.free) f.proxies in
      λ i. record { pool = pool i; not_full = lists i; spare = spare i }

  pub first_empty : IsEmptyHeap h.kind h.settings (state_of h)
  first_empty = record {
    words = opening_words h.kind paged (profile_of h.settings) h.words f.words;
    order = order_first ∙ sym (opening_order_is h.kind paged (profile_of h.settings));
    whole =
        let p = profile_of h.settings in
        let bounds : take (length h.classes.sizes) h.bounds ≡ opening_bounds h.kind p = (
        let l = few in let e = many in
        ap (take (length h.classes.sizes)) f.bounds ∙ take-replicate (length h.classes.sizes) 128 h.settings.k (omega arith)
        ∙ ap (λ n. replicate n h.settings.k) many ∙ sym (opening_bounds_are h.kind paged p)) in
        ap (λ b. record (state_of h) { bounds = b }) bounds
        ∙ ap (λ m. record (state_of h) { bounds = opening_bounds h.kind p; held = m }) none
        ∙ ap (λ fs. record (state_of h) { bounds = opening_bounds h.kind p; held = empty; frames = fs }) f.frames
        ∙ ap (λ t. record (state_of h) { bounds = opening_bounds h.kind p; held = empty; frames = opening_frames h.kind p; tiling = t })
        (sym (opening_tiling_is h.kind paged p))
        ∙ ap (λ x. record (state_of h)
        { bounds = opening_bounds h.kind p; held = empty; frames = opening_frames h.kind p; tiling = opening_tiling h.kind p; cost = x }) f.cost;
  }
    where
      paged : IsPaged h.kind
      paged = paged_of h.kind h f.framed
