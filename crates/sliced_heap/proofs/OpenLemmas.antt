-- For `empty`: a sliced heap whose tables are empty and whose words are 0 is valid, has no object and no job, and its order lists pages and numbers in rising
-- order.
use Rattle.std.proofs.Common.{◌≡◌, ℕ, ◌*◌, ◌<◌, ◌≤◌, length, replicate, get_or, [], Some, None, arith, sym}
use Rattle.std.proofs.Common.{◌∙◌, ap, subst, inl, inr}
use Rattle.std.proofs.lemmas.Bool.{cases_lt}
use Rattle.std.proofs.lemmas.List.{get_or-replicate, get_or_past, length-replicate}
use Rattle.std.specs.Ordering.{nat_cmp}
use Rattle.std.specs.FinMap.{empty, get, get-empty}
use Rattle.cf_base.specs.declared.settings.Settings.{Settings}
use Rattle.cf_base.specs.declared.kind.Layout.TheVariants.{Words}
use Rattle.cf_base.proofs.Rising.{are_sizes}
use Rattle.cf_base.proofs.Values.{map_values-empty}
use Rattle.page_model.specs.Figures.{asked_bytes, taken_bytes}
use Rattle.page_model.specs.Arrangement.{live, pages_needed}
use Rattle.page_model.specs.Bytes.{bytes_at, held_at}
use Rattle.page_model.specs.Held.{Placed, objects}
use Rattle.page_model.specs.Order.{first_order}
use Rattle.page_model.specs.Paging.{classes}
use Rattle.page_model.proofs.CallerLemmas.{sound_empty, no_objects, none_asked, none_needed, none_live, none_taken}
use Rattle.size_classes.specs.Table.{ClassTable, table_of}
use Rattle.proxy_table.specs.Proxies.{Proxies, AreBelowLimit, no_proxies}
use Rattle.page_slots.specs.PageTables.{new_tables}
use Rattle.page_slots.specs.Tables.{Tables}
use Rattle.page_slots.specs.Occupying.{Occupies, FitPages}
use Rattle.page_slots.specs.Orders.{partly_full_lists}
use Rattle.page_slots.proofs.CallerLemmas.{first_occupied, first_table, new_serve, open_empty}
use Rattle.slice_model.specs.State.{Sliced, IsKept, Idle, occupied}
use Rattle.slice_model.specs.Words.{HasWords}
use Rattle.sliced_heap.specs.Heap.{Heap}
use Rattle.sliced_heap.specs.Layout.{IsNew, IsValid, words_after_job, sliced_order_in, sliced_paging, paging_for, plan_of, sliced_state_of, sliced_tables_in}

-- the fields of a heap that was just opened
pub record IsFirst (s : Settings) (n : ℕ) (h : Heap) : Type 0 where
  pub settings : h.settings ≡ s
  pub asked : h.quantum ≡ n
  pub table : h.classes ≡ table_of h.settings.page_words Words
  pub quantum : 1 ≤ h.quantum
  pub live : h.live ≡ replicate 128 0
  pub needed : h.needed ≡ 0
  pub none_asked : h.asked ≡ 0
  pub none_taken : h.taken ≡ 0
  pub words : h.words ≡ replicate (h.settings.pages * h.settings.page_words) 0
  pub tables : sliced_tables_in h ≡ new_tables h.settings.pages (length h.classes.sizes)
  pub proxies : h.proxies ≡ no_proxies h.settings.proxies
  pub handles : AreBelowLimit h.proxies
  pub job : h.job ≡ Idle

module _ (s : Settings) (n : ℕ) (h : Heap) (f : IsFirst s n h) where
  abbrev first : Sliced
  first = record { held = empty; job = Idle }

  state_is : sliced_state_of h ≡ first
  state_is =
      ap (λ (x : Proxies). record { held = held_at (words_after_job (sliced_paging h) h.job x.places h.words) x.places; job = h.job }) f.proxies
      ∙ ap (λ m. record { held = m; job = h.job })
      (map_values-empty (λ a. record { place = a; bytes = bytes_at (words_after_job (sliced_paging h) h.job empty h.words) a }))
      ∙ ap (λ j. record { held = empty; job = j }) f.job

  objects_are : objects (sliced_state_of h).held ≡ empty
  objects_are = ap (λ (z : Sliced). objects z.held) state_is ∙ no_objects

  many : length h.classes.sizes ≡ classes (sliced_paging h)
  many = ap (λ (t : ClassTable). length t.sizes) f.table

  few : classes (sliced_paging h) ≤ 67
  few = (are_sizes h.settings.page_words Words h.settings.page_size).few

  serve : FitPages (sliced_paging h) (sliced_tables_in h)
  serve =
      let small = h.settings.small_region in
      new_serve (sliced_paging h) (length h.classes.sizes) (sliced_tables_in h) (first_table h.settings.page_words Words h.settings.page_size) (omega arith) many
      f.tables

  kept_first : IsKept (plan_of h) first
  kept_first = record {
    numbers = λ q x e. absurd (let none : get {X = Placed} {R = nat_cmp} empty q ≡ None = get-empty nat_cmp q in let z : Some x ≡ None = sym e ∙ none in cc);
    job = tt;
    sound = sound_empty (sliced_paging h);
  }

  words_first : HasWords (sliced_paging h) first h.words
  words_first = record {
    held = λ q x e. absurd (let none : get {X = Placed} {R = nat_cmp} empty q ≡ None = get-empty nat_cmp q in let z : Some x ≡ None = sym e ∙ none in cc);
    done = λ k e i lt. absurd (let z : None ≡ Some k = e in cc);
    zeros = λ w out beyond. ap (λ ws. get_or ws w 0) f.words ∙ all_zero (h.settings.pages * h.settings.page_words) w;
  }
    where
      all_zero : (z w : ℕ) → ◌≡◌ {A = ℕ} (get_or (replicate {A = ℕ} z 0) w 0) 0
      all_zero z w = elim (cases_lt w z) [
        | inl lt ↦ get_or-replicate {A = ℕ} z w 0 0 lt
        | inr past ↦ get_or_past (replicate {A = ℕ} z 0) w 0 (let e = length-replicate {A = ℕ} z 0 in omega arith)
      ]

  pub first_valid : IsValid h
  first_valid = record {
    table = f.table;
    quantum = f.quantum;
    words_long = ap length f.words ∙ length-replicate {A = ℕ} (h.settings.pages * h.settings.page_words) 0;
    kept = subst (IsKept (plan_of h)) (sym state_is) kept_first;
    words = subst (λ z. HasWords (sliced_paging h) z h.words) (sym state_is) words_first;
    serve = serve;
    occupied =
        let o = first_occupied (length h.classes.sizes) h.settings.pages (sliced_paging h) _ _ in
        let l : Occupies (sliced_paging h) empty (sliced_tables_in h) = subst (Occupies (sliced_paging h) empty) (sym f.tables) o in
        subst (λ z. Occupies (sliced_paging h) (occupied (plan_of h) z) (sliced_tables_in h)) (sym state_is) l;
    numbers = ap (λ (x : Proxies). x.limit) f.proxies;
    handles = f.handles;
    live_long = ap length f.live ∙ length-replicate {A = ℕ} 128 0;
    counted = λ c lt. (
        let l = few in
        let here : c < 128 = omega arith in
        ap (λ b. get_or b c 0) f.live ∙ get_or-replicate {A = ℕ} 128 c 0 0 here
        ∙ sym (ap (λ o. live (sliced_paging h) o c) objects_are ∙ none_live (sliced_paging h) c));
    needed = f.needed ∙ sym (ap (pages_needed (sliced_paging h)) objects_are ∙ none_needed (sliced_paging h));
    within = (let e = f.needed in omega arith);
    asked_all = f.none_asked ∙ sym (ap asked_bytes objects_are ∙ none_asked);
    taken_all = f.none_taken ∙ sym (ap (taken_bytes (sliced_paging h)) objects_are ∙ none_taken (sliced_paging h));
  }

  -- the order lists pages and numbers in rising order
  order_first : sliced_order_in h ≡ first_order (sliced_paging h) h.settings.proxies
  order_first =
      let lists : partly_full_lists (classes (sliced_paging h)) h.lists ≡ replicate (classes (sliced_paging h)) [] =
      ap (λ (t : Tables). partly_full_lists (classes (sliced_paging h)) t.lists) f.tables ∙ open_empty (classes (sliced_paging h)) (length h.classes.sizes) h.settings.pages in
      let pool = ap (λ (t : Tables). t.pool.free) f.tables in
      let spare = ap (λ (x : Proxies). x.free) f.proxies in
      λ i. record { pool = pool i; not_full = lists i; spare = spare i }

  pub first_new : IsNew s n h
  first_new = record {
    settings = f.settings;
    quantum = f.asked;
    working = ap (λ z. record { state = z; words = h.words }) state_is ∙ ap (λ w. record { state = first; words = w })
        (f.words ∙ ap (λ (x : Settings). replicate (x.pages * x.page_words) 0) f.settings);
    order = order_first ∙ ap (λ (x : Settings). first_order (paging_for x) x.proxies) f.settings;
  }
