-- For `pages_of`, `not_full`, `free_pages` and `totals`: the lengths of the page lists, of the pool and of the proxies are the model's counts of pages and
-- objects, so that each number that the code returns is the model's. A class has at most 4,096 pages. Mallocs too use the count of partly full pages.
use Rattle.std.proofs.Common.{◌≡◌, ℕ, ◌+◌, ◌*◌, ◌≤◌, length, arith, refl, sym, ◌∙◌}
use Rattle.std.specs.Prelude.{if◌then◌else◌, nat_eq}
use Rattle.std.specs.FinMap.{len}
use Rattle.cf_base.specs.declared.results.Totals.{Totals}
use Rattle.page_model.specs.Held.{Held, objects}
use Rattle.page_model.specs.Paging.{Paging}
use Rattle.page_model.specs.Arrangement.{pages_of_class, not_full_pages, used_pages, free_pages}
use Rattle.page_model.specs.Figures.{asked_bytes, taken_bytes, totals_of}
use Rattle.page_model.proofs.CallerLemmas.{len-objects, home_at_most}
use Rattle.class_lists.specs.PageLists.{pages_in}
use Rattle.class_lists.specs.declared.Which.TheVariants.{Full, NotFull}
use Rattle.page_slots.proofs.CallerLemmas.{not_full_pages_are, home_pages_are, free_pages_are, pages_are, held_len}
use Rattle.paged_heap.specs.Heap.{Heap}
use Rattle.paged_heap.specs.Layout.{IsValid, held_in, paging_at, tables_in, owner_in}
use Rattle.paged_heap.proofs.LayoutFacts.{paging_ok}

-- all totals at once
pub totals_same : (p : Paging) (m : Held) (l a t h u f g : ℕ) → l ≡ len (objects m) → a ≡ asked_bytes (objects m) → t ≡ taken_bytes p (objects m)
    → h ≡ 8 * p.page_words * used_pages p m → u ≡ used_pages p m → f ≡ free_pages p m
    → g ≡ (if nat_eq (free_pages p m) 0 then 0 else p.page_words)
    → ◌≡◌ {A = Totals} (record { live = l; asked = a; taken = t; held = h; used = u; free = f; largest = g }) (totals_of p m)
totals_same p m l a t h u f g el ea et eh eu ef eg = rw (el, ea, et, eh, eu, ef, eg) refl

module _ (h : Heap) (k : IsValid h) where
  pub home_is : (c : ℕ) → pages_of_class (paging_at h) (held_in h) c ≡ length (pages_in h.lists c Full) + length (pages_in h.lists c NotFull)
  home_is c = home_pages_are (paging_at h) (paging_ok h k) (held_in h) (tables_in h) k.serve.part k.occupied c

  pub home_few : (c : ℕ) → length (pages_in h.lists c Full) + length (pages_in h.lists c NotFull) ≤ 4096
  home_few c = (let e = home_is c in let l = home_at_most (paging_at h) (held_in h) c in let few = h.settings.few_pages in omega arith)

  pub not_full_is : (c : ℕ) → not_full_pages (paging_at h) (held_in h) c ≡ length (pages_in h.lists c NotFull)
  not_full_is c = not_full_pages_are (paging_at h) (paging_ok h k) (held_in h) (tables_in h) k.serve.part k.occupied c

  pub free_is : free_pages (paging_at h) (held_in h) ≡ length h.pool.free
  free_is = free_pages_are (paging_at h) (paging_ok h k) (held_in h) (tables_in h) k.serve.part k.occupied k.serve.whole k.sound

  pub used_is : used_pages (paging_at h) (held_in h) + length h.pool.free ≡ h.settings.pages
  used_is = pages_are (paging_at h) (paging_ok h k) (held_in h) (tables_in h) k.serve.part k.occupied k.serve.whole k.sound

  pub live_is : len h.proxies.places ≡ len (objects (held_in h))
  live_is = sym (held_len (owner_in h)) ∙ sym (len-objects (held_in h))
