-- For `set_bounds`: the heap keeps its invariant when the settings and all classes get another bound, if no class has more partly full pages, and its state has
-- these bounds.
use Rattle.std.proofs.Common.{◌≡◌, ℕ, ◌*◌, ◌^◌, ◌<◌, ◌≤◌, length, take, get_or, replicate, arith, refl, ◌∙◌, ap}
use Rattle.std.specs.Prelude.{IsTrue}
use Rattle.std.proofs.lemmas.List.{get_or-replicate, get_or-take, length-replicate, take-replicate}
use Rattle.cf_base.specs.Limits.{is_page_size}
use Rattle.page_model.specs.Arrangement.{live, not_full_pages, objects_on}
use Rattle.page_model.specs.Figures.{taken_bytes}
use Rattle.page_model.specs.Paging.{bound_of, class_for, classes}
use Rattle.page_slots.proofs.CallerLemmas.{as_many}
use Rattle.paged_heap.specs.Bounds.{HasFewNotFull, with_bounds}
use Rattle.paged_heap.specs.Heap.{Heap}
use Rattle.paged_heap.specs.Layout.{IsValid, held_in, paging_at, state_of}
use Rattle.paged_heap.proofs.ByKind.{framed_kept}
use Rattle.paged_heap.proofs.LayoutFacts.{few_classes, table_is}

module _ (h : Heap) (v : IsValid h) (k : ℕ) where
  many : length h.classes.sizes ≡ classes (paging_at h)
  many = as_many (paging_at h) (table_is h v)

  small : length h.classes.sizes ≤ 128
  small = (let f = few_classes h v in let m = many in omega arith)

  bound_is : (c : ℕ) → c < 128 → get_or (replicate 128 k) c 0 ≡ k
  bound_is c lt = get_or-replicate 128 c k 0 lt

  module _ (least : 1 ≤ k) (most : k ≤ 64) (some_pages : 1 ≤ h.settings.pages) (few_pages : h.settings.pages ≤ 4096)
      (page_size : IsTrue (is_page_size h.settings.page_words)) (some_bound : 1 ≤ k) (low_bound : k ≤ 64) (some_proxies : 1 ≤ h.settings.proxies)
      (few_proxies : h.settings.proxies ≤ 65536) (small_region : h.settings.pages * h.settings.page_words ≤ 2 ^ 23) where
    abbrev pub bounded : Heap
    bounded = record h {
      settings = record {
        pages = h.settings.pages;
        page_words = h.settings.page_words;
        k = k;
        proxies = h.settings.proxies;
        some_pages = some_pages;
        few_pages = few_pages;
        page_size = page_size;
        some_bound = some_bound;
        low_bound = low_bound;
        some_proxies = some_proxies;
        few_proxies = few_proxies;
        small_region = small_region;
      };
      bounds = replicate 128 k;
    }

    within : HasFewNotFull (state_of h) k → (c : ℕ) → c < classes (paging_at h) → not_full_pages (paging_at bounded) (held_in h) c ≤ bound_of (paging_at bounded) c
    unfolding not_full_pages objects_on class_for
    within few c lt =
        let at : c < length h.classes.sizes = (let m = many in omega arith) in
        let is = get_or-take (length h.classes.sizes) (replicate 128 k) c 0 at ∙ bound_is c (let s = small in omega arith) in
        let low = few c lt in
        omega arith

    pub bounded_kept : HasFewNotFull (state_of h) k → IsValid bounded
    unfolding live objects_on taken_bytes class_for
    bounded_kept few = record {
      framed = framed_kept h.kind h bounded refl refl v.framed;
      table = v.table;
      words_long = v.words_long;
      image = v.image;
      sound = record {
        slots = λ q x e. (let s = v.sound.slots q x e in record { class = s.class; page = s.page; aligned = s.aligned; fits = s.fits });
        own_place = v.sound.own_place;
        one_class = v.sound.one_class;
        few_not_full = within few;
      };
      serve = record { part = record { tables = v.serve.part.tables; pages = v.serve.part.pages }; whole = v.serve.whole };
      occupied = record { stands = v.occupied.stands; filled = v.occupied.filled; counted = v.occupied.counted };
      numbers = v.numbers;
      handles = v.handles;
      bounds_long = length-replicate {A = ℕ} 128 k;
      some_bound = λ c lt. (let e = bound_is c lt in omega arith);
      low_bound = λ c lt. (let e = bound_is c lt in omega arith);
      live_long = v.live_long;
      counted = v.counted;
      asked_all = v.asked_all;
      taken_all = v.taken_all;
    }

  pub bounds_are : take (length h.classes.sizes) (replicate 128 k) ≡ (with_bounds (state_of h) k).bounds
  bounds_are = take-replicate (length h.classes.sizes) 128 k small ∙ ap (λ n. replicate n k) many
