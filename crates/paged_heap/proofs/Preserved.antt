-- For all calls: an open heap keeps its invariant if its objects, words, tables, proxies and counts change together (`Becomes`), and its state then has the new
-- objects; also if only the stored cost changes. Words can represent the objects of each valid heap (`AreStorable`).
use Rattle.std.proofs.Common.{◌≡◌, ℕ, ◌<◌, length, get_or, arith, sym, ◌∙◌, ap, subst}
use Rattle.cf_base.specs.declared.kind.Kind.{Kind}
use Rattle.cf_base.specs.declared.kind.Kind.TheVariants.{Moving, NonMoving, Tlsf, HalfFit}
use Rattle.page_model.specs.Held.{Held, objects, places}
use Rattle.page_model.specs.Bytes.{AreStorable}
use Rattle.page_model.specs.Paging.{classes}
use Rattle.page_model.specs.Arrangement.{IsSound, live}
use Rattle.page_model.specs.Image.{IsSlotImage}
use Rattle.page_model.specs.Figures.{asked_bytes, taken_bytes}
use Rattle.page_model.proofs.CallerLemmas.{held_from_image, held_at_bytes, own_words}
use Rattle.proxy_table.specs.Proxies.{AreBelowLimit}
use Rattle.page_slots.specs.Occupying.{Occupies, FitPages}
use Rattle.paged_heap.specs.Heap.{Heap}
use Rattle.paged_heap.specs.Layout.{IsFramed, IsValid, held_in, paging_at, state_of, tables_in}
use Rattle.paged_heap.proofs.LayoutFacts.{number_small, paging_ok}

-- the heap h, with those fields of n that calls change
abbrev pub with_parts : Heap → Heap → Heap
with_parts h n = record h {
  live = n.live;
  asked = n.asked;
  taken = n.taken;
  cost = n.cost;
  words = n.words;
  frames = n.frames;
  maps = n.maps;
  lists = n.lists;
  pool = n.pool;
  proxies = n.proxies;
}

-- the heap n has the objects m, and the fields of h that no call changes
pub record Becomes (h n : Heap) (m : Held) : Type 0 where
  pub rest : n ≡ with_parts h n
  pub framed : IsFramed h.kind n
  pub places : n.proxies.places ≡ places m
  pub storable : AreStorable m
  pub long : length n.words ≡ length h.words
  pub image : IsSlotImage (paging_at h) m n.words
  pub sound : IsSound (paging_at h) m
  pub serve : FitPages (paging_at h) (tables_in n)
  pub occupied : Occupies (paging_at h) m (tables_in n)
  pub limit : n.proxies.limit ≡ h.proxies.limit
  pub handles : AreBelowLimit n.proxies
  pub live_long : length n.live ≡ 128
  pub counted : (c : ℕ) → c < classes (paging_at h) → get_or n.live c 0 ≡ live (paging_at h) (objects m) c
  pub asked_all : n.asked ≡ asked_bytes (objects m)
  pub taken_all : n.taken ≡ taken_bytes (paging_at h) (objects m)

module _ (h n : Heap) (k : IsValid h) (m : Held) (b : Becomes h n m) where
  pub held_is : held_in n ≡ m
  held_is = held_from_image m n.proxies.places n.words (own_words (paging_at h) (paging_ok h k) m b.sound n.words b.image) b.places b.storable

  parts_kept : IsValid (with_parts h n)
  parts_kept = record {
    framed = subst (IsFramed h.kind) b.rest b.framed;
    table = k.table;
    words_long = b.long ∙ k.words_long;
    image = subst (λ m. IsSlotImage (paging_at h) m n.words) (sym held_is) b.image;
    sound = subst (IsSound (paging_at h)) (sym held_is) b.sound;
    serve = b.serve;
    occupied = subst (λ m. Occupies (paging_at h) m (tables_in n)) (sym held_is) b.occupied;
    numbers = b.limit ∙ k.numbers;
    handles = b.handles;
    bounds_long = k.bounds_long;
    some_bound = k.some_bound;
    low_bound = k.low_bound;
    live_long = b.live_long;
    counted = λ c lt. b.counted c lt ∙ ap (λ m. live (paging_at h) (objects m) c) (sym held_is);
    asked_all = b.asked_all ∙ ap (λ m. asked_bytes (objects m)) (sym held_is);
    taken_all = b.taken_all ∙ ap (λ m. taken_bytes (paging_at h) (objects m)) (sym held_is);
  }

  pub becomes_kept : IsValid n
  becomes_kept = subst IsValid (sym b.rest) parts_kept

  pub becomes_state : state_of n ≡ record (state_of h) { held = m; words = n.words; frames = n.frames; order = (state_of n).order; cost = n.cost }
  becomes_state =
      ap state_of b.rest
      ∙ ap (λ m. record (state_of h) { held = m; words = n.words; frames = n.frames; order = (state_of (with_parts h n)).order; cost = n.cost }) held_is
      ∙ ap (λ o. record (state_of h) { held = m; words = n.words; frames = n.frames; order = o; cost = n.cost })
      (sym (ap (λ (x : Heap). (state_of x).order) b.rest))

framed_same : (kind : Kind) (h : Heap) (cost : ℕ) → IsFramed kind h → IsFramed kind (record h { cost = cost })
framed_same Moving h cost f = f
framed_same NonMoving h cost f = record { count = f.count; permuted = f.permuted }
framed_same Tlsf h cost f = absurd f
framed_same HalfFit h cost f = absurd f

-- the heap stays valid with another `cost`
pub cost_kept : (h : Heap) (cost : ℕ) → IsValid h → IsValid (record h { cost = cost })
cost_kept h cost k = record {
  framed = framed_same h.kind h cost k.framed;
  table = k.table;
  words_long = k.words_long;
  image = k.image;
  sound = k.sound;
  serve = k.serve;
  occupied = k.occupied;
  numbers = k.numbers;
  handles = k.handles;
  bounds_long = k.bounds_long;
  some_bound = k.some_bound;
  low_bound = k.low_bound;
  live_long = k.live_long;
  counted = k.counted;
  asked_all = k.asked_all;
  taken_all = k.taken_all;
}

module _ (h : Heap) (k : IsValid h) where
  pub stored : AreStorable (held_in h)
  stored q x e = (let s = number_small h k q x e in let few = h.settings.few_proxies in omega arith, held_at_bytes h.words h.proxies.places q x e)

-- the heap n has the fields of h that no call changes
pub rest_from : (h n : Heap) → n.kind ≡ h.kind → n.settings ≡ h.settings → n.classes ≡ h.classes → n.bounds ≡ h.bounds → n ≡ with_parts h n
rest_from h n k s c b =
    ap (λ x. record n { kind = x }) k
    ∙ ap (λ x. record n { kind = h.kind; settings = x }) s
    ∙ ap (λ x. record n { kind = h.kind; settings = h.settings; classes = x }) c
    ∙ ap (λ x. record n { kind = h.kind; settings = h.settings; classes = h.classes; bounds = x }) b
