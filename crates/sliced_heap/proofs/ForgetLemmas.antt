-- For `start_clearing`: when an object's proxy is released, the object is counted out, and the job is to clear its slot, the heap is valid and has one object
-- less; no count falls below 0.
use Rattle.std.proofs.Common.{◌≡◌, ℕ, ◌+◌, ◌-◌, ◌*◌, ◌<◌, ◌≤◌, length, get_or, set, replicate, Some, arith, refl, sym, ◌∙◌, ap, subst}
use Rattle.std.specs.Prelude.{nat_eq}
use Rattle.std.proofs.lemmas.List.{length-set}
use Rattle.std.specs.FinMap.{get, remove}
use Rattle.cf_base.specs.Classes.{slots}
use Rattle.cf_base.proofs.Maps.{get_remove_other, some_removed}
use Rattle.cf_base.proofs.MapValues.{map_values-remove}
use Rattle.cf_base.proofs.Ranges.{one}
use Rattle.cf_base.proofs.Tests.{eq_yes}
use Rattle.cf_base.proofs.Tallies.{counted_out}
use Rattle.page_model.specs.Arrangement.{class_at, live, pages_needed}
use Rattle.page_model.specs.Figures.{asked_bytes, taken_bytes}
use Rattle.page_model.specs.Held.{Held, Placed, objects}
use Rattle.page_model.specs.Paging.{slot_words, slots_of}
use Rattle.page_model.proofs.CallerLemmas.{bytes_held, live_taken, sound_exchanged}
use Rattle.page_slots.specs.Occupying.{Occupies, FitPages}
use Rattle.proxy_table.specs.Proxies.{AreBelowLimit, without_place}
use Rattle.size_classes.specs.Table.{ClassTable}
use Rattle.slice_model.specs.State.{Plan, IsPlan, Sliced, IsKept, occupied, Idle, Clear}
use Rattle.slice_model.specs.Steps.{fresh_slot}
use Rattle.slice_model.specs.Words.{HasWords}
use Rattle.slice_model.proofs.CallerLemmas.{no_placeholder, other_than, placeholder_class, words_to_clear}
use Rattle.sliced_heap.specs.Heap.{Heap}
use Rattle.sliced_heap.specs.Layout.{IsValid, opens, plan_of, sliced_order_in, sliced_paging, sliced_state_of, sliced_tables_in}
use Rattle.sliced_heap.specs.Steps.{StartsClearing}
use Rattle.sliced_heap.proofs.ByteCounts.{asked_less, taken_less}
use Rattle.sliced_heap.proofs.Counts.{needed_more, needed_taken}
use Rattle.sliced_heap.proofs.Facts.{few_classes, held_bytes, paging_ok, places_are, plan_ok}
use Rattle.sliced_heap.proofs.Headers.{in_class}
use Rattle.sliced_heap.proofs.Places.{stood_in}
use Rattle.sliced_heap.proofs.Preserved.{Becomes, becomes_plan, becomes_state, becomes_valid}

-- if an object is removed and the new job clears its slot, the rules of the model still hold
pub kept_vacant : (plan : Plan) → IsPlan plan → (m : Held) → IsKept plan (record { held = m; job = Idle }) → (q : ℕ) (x : Placed) → get m q ≡ Some x
    → IsKept plan (record { held = remove m q; job = Clear (fresh_slot x.place (class_at plan.paging x)) })
kept_vacant plan ok m kept q x there =
    let none = no_placeholder plan m kept.numbers in
    let lt = (kept.sound.slots q x there).class in
    let class = placeholder_class plan.paging ok.paging (fresh_slot x.place (class_at plan.paging x)) lt in
    let size = ok.paging.sized.least (class_at plan.paging x) lt in
    let ne = other_than m plan.proxies q x none there in
    record {
      numbers = λ r y there'. kept.numbers r y (some_removed m q r y there').1;
      job = record { class = lt; under_way = omega arith };
      sound = sound_exchanged plan.paging m q x there plan.proxies (replicate (8 * (slot_words plan.paging (class_at plan.paging x) - 1)) 0)
          (get_remove_other m q plan.proxies (λ e. ne (sym e)) ∙ none) class kept.sound;
    }

-- from heap h to heap n: the proxy q is released, one object of class c and of `size` bytes fewer is counted, and the job is to clear the slot at a
pub record IsFreed (h n : Heap) (q size a c : ℕ) : Type 0 where
  pub rest : n ≡ record h {
    proxies = without_place h.proxies q;
    live = set h.live c (get_or h.live c 0 - 1);
    needed = h.needed - opens (slots h.classes.page_words h.classes.sizes c) (get_or h.live c 0 - 1);
    asked = h.asked - size;
    taken = h.taken - 8 * get_or h.classes.sizes c 0;
    job = Clear (fresh_slot a c);
  }
  pub handles : AreBelowLimit n.proxies

module _ (h : Heap) (k : IsValid h) (idle : h.job ≡ Idle) (q : ℕ) (x : Placed) (there : get (sliced_state_of h).held q ≡ Some x) where
  abbrev m : Held
  m = (sliced_state_of h).held

  abbrev c : ℕ
  c = class_at (sliced_paging h) x

  left : get (objects (sliced_state_of h).held) q ≡ Some x.bytes
  left = bytes_held m q x there

  listed : c < length h.live
  listed = (let few = few_classes h k in let lt = in_class h k q x there in let long = k.live_long in omega arith)

  objects_are : objects (remove m q) ≡ remove (objects m) q
  objects_are = map_values-remove (λ (x : Placed). x.bytes) m q

  live_less : (d : ℕ) → live (sliced_paging h) (remove (objects m) q) d + one (nat_eq c d) ≡ live (sliced_paging h) (objects m) d
  live_less d = live_taken (sliced_paging h) (objects m) q x.bytes d left

  pub live_some : 1 ≤ get_or h.live (class_at (sliced_paging h) x) 0
  live_some =
      let l = live_less c in
      let y : one (nat_eq c c) ≡ 1 = ap one (eq_yes c c refl) in
      let e = k.counted c (in_class h k q x there) in
      omega arith

  live_here : live (sliced_paging h) (remove (objects m) q) c ≡ get_or h.live c 0 - 1
  live_here =
      let l = live_less c in
      let y : one (nat_eq c c) ≡ 1 = ap one (eq_yes c c refl) in
      let e = k.counted c (in_class h k q x there) in
      omega arith

  slots_are : slots h.classes.page_words h.classes.sizes c ≡ slots_of (sliced_paging h) c
  slots_are = ap (λ (t : ClassTable). slots t.page_words t.sizes c) k.table

  needed_less : h.needed ≡ pages_needed (sliced_paging h) (remove (objects m) q) + opens (slots h.classes.page_words h.classes.sizes c) (get_or h.live c 0 - 1)
  needed_less =
      k.needed ∙ needed_taken (sliced_paging h) (objects m) q x.bytes left
      ∙ needed_more (sliced_paging h) (paging_ok h k) (remove (objects m) q) (length x.bytes) (in_class h k q x there)
      ∙ ap (λ l. pages_needed (sliced_paging h) (remove (objects m) q) + opens (slots_of (sliced_paging h) c) l) live_here
      ∙ ap (λ s. pages_needed (sliced_paging h) (remove (objects m) q) + opens s (get_or h.live c 0 - 1)) (sym slots_are)

  pub needed_some : opens (slots h.classes.page_words h.classes.sizes (class_at (sliced_paging h) x)) (get_or h.live (class_at (sliced_paging h) x) 0 - 1) ≤ h.needed
  needed_some = (let e = needed_less in omega arith)

  pub asked_some : length x.bytes ≤ h.asked
  asked_some = (let e = asked_less h k q x there in omega arith)

  words_are : get_or h.classes.sizes c 0 ≡ slot_words (sliced_paging h) c
  words_are = ap (λ (t : ClassTable). get_or t.sizes c 0) k.table

  pub taken_some : 8 * get_or h.classes.sizes (class_at (sliced_paging h) x) 0 ≤ h.taken
  taken_some = (let e = taken_less h k q x there in let w = words_are in omega arith)

  module _ (n : Heap) (g : IsFreed h n q (length x.bytes) x.place (class_at (sliced_paging h) x)) where
    abbrev s : Sliced
    s = record { held = remove m q; job = Clear (fresh_slot x.place c) }

    at_idle : IsKept (plan_of h) (record { held = m; job = Idle })
    at_idle = subst (λ j. IsKept (plan_of h) (record { held = m; job = j })) idle k.kept

    words_idle : HasWords (sliced_paging h) (record { held = m; job = Idle }) h.words
    words_idle = subst (λ j. HasWords (sliced_paging h) (record { held = m; job = j }) h.words) idle k.words

    stands_idle : Occupies (sliced_paging h) m (sliced_tables_in h)
    stands_idle = subst (λ j. Occupies (sliced_paging h) (occupied (plan_of h) (record { held = m; job = j })) (sliced_tables_in h)) idle k.occupied

    becomes : Becomes h n s
    becomes = record {
      settings = ap (λ (z : Heap). z.settings) g.rest;
      quantum = ap (λ (z : Heap). z.quantum) g.rest;
      table = ap (λ (z : Heap). z.classes) g.rest;
      job = ap (λ (z : Heap). z.job) g.rest;
      long = ap (λ (z : Heap). length z.words) g.rest;
      kept = kept_vacant (plan_of h) (plan_ok h k) m at_idle q x there;
      words = subst (HasWords (sliced_paging h) s) (sym (ap (λ (z : Heap). z.words) g.rest)) (words_to_clear (sliced_paging h) m h.words words_idle q x there);
      bytes = λ r y there'. held_bytes h k r y (some_removed m q r y there').1;
      addresses = ap (λ (z : Heap). z.proxies.places) g.rest ∙ ap (λ n. remove n q) (places_are h k) ∙ sym (map_values-remove (λ (x : Placed). x.place) m q);
      limit = ap (λ (z : Heap). z.proxies.limit) g.rest;
      handles = g.handles;
      serve = subst (FitPages (sliced_paging h)) (sym (ap sliced_tables_in g.rest)) k.serve;
      occupied = subst (Occupies (sliced_paging h) (occupied (plan_of h) s)) (sym (ap sliced_tables_in g.rest))
          (stood_in (sliced_paging h) m (sliced_tables_in h) stands_idle q x there h.settings.proxies (no_placeholder (plan_of h) m k.kept.numbers)
          (replicate (8 * (slot_words (sliced_paging h) c - 1)) 0)
          (placeholder_class (sliced_paging h) (paging_ok h k) (fresh_slot x.place c) (in_class h k q x there)));
      live_long = ap (λ (z : Heap). length z.live) g.rest ∙ length-set h.live c (get_or h.live c 0 - 1) ∙ k.live_long;
      counted = λ d lt. (
          let l = live_less d in
          let was = k.counted d lt in
          let now = ap (λ (z : Heap). get_or z.live d 0) g.rest in
          let less = counted_out h.live c d listed live_some in
          let all : live (sliced_paging h) (objects (remove m q)) d ≡ live (sliced_paging h) (remove (objects m) q) d = ap (λ o. live (sliced_paging h) o d) objects_are in
          omega arith);
      needed = (
          let e = needed_less in
          let now = ap (λ (z : Heap). z.needed) g.rest in
          let all : pages_needed (sliced_paging h) (objects (remove m q)) ≡ pages_needed (sliced_paging h) (remove (objects m) q) =
          ap (pages_needed (sliced_paging h)) objects_are in
          omega arith);
      within = (let now = ap (λ (z : Heap). z.needed) g.rest in let w = k.within in omega arith);
      asked = (
          let e = asked_less h k q x there in
          let now = ap (λ (z : Heap). z.asked) g.rest in
          let all = ap asked_bytes objects_are in
          omega arith);
      taken = (
          let e = taken_less h k q x there in
          let w = words_are in
          let now = ap (λ (z : Heap). z.taken) g.rest in
          let all = ap (taken_bytes (sliced_paging h)) objects_are in
          omega arith);
    }

    pub forgotten_valid : IsValid n
    forgotten_valid = becomes_valid h n k s becomes

    pub forgets : StartsClearing h q (fresh_slot x.place (class_at (sliced_paging h) x)) n
    forgets = record {
      object = x;
      found = there;
      slot = refl;
      state = becomes_state h n k s becomes;
      job = ap (λ (z : Heap). z.job) g.rest;
      words = ap (λ (z : Heap). z.words) g.rest;
      plan = becomes_plan h n k s becomes;
      quantum = ap (λ (z : Heap). z.quantum) g.rest;
      order = ap sliced_order_in g.rest;
    }

-- the lemmas above together, for the length, the address a and the class c as the code computes them
pub forgets_at : (h : Heap) (k : IsValid h) → h.job ≡ Idle → (q : ℕ) (x : Placed) → get (sliced_state_of h).held q ≡ Some x → (size a c : ℕ) → length x.bytes ≡ size
    → x.place ≡ a → class_at (sliced_paging h) x ≡ c → (n : Heap) → IsFreed h n q size a c → StartsClearing h q (fresh_slot a c) n × IsValid n
forgets_at h k idle q x there size a c long at is n =
    subst (λ size. IsFreed h n q size a c → StartsClearing h q (fresh_slot a c) n × IsValid n) long
    (subst (λ a. IsFreed h n q (length x.bytes) a c → StartsClearing h q (fresh_slot a c) n × IsValid n) at
    (subst (λ c. IsFreed h n q (length x.bytes) x.place c → StartsClearing h q (fresh_slot x.place c) n × IsValid n) is
    (λ g. (forgets h k idle q x there n g, forgotten_valid h k idle q x there n g))))
