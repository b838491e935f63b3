-- For `enter_class`, the first half of a resize to another class: the object takes a free slot, apart from its old one, and both classes are counted anew; or
-- there is none, nothing changes, and the resize is refused. Also, a number that no object has (`none_spare`).
use Rattle.std.proofs.Common.{◌≡◌, ℕ, ◌+◌, ◌-◌, ◌*◌, ◌/◌, ◌≤◌, length, get_or, set, Option, Some, None, Err, arith, refl, sym, ◌∙◌, ap, subst, inl, inr}
use Rattle.std.proofs.lemmas.List.{get_or-set_other}
use Rattle.proxy_table.specs.Proxies.{AreBelowLimit, with_place}
use Rattle.std.specs.Prelude.{take}
use Rattle.std.specs.FinMap.{get, insert}
use Rattle.cf_base.proofs.Maps.{get_inserted}
use Rattle.cf_base.specs.Settings.{profile_of}
use Rattle.page_model.specs.Bytes.{bytes_at}
use Rattle.page_model.proofs.CallerLemmas.{sound_placed, length-resized, class_holds, place_apart, slot_inside}
use Rattle.virtual_words.specs.Words.{IsWhole}
use Rattle.paged_heap.proofs.WholeBlocks.{whole_by}
use Rattle.cf_base.specs.declared.results.ResizeFault.TheVariants as resize
use Rattle.cf_model.specs.Steps.{IsResizeStep}
use Rattle.page_model.specs.Held.{Placed}
use Rattle.page_model.specs.Arrangement.{LacksRoom}
use Rattle.page_model.specs.Image.{IsDisjoint, slot_for}
use Rattle.page_model.specs.Paging.{class_for}
use Rattle.page_model.specs.Steps.{IsFreePlace, resized_at}
use Rattle.page_slots.specs.Tables.{AreTables, Tables}
use Rattle.page_slots.specs.Take.{TakesAt}
use Rattle.page_slots.specs.Occupying.{class_table}
use Rattle.page_slots.proofs.CallerLemmas.{taken_is_free, holds, it, it_found, it_class, it_slot}
use Rattle.paged_heap.specs.Heap.{Heap}
use Rattle.paged_heap.specs.declared.resize_class.Change.{Change}
use Rattle.paged_heap.specs.ResizeClass.{CopiesToSlot, EntersAt, FindsNoRoom, IsChange, kept_words, old_words}
use Rattle.paged_heap.specs.Layout.{IsValid, held_in, paging_at, state_of, tables_in}
use Rattle.paged_heap.proofs.ByKind.{unmoved}
use Rattle.paged_heap.proofs.LayoutFacts.{number_small, paged_kind, paging_ok, table_is, owns}
use Rattle.paged_heap.proofs.MallocLemmas.{same_state}

-- no object has the number `proxies` of the settings, since all numbers are below it
pub none_spare : (h : Heap) → IsValid h → get (held_in h) h.settings.proxies ≡ None
none_spare h k = go (get (held_in h) h.settings.proxies) refl
  where
    go : (o : Option Placed) → get (held_in h) h.settings.proxies ≡ o → get (held_in h) h.settings.proxies ≡ None
    go None e = e
    go (Some y) e = absurd (let lt = number_small h k h.settings.proxies y e in omega arith)

module _ {h : Heap} (k : IsValid h) {x : Change} (is : IsChange h x) where
  module _ {b : ℕ} {new : Tables} (t : TakesAt h.classes (tables_in h) x.to b new) (tables : AreTables h.classes new) where
    abbrev pub at_table : TakesAt (class_table (paging_at h)) (tables_in h) x.to b new
    at_table = subst (λ t. TakesAt t (tables_in h) x.to b new) (sym (table_is h k)) t

    abbrev pub of_table : AreTables (class_table (paging_at h)) new
    of_table = subst (λ t. AreTables t new) (sym (table_is h k)) tables

    pub is_free : IsFreePlace (paging_at h) (held_in h) x.bytes b
    is_free = taken_is_free (paging_ok h k) k.serve.part k.occupied of_table is.in_range at_table x.bytes is.class

  module _ {b : ℕ} (free : IsFreePlace (paging_at h) (held_in h) x.bytes b) where
    pub new_inside : b + slot_for (paging_at h) x.bytes ≤ length h.words
    new_inside = (let i = slot_inside (paging_at h) (class_for (paging_at h) x.bytes) b free.slot in let long = k.words_long in omega arith)

    pub new_holds : 1 + (x.bytes + 7) / 8 ≤ slot_for (paging_at h) x.bytes
    new_holds = class_holds (paging_at h) (paging_ok h k) x.bytes free.slot.class

    pub slots_apart : IsDisjoint b (slot_for (paging_at h) x.bytes) x.place (old_words h x)
    slots_apart = subst (λ n. IsDisjoint b (slot_for (paging_at h) x.bytes) x.place n) (sym (it_slot (owns k) is.object))
        (place_apart (paging_at h) (paging_ok h k) (held_in h) k.sound x.bytes b free h.settings.proxies (none_spare h k) x.handle.0
        (it (owns k) is.object) (it_found (owns k) is.object))

    pub new_whole : IsWhole h.kind b
    new_whole =
        let y = resized_at b (it (owns k) is.object) x.bytes in
        let there : IsFreePlace (paging_at h) (held_in h) (length y.bytes) b =
        subst (λ m. IsFreePlace (paging_at h) (held_in h) m b) (sym (length-resized (bytes_at h.words x.place) x.bytes)) free in
        let sound = sound_placed (paging_at h) (held_in h) h.settings.proxies y (none_spare h k) (paging_ok h k) k.sound there in
        (whole_by h.kind (paged_kind h k) (profile_of h.settings) (take (length h.classes.sizes) h.bounds) h.settings.page_size (paging_ok h k)
        (insert (held_in h) h.settings.proxies y) sound h.settings.proxies y (get_inserted (held_in h) h.settings.proxies y)).0

    pub target : b + 1 + (x.bytes + 7) / 8 ≤ length h.words
    target = (let i = new_inside in let r = new_holds in omega arith)

-- if no slot was taken, the whole heap is unchanged
pub unchanged : (h : Heap) (x : Change) (n : Heap) → FindsNoRoom h x n → n ≡ h
unchanged h x n none = none.rest ∙ ap (λ (t : Tables). record h { maps = t.maps; lists = t.lists; pool = t.pool }) none.tables

-- if no slot was taken, the resize is refused with `Space`, and the heap stays valid
module _ (h : Heap) (k : IsValid h) (x : Change) (is : IsChange h x) (n : Heap) (none : FindsNoRoom h x n) where
  pub refused : IsResizeStep (state_of h) (record { number = x.handle.0; length = x.bytes }) (Err resize.Space) (state_of n)
  refused = (
    record {
      object = it (owns k) is.object;
      found = it_found (owns k) is.object;
      pages = paged_kind h k;
      fits = is.fits;
      other = λ e. is.other (sym is.class ∙ e ∙ it_class (owns k) is.object);
      lacking = subst (LacksRoom (paging_at h) (held_in h)) (sym is.class) none.lacking;
    },
    unmoved h.kind (paged_kind h k) (state_of h) (state_of n) (same_state h n (unchanged h x n none)),
  )

-- words after the headers of two slots are apart
pub words_apart : (a b s z w : ℕ) → IsDisjoint b z a s → 1 + w ≤ s → 1 + w ≤ z → IsDisjoint (a + 1) w (b + 1) w
words_apart a b s z w (inl l) p q = inr (omega arith)
words_apart a b s z w (inr l) p q = inl (omega arith)

-- the parts of `enter_class`, put together: a slot is taken, the object is copied there, and the counts of both classes change
pub entered : (h : Heap) (x : Change) → IsChange h x → (b : ℕ) (t c o n : Heap) → TakesAt h.classes (tables_in h) x.to b (tables_in t)
    → AreTables h.classes (tables_in t)
    → t ≡ record h { maps = t.maps; lists = t.lists; pool = t.pool }
    → c ≡ record t { proxies = with_place t.proxies x.handle.0 b; words = c.words } → c.proxies.free ≡ t.proxies.free → CopiesToSlot t.words c.words x b
    → AreBelowLimit c.proxies
    → o ≡ record c {
      live = set c.live x.class (get_or c.live x.class 0 - 1);
      asked = c.asked - x.length;
      taken = c.taken - 8 * get_or c.classes.sizes x.class 0;
    }
    → n ≡ record o { live = set o.live x.to (get_or o.live x.to 0 + 1); asked = o.asked + x.bytes; taken = o.taken + 8 * get_or o.classes.sizes x.to 0 }
    → EntersAt h x b n
entered h x is b t c o n taken tables et ec free carries handles eo en =
    let to_c = ec ∙ ap (λ (z : Heap). record z { proxies = with_place z.proxies x.handle.0 b; words = c.words }) et in
    let to_o = eo ∙ ap (λ (z : Heap). record z
    { live = set z.live x.class (get_or z.live x.class 0 - 1); asked = z.asked - x.length; taken = z.taken - 8 * get_or z.classes.sizes x.class 0 }) to_c in
    let to_n = en ∙ ap (λ (z : Heap). record z
    { live = set z.live x.to (get_or z.live x.to 0 + 1); asked = z.asked + x.bytes; taken = z.taken + 8 * get_or z.classes.sizes x.to 0 }) to_o in
    record {
      settings = ap (λ (z : Heap). z.settings) to_n;
      classes = ap (λ (z : Heap). z.classes) to_n;
      bounds = ap (λ (z : Heap). z.bounds) to_n;
      taken = subst (TakesAt h.classes (tables_in h) x.to b) (sym (ap tables_in to_n)) taken;
      tables = subst (AreTables h.classes) (sym (ap tables_in to_n)) tables;
      kind = ap (λ (z : Heap). z.kind) to_n;
      words = subst (λ ws. CopiesToSlot ws n.words x b) (ap (λ (z : Heap). z.words) et)
          (subst (λ ws. CopiesToSlot t.words ws x b) (sym (ap (λ (z : Heap). z.words) en ∙ ap (λ (z : Heap). z.words) eo)) carries);
      frames = ap (λ (z : Heap). z.frames) to_n;
      proxies = ap (λ (z : Heap). z.proxies) to_n;
      free = ap (λ (z : Heap). z.proxies.free) en ∙ ap (λ (z : Heap). z.proxies.free) eo ∙ free ∙ ap (λ (z : Heap). z.proxies.free) et;
      handles = subst AreBelowLimit (sym (ap (λ (z : Heap). z.proxies) en ∙ ap (λ (z : Heap). z.proxies) eo)) handles;
      live = ap (λ (z : Heap). z.live) to_n
          ∙ ap (λ m. set (set h.live x.class (get_or h.live x.class 0 - 1)) x.to (m + 1))
          (get_or-set_other h.live x.class x.to (get_or h.live x.class 0 - 1) 0 is.other);
      asked = ap (λ (z : Heap). z.asked) to_n;
      all_taken = ap (λ (z : Heap). z.taken) to_n;
    }

-- the kept words are fewer than those of the old slot
pub kept_few : (h : Heap) (k : IsValid h) (x : Change) (is : IsChange h x) → kept_words x + 1 ≤ old_words h x
kept_few h k x is =
    let o = holds (owns k) x.handle.0 x.place is.object.known in
    let l = is.object.long in
    let e = it_slot (owns k) is.object in
    omega arith
