-- For `end`: after a job's last word its slot becomes free or the next job moves an object into it, as the model and the order have it; the heap is valid, and
-- the steps are those of the model.
use Rattle.std.proofs.Common.{◌≡◌, ◌≢◌, ℕ, ◌+◌, ◌-◌, ◌<◌, length, get_or, Some, None, arith, refl, sym, ◌∙◌, ap, subst, inl, inr}
use Rattle.std.specs.FinMap.{insert}
use Rattle.page_model.specs.Arrangement.{not_full_pages}
use Rattle.page_model.specs.Held.{Held}
use Rattle.page_model.specs.Order.{IsNextToMove, slot_freed, steps_to_drop}
use Rattle.page_model.specs.Paging.{page_of, slot_words}
use Rattle.page_model.specs.Steps.{MustMove}
use Rattle.page_model.proofs.CallerLemmas.{within_or}
use Rattle.page_slots.specs.Release.{Vacates, drop_slot_steps as table_drop}
use Rattle.page_slots.specs.Occupying.{Occupies, class_table}
use Rattle.page_slots.specs.Tables.{AreTables, IsOf, IsUsed, page_at, slot_at}
use Rattle.page_slots.proofs.CallerLemmas.{drop_same, vacated_occupied, vacated_order, vacated_serve}
use Rattle.proxy_table.specs.Proxies.{AreBelowLimit}
use Rattle.size_classes.specs.Table.{ClassTable}
use Rattle.slice_model.specs.declared.job_slot.JobSlot.{JobSlot}
use Rattle.slice_model.specs.State.{Sliced, IsKept, occupied, placeholder, Idle, Clear}
use Rattle.slice_model.specs.Ordered.{EndFollows}
use Rattle.slice_model.specs.Steps.{EndsJob}
use Rattle.slice_model.specs.Words.{HasWords}
use Rattle.slice_model.proofs.CallerLemmas.{kept_slice, two_is_must}
use Rattle.sliced_heap.specs.Heap.{Heap}
use Rattle.sliced_heap.specs.Layout.{IsValid, plan_of, sliced_order_in, sliced_paging, sliced_state_of, sliced_tables_in}
use Rattle.step_ledger.specs.Counting.{RoseBy}
use Rattle.step_ledger.proofs.CallerLemmas.{rose_both, rose_by}
use Rattle.sliced_heap.specs.Costs.{end_cost}
use Rattle.sliced_heap.specs.Steps.{IsFilled}
use Rattle.sliced_heap.proofs.Facts.{held_bytes, paging_ok, places_are, plan_ok, table_is}
use Rattle.sliced_heap.proofs.FillLemmas.{all_are, at_last, class_in, kept_clear, last_done, none_there, occupied_clear, page_is, sound_clear}
use Rattle.sliced_heap.proofs.FillLemmas.{stand_class, stand_there, two, words_clear}
use Rattle.sliced_heap.proofs.StepCounts.{must_no, must_yes}
use Rattle.sliced_heap.proofs.Preserved.{Becomes, becomes_state, becomes_valid}
use Rattle.cf_base.proofs.Maps.{remove_fresh}

-- if `fill` chose an object to move to the slot, the end of the job is followed by the next job, as the model says
pub filled_ends : (h : Heap) (k : IsValid h) (g : JobSlot) → h.job ≡ Clear g → (n : Heap) → IsFilled h g n → EndsJob (sliced_paging h) (sliced_state_of h).held g (sliced_state_of n)
filled_ends h k g at n f =
    let must : MustMove (sliced_paging h) (insert (sliced_state_of h).held h.settings.proxies (placeholder (sliced_paging h) g)) (placeholder (sliced_paging h) g) =
    subst (λ o. MustMove (sliced_paging h) o (placeholder (sliced_paging h) g)) (all_are h k g at) f.must in
    inr (record { two = two h k g at must; object = f.object; beside = f.beside; carries = f.carries })

-- the next job moves the object that the order lists next, and no slot becomes free
pub filled_follows : (h : Heap) (k : IsValid h) (g : JobSlot) → h.job ≡ Clear g → (n : Heap) → IsFilled h g n
    → EndFollows (plan_of h) (sliced_state_of h).held g n.job (sliced_order_in h) (sliced_order_in n)
filled_follows h k g at n f =
    subst (λ (s : Sliced). EndFollows (plan_of h) (sliced_state_of h).held g s.job (sliced_order_in h) (sliced_order_in n)) (sym f.carries.whole)
    (record {
      object = f.beside.object;
      found = f.beside.found;
      next = subst (λ o. IsNextToMove (sliced_paging h) o (sliced_order_in h) g.class f.beside.object) (all_are h k g at) f.next;
      same = f.order;
    })

module _ (h : Heap) (k : IsValid h) (g : JobSlot) (at : h.job ≡ Clear g) where
  abbrev m : Held
  m = (sliced_state_of h).held

  -- the tables show the job's slot as used
  pub slot_used : IsUsed (sliced_tables_in h) g.class (page_at h.classes g.address) (slot_at h.classes g.class g.address)
  slot_used =
      let u = (occupied_clear h k g at).stands h.settings.proxies (placeholder (sliced_paging h) g) (stand_there h k g at) in
      subst (λ (t : ClassTable). IsUsed (sliced_tables_in h) g.class (page_at t g.address) (slot_at t g.class g.address)) (table_is h k)
      (subst (λ c. IsUsed (sliced_tables_in h) c (page_of (sliced_paging h) g.address) (slot_at (class_table (sliced_paging h)) c g.address)) (stand_class h k g at) u)

  -- the steps of freeing the slot, by the tables and by the model
  drop_is : table_drop (sliced_tables_in h) (page_at h.classes g.address)
      ≡ steps_to_drop (sliced_paging h) (insert m h.settings.proxies (placeholder (sliced_paging h) g)) g.class (page_of (sliced_paging h) g.address)
  drop_is =
      let used = (occupied_clear h k g at).stands h.settings.proxies (placeholder (sliced_paging h) g) (stand_there h k g at) in
      let of : IsOf (sliced_tables_in h) g.class (page_of (sliced_paging h) g.address) =
      subst (λ c. IsOf (sliced_tables_in h) c (page_of (sliced_paging h) g.address)) (stand_class h k g at) used.of in
      ap (table_drop (sliced_tables_in h)) (page_is h k g at)
      ∙ drop_same k.serve.part (occupied_clear h k g at) (class_in h k g at) h.proxies.free (page_of (sliced_paging h) g.address) of

  -- the steps of `end`: if an object must move into the slot, those of `fill`; else also those of freeing the slot
  pub filled_takes : (a b : ℕ) → MustMove (sliced_paging h) (occupied (plan_of h) (sliced_state_of h)) (placeholder (sliced_paging h) g) → RoseBy a b 6
      → RoseBy a b (end_cost (plan_of h) (sliced_state_of h).held g)
  filled_takes a b must rose =
      let yes = must_yes (sliced_paging h) (insert m h.settings.proxies (placeholder (sliced_paging h) g)) (placeholder (sliced_paging h) g)
      (subst (λ o. MustMove (sliced_paging h) o (placeholder (sliced_paging h) g)) (all_are h k g at) must) in
      rose_by a b 6 (end_cost (plan_of h) m g) (rw (end_cost, yes) refl) rose

  pub vacant_takes : (a b c : ℕ) → ¬ MustMove (sliced_paging h) (occupied (plan_of h) (sliced_state_of h)) (placeholder (sliced_paging h) g) → (t : Heap) → t ≡ h → RoseBy a b 1
      → RoseBy b c (table_drop (sliced_tables_in t) (page_at t.classes g.address)) → RoseBy a c (end_cost (plan_of h) (sliced_state_of h).held g)
  vacant_takes a b c stays t same one rest =
      let no' = must_no (sliced_paging h) (insert m h.settings.proxies (placeholder (sliced_paging h) g)) (placeholder (sliced_paging h) g)
      (λ must. stays (subst (λ o. MustMove (sliced_paging h) o (placeholder (sliced_paging h) g)) (sym (all_are h k g at)) must)) in
      let drops = ap (λ (t : Heap). table_drop (sliced_tables_in t) (page_at t.classes g.address)) same ∙ drop_is in
      rose_by a c _ (end_cost (plan_of h) m g) (ap (λ n. 1 + n) drops ∙ (rw (end_cost, no') refl)) (rose_both a b c 1 _ one rest)

  -- the slot becomes free: heap n has the tables that show it so, and no job
  module _ (stays : ¬ MustMove (sliced_paging h) (occupied (plan_of h) (sliced_state_of h)) (placeholder (sliced_paging h) g))
      (zeros : (i : ℕ) → i < slot_words (sliced_paging h) g.class → get_or h.words (g.address + i) 0 ≡ 0) (n : Heap)
      (rest : n ≡ record h { maps = n.maps; lists = n.lists; pool = n.pool; job = Idle })
      (v : Vacates (sliced_tables_in h) g.class (page_at h.classes g.address) (slot_at h.classes g.class g.address) (sliced_tables_in n))
      (tables : AreTables h.classes (sliced_tables_in n)) where
    abbrev s : Sliced
    s = record { held = m; job = Idle }

    not_two : not_full_pages (sliced_paging h) m g.class ≢ 2
    not_two e = stays (subst (λ o. MustMove (sliced_paging h) o (placeholder (sliced_paging h) g)) (sym (all_are h k g at))
        (two_is_must (plan_of h) (plan_ok h k) m g (none_there h k g at) (class_in h k g at) (sound_clear h k g at) e))

    pub ends_idle : EndsJob (sliced_paging h) (sliced_state_of h).held g (record { held = (sliced_state_of h).held; job = Idle })
    ends_idle = inl (not_two, refl)

    kept : IsKept (plan_of h) s
    kept = kept_slice (plan_of h) (plan_ok h k) (record { held = m; job = Clear (record g { done = slot_words (sliced_paging h) g.class - 1 }) }) s
        (at_last (plan_of h) (plan_ok h k) m g (kept_clear h k g at))
        (inr (record { all = last_done (plan_of h) (plan_ok h k) m g (kept_clear h k g at); ends = inl (not_two, refl) }))

    words_idle : HasWords (sliced_paging h) s h.words
    words_idle =
        let has = words_clear h k g at in
        record {
          held = λ q x there i lt. has.held q x there i lt;
          done = λ f e i lt. absurd (let e' : None ≡ Some f = e in cc);
          zeros = λ w out beyond. elim (within_or g.address (slot_words (sliced_paging h) g.class) w) [
            | inl (i, lt, is) ↦ subst (λ w. get_or h.words w 0 ≡ 0) is (zeros i lt)
            | inr apart ↦ has.zeros w out (λ f e. (let e' : Some g ≡ Some f = e in let i : g ≡ f = cc in rw i at apart))
          ];
        }

    at_table : Vacates (sliced_tables_in h) g.class (page_of (sliced_paging h) g.address) (slot_at (class_table (sliced_paging h)) g.class g.address) (sliced_tables_in n)
    at_table = subst (λ (t : ClassTable). Vacates (sliced_tables_in h) g.class (page_at t g.address) (slot_at t g.class g.address) (sliced_tables_in n))
        (sym (table_is h k)) v

    of_table : AreTables (class_table (sliced_paging h)) (sliced_tables_in n)
    of_table = subst (λ t. AreTables t (sliced_tables_in n)) (sym (table_is h k)) tables

    becomes : Becomes h n s
    becomes = record {
      settings = ap (λ (z : Heap). z.settings) rest;
      quantum = ap (λ (z : Heap). z.quantum) rest;
      table = ap (λ (z : Heap). z.classes) rest;
      job = ap (λ (z : Heap). z.job) rest;
      long = ap (λ (z : Heap). length z.words) rest;
      kept = kept;
      words = subst (HasWords (sliced_paging h) s) (sym (ap (λ (z : Heap). z.words) rest)) words_idle;
      bytes = held_bytes h k;
      addresses = ap (λ (z : Heap). z.proxies.places) rest ∙ places_are h k;
      limit = ap (λ (z : Heap). z.proxies.limit) rest;
      handles = subst AreBelowLimit (sym (ap (λ (z : Heap). z.proxies) rest)) k.handles;
      serve = vacated_serve (paging_ok h k) k.serve.part (occupied_clear h k g at) of_table (sound_clear h k g at) h.settings.proxies
          (stand_there h k g at) at_table
          (stand_class h k g at) refl refl k.serve.whole;
      occupied = subst (λ o. Occupies (sliced_paging h) o (sliced_tables_in n)) (remove_fresh m h.settings.proxies (placeholder (sliced_paging h) g) (none_there h k g at))
          (vacated_occupied (paging_ok h k) k.serve.part (occupied_clear h k g at) of_table (sound_clear h k g at) h.settings.proxies
          (stand_there h k g at) at_table
          (stand_class h k g at) refl refl);
      live_long = ap (λ (z : Heap). length z.live) rest ∙ k.live_long;
      counted = λ c lt. ap (λ (z : Heap). get_or z.live c 0) rest ∙ k.counted c lt;
      needed = ap (λ (z : Heap). z.needed) rest ∙ k.needed;
      within = (let now = ap (λ (z : Heap). z.needed) rest in let w = k.within in omega arith);
      asked = ap (λ (z : Heap). z.asked) rest ∙ k.asked_all;
      taken = ap (λ (z : Heap). z.taken) rest ∙ k.taken_all;
    }

    pub idle_valid : IsValid n
    idle_valid = becomes_valid h n k s becomes

    -- the order changes as it does when the slot becomes free
    freed : sliced_order_in n ≡ slot_freed (sliced_paging h) (insert m h.settings.proxies (placeholder (sliced_paging h) g)) (sliced_order_in h) g.class
        (page_of (sliced_paging h) g.address)
    freed = ap sliced_order_in rest
        ∙ vacated_order (paging_ok h k) k.serve.part (occupied_clear h k g at) of_table (class_in h k g at) h.proxies.free at_table

    pub idle_follows : EndFollows (plan_of h) (sliced_state_of h).held g n.job (sliced_order_in h) (sliced_order_in n)
    idle_follows = subst (λ j. EndFollows (plan_of h) m g j (sliced_order_in h) (sliced_order_in n)) (sym (ap (λ (z : Heap). z.job) rest)) freed

    pub idle_ends : EndsJob (sliced_paging h) (sliced_state_of h).held g (sliced_state_of n)
    idle_ends = subst (EndsJob (sliced_paging h) m g) (sym (becomes_state h n k s becomes)) ends_idle

-- the lemmas above together, for a heap t that equals h
pub idle_at : (h : Heap) (k : IsValid h) (g : JobSlot) → h.job ≡ Clear g → ¬ MustMove (sliced_paging h) (occupied (plan_of h) (sliced_state_of h))
    (placeholder (sliced_paging h) g)
    → ((i : ℕ) → i < slot_words (sliced_paging h) g.class → get_or h.words (g.address + i) 0 ≡ 0) → (t n : Heap) → t ≡ h
    → n ≡ record t { maps = n.maps; lists = n.lists; pool = n.pool; job = Idle }
    → Vacates (sliced_tables_in t) g.class (page_at t.classes g.address) (slot_at t.classes g.class g.address) (sliced_tables_in n) → AreTables t.classes (sliced_tables_in n)
    → IsValid n × EndsJob (sliced_paging h) (sliced_state_of h).held g (sliced_state_of n) × EndFollows (plan_of h) (sliced_state_of h).held g n.job (sliced_order_in h) (sliced_order_in n)
idle_at h k g at stays zeros t n same =
    subst (λ (t : Heap). n ≡ record t { maps = n.maps; lists = n.lists; pool = n.pool; job = Idle }
    → Vacates (sliced_tables_in t) g.class (page_at t.classes g.address) (slot_at t.classes g.class g.address) (sliced_tables_in n) → AreTables t.classes (sliced_tables_in n)
    → IsValid n × EndsJob (sliced_paging h) (sliced_state_of h).held g (sliced_state_of n) × EndFollows (plan_of h) (sliced_state_of h).held g n.job (sliced_order_in h) (sliced_order_in n)) (sym same)
    (λ rest v tables. (
      idle_valid h k g at stays zeros n rest v tables,
      idle_ends h k g at stays zeros n rest v tables,
      idle_follows h k g at stays zeros n rest v tables,
    ))
