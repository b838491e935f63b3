-- For `clear_slice` and `move_slice`: a slice that leaves some words of the job, and one that does its last words, keep the heap valid, and are slices of the
-- model that follow the order and take its steps.
use Rattle.std.proofs.Common.{◌≡◌, ℕ, ◌+◌, ◌-◌, ◌<◌, ◌≤◌, List, length, get_or, Some, None, arith, refl, sym, ◌∙◌, ap, subst, inl, inr}
use Rattle.std.specs.Prelude.{min}
use Rattle.page_model.specs.Arrangement.{IsSound}
use Rattle.page_model.specs.Held.{Held}
use Rattle.page_model.specs.Order.{Order}
use Rattle.page_model.specs.Paging.{slot_words}
use Rattle.page_slots.specs.Occupying.{Occupies, FitPages}
use Rattle.proxy_table.specs.Proxies.{AreBelowLimit}
use Rattle.size_classes.specs.Table.{ClassTable}
use Rattle.slice_model.specs.declared.job_slot.JobSlot.{JobSlot}
use Rattle.slice_model.specs.State.{Plan, Job, Sliced, IsKept, IsJobOf, IsUnderWay, advanced, job_slot, occupied, with_slot, Idle, Clear, Move}
use Rattle.slice_model.specs.Steps.{EndsJob, IsSlice, SliceOf, done_after}
use Rattle.slice_model.specs.Ordered.{EndFollows, SliceFollows, SlicesInOrder}
use Rattle.slice_model.specs.Words.{DoesWords, HasWords}
use Rattle.slice_model.specs.Runs.{Slices, HeapWithWords, words_of_slice}
use Rattle.slice_model.proofs.CallerLemmas.{job_class, kept_slice, slot_stays, words_sliced}
use Rattle.step_ledger.specs.Counting.{RoseBy}
use Rattle.step_ledger.proofs.CallerLemmas.{rose_both, rose_by}
use Rattle.sliced_heap.specs.Costs.{end_cost, part_cost}
use Rattle.sliced_heap.specs.Heap.{Heap}
use Rattle.sliced_heap.specs.Layout.{IsValid, plan_of, sliced_order_in, sliced_paging, sliced_state_of, sliced_tables_in, working_of}
use Rattle.sliced_heap.proofs.Facts.{held_bytes, places_are, plan_ok}
use Rattle.sliced_heap.proofs.HeldFromWords.{AreEnded}
use Rattle.sliced_heap.proofs.Preserved.{Becomes, becomes_state, becomes_valid}
use Rattle.sliced_heap.proofs.StepCounts.{words_last, words_left}

-- if j is the pending job, a slice of j is a slice as the model has it
pub slices_at : (plan : Plan) (old : HeapWithWords) (j : Job) → old.state.job ≡ j → (new : HeapWithWords)
    → IsSlice plan (record { held = old.state.held; job = j }) new.state
    → DoesWords old.state.held j (words_of_slice plan (job_slot j)) old.words new.words → Slices plan old new
slices_at plan old j at new slice does =
    subst (λ j. Slices plan (record { state = record { held = old.state.held; job = j }; words = old.words }) new) (sym at)
    (record { slice = slice; words = does })

-- heap n has the settings, tables, addresses and counts of heap h; only the words and the job may differ
pub record KeepsTables (h n : Heap) : Type 0 where
  pub settings : n.settings ≡ h.settings
  pub quantum : n.quantum ≡ h.quantum
  pub classes : n.classes ≡ h.classes
  pub live : n.live ≡ h.live
  pub needed : n.needed ≡ h.needed
  pub asked : n.asked ≡ h.asked
  pub taken : n.taken ≡ h.taken
  pub tables : sliced_tables_in n ≡ sliced_tables_in h
  pub proxies : n.proxies ≡ h.proxies
  pub long : length n.words ≡ length h.words

-- the heap n is valid if its job j has the same slot as before, and its words are right for j
module _ (h n : Heap) (k : IsValid h) (same : KeepsTables h n) (j : Job) (is : n.job ≡ j)
    (kept : IsKept (plan_of h) (record { held = (sliced_state_of h).held; job = j }))
    (words : HasWords (sliced_paging h) (record { held = (sliced_state_of h).held; job = j }) n.words)
    (slot : occupied (plan_of h) (record { held = (sliced_state_of h).held; job = j }) ≡ occupied (plan_of h) (sliced_state_of h)) where
  abbrev s : Sliced
  s = record { held = (sliced_state_of h).held; job = j }

  becomes : Becomes h n s
  becomes = record {
    settings = same.settings;
    quantum = same.quantum;
    table = same.classes;
    job = is;
    long = same.long;
    kept = kept;
    words = words;
    bytes = held_bytes h k;
    addresses = ap (λ z. z.places) same.proxies ∙ places_are h k;
    limit = ap (λ z. z.limit) same.proxies;
    handles = subst AreBelowLimit (sym same.proxies) k.handles;
    serve = subst (FitPages (sliced_paging h)) (sym same.tables) k.serve;
    occupied = subst (λ o. Occupies (sliced_paging h) o (sliced_tables_in n)) (sym slot) (subst (Occupies (sliced_paging h) (occupied (plan_of h) (sliced_state_of h)))
        (sym same.tables) k.occupied);
    live_long = ap length same.live ∙ k.live_long;
    counted = λ c lt. ap (λ l. get_or l c 0) same.live ∙ k.counted c lt;
    needed = same.needed ∙ k.needed;
    within = (let e = same.needed in let w = k.within in omega arith);
    asked = same.asked ∙ k.asked_all;
    taken = same.taken ∙ k.taken_all;
  }

  pub job_valid : IsValid n
  job_valid = becomes_valid h n k s becomes

  pub job_state : sliced_state_of n ≡ record { held = (sliced_state_of h).held; job = j }
  job_state = becomes_state h n k s becomes

-- a slice leads from heap h, whose job is j with slot g, to heap n
module _ (h n : Heap) (k : IsValid h) (same : KeepsTables h n) (j : Job) (at : h.job ≡ j) (g : JobSlot) (slot : job_slot j ≡ Some g) where
  abbrev m : Held
  m = (sliced_state_of h).held

  kept_at : IsKept (plan_of h) (record { held = m; job = j })
  kept_at = subst (λ j. IsKept (plan_of h) (record { held = m; job = j })) at k.kept

  words_at : HasWords (sliced_paging h) (record { held = m; job = j }) h.words
  words_at = subst (λ j. HasWords (sliced_paging h) (record { held = m; job = j }) h.words) at k.words

  slot_at : job_slot h.job ≡ Some g
  slot_at = ap job_slot at ∙ slot

  -- the slice does the words that the quantum allows
  module _ (does : DoesWords (sliced_state_of h).held j (min h.quantum (slot_words (sliced_paging h) g.class - g.done)) h.words n.words) where
    does_slice : DoesWords m j (words_of_slice (plan_of h) (job_slot j)) h.words n.words
    does_slice = subst (λ o. DoesWords m j (words_of_slice (plan_of h) o) h.words n.words) (sym slot) does

    -- some words of the job are left after the slice
    module _ (left : done_after (plan_of h) g < slot_words (sliced_paging h) g.class) (is : n.job ≡ advanced j (done_after (plan_of h) g)) where
      goes : IsSlice (plan_of h) (record { held = m; job = j }) (record { held = m; job = advanced j (done_after (plan_of h) g) })
      goes = subst (λ o. SliceOf (plan_of h) (record { held = m; job = j }) o (record { held = m; job = advanced j (done_after (plan_of h) g) })) (sym slot)
          (inl (record { left = left; whole = refl }))

      kept_on : IsKept (plan_of h) (record { held = m; job = advanced j (done_after (plan_of h) g) })
      kept_on = kept_slice (plan_of h) (plan_ok h k) (record { held = m; job = j })
          (record { held = m; job = advanced j (done_after (plan_of h) g) }) kept_at goes

      words_on : HasWords (sliced_paging h) (record { held = m; job = advanced j (done_after (plan_of h) g) }) n.words
      words_on = words_sliced (plan_of h) (plan_ok h k) h.words n.words m j kept_at words_at
          (record { held = m; job = advanced j (done_after (plan_of h) g) }) goes does_slice

      same_slot : occupied (plan_of h) (record { held = m; job = advanced j (done_after (plan_of h) g) }) ≡ occupied (plan_of h) (sliced_state_of h)
      same_slot = slot_stays (plan_of h) m j (done_after (plan_of h) g) ∙ ap (λ j. with_slot (plan_of h) m (job_slot j)) (sym at)

      pub on_valid : IsValid n
      on_valid = job_valid h n k same (advanced j (done_after (plan_of h) g)) is kept_on words_on same_slot

      pub on_slices : Slices (plan_of h) (working_of h) (working_of n)
      on_slices = slices_at (plan_of h) (working_of h) j at (working_of n)
          (subst (IsSlice (plan_of h) (record { held = m; job = j })) (sym (job_state h n k same
          (advanced j (done_after (plan_of h) g)) is kept_on words_on same_slot)) goes)
          does_slice

    -- all words of the job are done, and heap z is the one after `end`
    module _ (all : done_after (plan_of h) g ≡ slot_words (sliced_paging h) g.class) (z : Heap)
        (ends : EndsJob (sliced_paging h) (sliced_state_of h).held (record g { done = 0 }) (sliced_state_of z)) (same_words : z.words ≡ n.words) where
      pub end_slices : Slices (plan_of h) (working_of h) (working_of z)
      end_slices = slices_at (plan_of h) (working_of h) j at (working_of z)
          (subst (λ o. SliceOf (plan_of h) (record { held = m; job = j }) o (sliced_state_of z)) (sym slot) (inr (record { all = all; ends = from_fresh ends })))
          (subst (DoesWords m j (words_of_slice (plan_of h) (job_slot j)) h.words) (sym same_words) does_slice)
        where
          from_fresh : EndsJob (sliced_paging h) m (record g { done = 0 }) (sliced_state_of z) → EndsJob (sliced_paging h) m g (sliced_state_of z)
          from_fresh (inl over) = inl over
          from_fresh (inr c) = inr (record { two = c.two; object = c.object; beside = c.beside; carries = c.carries })

  -- when all words are done, the job becomes one that clears the same slot with no word done yet: the heap is still valid
  module _ (ended : AreEnded (sliced_paging h) (sliced_state_of h).held g n.words) (is : n.job ≡ Clear (record g { done = 0 })) where
    under : IsUnderWay (sliced_paging h) g
    under = job_class (sliced_paging h) m j kept_at.job g slot

    kept_vacant : IsKept (plan_of h) (record { held = m; job = Clear (record g { done = 0 }) })
    kept_vacant = record {
      numbers = kept_at.numbers;
      job = (let u = under.under_way in record { class = under.class; under_way = omega arith });
      sound = subst (λ o. IsSound (sliced_paging h) (with_slot (plan_of h) m o)) slot kept_at.sound;
    }

    words_vacant : HasWords (sliced_paging h) (record { held = m; job = Clear (record g { done = 0 }) }) n.words
    words_vacant = record {
      held = ended.idle.held;
      done = λ f e i lt. absurd (
          let e' : Some (record g { done = 0 }) ≡ Some f = e in
          let b : record g { done = 0 } ≡ f = cc in
          let d : 0 ≡ f.done = ap (λ (y : JobSlot). y.done) b in
          omega arith);
      zeros = λ w out beyond. ended.idle.zeros w out (λ f e. absurd (let e' : None ≡ Some f = e in cc));
    }

    same_slot_vacant : occupied (plan_of h) (record { held = m; job = Clear (record g { done = 0 }) }) ≡ occupied (plan_of h) (sliced_state_of h)
    same_slot_vacant = ap (with_slot (plan_of h) m) (sym slot_at)

    pub vacant_valid : IsValid n
    vacant_valid = job_valid h n k same (Clear (record g { done = 0 })) is kept_vacant words_vacant same_slot_vacant

    pub vacant_state : sliced_state_of n ≡ record { held = (sliced_state_of h).held; job = Clear (record g { done = 0 }) }
    vacant_state = job_state h n k same (Clear (record g { done = 0 })) is kept_vacant words_vacant same_slot_vacant

-- how the end of a job changes the order does not depend on `done`
same_end : (plan : Plan) (m : Held) (g : JobSlot) (was now : Order) (j : Job) → EndFollows plan m (record g { done = 0 }) j was now
    → EndFollows plan m g j was now
same_end plan m g was now Idle is = is
same_end plan m g was now (Clear f) is = is
same_end plan m g was now (Move q f) is = record { object = is.object; found = is.found; next = is.next; same = is.same }

-- A slice of n words of the job j, whose slot is g, which leaves the words w.
module _ (h : Heap) (k : IsValid h) (j : Job) (at : h.job ≡ j) (g : JobSlot) (slot : job_slot j ≡ Some g) (w : List ℕ) (long : length w ≡ length h.words)
    (n : ℕ)
    (n_is : n ≡ min h.quantum (get_or h.classes.sizes g.class 0 - g.done)) (does : DoesWords (sliced_state_of h).held j n h.words w)
    (ended : g.done + n ≡ slot_words (sliced_paging h) g.class → AreEnded (sliced_paging h) (sliced_state_of h).held g w) where
  sizes_are : get_or h.classes.sizes g.class 0 ≡ slot_words (sliced_paging h) g.class
  sizes_are = ap (λ (t : ClassTable). get_or t.sizes g.class 0) k.table

  under_way : g.done < slot_words (sliced_paging h) g.class
  under_way = (job_class (sliced_paging h) (sliced_state_of h).held j (subst (λ j. IsJobOf (sliced_paging h) (sliced_state_of h).held j) at k.kept.job) g slot).under_way

  count_is : n ≡ min h.quantum (slot_words (sliced_paging h) g.class - g.done)
  count_is = n_is ∙ ap (λ s. min h.quantum (s - g.done)) sizes_are

  does_so : DoesWords (sliced_state_of h).held j (min h.quantum (slot_words (sliced_paging h) g.class - g.done)) h.words w
  does_so = subst (λ n. DoesWords (sliced_state_of h).held j n h.words w) count_is does

  done_is : g.done + n ≡ done_after (plan_of h) g
  done_is = ap (λ n. g.done + n) count_is

  same_tables : (job : Job) → KeepsTables h (record h { words = w; job = job })
  same_tables job = record {
    settings = refl;
    quantum = refl;
    classes = refl;
    live = refl;
    needed = refl;
    asked = refl;
    taken = refl;
    tables = refl;
    proxies = refl;
    long = long;
  }

  held_slot : job_slot h.job ≡ Some g
  held_slot = ap job_slot at ∙ slot

  -- some words are left after the slice
  module _ (left : g.done + n < get_or h.classes.sizes g.class 0) where
    left_so : done_after (plan_of h) g < slot_words (sliced_paging h) g.class
    left_so = (let e = sizes_are in let d = done_is in omega arith)

    -- the slice takes a step for each of its words
    pub part_goes : (a b : ℕ) → RoseBy a b n → RoseBy a b (part_cost (plan_of h) (sliced_state_of h).held g)
    part_goes a b rose =
        let c = count_is in
        let s = sizes_are in
        let on = words_left h.quantum (slot_words (sliced_paging h) g.class - g.done) (end_cost (plan_of h) (sliced_state_of h).held g) (omega arith) in
        rose_by a b n (part_cost (plan_of h) (sliced_state_of h).held g) (omega arith) rose

    pub goes_on_valid : IsValid (record h { words = w; job = advanced j (g.done + n) })
    goes_on_valid = on_valid h (record h { words = w; job = advanced j (g.done + n) }) k (same_tables (advanced j (g.done + n))) j at g slot does_so left_so
        (ap (advanced j) done_is)

    pub goes_on : Slices (plan_of h) (working_of h) (working_of (record h { words = w; job = advanced j (g.done + n) }))
    goes_on = on_slices h (record h { words = w; job = advanced j (g.done + n) }) k (same_tables (advanced j (g.done + n))) j at g slot does_so left_so
        (ap (advanced j) done_is)

    pub goes_in_order : SlicesInOrder (plan_of h) (working_of h) (working_of (record h { words = w; job = advanced j (g.done + n) })) (sliced_order_in h)
        (sliced_order_in (record h { words = w; job = advanced j (g.done + n) }))
    goes_in_order = record {
      slices = goes_on;
      follows = subst (λ o. SliceFollows (plan_of h) (sliced_state_of h).held o (advanced j (g.done + n)) (sliced_order_in h) (sliced_order_in h)) (sym held_slot)
          (record { goes_on = λ _. refl; ends = λ all. absurd (let l = left_so in omega arith) });
    }

  -- all words are done after the slice
  module _ (past : get_or h.classes.sizes g.class 0 ≤ g.done + n) where
    all : g.done + n ≡ slot_words (sliced_paging h) g.class
    all = (let e = sizes_are in let c = count_is in let u = under_way in omega arith)

    pub all_zeros : (i : ℕ) → i < slot_words (sliced_paging h) g.class → get_or w (g.address + i) 0 ≡ 0
    all_zeros = (ended all).zeros

    pub vacated_valid : IsValid (record h { words = w; job = Clear (record g { done = 0 }) })
    vacated_valid = vacant_valid h (record h { words = w; job = Clear (record g { done = 0 }) }) k (same_tables (Clear (record g { done = 0 }))) j at g slot
        (ended all) refl

    -- the slice takes a step for each word left, and those of the end of the job
    pub part_ends : (a b c : ℕ) → RoseBy a b n
        → RoseBy b c (end_cost (plan_of h) (sliced_state_of (record h { words = w; job = Clear (record g { done = 0 }) })).held (record g { done = 0 }))
        → RoseBy a c (part_cost (plan_of h) (sliced_state_of h).held g)
    part_ends a b c words rest =
        let is = count_is in
        let total = all in
        let last = words_last h.quantum (slot_words (sliced_paging h) g.class - g.done) (end_cost (plan_of h) (sliced_state_of h).held g) (omega arith) in
        let same : end_cost (plan_of h) (sliced_state_of (record h { words = w; job = Clear (record g { done = 0 }) })).held (record g { done = 0 })
        ≡ end_cost (plan_of h) (sliced_state_of h).held g =
        ap (λ (y : Sliced). end_cost (plan_of h) y.held (record g { done = 0 }))
        (vacant_state h (record h { words = w; job = Clear (record g { done = 0 }) }) k (same_tables (Clear (record g { done = 0 }))) j at g slot (ended all) refl) in
        rose_by a c _ (part_cost (plan_of h) (sliced_state_of h).held g) (omega arith) (rose_both a b c n _ words rest)

    pub goes_to_end : (z : Heap) → EndsJob (sliced_paging h) (sliced_state_of (record h { words = w; job = Clear (record g { done = 0 }) })).held (record g { done = 0 })
        (sliced_state_of z)
        → z.words ≡ w → Slices (plan_of h) (working_of h) (working_of z)
    goes_to_end z ends same =
        end_slices h (record h { words = w; job = Clear (record g { done = 0 }) }) k (same_tables (Clear (record g { done = 0 }))) j at g slot does_so
        (sym done_is ∙ all) z
        (subst (λ m. EndsJob (sliced_paging h) m (record g { done = 0 }) (sliced_state_of z))
        (ap (λ (y : Sliced). y.held) (vacant_state h (record h { words = w; job = Clear (record g { done = 0 }) }) k
        (same_tables (Clear (record g { done = 0 }))) j at g slot
        (ended all) refl)) ends) same

    pub ends_in_order : (z : Heap)
        → EndsJob (sliced_paging h) (sliced_state_of (record h { words = w; job = Clear (record g { done = 0 }) })).held (record g { done = 0 }) (sliced_state_of z)
        → EndFollows (plan_of h) (sliced_state_of (record h { words = w; job = Clear (record g { done = 0 }) })).held (record g { done = 0 }) z.job (sliced_order_in h) (sliced_order_in z)
        → z.words ≡ w → SlicesInOrder (plan_of h) (working_of h) (working_of z) (sliced_order_in h) (sliced_order_in z)
    ends_in_order z ends follows same =
        let held : (sliced_state_of (record h { words = w; job = Clear (record g { done = 0 }) })).held ≡ (sliced_state_of h).held =
        ap (λ (y : Sliced). y.held) (vacant_state h (record h { words = w; job = Clear (record g { done = 0 }) }) k
        (same_tables (Clear (record g { done = 0 }))) j at g slot (ended all) refl) in
        let last : EndFollows (plan_of h) (sliced_state_of h).held (record g { done = 0 }) z.job (sliced_order_in h) (sliced_order_in z) =
        subst (λ m. EndFollows (plan_of h) m (record g { done = 0 }) z.job (sliced_order_in h) (sliced_order_in z)) held follows in
        record {
          slices = goes_to_end z ends same;
          follows = subst (λ o. SliceFollows (plan_of h) (sliced_state_of h).held o z.job (sliced_order_in h) (sliced_order_in z)) (sym held_slot) (record {
            goes_on = λ left. absurd (let a = all in let d = done_is in omega arith);
            ends = λ _. same_end (plan_of h) (sliced_state_of h).held g (sliced_order_in h) (sliced_order_in z) z.job last;
          });
        }
