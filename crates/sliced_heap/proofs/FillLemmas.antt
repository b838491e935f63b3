-- For `fill` and `end`, while the job is to clear a slot: the facts of the slot and its placeholder, and when `must_move` is true. Then the class has two
-- partly full pages, and the object that the order lists next is live, on another page than the slot, with its number in its header. It gets the slot's
-- address, moving it there is the job, and the heap stays valid; to the model this is a slice that does the last word of the job before.
use Rattle.std.proofs.Common.{◌≡◌, ◌≢◌, ℕ, ◌+◌, ◌-◌, ◌*◌, ◌/◌, ◌%◌, ◌^◌, ◌<◌, [], length, get_or, replicate, Option, Some, None, arith, refl, sym, ◌∙◌, ap}
use Rattle.std.proofs.Common.{subst, inl, inr}
use Rattle.std.specs.Prelude.{◌↔◌, IsSome, slice_index_or}
use Rattle.std.specs.FinMap.{get, insert}
use Rattle.cf_base.proofs.Maps.{get_inserted, some_inserted}
use Rattle.cf_base.proofs.MapValues.{map_values-insert}
use Rattle.class_lists.specs.PageLists.{pages_in}
use Rattle.class_lists.specs.declared.Which.TheVariants.{NotFull}
use Rattle.page_model.specs.Figures.{asked_bytes, taken_bytes}
use Rattle.page_model.specs.Arrangement.{IsSound, class_at, live, not_full_pages, objects_on, pages_needed}
use Rattle.page_model.specs.Bytes.{AreBytes}
use Rattle.page_model.specs.Held.{Held, Placed, objects}
use Rattle.page_model.specs.Order.{IsNextToMove, fill_steps, steps_to_drop, steps_to_fill}
use Rattle.page_model.specs.Paging.{bound_of, classes, page_of, slot_words, slots_of}
use Rattle.page_model.specs.Steps.{MustMove}
use Rattle.page_slots.specs.Release.{IsFiller, MovesObject}
use Rattle.page_slots.specs.Occupying.{Occupies, FitPages, class_table}
use Rattle.page_slots.specs.Orders.{order_of}
use Rattle.page_slots.specs.Tables.{IsOf, page_at, slot_at, slots_on, used_in}
use Rattle.page_slots.proofs.CallerLemmas.{fill_same, filler, filler_is, filler_next, filler_not_full, found_page, moves_is}
use Rattle.proxy_table.specs.Proxies.{AreBelowLimit, with_place}
use Rattle.size_classes.specs.Table.{ClassTable}
use Rattle.slice_model.specs.declared.job_slot.JobSlot.{JobSlot}
use Rattle.slice_model.specs.State.{Plan, IsPlan, Sliced, IsKept, occupied, placeholder, Clear, Move}
use Rattle.slice_model.specs.Steps.{IsBeside, IsSlice, done_after, fresh_slot}
use Rattle.slice_model.specs.Words.{HasWords, word_at}
use Rattle.slice_model.proofs.CallerLemmas.{changed_places, kept_slice, must_is_two, no_placeholder, objects_sliced, on_more}
use Rattle.slice_model.proofs.CallerLemmas.{other_than, some_beside, placeholder_class, words_to_carry}
use Rattle.sliced_heap.specs.Heap.{Heap}
use Rattle.sliced_heap.specs.Layout.{IsValid, plan_of, sliced_order_in, sliced_paging, sliced_state_of, sliced_tables_in}
use Rattle.sliced_heap.specs.Steps.{IsFilled}
use Rattle.sliced_heap.proofs.Facts.{held_bytes, ones, paging_ok, place_known, places_are, plan_ok, table_is}
use Rattle.sliced_heap.proofs.Headers.{head_number, holds, inside}
use Rattle.sliced_heap.proofs.Places.{changed_occupied}
use Rattle.sliced_heap.proofs.Preserved.{Becomes, becomes_plan, becomes_state, becomes_valid}
use Rattle.sliced_heap.proofs.StepCounts.{fill_front, fill_is}

-- If `fill` replaces a job `Clear` of slot k by one that moves an object there, the rules of the model still hold. To the model this is the slice that does the
-- last word of a job `Clear` of slot k.
module _ (plan : Plan) (ok : IsPlan plan) (m : Held) (k : JobSlot) (kept : IsKept plan (record { held = m; job = Clear k })) where
  abbrev last : JobSlot
  last = record k { done = slot_words plan.paging k.class - 1 }

  pub at_last : IsKept plan (record { held = m; job = Clear (record k { done = slot_words plan.paging k.class - 1 }) })
  at_last = record {
    numbers = kept.numbers;
    job = (let some = kept.job.under_way in record { class = kept.job.class; under_way = omega arith });
    sound = kept.sound;
  }

  pub last_done : done_after plan (record k { done = slot_words plan.paging k.class - 1 }) ≡ slot_words plan.paging k.class
  last_done = (let some = kept.job.under_way in let q = ok.quantum in omega arith)

  module _ (q : ℕ) (y : Placed) (there : get m q ≡ Some y) (two : not_full_pages plan.paging m k.class ≡ 2)
      (b : IsBeside plan.paging m k.address k.class q) where
    abbrev new : Sliced
    new = record { held = insert m q (record { place = k.address; bytes = y.bytes }); job = Move q (fresh_slot y.place k.class) }

    chain : IsSlice plan (record { held = m; job = Clear (record k { done = slot_words plan.paging k.class - 1 }) }) new
    chain = inr (record {
      all = last_done;
      ends = inr (record { two = two; object = q; beside = b; carries = record { object = y; found = there; whole = refl } });
    })

    pub kept_filled : IsKept plan (record { held = insert m q (record { place = k.address; bytes = y.bytes }); job = Move q (fresh_slot y.place k.class) })
    kept_filled = kept_slice plan ok (record { held = m; job = Clear last }) new at_last chain

    pub same_objects : objects (insert m q (record { place = k.address; bytes = y.bytes })) ≡ objects m
    same_objects = objects_sliced plan (record { held = m; job = Clear last }) new chain

module _ (h : Heap) (k : IsValid h) (g : JobSlot) (at : h.job ≡ Clear g) where
  abbrev m : Held
  m = (sliced_state_of h).held

  abbrev stand : Placed
  stand = placeholder (sliced_paging h) g

  abbrev all : Held
  all = insert m h.settings.proxies stand

  pub kept_clear : IsKept (plan_of h) (record { held = (sliced_state_of h).held; job = Clear g })
  kept_clear = subst (λ j. IsKept (plan_of h) (record { held = m; job = j })) at k.kept

  pub words_clear : HasWords (sliced_paging h) (record { held = (sliced_state_of h).held; job = Clear g }) h.words
  words_clear = subst (λ j. HasWords (sliced_paging h) (record { held = m; job = j }) h.words) at k.words

  pub occupied_clear : Occupies (sliced_paging h) (insert (sliced_state_of h).held h.settings.proxies (placeholder (sliced_paging h) g)) (sliced_tables_in h)
  occupied_clear = subst (λ j. Occupies (sliced_paging h) (occupied (plan_of h) (record { held = m; job = j })) (sliced_tables_in h)) at k.occupied

  pub all_are : occupied (plan_of h) (sliced_state_of h) ≡ insert (sliced_state_of h).held h.settings.proxies (placeholder (sliced_paging h) g)
  all_are = ap (λ j. occupied (plan_of h) (record { held = m; job = j })) at

  pub sound_clear : IsSound (sliced_paging h) (insert (sliced_state_of h).held h.settings.proxies (placeholder (sliced_paging h) g))
  sound_clear = kept_clear.sound

  pub none_there : get (sliced_state_of h).held h.settings.proxies ≡ None
  none_there = no_placeholder (plan_of h) m k.kept.numbers

  pub stand_there : get (insert (sliced_state_of h).held h.settings.proxies (placeholder (sliced_paging h) g)) h.settings.proxies ≡ Some (placeholder (sliced_paging h) g)
  stand_there = get_inserted m h.settings.proxies stand

  pub class_in : g.class < classes (sliced_paging h)
  class_in = kept_clear.job.class

  pub stand_class : class_at (sliced_paging h) (placeholder (sliced_paging h) g) ≡ g.class
  stand_class = placeholder_class (sliced_paging h) (paging_ok h k) g class_in

  pub page_is : page_at h.classes g.address ≡ page_of (sliced_paging h) g.address
  page_is = ap (λ (t : ClassTable). g.address / t.page_words) k.table

  -- what `must_move` requires
  pub page_within : page_at h.classes g.address < length h.maps
  page_within = (let lt = found_page (paging_ok h k) k.serve.part occupied_clear h.settings.proxies stand_there in let e = page_is in rw e lt)

  -- `must_move` returns true if and only if the slot must be filled (`MustMove`)
  pub must_is : MovesObject (slice_index_or h.maps (page_at h.classes g.address) []) (length (pages_in h.lists g.class NotFull)) 1
      ↔ MustMove (sliced_paging h) (insert (sliced_state_of h).held h.settings.proxies (placeholder (sliced_paging h) g)) (placeholder (sliced_paging h) g)
  must_is =
      let is = moves_is (paging_ok h k) k.serve.part occupied_clear h.settings.proxies stand_there in
      let bound : bound_of (sliced_paging h) g.class ≡ 1 = ones h k g.class class_in in
      let c = stand_class in
      let same : MovesObject (slice_index_or h.maps (page_at h.classes g.address) []) (length (pages_in h.lists g.class NotFull)) 1
      ≡ MovesObject (slots_on (sliced_tables_in h) (page_of (sliced_paging h) g.address)) (length (pages_in h.lists (class_at (sliced_paging h) stand) NotFull))
      (bound_of (sliced_paging h) (class_at (sliced_paging h) stand)) =
      ap (λ page. MovesObject (slice_index_or h.maps page []) (length (pages_in h.lists g.class NotFull)) 1) page_is
      ∙ ap (λ b. MovesObject (slots_on (sliced_tables_in h) (page_of (sliced_paging h) g.address)) (length (pages_in h.lists g.class NotFull)) b) (sym bound)
      ∙ ap (λ d. MovesObject (slots_on (sliced_tables_in h) (page_of (sliced_paging h) g.address)) (length (pages_in h.lists d NotFull)) (bound_of (sliced_paging h) d))
      (sym stand_class) in
      subst (λ A. A ↔ MustMove (sliced_paging h) all stand) (sym same) is

  -- if an object has to move
  module _ (must : MustMove (sliced_paging h) (insert (sliced_state_of h).held h.settings.proxies (placeholder (sliced_paging h) g)) (placeholder (sliced_paging h) g)) where
    pub two : not_full_pages (sliced_paging h) (sliced_state_of h).held g.class ≡ 2
    two = must_is_two (plan_of h) (plan_ok h k) m g none_there class_in sound_clear must

    -- the object that fills the slot
    module _ (a : ℕ) (f : IsFiller h.classes h.maps h.lists g.class a) where
      abbrev f' : IsFiller (class_table (sliced_paging h)) (sliced_tables_in h).maps (sliced_tables_in h).lists g.class a
      f' = subst (λ t. IsFiller t h.maps h.lists g.class a) (sym (table_is h k)) f

      abbrev found : (q : ℕ) × (y : Placed) × (get all q ≡ Some y) × (y.place ≡ a)
      found = filler (paging_ok h k) k.serve.part occupied_clear f'

      abbrev q : ℕ
      q = found.0

      abbrev y : Placed
      y = found.1

      is : (class_at (sliced_paging h) y ≡ g.class) × (page_of (sliced_paging h) y.place ≡ f'.page)
          × (slot_at (class_table (sliced_paging h)) g.class y.place ≡ f'.slot)
      is = filler_is (paging_ok h k) k.serve.part occupied_clear f' sound_clear q found.2 found.3

      less : objects_on (sliced_paging h) all g.class (page_of (sliced_paging h) y.place) < slots_of (sliced_paging h) g.class
      less = filler_not_full (paging_ok h k) k.serve.part occupied_clear f' sound_clear q found.2 found.3

      pub other_page : page_of (sliced_paging h) y.place ≢ page_of (sliced_paging h) g.address
      other_page e =
          let full : objects_on (sliced_paging h) all g.class (page_of (sliced_paging h) g.address) ≡ slots_of (sliced_paging h) g.class = rw stand_class at must.full in
          let l = less in
          let l' : objects_on (sliced_paging h) all g.class (page_of (sliced_paging h) g.address) < slots_of (sliced_paging h) g.class = rw e at l in
          omega arith

      pub y_there : get (sliced_state_of h).held q ≡ Some y
      y_there = elim (some_beside (plan_of h) m (Some g) q y found.2) [
        | inl was ↦ was
        | inr (g', e, _, same) ↦ absurd (other_page (
            let e' : Some g ≡ Some g' = e in
            let i : g ≡ g' = cc in
            ap (λ (z : Placed). page_of (sliced_paging h) z.place) (sym same) ∙ ap (λ (z : JobSlot). page_of (sliced_paging h) z.address) (sym i)))
      ]

      -- freeing the filler's slot takes 2 steps less than finding and freeing it
      page_leaves : steps_to_fill (sliced_paging h) all (sliced_order_in h) g.class ≡ 2 + steps_to_drop (sliced_paging h) all g.class (page_of (sliced_paging h) y.place)
      page_leaves =
          let used = (occupied_clear.stands q y found.2).of in
          let of : IsOf (sliced_tables_in h) g.class (page_of (sliced_paging h) y.place) = rw is.0 at used in
          let by_order = fill_same k.serve.part occupied_clear class_in h.proxies.free f'.page f'.front in
          let by_table = fill_front (pages_in h.lists g.class NotFull) f'.page (λ page. fill_steps (used_in (slots_on (sliced_tables_in h) page))) f'.front in
          let here : used_in (slots_on (sliced_tables_in h) f'.page) ≡ objects_on (sliced_paging h) all g.class (page_of (sliced_paging h) y.place) =
          ap (λ page. used_in (slots_on (sliced_tables_in h) page)) (sym is.1) ∙ sym (occupied_clear.counted g.class (page_of (sliced_paging h) y.place) of) in
          sym by_order ∙ by_table ∙ ap fill_steps here
          ∙ fill_is (objects_on (sliced_paging h) all g.class (page_of (sliced_paging h) y.place)) (slots_of (sliced_paging h) g.class) less

      -- the filler's header is in the region, and has the filler's number, which is live
      pub from_within : a < length h.words
      from_within = (let i = inside h k q y y_there in let o = holds h k q y y_there in let e : y.place ≡ a = found.3 in omega arith)

      pub number_is : get_or h.words a 0 % 2 ^ 32 ≡ q
      number_is = head_number h k q y y_there a (sym found.3 ∙ (let e : y.place ≡ y.place + 0 = omega arith in e) ∙ sym (ap (λ j. word_at j q y 0) at))

      pub number_live : IsSome (get h.proxies.places (get_or h.words a 0 % 2 ^ 32))
      number_live = rw (number_is, place_known h k q y y_there) refl

      pub lies_beside : IsBeside (sliced_paging h) (sliced_state_of h).held g.address g.class q
      lies_beside = record {
        object = y;
        found = y_there;
        class = is.0;
        page = other_page;
        not_full = (
            let l = less in
            let more = on_more (plan_of h) (plan_ok h k) (record { held = m; job = Clear g }) kept_clear g.class (page_of (sliced_paging h) y.place) in
            omega arith);
      }

      -- the filler gets the slot's address, and moving it there is the job
      module _ (fresh : g.done ≡ 0) (n : Heap) (handles : AreBelowLimit n.proxies) (free : n.proxies.free ≡ h.proxies.free) (whole : n ≡ record h {
        proxies = with_place h.proxies (get_or h.words a 0 % 2 ^ 32) g.address;
        job = Move (get_or h.words a 0 % 2 ^ 32) (fresh_slot a g.class);
      }) where
        rest : n ≡ record h { proxies = with_place h.proxies q g.address; job = Move q (fresh_slot y.place g.class) }
        rest = whole ∙ ap (λ r. record h { proxies = with_place h.proxies r g.address; job = Move r (fresh_slot a g.class) }) number_is
            ∙ ap (λ b. record h { proxies = with_place h.proxies q g.address; job = Move q (fresh_slot b g.class) }) (sym found.3)

        abbrev s : Sliced
        s = record { held = insert m q (record { place = g.address; bytes = y.bytes }); job = Move q (fresh_slot y.place g.class) }

        kept : IsKept (plan_of h) s
        kept = kept_filled (plan_of h) (plan_ok h k) m g kept_clear q y y_there two lies_beside

        objects_same : objects s.held ≡ objects m
        objects_same = same_objects (plan_of h) (plan_ok h k) m g kept_clear q y y_there two lies_beside

        not_stand : q ≢ h.settings.proxies
        not_stand = other_than m h.settings.proxies q y none_there y_there

        counts : (c page : ℕ) → objects_on (sliced_paging h) (insert (insert m q (record { place = g.address; bytes = y.bytes })) h.settings.proxies
            (record { place = y.place; bytes = replicate (8 * (slot_words (sliced_paging h) g.class - 1)) 0 })) c page ≡ objects_on (sliced_paging h) all c page
        counts = (changed_places (sliced_paging h) h.settings.proxies m g.address (replicate (8 * (slot_words (sliced_paging h) g.class - 1)) 0) q y not_stand
            (λ e. absurd (let l = k.kept.numbers q y y_there in omega arith)) (past (get m (h.settings.proxies + 1)) refl) y_there
            (is.0 ∙ sym stand_class) sound_clear).counts
          where
            past : (o : Option Placed) → get m (h.settings.proxies + 1) ≡ o → get m (h.settings.proxies + 1) ≡ None
            past None e = e
            past (Some x) e = absurd (let l = k.kept.numbers (h.settings.proxies + 1) x e in omega arith)

        stands : Occupies (sliced_paging h) (occupied (plan_of h) s) (sliced_tables_in h)
        stands = changed_occupied (sliced_paging h) m (sliced_tables_in h) h.settings.proxies stand occupied_clear q y y_there not_stand (is.0 ∙ sym stand_class) counts

        words_now : HasWords (sliced_paging h) s h.words
        words_now = words_to_carry (sliced_paging h) m h.words q y g.address g.class y_there is.0 (λ r x there i lt. words_clear.held r x there i lt)
            (λ w out beyond. words_clear.zeros w out (λ f e. (let e' : Some g ≡ Some f = e in let i : g ≡ f = cc in rw i at beyond)))

        becomes : Becomes h n s
        becomes = record {
          settings = ap (λ (z : Heap). z.settings) rest;
          quantum = ap (λ (z : Heap). z.quantum) rest;
          table = ap (λ (z : Heap). z.classes) rest;
          job = ap (λ (z : Heap). z.job) rest;
          long = ap (λ (z : Heap). length z.words) rest;
          kept = kept;
          words = subst (HasWords (sliced_paging h) s) (sym (ap (λ (z : Heap). z.words) rest)) words_now;
          bytes = λ r x there. elim (some_inserted m q (record { place = g.address; bytes = y.bytes }) r x there) [
            | inl (_, same) ↦ subst (λ (z : Placed). AreBytes z.bytes) same (held_bytes h k q y y_there)
            | inr (_, was) ↦ held_bytes h k r x was
          ];
          addresses = ap (λ (z : Heap). z.proxies.places) rest ∙ ap (λ n. insert n q g.address) (places_are h k)
              ∙ sym (map_values-insert (λ (x : Placed). x.place) m q (record { place = g.address; bytes = y.bytes }));
          limit = ap (λ (z : Heap). z.proxies.limit) rest;
          handles = handles;
          serve = subst (FitPages (sliced_paging h)) (sym (ap sliced_tables_in rest)) k.serve;
          occupied = subst (Occupies (sliced_paging h) (occupied (plan_of h) s)) (sym (ap sliced_tables_in rest)) stands;
          live_long = ap (λ (z : Heap). length z.live) rest ∙ k.live_long;
          counted = λ c lt. ap (λ (z : Heap). get_or z.live c 0) rest ∙ k.counted c lt ∙ ap (λ o. live (sliced_paging h) o c) (sym objects_same);
          needed = ap (λ (z : Heap). z.needed) rest ∙ k.needed ∙ ap (pages_needed (sliced_paging h)) (sym objects_same);
          within = (let now = ap (λ (z : Heap). z.needed) rest in let w = k.within in omega arith);
          asked = ap (λ (z : Heap). z.asked) rest ∙ k.asked_all ∙ ap asked_bytes (sym objects_same);
          taken = ap (λ (z : Heap). z.taken) rest ∙ k.taken_all ∙ ap (taken_bytes (sliced_paging h)) (sym objects_same);
        }

        pub filled_valid : IsValid n
        filled_valid = becomes_valid h n k s becomes

        -- the filler is the object that the order lists next
        is_next : IsNextToMove (sliced_paging h) (occupied (plan_of h) (sliced_state_of h)) (sliced_order_in h) g.class y
        is_next = subst (λ o. IsNextToMove (sliced_paging h) o (sliced_order_in h) g.class y) (sym all_are)
            (filler_next (paging_ok h k) k.serve.part occupied_clear class_in h.proxies.free f' y found.3)

        order_same : sliced_order_in n ≡ sliced_order_in h
        order_same = ap sliced_order_in rest ∙ ap (order_of (classes (sliced_paging h)) (sliced_tables_in h)) (sym (ap (λ (z : Heap). z.proxies.free) rest) ∙ free)

        pub is_filled : IsFilled h g n
        unfolding lies_beside
        is_filled = record {
          must = subst (λ o. MustMove (sliced_paging h) o stand) (sym all_are) must;
          object = q;
          beside = lies_beside;
          next = is_next;
          carries = record { object = y; found = y_there; whole = becomes_state h n k s becomes };
          words = ap (λ (z : Heap). z.words) rest;
          plan = becomes_plan h n k s becomes;
          quantum = ap (λ (z : Heap). z.quantum) rest;
          order = order_same;
          counts = λ c page. ap (λ plan. objects_on (sliced_paging h) (occupied plan (sliced_state_of n)) c page) (becomes_plan h n k s becomes)
              ∙ ap (λ t. objects_on (sliced_paging h) (occupied (plan_of h) t) c page) (becomes_state h n k s becomes) ∙ counts c page
              ∙ ap (λ o. objects_on (sliced_paging h) o c page) (sym all_are);
          leaves = subst (λ o. steps_to_fill (sliced_paging h) o (sliced_order_in h) g.class ≡ 2 + steps_to_drop (sliced_paging h) o g.class (page_of (sliced_paging h) y.place))
              (sym all_are) page_leaves;
        }
