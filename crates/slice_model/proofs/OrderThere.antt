-- For the laws of `order.rt`: a malloc that isn't refused, a slice, and a free while no job is pending can follow the order. Each call leaves an order of the
-- new state, where the job's slot counts as used.
use Rattle.std.proofs.Common.{◌≡◌, ◌≢◌, ℕ, ◌+◌, ◌-◌, ◌*◌, ◌<◌, ◌≤◌, List, ◌∷◌, Option, Some, None, length, replicate, arith, refl, sym, ◌∙◌, ap, subst, inl, inr}
use Rattle.std.specs.Prelude.{Ok, Err}
use Rattle.std.specs.List.{Contains}
use Rattle.std.proofs.lemmas.Bool.{cases_eq, cases_lt}
use Rattle.std.specs.FinMap.{get, insert, len, remove}
use Rattle.cf_base.specs.Classes.{need}
use Rattle.cf_base.proofs.Maps.{found_once, get_inserted, get_insert_other, get_removed, get_remove_other, len_fresh, len_rebound, remove_fresh}
use Rattle.cf_base.proofs.Searches.{len_without}
use Rattle.cf_base.proofs.Members.{contains_cases, contains_tail, distinct_cons, distinct_head, distinct_tail}
use Rattle.page_model.specs.Arrangement.{IsSound, LacksRoom, class_at, objects_on}
use Rattle.page_model.specs.Bytes.{written}
use Rattle.page_model.specs.Held.{Held, Placed}
use Rattle.page_model.specs.Order.{FreeFollows, IsNextToMove, IsOrderOf, MallocFollows, Order, slot_freed}
use Rattle.page_model.specs.Paging.{Paging, class_for, classes, page_of, slot_words, slots_of}
use Rattle.page_model.specs.Steps.{Moves, Request, without, zeros_at}
use Rattle.page_model.proofs.CallerLemmas.{can_free, can_malloc, class_fits, length-written, malloc_once, mover_is_other, objects_on-exchanged, order_in_place}
use Rattle.page_model.proofs.CallerLemmas.{numbers_spare, order_is, pages_listed, renumbered, spare_same, still_listed}
use Rattle.slice_model.specs.State.{Plan, IsPlan, IsPlaceFor, JobSlot, Job, Sliced, IsKept, Idle, Clear, Move, advanced, job_slot, occupied, placeholder, with_slot}
use Rattle.slice_model.specs.Steps.{EndsJob, AddsSlicedObject, IsSlicedRefusedBy, IsSlice, RemovesSlicedObject, SliceOf, LeavesJob, done_after, fresh_slot}
use Rattle.slice_model.specs.Runs.{Event, Position, HeapWithWords, WritesWithWords, Malloc, Free, Step, Write, Read}
use Rattle.slice_model.specs.Ordered.{EndFollows, FreesInOrder, HappensInOrder, IsOrderBeside, MallocsInOrder, MovesNext, SliceFollows, numbers_beside}
use Rattle.slice_model.specs.declared.refusals.SliceRefusal.{SliceRefusal}
use Rattle.slice_model.proofs.KeptSteps.{changed_places, kept_begun, moved_away, must_is_two, other_than, same_elsewhere, slot_stays, two_is_must}
use Rattle.slice_model.proofs.Occupied.{free_is_place, get_beside, inserted_beside, job_class, lacking_is_no_place, no_placeholder, placeholder_class, some_beside}
use Rattle.slice_model.proofs.OrderOnce.{removed_once, slice_once}
use Rattle.slice_model.proofs.RoomBeside.{answered}

-- an order of m is one of n, if both have the same counts by class and page, and the same free numbers
alike_order : (p : Paging) (m n : Held) (limit : ℕ) (o : Order) → ((c g : ℕ) → objects_on p n c g ≡ objects_on p m c g)
    → ((q : ℕ) → get m q ≡ None → get n q ≡ None) → len n ≡ len m → IsOrderOf p m limit o → IsOrderOf p n limit o
alike_order p m n limit o counts none long is =
    order_is p n limit o (still_listed p n m o counts (pages_listed p m limit o is))
    (spare_same n m limit o.spare none long (numbers_spare p m limit o is))

-- if the spare number listed next is the largest, the order without it is one for a smaller limit
one_less : (p : Paging) (m : Held) (limit : ℕ) (o : Order) → IsOrderOf p m (limit + 1) (record o { spare = limit ∷ o.spare }) → IsOrderOf p m limit o
one_less p m limit o is = record {
  pool = is.pool;
  pool_once = is.pool_once;
  as_many = is.as_many;
  not_full = is.not_full;
  not_full_once = is.not_full_once;
  spare = λ h there. (
      let was = is.spare h (contains_tail h limit o.spare there) in
      let lt = was.0 in
      let ne : h ≢ limit = λ e. distinct_head limit o.spare is.spare_once (subst (λ q. Contains o.spare q) e there) in
      (below h limit lt ne, was.1));
  spare_once = distinct_tail limit o.spare is.spare_once;
  spare_all = (let all = is.spare_all in omega arith);
}
  where
    below : (h n : ℕ) → h < n + 1 → h ≢ n → h < n
    below h n lt ne = omega arith

-- Object h is freed, but a placeholder keeps a slot of its class: so n has the same counts as m. Then h is the spare number listed next, and the limit is one
-- more, for the placeholder's number.
freed_order : (p : Paging) (m n : Held) (limit : ℕ) (o : Order) (h : ℕ) (x : Placed) → get m h ≡ Some x → h < limit
    → ((c g : ℕ) → objects_on p n c g ≡ objects_on p m c g) → get n h ≡ None → ((q : ℕ) → q < limit → get m q ≡ None → get n q ≡ None)
    → len n ≡ len m → IsOrderOf p m limit o → IsOrderOf p n (limit + 1) (record o { spare = h ∷ o.spare })
freed_order p m n limit o h x found lt counts gone none long is =
    order_is p n (limit + 1) (record o { spare = h ∷ o.spare })
    (renumbered p n o (h ∷ o.spare) (still_listed p n m o counts (pages_listed p m limit o is)))
    (record {
      below = λ g there. elim (contains_cases g h o.spare there) [
        | inl e ↦ (rw e (let l = lt in omega arith), rw e gone)
        | inr later ↦ (let was = is.spare g later in let l = was.0 in (omega arith, none g was.0 was.1))
      ];
      once = distinct_cons h o.spare (λ there. (let z : Some x ≡ None = sym found ∙ (is.spare h there).1 in cc)) is.spare_once;
      all = (let a = is.spare_all in omega arith);
    })

-- While a job is pending: if an object more may be made, a number is spare; and the spare number of such an object isn't the placeholder's.
module _ (plan : Plan) (m : Held) (none : get m plan.proxies ≡ None) where
  few_beside : (o : Option JobSlot) → len m < plan.proxies → len (with_slot plan m o) < numbers_beside plan o
  few_beside None few = few
  few_beside (Some k) few = (let more = len_fresh m plan.proxies (placeholder plan.paging k) none in omega arith)

  number_beside : (o : Option JobSlot) (h : ℕ) → h < numbers_beside plan o → get (with_slot plan m o) h ≡ None → h < plan.proxies
  number_beside None h lt free = lt
  number_beside (Some k) h lt free = elim (cases_eq h plan.proxies) [
    | inl is ↦ absurd (
        let z : Some (placeholder plan.paging k) ≡ None = sym (get_inserted m plan.proxies (placeholder plan.paging k))
        ∙ ap (get (with_slot plan m (Some k))) (sym is) ∙ free in
        cc)
    | inr ne ↦ omega arith
  ]

numbers_stay : (plan : Plan) (j : Job) (d : ℕ) → numbers_beside plan (job_slot (advanced j d)) ≡ numbers_beside plan (job_slot j)
numbers_stay plan Idle d = refl
numbers_stay plan (Clear k) d = refl
numbers_stay plan (Move h k) d = refl

-- a malloc of n bytes can follow the order o: the number that it uses, and the state and the order that it leaves
pub record CanGive (plan : Plan) (s : Sliced) (n : ℕ) (o : Order) : Type 0 where
  pub number : ℕ
  pub after : Sliced
  pub new : Order
  pub gives : AddsSlicedObject plan s (record { number = number; length = n }) after
  pub follows : MallocFollows plan.paging (occupied plan s) (record { number = number; length = n }) gives.place o new
  pub is_order : IsOrderBeside plan after new

-- the end of the job of slot k can follow the order o: the state and the order that it leaves
record CanEnd (plan : Plan) (m : Held) (k : JobSlot) (o : Order) : Type 0 where
  new : Sliced
  now : Order
  ends : EndsJob plan.paging m k new
  follows : EndFollows plan m k new.job o now
  is_order : IsOrderBeside plan new now

-- a slice can follow the order o: the state and the order that it leaves
pub record CanSlice (plan : Plan) (s : Sliced) (o : Order) : Type 0 where
  pub new : Sliced
  pub now : Order
  pub slice : IsSlice plan s new
  pub follows : SliceFollows plan s.held (job_slot s.job) new.job o now
  pub is_order : IsOrderBeside plan new now

-- a free of object h can follow the order o: the state and the order that it leaves
pub record CanRemove (plan : Plan) (s : Sliced) (h : ℕ) (o : Order) : Type 0 where
  pub new : Sliced
  pub now : Order
  pub removes : RemovesSlicedObject plan s h new
  pub next : MovesNext plan.paging s.held o (class_at plan.paging removes.freed) removes.moved
  pub follows : SliceFollows plan removes.begun.held (job_slot removes.begun.job) new.job (record o { spare = h ∷ o.spare }) now
  pub is_order : IsOrderBeside plan new now

module _ (plan : Plan) (ok : IsPlan plan) where
  pub can_give : (s : Sliced) → IsKept plan s → (n : ℕ) (o : Order) → IsOrderBeside plan s o → need n ≤ plan.paging.page_words → len s.held < plan.proxies
      → (a : ℕ) → IsPlaceFor plan.paging s (class_for plan.paging n) a → CanGive plan s n o
  can_give s kept n o is fits few a place =
      let free_number = no_placeholder plan s.held kept.numbers in
      let room : ¬ LacksRoom plan.paging (occupied plan s) (class_for plan.paging n) = λ l. (
      let none = lacking_is_no_place plan ok s kept (class_for plan.paging n) l in
      elim place.choice [
        | inl usable ↦ none.unusable a usable
        | inr (_, page) ↦ none.taken (page_of plan.paging a) page
      ]) in
      let can = can_malloc plan.paging ok.paging (occupied plan s) kept.sound (numbers_beside plan (job_slot s.job)) o is n
      (class_fits plan.paging ok.paging n fits) (few_beside plan s.held free_number (job_slot s.job) few) room in
      let low = number_beside plan s.held free_number (job_slot s.job) can.number can.below can.unused in
      record {
        number = can.number;
        after = record s { held = insert s.held can.number (zeros_at can.place n) };
        new = can.new;
        gives = record {
          fits = fits;
          few = few;
          in_range = low;
          unused = sym (get_beside plan s.held (job_slot s.job) can.number low) ∙ can.unused;
          place = can.place;
          free = free_is_place plan ok s kept n can.place can.free;
          placed = refl;
        };
        follows = can.follows;
        is_order = subst (λ m. IsOrderOf plan.paging m (numbers_beside plan (job_slot s.job)) can.new)
            (inserted_beside plan s.held (job_slot s.job) can.number (zeros_at can.place n) low) can.is_order;
      }

  -- a malloc that is not refused can follow the order
  pub give_unrefused : (s : Sliced) → IsKept plan s → (n : ℕ) (o : Order) → IsOrderBeside plan s o → ((e : SliceRefusal) → ¬ IsSlicedRefusedBy plan s n e)
      → CanGive plan s n o
  give_unrefused s kept n o is free = elim (answered plan ok s kept n) [
    | inl (e, cause) ↦ absurd (free e cause)
    | inr (h, new, g) ↦ can_give s kept n o is g.fits g.few g.place g.free
  ]

  -- the end of a job can follow the order
  module _ (m : Held) (numbers : (h : ℕ) (x : Placed) → get m h ≡ Some x → h < plan.proxies) (k : JobSlot) (class : k.class < classes plan.paging)
      (sound : IsSound plan.paging (with_slot plan m (Some k))) (o : Order) (is : IsOrderOf plan.paging (with_slot plan m (Some k)) (plan.proxies + 1) o) where
    abbrev all : Held
    all = with_slot plan m (Some k)

    abbrev stand : Placed
    stand = placeholder plan.paging k

    none : get m plan.proxies ≡ None
    none = no_placeholder plan m numbers

    here : get all plan.proxies ≡ Some stand
    here = get_inserted m plan.proxies stand

    of_class : class_at plan.paging stand ≡ k.class
    of_class = placeholder_class plan.paging ok.paging k class

    -- another job follows, which moves an object to the slot
    module _ (q : ℕ) (y : Placed) (there : get m q ≡ Some y) (y_class : class_at plan.paging y ≡ k.class) where
      abbrev z : Placed
      z = record { place = k.address; bytes = y.bytes }

      abbrev left : Placed
      left = placeholder plan.paging (fresh_slot y.place k.class)

      qP : q ≢ plan.proxies
      qP = other_than m plan.proxies q y none there

      past : (x : Option Placed) → get m (plan.proxies + 1) ≡ x → get m (plan.proxies + 1) ≡ None
      past None e = e
      past (Some x) e = absurd (let l = numbers (plan.proxies + 1) x e in omega arith)

      counts : (c g : ℕ) → objects_on plan.paging (insert (insert m q z) plan.proxies left) c g ≡ objects_on plan.paging all c g
      counts = (changed_places plan.paging plan.proxies m k.address (replicate (8 * (slot_words plan.paging k.class - 1)) 0) q y qP
          (λ e. absurd (let l = numbers q y there in omega arith)) (past (get m (plan.proxies + 1)) refl) there (y_class ∙ sym of_class) sound).counts

      free : (r : ℕ) → get all r ≡ None → get (insert (insert m q z) plan.proxies left) r ≡ None
      free r gone =
          let rP : r ≢ plan.proxies = λ e. (let x : Some stand ≡ None = sym here ∙ ap (get all) (sym e) ∙ gone in cc) in
          let was : get m r ≡ None = sym (get_insert_other m plan.proxies stand r rP) ∙ gone in
          let rq : r ≢ q = λ e. (let x : Some y ≡ None = sym there ∙ ap (get m) (sym e) ∙ was in cc) in
          get_insert_other (insert m q z) plan.proxies left r rP ∙ get_insert_other m q z r rq ∙ was

      long : len (insert (insert m q z) plan.proxies left) ≡ len all
      long =
          let fresh : get (insert m q z) plan.proxies ≡ None = get_insert_other m q z plan.proxies (λ e. qP (sym e)) ∙ none in
          let a = len_fresh (insert m q z) plan.proxies left fresh in
          let b = len_rebound m q z y there in
          let c = len_fresh m plan.proxies stand none in
          omega arith

      carried_order : IsOrderOf plan.paging (insert (insert m q z) plan.proxies left) (plan.proxies + 1) o
      carried_order = alike_order plan.paging all (insert (insert m q z) plan.proxies left) (plan.proxies + 1) o counts free long is

    end_by : (moved : Option ℕ) (new : Order) → Moves plan.paging all stand moved → FreeFollows plan.paging all plan.proxies moved o new
        → IsOrderOf plan.paging (without all plan.proxies k.address moved) (plan.proxies + 1) new → CanEnd plan m k o
    end_by None new never f left =
        let object : f.object ≡ stand = found_once all plan.proxies f.object stand f.found here in
        let next : Order = slot_freed plan.paging all o k.class (page_of plan.paging k.address) in
        let slot : f.between ≡ slot_freed plan.paging all o k.class (page_of plan.paging k.address) =
        f.slot ∙ ap (λ (x : Placed). slot_freed plan.paging all o (class_at plan.paging x) (page_of plan.paging x.place)) object
        ∙ ap (λ c. slot_freed plan.paging all o c (page_of plan.paging k.address)) of_class in
        let is_new : new ≡ record (slot_freed plan.paging all o k.class (page_of plan.paging k.address)) {
          spare = plan.proxies ∷ (slot_freed plan.paging all o k.class (page_of plan.paging k.address)).spare;
        } = f.number ∙ ap (λ (b : Order). record b { spare = plan.proxies ∷ b.spare }) slot in
        let of_rest = subst (λ n. IsOrderOf plan.paging n (plan.proxies + 1) new) (remove_fresh m plan.proxies stand none) left in
        record {
          new = record { held = m; job = Idle };
          now = slot_freed plan.paging all o k.class (page_of plan.paging k.address);
          ends = inl (λ two. never (two_is_must plan ok m k none class sound two), refl);
          follows = refl;
          is_order = one_less plan.paging m plan.proxies (slot_freed plan.paging all o k.class (page_of plan.paging k.address))
              (subst (IsOrderOf plan.paging m (plan.proxies + 1)) is_new of_rest);
        }
    end_by (Some q) new (must, (v, v_there, may)) f left =
        let object : f.object ≡ stand = found_once all plan.proxies f.object stand f.found here in
        let y : Placed = f.slot.0 in
        let y_there : get all q ≡ Some f.slot.0 = f.slot.1 in
        let same : v ≡ f.slot.0 = found_once all q v f.slot.0 v_there y_there in
        let y_class : class_at plan.paging f.slot.0 ≡ k.class = ap (class_at plan.paging) (sym same) ∙ may.class ∙ of_class in
        let full : objects_on plan.paging all k.class (page_of plan.paging k.address) ≡ slots_of plan.paging k.class = rw of_class at must.full in
        let less : objects_on plan.paging all k.class (page_of plan.paging f.slot.0.place) < slots_of plan.paging k.class =
        subst (λ (x : Placed). objects_on plan.paging all k.class (page_of plan.paging x.place) < slots_of plan.paging k.class) same
        (rw of_class at may.not_full) in
        let apart : page_of plan.paging f.slot.0.place ≢ page_of plan.paging k.address = λ e. (
        let l = subst (λ g. objects_on plan.paging all k.class g < slots_of plan.paging k.class) e less in omega arith) in
        let found : get m q ≡ Some f.slot.0 = elim (some_beside plan m (Some k) q f.slot.0 y_there) [
          | inl was ↦ was
          | inr (g, e, _, is_stand) ↦ absurd (apart (
              let e' : Some k ≡ Some g = e in
              let i : k ≡ g = cc in
              ap (λ (x : Placed). page_of plan.paging x.place) (sym is_stand) ∙ ap (λ (x : JobSlot). page_of plan.paging x.address) (sym i)))
        ] in
        let next : IsNextToMove plan.paging all o k.class f.slot.0 =
        subst (λ c. IsNextToMove plan.paging all o c f.slot.0) (ap (class_at plan.paging) object ∙ of_class) f.slot.2 in
        record {
          new = record { held = insert m q (record { place = k.address; bytes = f.slot.0.bytes }); job = Move q (fresh_slot f.slot.0.place k.class) };
          now = o;
          ends = inr (record {
            two = must_is_two plan ok m k none class sound must;
            object = q;
            beside = record {
              object = f.slot.0;
              found = found;
              class = y_class;
              page = apart;
              not_full = (let e = same_elsewhere plan ok m k none class sound (page_of plan.paging f.slot.0.place) apart in omega arith);
            };
            carries = record { object = f.slot.0; found = found; whole = refl };
          });
          follows = record { object = f.slot.0; found = found; next = next; same = refl };
          is_order = carried_order q f.slot.0 found y_class;
        }

    can_end : CanEnd plan m k o
    can_end =
        let can = can_free plan.paging ok.paging all sound (plan.proxies + 1) o is plan.proxies stand here (omega arith) in
        end_by can.moved can.new can.moves can.follows can.is_order

  pub can_slice : (s : Sliced) → IsKept plan s → (o : Order) → IsOrderBeside plan s o → CanSlice plan s o
  can_slice s kept o is = go (job_slot s.job) refl
    where
      go : (j : Option JobSlot) → job_slot s.job ≡ j → CanSlice plan s o
      go None e = record {
        new = s;
        now = o;
        slice = subst (λ j. SliceOf plan s j s) (sym e) refl;
        follows = subst (λ j. SliceFollows plan s.held j s.job o o) (sym e) refl;
        is_order = is;
      }
      go (Some k) e = elim (cases_lt (done_after plan k) (slot_words plan.paging k.class)) [
        | inl left ↦ record {
          new = record s { job = advanced s.job (done_after plan k) };
          now = o;
          slice = subst (λ j. SliceOf plan s j (record s { job = advanced s.job (done_after plan k) })) (sym e) (inl (record { left = left; whole = refl }));
          follows = subst (λ j. SliceFollows plan s.held j (advanced s.job (done_after plan k)) o o) (sym e)
              (record { goes_on = λ _. refl; ends = λ all. absurd (omega arith) });
          is_order = subst (λ n. IsOrderOf plan.paging (with_slot plan s.held (job_slot (advanced s.job (done_after plan k)))) n o)
              (sym (numbers_stay plan s.job (done_after plan k)))
              (subst (λ m. IsOrderOf plan.paging m (numbers_beside plan (job_slot s.job)) o) (sym (slot_stays plan s.held s.job (done_after plan k))) is);
        }
        | inr over ↦ (
            let under = job_class plan.paging s.held s.job kept.job k e in
            let way = under.under_way in
            let end = can_end s.held kept.numbers k under.class (subst (λ j. IsSound plan.paging (with_slot plan s.held j)) e kept.sound) o
            (subst (λ j. IsOrderOf plan.paging (with_slot plan s.held j) (numbers_beside plan j) o) e is) in
            let all : done_after plan k ≡ slot_words plan.paging k.class = omega arith in
            record {
              new = end.new;
              now = end.now;
              slice = subst (λ j. SliceOf plan s j end.new) (sym e) (inr (record { all = all; ends = end.ends }));
              follows = subst (λ j. SliceFollows plan s.held j end.new.job o end.now) (sym e)
                  (record { goes_on = λ left. absurd (omega arith); ends = λ _. end.follows });
              is_order = end.is_order;
            })
      ]

-- a free of a live object can follow the order
module _ (plan : Plan) (ok : IsPlan plan) where
  module _ (s : Sliced) (kept : IsKept plan s) (idle : s.job ≡ Idle) (h : ℕ) (x : Placed) (found : get s.held h ≡ Some x) (o : Order)
      (is : IsOrderBeside plan s o) where
    abbrev m : Held
    m = s.held

    abbrev c : ℕ
    c = class_at plan.paging x

    kept_idle : IsKept plan (record { held = m; job = Idle })
    kept_idle = subst (λ j. IsKept plan (record { held = m; job = j })) idle kept

    is_idle : IsOrderOf plan.paging m plan.proxies o
    is_idle = subst (λ j. IsOrderBeside plan (record { held = m; job = j }) o) idle is

    free_number : get m plan.proxies ≡ None
    free_number = no_placeholder plan m kept.numbers

    low : h < plan.proxies
    low = kept.numbers h x found

    hP : h ≢ plan.proxies
    hP = other_than m plan.proxies h x free_number found

    class_in : class_at plan.paging x < classes plan.paging
    class_in = (kept_idle.sound.slots h x found).class

    -- if the order is right for the state in which the free's job begins, the free can follow it: by its first slice
    removed : (moved : Option ℕ) (begun : Sliced) → Moves plan.paging m x moved → LeavesJob (remove m h) x.place c moved begun
        → MovesNext plan.paging m o c moved → IsOrderBeside plan begun (record o { spare = h ∷ o.spare }) → CanRemove plan s h o
    removed moved begun moves begins next order =
        let slice = can_slice plan ok begun (kept_begun plan ok m kept_idle h x found moved moves begun begins) (record o { spare = h ∷ o.spare }) order in
        record {
          new = slice.new;
          now = slice.now;
          removes = record {
            idle = idle;
            freed = x;
            found = found;
            moved = moved;
            moves = moves;
            begun = begun;
            begins = begins;
            slice = slice.slice;
          };
          next = next;
          follows = slice.follows;
          is_order = slice.is_order;
        }

    abbrev vacant : Placed
    vacant = placeholder plan.paging (fresh_slot x.place c)

    cleared_order : IsOrderOf plan.paging (insert (remove m h) plan.proxies (placeholder plan.paging (fresh_slot x.place c))) (plan.proxies + 1)
        (record o { spare = h ∷ o.spare })
    cleared_order =
        let fresh : get (remove m h) plan.proxies ≡ None = get_remove_other m h plan.proxies (λ e. hP (sym e)) ∙ free_number in
        freed_order plan.paging m (insert (remove m h) plan.proxies vacant) plan.proxies o h x found low
        (objects_on-exchanged plan.paging m h x found plan.proxies (replicate (8 * (slot_words plan.paging c - 1)) 0) fresh
        (placeholder_class plan.paging ok.paging (fresh_slot x.place c) class_in))
        (get_insert_other (remove m h) plan.proxies vacant h hP ∙ get_removed m h)
        (λ q lt gone. elim (cases_eq q h) [
          | inl e ↦ absurd (let arrived : Some x ≡ None = sym found ∙ ap (get m) (sym e) ∙ gone in cc)
          | inr ne ↦ get_insert_other (remove m h) plan.proxies vacant q (λ e. absurd (omega arith)) ∙ get_remove_other m h q ne ∙ gone
        ])
        (let a = len_fresh (remove m h) plan.proxies vacant fresh in let b = len_without m h x found in omega arith)
        is_idle

    -- another object gets the freed address
    module _ (q : ℕ) (y : Placed) (there : get m q ≡ Some y) (ne : q ≢ h) (y_class : class_at plan.paging y ≡ c) where
      abbrev arrived : Placed
      arrived = record { place = x.place; bytes = y.bytes }

      abbrev behind : Placed
      behind = placeholder plan.paging (fresh_slot y.place c)

      other_number : q ≢ plan.proxies
      other_number = other_than m plan.proxies q y free_number there

      moved_order : IsOrderOf plan.paging (insert (insert (remove m h) q (record { place = x.place; bytes = y.bytes })) plan.proxies
          (placeholder plan.paging (fresh_slot y.place c))) (plan.proxies + 1) (record o { spare = h ∷ o.spare })
      moved_order =
          let rest : get (remove m h) q ≡ Some y = get_remove_other m h q ne ∙ there in
          let fresh : get (insert (remove m h) q arrived) plan.proxies ≡ None = get_insert_other (remove m h) q arrived plan.proxies (λ e. other_number (sym e))
          ∙ get_remove_other m h plan.proxies (λ e. hP (sym e)) ∙ free_number in
          freed_order plan.paging m (insert (insert (remove m h) q arrived) plan.proxies behind) plan.proxies o h x found low
          (moved_away plan.paging plan.proxies m free_number h x found q y there ne (replicate (8 * (slot_words plan.paging c - 1)) 0) y_class
          (placeholder_class plan.paging ok.paging (fresh_slot y.place c) class_in) kept_idle.sound).counts
          (get_insert_other (insert (remove m h) q arrived) plan.proxies behind h hP ∙ get_insert_other (remove m h) q arrived h (λ e. ne (sym e)) ∙ get_removed m h)
          (λ r lt gone. (
          let rh : r ≢ h = λ e. (let w : Some x ≡ None = sym found ∙ ap (get m) (sym e) ∙ gone in cc) in
          let rq : r ≢ q = λ e. (let w : Some y ≡ None = sym there ∙ ap (get m) (sym e) ∙ gone in cc) in
          get_insert_other (insert (remove m h) q arrived) plan.proxies behind r (λ e. absurd (omega arith))
          ∙ get_insert_other (remove m h) q arrived r rq ∙ get_remove_other m h r rh ∙ gone))
          (let a = len_fresh (insert (remove m h) q arrived) plan.proxies behind fresh in
          let b = len_rebound (remove m h) q arrived y rest in
          let d = len_without m h x found in
          omega arith)
          is_idle

    remove_by : (moved : Option ℕ) (new : Order) → Moves plan.paging m x moved → FreeFollows plan.paging m h moved o new → CanRemove plan s h o
    remove_by None new never f =
        removed None (record { held = remove m h; job = Clear (fresh_slot x.place c) }) never refl tt cleared_order
    remove_by (Some q) new (must, (v, v_there, may)) f =
        let object : f.object ≡ x = found_once m h f.object x f.found found in
        let ne = mover_is_other plan.paging ok.paging m kept_idle.sound h x found q v v_there must may in
        let next : MovesNext plan.paging m o c (Some q) =
        (f.slot.0, f.slot.1, subst (λ (w : Placed). IsNextToMove plan.paging m o (class_at plan.paging w) f.slot.0) object f.slot.2) in
        removed (Some q) (record { held = insert (remove m h) q (record { place = x.place; bytes = v.bytes }); job = Move q (fresh_slot v.place c) })
        (must, (v, v_there, may))
        (record { object = v; found = get_remove_other m h q ne ∙ v_there; whole = refl })
        next (moved_order q v v_there ne may.class)

    pub can_remove : CanRemove plan s h o
    can_remove =
        let can = can_free plan.paging ok.paging m kept_idle.sound plan.proxies o is_idle h x found low in
        remove_by can.moved can.new can.moves can.follows

-- a call that follows an order leaves an order of the new state
module _ (plan : Plan) (ok : IsPlan plan) where
  malloc_keeps : (old : HeapWithWords) (asked : Request) (new : HeapWithWords) (was now : Order) → IsKept plan old.state → IsOrderBeside plan old.state was
      → MallocsInOrder plan old asked new was now → IsOrderBeside plan new.state now
  malloc_keeps old asked new was now kept is x =
      let g = x.mallocs.gives in
      let can = can_give plan ok old.state kept asked.length was is g.fits g.few g.place g.free in
      let f = can.gives in
      let (number, place, order) = malloc_once plan.paging (occupied plan old.state) (record { number = can.number; length = asked.length }) asked
      f.place g.place was can.new now can.follows x.follows refl in
      let state : can.after ≡ new.state = f.placed
      ∙ ap (λ n. record old.state { held = insert old.state.held n (zeros_at f.place asked.length) }) number
      ∙ ap (λ a. record old.state { held = insert old.state.held asked.number (zeros_at a asked.length) }) place ∙ sym g.placed in
      subst (λ o. IsOrderBeside plan new.state o) order (subst (λ s. IsOrderBeside plan s can.new) state can.is_order)

  slice_keeps : (s after : Sliced) (was now : Order) → IsKept plan s → IsOrderBeside plan s was → IsSlice plan s after
      → SliceFollows plan s.held (job_slot s.job) after.job was now → IsOrderBeside plan after now
  slice_keeps s after was now kept is slice follows =
      let can = can_slice plan ok s kept was is in
      let (state, order) = slice_once plan ok s kept can.new after was can.now now can.slice can.follows slice follows in
      subst (λ o. IsOrderBeside plan after o) order (subst (λ t. IsOrderBeside plan t can.now) state can.is_order)

  free_keeps : (old : HeapWithWords) (h : ℕ) (new : HeapWithWords) (was now : Order) → IsKept plan old.state → IsOrderBeside plan old.state was
      → FreesInOrder plan old h new was now → IsOrderBeside plan new.state now
  free_keeps old h new was now kept is x =
      let r = x.frees.removes in
      let can = can_remove plan ok old.state kept r.idle h r.freed r.found was is in
      let begun : can.removes.begun ≡ r.begun = removed_once plan old.state h can.new new.state was kept can.removes r can.next x.next in
      let idle : IsKept plan (record { held = old.state.held; job = Idle }) =
      subst (λ j. IsKept plan (record { held = old.state.held; job = j })) r.idle kept in
      let kept_now = kept_begun plan ok old.state.held idle h r.freed r.found r.moved r.moves r.begun r.begins in
      let (state, order) = slice_once plan ok r.begun kept_now can.new new.state (record was { spare = h ∷ was.spare }) can.now now
      (subst (λ b. IsSlice plan b can.new) begun can.removes.slice)
      (subst (λ b. SliceFollows plan b.held (job_slot b.job) can.new.job (record was { spare = h ∷ was.spare }) can.now) begun can.follows)
      r.slice x.follows in
      subst (λ o. IsOrderBeside plan new.state o) order (subst (λ t. IsOrderBeside plan t can.now) state can.is_order)

  -- a call that changes nothing, and a write, leave an order of the new state
  same_keeps : (old new : HeapWithWords) (was now : Order) → IsOrderBeside plan old.state was → new ≡ old → now ≡ was → IsOrderBeside plan new.state now
  same_keeps old new was now is state order =
      subst (λ o. IsOrderBeside plan new.state o) (sym order) (subst (λ (w : HeapWithWords). IsOrderBeside plan w.state was) (sym state) is)

  write_keeps : (old : HeapWithWords) (position : Position) (bytes : List ℕ) (new : HeapWithWords) (was now : Order) → IsKept plan old.state → IsOrderBeside plan old.state was
      → WritesWithWords old position bytes new → now ≡ was → IsOrderBeside plan new.state now
  write_keeps old position bytes new was now kept is w order =
      let lt = kept.numbers position.number w.object w.found in
      let v : List ℕ = written w.object.bytes position.from bytes in
      let there : get (occupied plan old.state) position.number ≡ Some w.object = get_beside plan old.state.held (job_slot old.state.job) position.number lt ∙ w.found in
      let long = length-written w.object.bytes position.from bytes w.fits in
      let rewritten = order_in_place plan.paging ok.paging (occupied plan old.state) kept.sound (numbers_beside plan (job_slot old.state.job)) was is
      position.number (length w.object.bytes) w.object there refl (written w.object.bytes position.from bytes) long in
      let beside = subst (λ m. IsOrderOf plan.paging m (numbers_beside plan (job_slot old.state.job)) was)
      (inserted_beside plan old.state.held (job_slot old.state.job) position.number (record { place = w.object.place; bytes = written w.object.bytes position.from bytes }) lt)
      rewritten in
      subst (λ o. IsOrderBeside plan new.state o) (sym order) (subst (λ s. IsOrderBeside plan s was) (sym w.state) beside)

  pub order_kept : (old : HeapWithWords) (event : Event) (new : HeapWithWords) (was now : Order) → IsKept plan old.state → IsOrderBeside plan old.state was
      → HappensInOrder plan old event new was now → IsOrderBeside plan new.state now
  order_kept old (Malloc bytes (Ok h)) new was now kept is x = malloc_keeps old (record { number = h.0; length = bytes }) new was now kept is x
  order_kept old (Malloc bytes (Err e)) new was now kept is x = same_keeps old new was now is x.0.1 x.1
  order_kept old (Free h None) new was now kept is x = free_keeps old h new was now kept is x
  order_kept old (Free h (Some e)) new was now kept is x = same_keeps old new was now is x.0.1 x.1
  order_kept old Step new was now kept is x = slice_keeps old.state new.state was now kept is x.slices.slice x.follows
  order_kept old (Write position bytes None) new was now kept is x = write_keeps old position bytes new was now kept is x.0 x.1
  order_kept old (Write position bytes (Some e)) new was now kept is x = same_keeps old new was now is x.0.1 x.1
  order_kept old (Read position n (Ok out)) new was now kept is x = same_keeps old new was now is x.0.1 x.1
  order_kept old (Read position n (Err e)) new was now kept is x = same_keeps old new was now is x.0.1 x.1
