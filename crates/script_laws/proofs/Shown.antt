-- The heap that lines and replies show (`ShownHeap`), computed from a state of a run: its objects by id are the manager's by handle, also after a free or a
-- resize; so both have the same figures, free places, moves and block table, and its words are those that the headline requires.
use Rattle.std.proofs.Common.{◌≡◌, ◌≢◌, ℕ, ◌-◌, ◌*◌, ◌≤◌, ◌<◌, Some, length, cond, sym, ◌∙◌, ap, subst, inl, inr, count_by, nat_eq, nat_lt, [], Option, None, refl, ◌+◌, List, ◌∷◌, arith, slice_index}
use Rattle.std.specs.List.{range_with_len}
use Rattle.run_model.specs.Terms.{class_at, classes, family_of, get, HalfFit, Handle, HeapState, Held, Ids, insert, IsGoing, IsPaging, IsSound, Kind, len, Moving, NonMoving, objects, page_of, paged, Paging, paging_in, Placed, remove, RunState, slot_words, slots_of, tiled, Tlsf}
use Rattle.cf_base.proofs.Ranges.{one}
use Rattle.cf_base.proofs.Renaming.{CountAlike}
use Rattle.page_model.specs.Arrangement.{LacksRoom, pages_of_class, is_on, live, not_full_pages, objects_on, count_on, used_pages}
use Rattle.page_model.specs.Figures.{asked_bytes, figures_of, taken_bytes, totals_of}
use Rattle.page_model.specs.Paging.{bound_of, class_for}
use Rattle.page_model.specs.Steps.{IsFreePlace, MayFill, MustMove, Moves, moved_to, without}
use Rattle.page_model.proofs.CallerLemmas.{len-objects, live_is, not_full-same, sum-map_values, sum_same, mover_is_other}
use Rattle.std.specs.Prelude.{⊤}
use Rattle.std.proofs.lemmas.Bool.{cases_eq}
use Rattle.cf_base.proofs.Maps.{equal_maps, get_inserted, get_insert_other, get_remove_other}
use Rattle.cf_base.proofs.Sums.{insert_again}
use Rattle.id_table.proofs.CallerLemmas.{tied_less, tied_same}
use Rattle.page_model.specs.Frames.{found, frames_moved}
use Rattle.cf_model.specs.Steps.{frames_left, number_of}
use Rattle.run_model.specs.Replies.{object_of}
use Rattle.run_model.proofs.CallerLemmas.{changed_renamed, found_renamed, gone_renamed, gone_with, live_renamed, renamed, renamed_counts}
use Rattle.script_laws.specs.ShownHeap.{ShownHeap}
use Rattle.cf_base.proofs.Tests.{eq_no, eq_yes}
use Rattle.page_model.specs.Image.{object_word}
use Rattle.block_model.specs.Tiling.{Block, Fill, block_at}
use Rattle.block_model.specs.Words.{HaveHeaders, block_header}
use Rattle.block_model.proofs.CallerLemmas.{lies}
use Rattle.cf_model.specs.Families.{Family}
use Rattle.cf_model.specs.Rules.{IsTiled, KeepsPages, KeepsRulesOf, KeepsTiling, content_word}
use Rattle.cf_model.proofs.CallerLemmas.{pages_kept}
use Rattle.script_laws.specs.ShownWords.{ShowsBlockWord, ShowsPageWord, ShowsWord}

-- The same objects at the same addresses, named by handles or by ids: the figures, the free slots and the moves don't depend on these numbers.

module _ (p : Paging) (m n : Held) (a : CountAlike m n) where
  on_alike : (c page : ℕ) → objects_on p n c page ≡ objects_on p m c page
  unfolding objects_on
  on_alike c page = a.sums (λ x. one (is_on p c page x))

  standing_alike : (page : ℕ) → count_on p n page ≡ count_on p m page
  unfolding count_on
  standing_alike page = a.sums (λ (x : Placed). one (nat_eq (page_of p x.place) page))

  not_full_alike : (c : ℕ) → not_full_pages p n c ≡ not_full_pages p m c
  not_full_alike c = not_full-same p m n c (on_alike c)

  home_alike : (c : ℕ) → pages_of_class p n c ≡ pages_of_class p m c
  unfolding pages_of_class
  home_alike c = λ i. count_by (λ page. nat_lt 0 (on_alike c page i)) (range_with_len 0 p.pages)

  used_alike : used_pages p n ≡ used_pages p m
  unfolding used_pages
  used_alike = sum_same (pages_of_class p n) (pages_of_class p m) (range_with_len 0 (classes p)) home_alike

  pub live_alike : (c : ℕ) → live p (objects n) c ≡ live p (objects m) c
  live_alike c = live_is p c n ∙ a.sums (λ (x : Placed). one (nat_eq (class_at p x) c)) ∙ sym (live_is p c m)

  pub asked_alike : asked_bytes (objects n) ≡ asked_bytes (objects m)
  unfolding asked_bytes
  asked_alike = sum-map_values (λ (x : Placed). x.bytes) length n ∙ a.sums (λ (x : Placed). length x.bytes)
      ∙ sym (sum-map_values (λ (x : Placed). x.bytes) length m)

  taken_alike : taken_bytes p (objects n) ≡ taken_bytes p (objects m)
  unfolding taken_bytes
  taken_alike = ap (λ k. 8 * k) (sum-map_values (λ (x : Placed). x.bytes) (λ v. slot_words p (class_for p (length v))) n
      ∙ a.sums (λ (x : Placed). slot_words p (class_for p (length x.bytes)))
      ∙ sym (sum-map_values (λ (x : Placed). x.bytes) (λ v. slot_words p (class_for p (length v))) m))

  len_alike : len (objects n) ≡ len (objects m)
  len_alike = len-objects n ∙ a.count ∙ sym (len-objects m)

  pub figures_same : (c : ℕ) → figures_of p n c ≡ figures_of p m c
  figures_same c = λ i. record {
    slot_words = slot_words p c;
    slots = slots_of p c;
    live = live_alike c i;
    pages = home_alike c i;
    not_full = not_full_alike c i;
  }

  pub totals_same : totals_of p n ≡ totals_of p m
  totals_same = λ i. record {
    live = len_alike i;
    asked = asked_alike i;
    taken = taken_alike i;
    held = 8 * p.page_words * used_alike i;
    used = used_alike i;
    free = p.pages - used_alike i;
    largest = cond (nat_eq (p.pages - used_alike i) 0) 0 p.page_words;
  }

  pub lacks_same : (c : ℕ) → LacksRoom p m c → LacksRoom p n c
  lacks_same c l = record {
    full = not_full_alike c ∙ l.full;
    taken = λ page lt. subst (λ k. 0 < k) (sym (standing_alike page)) (l.taken page lt);
  }

  pub must_same : (x : Placed) → MustMove p m x → MustMove p n x
  must_same x must = record {
    full = on_alike (class_at p x) (page_of p x.place) ∙ must.full;
    several = must.several;
    many = not_full_alike (class_at p x) ∙ must.many;
  }

  pub must_before : (x : Placed) → MustMove p n x → MustMove p m x
  must_before x must = record {
    full = sym (on_alike (class_at p x) (page_of p x.place)) ∙ must.full;
    several = must.several;
    many = sym (not_full_alike (class_at p x)) ∙ must.many;
  }

  pub fill_same : (x y : Placed) → MayFill p m x y → MayFill p n x y
  fill_same x y may = record {
    class = may.class;
    not_full = subst (λ k. k < slots_of p (class_at p x)) (sym (on_alike (class_at p x) (page_of p y.place))) may.not_full;
  }

  -- if each object of the second has a number in the first
  module _ (number : (id : ℕ) (x : Placed) → get n id ≡ Some x → (h : ℕ) × (get m h ≡ Some x)) where
    pub place_same : (bytes place : ℕ) → IsFreePlace p m bytes place → IsFreePlace p n bytes place
    place_same bytes place free = record {
      slot = free.slot;
      unused = λ id y e. (let h = number id y e in free.unused h.0 y h.1);
      choice = elim free.choice [
        | inl there ↦ inl (
          subst (λ k. 0 < k) (sym (on_alike (class_for p bytes) (page_of p place))) there.0,
          subst (λ k. k < slots_of p (class_for p bytes)) (sym (on_alike (class_for p bytes) (page_of p place))) there.1,
        )
        | inr bare ↦ inr (not_full_alike (class_for p bytes) ∙ bare.0, standing_alike (page_of p place) ∙ bare.1)
      ];
    }

    pub sound_same : IsSound p m
        → ((id other : ℕ) (x y : Placed) (e : get n id ≡ Some x) (f : get n other ≡ Some y) → other ≢ id → (number other y f).0 ≢ (number id x e).0)
        → IsSound p n
    sound_same s apart = record {
      slots = λ id x e. (let h = number id x e in s.slots h.0 x h.1);
      own_place = λ id x other y e f ne. (let h = number id x e in let q = number other y f in s.own_place h.0 x q.0 y h.1 q.1 (apart id other x y e f ne));
      one_class = λ id x other y e f. (let h = number id x e in let q = number other y f in s.one_class h.0 x q.0 y h.1 q.1);
      few_not_full = λ c lt. subst (λ k. k ≤ bound_of p c) (sym (not_full_alike c)) (s.few_not_full c lt);
    }

-- The heap that lines and replies show (`ShownHeap`), computed from a state of a run (`shown`): its objects by id are those of the manager by handle, also
-- after a move, free or resize.

-- a placeholder for the object of a number that has none
abbrev pub nothing : Placed
nothing = record { place = 0; bytes = [] }

abbrev pub held_by_id : Ids → Held → Held
held_by_id ids m = renamed nothing ids m

abbrev pub heap_of : RunState → HeapState
heap_of s = record s.heap { held = held_by_id s.session.ids s.heap.held; words = []; order = None }

abbrev pub shown : RunState → ShownHeap
shown s = record { heap = heap_of s; numbers = s.session.ids; step_bound = s.session.bound; moves = s.session.moves; moved_words = s.session.words }

-- an object moved, and `ids` maps its id to its handle; or none moved
abbrev pub IsNamed : Ids → Option Handle → Option ℕ → Type 0
IsNamed ids None None = ⊤
IsNamed ids None (Some id) = ⊥
IsNamed ids (Some h) None = ⊥
IsNamed ids (Some h) (Some id) = get ids id ≡ Some h.0

module _ (s : RunState) (going : IsGoing s) where
  abbrev ids : Ids
  ids = s.session.ids

  abbrev m : Held
  m = s.heap.held

  abbrev pub by_ids : Held
  by_ids = held_by_id ids m

  pub counts : CountAlike m by_ids
  counts = renamed_counts nothing ids m going.tied.ids

  pub numbered : (id : ℕ) (x : Placed) → get by_ids id ≡ Some x → (h : ℕ) × (get m h ≡ Some x)
  numbered id x e = (let f = found_renamed nothing ids m going.tied.ids id x e in (f.0, f.2))

  pub apart : (id other : ℕ) (x y : Placed) (e : get by_ids id ≡ Some x) (f : get by_ids other ≡ Some y) → other ≢ id → (numbered other y f).0 ≢ (numbered id x e).0
  unfolding numbered
  apart id other x y e f ne is =
      let a = found_renamed nothing ids m going.tied.ids id x e in
      let b = found_renamed nothing ids m going.tied.ids other y f in
      ne (going.tied.ids.once id other a.0 a.1 (b.1 ∙ ap (λ k. Some k) is))

  -- the object of a live id
  pub object : (id h : ℕ) → get ids id ≡ Some h → (x : Placed) × (get m h ≡ Some x) × (get by_ids id ≡ Some x)
  object id h named = (let x = going.tied.ids.named id h named in (x.0, x.1, live_renamed nothing ids m id h x.0 named x.1))

  pub missing : (id : ℕ) → get ids id ≡ None → get by_ids id ≡ None
  missing id none = gone_renamed nothing ids m id none

  pub object_is : (id : ℕ) → object_of s id ≡ get by_ids id
  object_is id = go (get ids id) refl
    where
      go : (o : Option ℕ) → get ids id ≡ o → elim o as (λ _. Option Placed) [ None ↦ None | Some h ↦ get m h ] ≡ get by_ids id
      go None none = sym (missing id none)
      go (Some h) named = (let x = object id h named in x.1 ∙ sym x.2)

  -- the same move, by id
  module _ (p : Paging) (ok : IsPaging p) (sound : IsSound p m) (id h : ℕ) (x : Placed) (named : get ids id ≡ Some h) (there : get m h ≡ Some x) where
    abbrev MovesById : Option Handle → Type 0
    MovesById moved = (by_id : Option ℕ) × Moves p by_ids x by_id × IsNamed ids moved by_id

    pub moves_by_id : (moved : Option Handle) → Moves p m x (number_of moved) → MovesById moved
    moves_by_id None never = (None, (λ must. never (must_before p m by_ids counts x must)), tt)
    moves_by_id (Some q) (must, (y, found, may)) =
        let r = going.tied.ids.all q.0 y found in
        (Some r.0, (must_same p m by_ids counts x must, (y, live_renamed nothing ids m r.0 q.0 y r.1 found, fill_same p m by_ids counts x y may)), r.1)

    -- what a free leaves, by id
    pub without_by_id : (moved : Option Handle) (by_id : Option ℕ) → Moves p m x (number_of moved) → IsNamed ids moved by_id
        → held_by_id (remove ids id) (without m h x.place (number_of moved)) ≡ without by_ids id x.place by_id
    without_by_id None None never is = gone_with nothing ids m going.tied.ids id h named
    without_by_id None (Some r) never is = absurd is
    without_by_id (Some q) None moves is = absurd is
    without_by_id (Some q) (Some r) (must, (y, found, may)) is =
        let ne = mover_is_other p ok m sound h x there q.0 y found must may in
        let other : r ≢ id = λ same. ne (let e : Some q.0 ≡ Some h = sym is ∙ ap (get ids) same ∙ named in cc) in
        let tied = tied_less ids m going.tied.ids id h named in
        ap (λ o. held_by_id (remove ids id) (moved_to (remove m h) q.0 o x.place)) found
        ∙ changed_renamed nothing (remove ids id) (remove m h) tied r q.0 (get_remove_other ids id r other ∙ is) (record { place = x.place; bytes = y.bytes })
        ∙ ap (λ n. insert n r (record { place = x.place; bytes = y.bytes })) (gone_with nothing ids m going.tied.ids id h named)
        ∙ sym (ap (λ o. moved_to (remove by_ids id) r o x.place) (live_renamed nothing ids m r q.0 y is found))

    -- the object that moved keeps its id
    pub still_named : (moved : Option Handle) (by_id : Option ℕ) → Moves p m x (number_of moved) → IsNamed ids moved by_id → IsNamed (remove ids id) moved by_id
    still_named None None never is = tt
    still_named None (Some r) never is = absurd is
    still_named (Some q) None moves is = absurd is
    still_named (Some q) (Some r) (must, (y, found, may)) is =
        let ne = mover_is_other p ok m sound h x there q.0 y found must may in
        get_remove_other ids id r (λ same. ne (let e : Some q.0 ≡ Some h = sym is ∙ ap (get ids) same ∙ named in cc)) ∙ is

    -- removing a number changes nothing if an object is put back under the same number
    put_over : (n : Held) (k q : ℕ) (y z : Placed) → q ≢ k → insert (insert (remove n k) q y) k z ≡ insert (insert n q y) k z
    put_over n k q y z ne = equal_maps _ _ (λ r. elim (cases_eq r k) [
      | inl is ↦ rw is (get_inserted _ k z ∙ sym (get_inserted _ k z))
      | inr other ↦ get_insert_other _ k z r other ∙ elim (cases_eq r q) [
        | inl is ↦ rw is (get_inserted _ q y ∙ sym (get_inserted _ q y))
        | inr apart ↦ get_insert_other _ q y r apart ∙ get_remove_other n k r other ∙ sym (get_insert_other _ q y r apart)
      ] ∙ sym (get_insert_other _ k z r other)
    ])

    -- what a resize to another class leaves, by id
    pub refitted_by_id : (moved : Option Handle) (by_id : Option ℕ) (z : Placed) → Moves p m x (number_of moved) → IsNamed ids moved by_id
        → held_by_id ids (insert (without m h x.place (number_of moved)) h z) ≡ insert (without by_ids id x.place by_id) id z
    refitted_by_id None None z never is = ap (held_by_id ids) (insert_again m h z) ∙ changed_renamed nothing ids m going.tied.ids id h named z
        ∙ sym (insert_again by_ids id z)
    refitted_by_id None (Some r) z never is = absurd is
    refitted_by_id (Some q) None z moves is = absurd is
    refitted_by_id (Some q) (Some r) z (must, (y, found, may)) is =
        let ne = mover_is_other p ok m sound h x there q.0 y found must may in
        let other : r ≢ id = λ same. ne (let e : Some q.0 ≡ Some h = sym is ∙ ap (get ids) same ∙ named in cc) in
        let at : Placed = record { place = x.place; bytes = y.bytes } in
        ap (λ o. held_by_id ids (insert (moved_to (remove m h) q.0 o x.place) h z)) found
        ∙ ap (held_by_id ids) (put_over m h q.0 at z ne)
        ∙ changed_renamed nothing ids (insert m q.0 at) (tied_same ids m going.tied.ids q.0 y at found) id h named z
        ∙ ap (λ n. insert n id z) (changed_renamed nothing ids m going.tied.ids r q.0 is at)
        ∙ sym (put_over by_ids id r at z other)
        ∙ sym (ap (λ o. insert (moved_to (remove by_ids id) r o x.place) id z) (live_renamed nothing ids m r q.0 y is found))

-- an object is found by its number and by its id
pub found_by_name : (s : RunState) (going : IsGoing s) (moved : Option Handle) (by_id : Option ℕ) → IsNamed s.session.ids moved by_id
    → found (held_by_id s.session.ids s.heap.held) by_id ≡ found s.heap.held (number_of moved)
found_by_name s going None None is = refl
found_by_name s going None (Some r) is = absurd is
found_by_name s going (Some q) None is = absurd is
found_by_name s going (Some q) (Some r) is = (let x = object s going r q.0 is in x.2 ∙ sym x.1)

-- the block table after a move
module _ (old new : RunState) (going : IsGoing old) (after : IsGoing new) (moved : Option Handle) (by_id : Option ℕ)
    (before_is : IsNamed old.session.ids moved by_id) (after_is : IsNamed new.session.ids moved by_id) where
  pub frames_by_id : (k : Kind) → frames_left k old.heap (record { held = new.heap.held; moved = number_of moved })
      ≡ frames_left k (heap_of old) (record { held = (heap_of new).held; moved = by_id })
  frames_by_id Moving = refl
  frames_by_id NonMoving = λ i. frames_moved (paging_in old.heap) (sym (found_by_name old going moved by_id before_is) i)
      (sym (found_by_name new after moved by_id after_is) i) old.heap.frames
  frames_by_id Tlsf = refl
  frames_by_id HalfFit = refl

-- For command `p`, which prints a word: the words of a manager, with pages and with blocks, are those that the headline requires (`ShowsWord`) by the
-- objects, numbers and blocks shown.

module _ (words : List ℕ) where
  -- the header of the first block
  first_header : (bs : List Block) (before from to : ℕ) (b : Block) → Fill bs from to → HaveHeaders words bs before → block_at bs from ≡ Some b
      → slice_index words from ≡ block_header before b
  first_header [] before from to b fill headers there = (let e : None ≡ Some b = there in cc)
  first_header (x ∷ xs) before from to b fill headers there =
      let here : Some x ≡ Some b = rw (eq_yes x.address from fill.0) at there in
      let same : x ≡ b = cc in
      ap (slice_index words) (sym fill.0) ∙ headers.0 ∙ ap (block_header before) same

  -- the header of a block that follows another
  next_header : (bs : List Block) (first from to a : ℕ) (before b : Block) → Fill bs from to → HaveHeaders words bs first → block_at bs a ≡ Some before
      → block_at bs (a + before.size) ≡ Some b → slice_index words (a + before.size) ≡ block_header before.size b
  next_header [] first from to a before b fill headers there next = (let e : None ≡ Some before = there in cc)
  next_header (x ∷ xs) first from to a before b fill headers there next = elim (cases_eq x.address a) [
    | inl is ↦ (
        let here : Some x ≡ Some before = rw (eq_yes x.address a is) at there in
        let same : x ≡ before = cc in
        let size = fill.1 in
        let ne : x.address ≢ a + x.size = λ e. omega arith in
        let next' : block_at (x ∷ xs) (a + x.size) ≡ Some b = subst (λ y. block_at (x ∷ xs) (a + y.size) ≡ Some b) (sym same) next in
        let after : block_at xs (a + x.size) ≡ Some b = rw (eq_no x.address (a + x.size) ne) at next' in
        let from_is : from ≡ a = sym fill.0 ∙ is in
        let rest : Fill xs (a + x.size) to = subst (λ n. Fill xs (n + x.size) to) from_is fill.2 in
        subst (λ y. slice_index words (a + y.size) ≡ block_header y.size b) same (first_header xs x.size (a + x.size) to b rest headers.1 after))
    | inr other ↦ (
        let there' : block_at xs a ≡ Some before = rw (eq_no x.address a other) at there in
        let l = lies xs (from + x.size) to a before fill.2 there' in
        let low = l.low in
        let start = fill.0 in
        let size = fill.1 in
        let ne : x.address ≢ a + before.size = λ e. omega arith in
        let next' : block_at xs (a + before.size) ≡ Some b = rw (eq_no x.address (a + before.size) ne) at next in
        next_header xs x.size (from + x.size) to a before b fill.2 headers.1 there' next')
  ]

module _ (s : RunState) (going : IsGoing s) (word : ℕ) where
  abbrev p : Paging
  p = paging_in s.heap

  abbrev held_now : Held
  held_now = s.heap.held

  abbrev value : ℕ
  value = slice_index s.heap.words word

  abbrev t : ShownHeap
  t = shown s

  content_is : (h : ℕ) (x : Placed) (i : ℕ) → get held_now h ≡ Some x → content_word held_now h i ≡ object_word h x.bytes i
  content_is h x i there = rw there refl

  page_word : KeepsPages s.heap → ShowsPageWord t word value
  page_word pages = record {
    object = λ id x i there lt at. (
        let h = found_renamed nothing s.session.ids held_now going.tied.ids id x there in
        (h.0, h.1, ap (slice_index s.heap.words) at ∙ pages.slots.held h.0 x h.2 i lt));
    zero = λ outside. pages.slots.zeros word (λ h x there.
        let id = going.tied.ids.all h x there in
        outside id.0 x (live_renamed nothing s.session.ids held_now id.0 h x id.1 there));
  }

  block_word : KeepsTiling s.heap → ShowsBlockWord t word value
  block_word kept = record {
    first = λ b there at. ap (slice_index s.heap.words) at ∙ first_header s.heap.words s.heap.tiling 0 0 _ b kept.tiling.fill kept.words.headers there;
    header = λ a before b there next at. ap (slice_index s.heap.words) at
        ∙ next_header s.heap.words s.heap.tiling 0 0 _ a before b kept.tiling.fill kept.words.headers there next;
    object = λ id x b i there block lt at. (
        let h = found_renamed nothing s.session.ids held_now going.tied.ids id x there in
        let own = kept.owned.placed h.0 x h.2 in
        let e : Some own.0 ≡ Some b = sym own.1 ∙ block in
        let same : own.0 ≡ b = cc in
        let owner : b.owner ≡ Some h.0 = subst (λ (c : Block). c.owner ≡ Some h.0) same own.2.owner in
        (h.0, h.1, ap (slice_index s.heap.words) at ∙ kept.words.contents x.place b h.0 block owner i lt ∙ content_is h.0 x i h.2));
    zero = λ a b i there free least lt at. ap (slice_index s.heap.words) at ∙ kept.words.cleared a b there free i least lt;
  }

  tiling_kept : (k : Kind) → IsTiled k → KeepsRulesOf k s.heap → KeepsTiling s.heap
  tiling_kept k is rules = rw (is, KeepsRulesOf) at rules

  shown_in : (f : Family) → family_of s.heap.kind ≡ f → ShowsWord t word value
  shown_in paged is = rw (is, ShowsWord) (page_word (pages_kept s.heap.kind s.heap is going.rules.of_kind))
  shown_in tiled is = rw (is, ShowsWord) (block_word (tiling_kept s.heap.kind is going.rules.of_kind))

  pub word_shown : ShowsWord t word value
  word_shown = shown_in (family_of s.heap.kind) refl
