-- Of a heap with pages: what its rules say, and what keeps them (words for an arrangement, words of which a part is rewritten, slots that are left, block
-- tables, costs within bounds); and that every malloc, write and `k` has a result, and a state after it that keeps them. Without an order any free place
-- serves, with an order the next one.
use Rattle.std.proofs.Common.{◌≡◌, ℕ, Bool, true, false, cond, ◌+◌, ◌-◌, ◌*◌, ◌<◌, ◌≤◌, List, Some, length, get_or, map, replicate, arith, sym, ◌∙◌, refl, inl, inr, ap, ◌/◌, Option, None, subst, ◌&&◌, nat_le, nat_lt, ◌⊎◌, IfSome, Ok, Err, option_map, set}
use Rattle.std.specs.List.{range_with_len}
use Rattle.std.proofs.lemmas.Bool.{cases_lt, cases_eq}
use Rattle.std.proofs.lemmas.Bool.Decides.{nat_tests}
use Rattle.std.proofs.lemmas.List.{get_or_past, length-replicate, get_or-set_same, get_or-set_other, length-set, set_past}
use Rattle.std.proofs.lemmas.List.FromFn.{get_or-map-range_with_len, length-map-range_with_len}
use Rattle.std.specs.FinMap.{get, insert, len, empty, get-empty}
use Rattle.cf_base.proofs.Tests.{and_false, eq_no}
use Rattle.cf_base.proofs.Induction.{map_induction}
use Rattle.cf_base.proofs.Maps.{get_inserted, equal_maps, get_removed}
use Rattle.run_model.specs.Terms.{Held, IsSound, Paging, Placed, IsPaging, classes, page_of, HalfFit, Handle, HeapState, IsPaged, KeepsRules, Kind, Moving, NonMoving, paging_in, Tlsf, CostsAtMost, CostsByKind, objects, region_words, need, Refusal, AreBytes, Position, with_bound, written}
use Rattle.page_model.specs.Image.{IsApart, IsImageOver, IsOutside, IsSlotImage, Rewrites, object_word, slot_for}
use Rattle.cf_base.proofs.Values.{still}
use Rattle.page_model.proofs.CallerLemmas.{image_added, image_empty, object_inside, sound_apart, IsOpen, address_is_slot, nothing_on, open_counts, open_page, slots_some, vacant_where_less, in_blocks, own_words, can_malloc, class_fits, len-objects, malloc_objects, sound_malloc, zeros_are_bytes, bytes_missing, length-written, order_bounded, order_in_place, sound_empty, sound_exchanged, written_are_bytes, bytes_held}
use Rattle.page_model.specs.Arrangement.{LacksRoom, not_full_pages, count_on}
use Rattle.page_model.specs.Paging.{address_of, class_for, paging_of}
use Rattle.page_model.specs.Steps.{IsFreePlace, CallResult, zeros_at}
use Rattle.cf_base.proofs.Searches.{search_below, fresh_key, len_without, there_or_not}
use Rattle.page_model.specs.Frames.{AreBlocks, IsPermuted, frames_after}
use Rattle.cf_model.specs.Rules.{KeepsPages, KeepsRulesOf, KeepsTable}
use Rattle.cf_model.specs.State.{layout_of}
use Rattle.cf_model.specs.Steps.{frames_left, number_of, IsPlacedBy, IsRefusedBy, LacksRoomIn, StaysOutside}
use Rattle.page_model.specs.Order.{IsOrderOf, Order, MallocFollows}
use Rattle.cf_model.proofs.CallerLemmas.{pages_kept}
use Rattle.script_laws.proofs.Answered.{AreFew, few_in, objects_in, HasMalloc, few_added, follows_none, follows_same, follows_some, HasWrite, few_changed}
use Rattle.cf_model.specs.Answers.{place_of}
use Rattle.cf_model.specs.ExactCosts.{malloc_cost}
use Rattle.cf_model.specs.Ordered.{IsOrderedMalloc, MallocByOrder}
use Rattle.script_laws.proofs.OrderCosts.{malloc_few}
use Rattle.std.specs.Ordering.{nat_cmp}
use Rattle.cf_base.proofs.MapValues.{map_values-insert}
use Rattle.cf_base.proofs.Sums.{insert_again}
use Rattle.run_model.specs.Steps.{class_to_bound}
use Rattle.cf_base.specs.declared.results.Refusal.TheVariants as refusal
use Rattle.cf_base.specs.declared.results.AccessFault.TheVariants as access

-- For the calls of a heap with pages: every sound arrangement of objects has words of a region, namely their headers and bytes, and zeros.

-- whether w is one of the n words from a on
abbrev is_in : ℕ → ℕ → ℕ → Bool
is_in a n w = nat_le a w && nat_lt w (a + n)

is_in_yes : (a n i : ℕ) → i < n → is_in a n (a + i) ≡ true
is_in_yes a n i lt = (let x : nat_le a (a + i) ≡ true = grind (arith, nat_tests) in let y : nat_lt (a + i) (a + n) ≡ true =
    grind (arith, nat_tests) in rw (x, y) refl)

is_in_no : (a n w : ℕ) → IsOutside a n w → is_in a n w ≡ false
is_in_no a n w (inl l) = (let x : nat_le a w ≡ false = grind (arith, nat_tests) in rw x refl)
is_in_no a n w (inr r) = (let y : nat_lt w (a + n) ≡ false = grind (arith, nat_tests) in rw y (and_false (nat_le a w)))

-- `rewritten` is the words in which the n words from a on are replaced by those of f
module _ (words : List ℕ) (a n : ℕ) (f : ℕ → ℕ) where
  unfoldable pub word_at : ℕ → ℕ
  word_at w = cond (is_in a n w) (f (w - a)) (get_or words w 0)

  abbrev pub rewritten : List ℕ
  rewritten = map word_at (range_with_len 0 (length words))

  pub length-rewritten : length rewritten ≡ length words
  length-rewritten = length-map-range_with_len word_at 0 (length words)

  get-rewritten : (w : ℕ) → w < length words → get_or rewritten w 0 ≡ word_at w
  get-rewritten w lt = get_or-map-range_with_len word_at 0 (length words) w w 0 lt (omega arith)

  pub is_rewritten : a + n ≤ length words → Rewrites words rewritten (record { from = a; count = n }) f
  unfolding word_at
  is_rewritten inside = record {
    within = λ i lt. get-rewritten (a + i) (omega arith) ∙ (let y = is_in_yes a n i lt in let e : a + i - a ≡ i = omega arith in rw (y, e) refl);
    others = λ w out. elim (cases_lt w (length words)) [
      | inl lt ↦ get-rewritten w lt ∙ (let no' = is_in_no a n w out in rw no' refl)
      | inr past ↦ (let len = length-rewritten in get_or_past rewritten w 0 (omega arith) ∙ sym (get_or_past words w 0 past))
    ];
  }

-- words for these objects in a region of n words
record HasImage (extent : ℕ → ℕ) (m : Held) (n : ℕ) : Type 0 where
  words : List ℕ
  count : length words ≡ n
  image : IsImageOver extent m words

-- objects that share no word and are in the region have words there
image_there : (extent : ℕ → ℕ) (n : ℕ) (m : Held) → IsApart extent m → ((h : ℕ) (x : Placed) → get m h ≡ Some x → x.place + extent (length x.bytes) ≤ n)
    → HasImage extent m n
image_there extent n = map_induction (λ m. IsApart extent m → ((h : ℕ) (x : Placed) → get m h ≡ Some x → x.place + extent (length x.bytes) ≤ n)
    → HasImage extent m n)
    (λ apart inside. record { words = replicate n 0; count = length-replicate n 0; image = image_empty extent n })
    (λ m h x none before apart inside. (
    let old = before
    (record { pairs = λ q y r z e f ne. apart.pairs q y r z (still m h x none q y e).1 (still m h x none r z f).1 ne })
    (λ q y e. inside q y (still m h x none q y e).1) in
    let fits : x.place + extent (length x.bytes) ≤ length old.words = omega (arith, inside h x (get_inserted m h x), old.count) in
    let f : ℕ → ℕ = object_word h x.bytes in
    record {
      words = rewritten old.words x.place (extent (length x.bytes)) f;
      count = length-rewritten old.words x.place (extent (length x.bytes)) f ∙ old.count;
      image = image_added extent m old.words (rewritten old.words x.place (extent (length x.bytes)) f) old.image h x none
          (λ q y e ne. apart.pairs h x q y (get_inserted m h x) (still m h x none q y e).1 (still m h x none q y e).0)
          (is_rewritten old.words x.place (extent (length x.bytes)) f fits);
    }))

-- a sound arrangement has words
pub sound_image : (p : Paging) (m : Held) → IsSound p m → (words : List ℕ) × (length words ≡ p.pages * p.page_words) × IsSlotImage p m words
sound_image p m s =
    let i = image_there (slot_for p) (p.pages * p.page_words) m (sound_apart p m s) (object_inside p m s) in
    (i.words, i.count, i.image)

-- For mallocs and resizes with pages: a class of a sound arrangement has a slot left if and only if some address, on a partly full or a free page, is free
-- for an object of the class.

-- a page has objects or none
bare_or_not : (p : Paging) (m : Held) (page : ℕ) → (0 < count_on p m page) ⊎ (count_on p m page ≡ 0)
bare_or_not p m page = elim (cases_lt 0 (count_on p m page)) [
  | inl some ↦ inl some
  | inr none ↦ inr (omega arith)
]

module _ (p : Paging) (ok : IsPaging p) (m : Held) (s : IsSound p m) where
  -- a partly full page of the class has a free place for the object
  place_beside : (n : ℕ) → class_for p n < classes p → (page : ℕ) → IsOpen p m (class_for p n) page → (a : ℕ) × IsFreePlace p m n a
  place_beside n lt page opened =
      let free = vacant_where_less p ok (class_for p n) lt page opened.within m s opened.some opened.less in
      let at = address_is_slot p ok (class_for p n) lt page free.0 opened.within free.1 in
      let on = at.1 in
      let some = opened.some in
      let less = opened.less in
      (address_of p (class_for p n) page free.0, record { slot = at.0; unused = free.2; choice = inl (rw on some, rw on less) })

  -- a page without objects has a free place for the object, if no page of the class is partly full
  place_alone : (n : ℕ) → class_for p n < classes p → not_full_pages p m (class_for p n) ≡ 0 → (page : ℕ) → page < p.pages → count_on p m page ≡ 0
      → (a : ℕ) × IsFreePlace p m n a
  place_alone n lt none page within bare =
      let at = address_is_slot p ok (class_for p n) lt page 0 within (slots_some p ok (class_for p n) lt) in
      let on = at.1 in (
        address_of p (class_for p n) page 0,
        record {
          slot = at.0;
          unused = λ q y there is. nothing_on p m page bare q y there (ap (page_of p) is ∙ on);
          choice = inr (none, rw on bare);
        },
      )

  -- the class has no slot left, or there is a free place
  pub room_or_not : (n : ℕ) → class_for p n < classes p → LacksRoom p m (class_for p n) ⊎ ((a : ℕ) × IsFreePlace p m n a)
  room_or_not n lt = elim (cases_eq (not_full_pages p m (class_for p n)) 0) [
    | inr ne ↦ inr (let at = open_page p m (class_for p n) (omega arith) in place_beside n lt at.0 at.1)
    | inl none ↦ elim (search_below (λ g. 0 < count_on p m g) (λ g. count_on p m g ≡ 0) (bare_or_not p m) p.pages) [
      | inl all ↦ inl (record { full = none; taken = all })
      | inr bare ↦ inr (place_alone n lt none bare.0 bare.1 bare.2)
    ]
  ]

-- a class with a free place has a slot left
pub has_room : (p : Paging) (m : Held) (n a : ℕ) → IsFreePlace p m n a → ¬ LacksRoom p m (class_for p n)
has_room p m n a free lacks = elim free.choice [
  | inl (some, less) ↦ (
      let l = open_counts p m (class_for p n) (page_of p a) (record { within = free.slot.page; some = some; less = less }) in
      let full = lacks.full in
      omega arith)
  | inr (none, bare) ↦ (let l = lacks.taken (page_of p a) free.slot.page in omega arith)
]

-- What each kind with pages requires of its block table (`KeepsTable`; of the non-moving kind, that it is a permutation): calls keep it, since they only
-- exchange blocks.

pub table_kept : (k : Kind) (s : HeapState) → IsPaged k → KeepsRulesOf k s → KeepsTable k s
table_kept k s is rules = (let kept : KeepsPages s × KeepsTable k s = rw (is, KeepsRulesOf) at rules in kept.1)

-- a state with equal settings and block table keeps what its kind keeps of the table
pub table_moved : (k : Kind) (a b : HeapState) → b.profile ≡ a.profile → b.frames ≡ a.frames → KeepsTable k a → KeepsTable k b
table_moved Moving a b p f kept = f ∙ kept
table_moved NonMoving a b p f kept = record { count = rw (p, f) kept.count; permuted = rw f kept.permuted }
table_moved Tlsf a b p f kept = f ∙ kept
table_moved HalfFit a b p f kept = f ∙ kept

-- the block table after a step, if exchanging blocks permutes it
pub table_stepped : (k : Kind) (s : HeapState) (after : CallResult) → s.kind ≡ k → IsPaged k → KeepsRules s → KeepsTable k s
    → (AreBlocks (paging_in s) → length s.frames ≡ (paging_in s).pages * (paging_in s).page_words / 4 → IsPermuted s.frames
    → IsPermuted (frames_after (paging_in s) s.held after s.frames) × (length (frames_after (paging_in s) s.held after s.frames) ≡ length s.frames))
    → KeepsTable k (record s { frames = frames_left k s after })
table_stepped Moving s after is of_pages rules kept step = kept
table_stepped NonMoving s after is of_pages rules kept step =
    let count = kept.count in
    let blocks : AreBlocks (paging_in s) = subst (λ k. AreBlocks (paging_of s.profile (layout_of k) s.bounds)) (sym is)
    (in_blocks s.profile s.bounds rules.settings.page_size) in
    let done = step blocks (omega arith) kept.permuted in
    let same = done.1 in
    record { count = omega arith; permuted = done.0 }
table_stepped Tlsf s after is of_pages rules kept step = kept
table_stepped HalfFit s after is of_pages rules kept step = kept

-- a number as a handle
abbrev pub handle_of : Option ℕ → Option Handle
handle_of None = None
handle_of (Some q) = Some (record { 0 = q })

pub number_of_handle : (moved : Option ℕ) → number_of (handle_of moved) ≡ moved
number_of_handle None = refl
number_of_handle (Some q) = refl

-- a map of length 0 has no keys
no_keys : (m : Held) → len m ≡ 0 → (h : ℕ) (x : Placed) → get m h ≡ Some x → ⊥
no_keys m none h x there = (let l = len_without m h x there in omega arith)

no_keys_empty : (m : Held) → len m ≡ 0 → m ≡ empty
no_keys_empty m none = equal_maps _ _ (λ q. elim (there_or_not m q) [
  | inl is ↦ absurd (no_keys m none q is.0 is.1)
  | inr is ↦ is ∙ sym (get-empty nat_cmp q)
])

module _ (old : HeapState) (rules : KeepsRules old) (paged : IsPaged old.kind) where
  abbrev pub p : Paging
  p = paging_in old

  pub pages : KeepsPages old
  pages = pages_kept old.kind old paged rules.of_kind

  pub few_old : AreFew old.profile.proxies (objects old.held)
  few_old = few_in old rules.numbers

  pub table_old : KeepsTable old.kind old
  table_old = table_kept old.kind old paged rules.of_kind

  pub costs : (cost bound : ℕ) → cost ≤ bound → CostsAtMost old.kind cost bound
  costs cost bound le = rw (paged, CostsAtMost) le

  pub costs_by_kind : (cost bound other : ℕ) → cost ≤ bound → CostsByKind old.kind cost bound other
  costs_by_kind cost bound other le = rw (paged, CostsByKind) le

  -- the order of the old state, if it has one
  pub order_old : (was : Order) → old.order ≡ Some was → IsOrderOf p old.held old.profile.proxies was
  order_old was is = subst (λ o. IfSome o (IsOrderOf p old.held old.profile.proxies)) is pages.order

  pub rules_with : (m : Held) (words frames : List ℕ) (order : Option Order) (cost : ℕ) → IsSound p m → length words ≡ region_words old.profile
      → IsSlotImage p m words → AreFew old.profile.proxies (objects m) → KeepsTable old.kind (record old { frames = frames })
      → IfSome order (IsOrderOf p m old.profile.proxies)
      → KeepsRules (record old { held = m; words = words; frames = frames; order = order; cost = cost })
  rules_with m words frames order cost sound count slots few kept ordered = record {
    settings = rules.settings;
    region = count;
    numbers = objects_in (record old { held = m; words = words; frames = frames; order = order; cost = cost }) few;
    of_kind = rw (paged, KeepsRulesOf) (
      record {
        paging = pages.paging;
        low_bounds = pages.low_bounds;
        sound = sound;
        image = own_words p pages.paging m sound words slots;
        slots = slots;
        no_tiling = pages.no_tiling;
        order = ordered;
      },
      table_moved old.kind (record old { frames = frames }) (record old { held = m; words = words; frames = frames; order = order; cost = cost }) refl refl kept,
    );
  }

  -- there are words with which the state with these objects, block table, order and cost keeps the rules
  pub record Becomes (m : Held) (frames : List ℕ) (order : Option Order) (cost : ℕ) : Type 0 where
    pub words : List ℕ
    pub kept : KeepsRules (record old { held = m; words = words; frames = frames; order = order; cost = cost })

  pub becomes : (m : Held) (frames : List ℕ) (order : Option Order) (cost : ℕ) → IsSound p m → AreFew old.profile.proxies (objects m)
      → KeepsTable old.kind (record old { frames = frames }) → IfSome order (IsOrderOf p m old.profile.proxies) → Becomes m frames order cost
  becomes m frames order cost sound few kept ordered =
      let image = sound_image p m sound in
      record { words = image.0; kept = rules_with m image.0 frames order cost sound image.1 image.2 few kept ordered }

  -- only the cost changes
  pub rules_still : (cost : ℕ) → KeepsRules (record old { cost = cost })
  rules_still cost = rules_with old.held old.words old.frames old.order cost pages.sound rules.region pages.slots few_old table_old pages.order

  refused : (n : ℕ) (e : Refusal) → IsRefusedBy old n e → HasMalloc old n
  refused n e cause = record {
    answer = Err e;
    heap = record old { cost = 1 };
    step = (cause, refl);
    ordered = follows_same (MallocByOrder old n (Err e) (record old { cost = 1 })) old.order
        (λ was. rw (paged, MallocByOrder) (record { choice = tt; cost = refl }));
    kept = rules_still 1;
    cost = costs_by_kind 1 64 25 (omega arith);
  }

  abbrev with_object : ℕ → ℕ → ℕ → Held
  with_object n h a = insert old.held h (zeros_at a n)

  given : (n h a : ℕ) → need n ≤ old.profile.page_words → len old.held < old.profile.proxies → h < old.profile.proxies → get old.held h ≡ None
      → IsFreePlace p old.held n a → (order : Option Order) (cost : ℕ) → IfSome order (IsOrderOf p (with_object n h a) old.profile.proxies)
      → ((words : List ℕ) → IsOrderedMalloc old n (Ok (record { 0 = h })) (record old { held = with_object n h a; words = words; order = order; cost = cost }))
      → cost ≤ 64 → HasMalloc old n
  given n h a fits few low unused free order cost is ordered le =
      let none : get (objects old.held) h ≡ None = bytes_missing old.held h unused in
      let room : len (objects old.held) < old.profile.proxies = (let same = len-objects old.held in omega arith) in
      let m : Held = with_object n h a in
      let ps = pages in
      let sound = sound_malloc p old.held (record { number = h; length = n }) m ps.paging ps.sound
      (record { place = a; unused = unused; free = free; placed = refl }) in
      let added : AreFew old.profile.proxies (objects m) =
      subst (AreFew old.profile.proxies) (sym (malloc_objects old.held h a n))
      (few_added old.profile.proxies (objects old.held) few_old h (replicate n 0) none low room (zeros_are_bytes n)) in
      let after = becomes m old.frames order cost sound added table_old is in
      record {
        answer = Ok (record { 0 = h });
        heap = record old { held = m; words = after.words; order = order; cost = cost };
        step = record {
          fits = fits;
          few = few;
          in_range = low;
          unused = unused;
          place = a;
          placed = rw (paged, IsPlacedBy) free;
          whole = refl;
        };
        ordered = ordered after.words;
        kept = after.kept;
        cost = costs_by_kind cost 64 25 le;
      }

  -- a free place is left: without an order the object may get any of them, with an order it gets the next one
  with_room : (n : ℕ) → need n ≤ old.profile.page_words → len old.held < old.profile.proxies → (a : ℕ) → IsFreePlace p old.held n a
      → (o : Option Order) → old.order ≡ o → HasMalloc old n
  with_room n fits few a free None none =
      let key = fresh_key old.profile.proxies old.held few in
      given n key.0 a fits few key.1 key.2 free None 0 tt
      (λ words. follows_none (MallocByOrder old n (Ok (record { 0 = key.0 })) (record old { held = with_object n key.0 a; words = words; order = None; cost = 0 }))
      old.order None none refl) (omega arith)
  with_room n fits few a free (Some was) some =
      let ps = pages in
      let c = can_malloc p ps.paging old.held ps.sound old.profile.proxies was (order_old was some) n (class_fits p ps.paging n fits) few
      (has_room p old.held n a free) in
      let h : Handle = record { 0 = c.number } in
      let cost = malloc_cost old was n (Ok h) in
      given n c.number c.place fits few c.below c.unused c.free (Some c.new) cost c.is_order
      (λ words. (
      let new : HeapState = record old { held = with_object n c.number c.place; words = words; order = Some c.new; cost = cost } in
      let at : place_of new c.number ≡ Some c.place =
      ap (option_map (λ (x : Placed). x.place)) (get_inserted old.held c.number (zeros_at c.place n)) in
      follows_some (MallocByOrder old n (Ok h) new) old.order (Some c.new) was c.new some refl (rw (paged, MallocByOrder) (record {
        choice = subst (λ o. IfSome o (λ a. MallocFollows p old.held (record { number = c.number; length = n }) a was c.new)) (sym at) c.follows;
        cost = refl;
      }))))
      (malloc_few old was n h)

  -- every malloc has a result
  pub malloc_done : (n : ℕ) → HasMalloc old n
  malloc_done n =
      let ps = pages in
      elim (cases_lt old.profile.page_words (need n)) [
        | inl large ↦ refused n refusal.Size large
        | inr fits ↦ elim (cases_lt (len old.held) old.profile.proxies) [
          | inr all ↦ refused n refusal.Proxy (record { fits = fits; all = (let few = rules.numbers.few in omega arith) })
          | inl few ↦ elim (room_or_not p ps.paging old.held ps.sound n (class_fits p ps.paging n fits)) [
            | inl lacks ↦ refused n refusal.Space (record { fits = fits; few = few; lacking = rw (paged, LacksRoomIn) lacks })
            | inr at ↦ with_room n fits few at.0 at.1 old.order refl
          ]
        ]
      ]

  -- other bytes of the same length in the object's slot
  sound_written : (h : ℕ) (x : Placed) (v : List ℕ) → get old.held h ≡ Some x → length v ≡ length x.bytes
      → IsSound p (insert old.held h (record x { bytes = v }))
  sound_written h x v there same = subst (IsSound p) (insert_again old.held h (record x { bytes = v }))
      (sound_exchanged p old.held h x there h v (get_removed old.held h) (ap (class_for p) same) pages.sound)

  order_written : (h : ℕ) (x : Placed) (v : List ℕ) → get old.held h ≡ Some x → length v ≡ length x.bytes → (o : Option Order)
      → IfSome o (IsOrderOf p old.held old.profile.proxies) → IfSome o (IsOrderOf p (insert old.held h (record x { bytes = v })) old.profile.proxies)
  order_written h x v there same None is = tt
  order_written h x v there same (Some o) is =
      order_in_place p pages.paging old.held pages.sound old.profile.proxies o is h (length x.bytes) x there refl v same

  few_replaced : (h : ℕ) (x y : Placed) → get old.held h ≡ Some x → AreBytes y.bytes → AreFew old.profile.proxies (objects (insert old.held h y))
  few_replaced h x y there bytes = subst (AreFew old.profile.proxies) (sym (map_values-insert (λ (z : Placed). z.bytes) old.held h y))
      (few_changed old.profile.proxies (objects old.held) few_old h x.bytes y.bytes (bytes_held old.held h x there) bytes)

  -- every write into a live object has a result
  pub write_done : (position : Position) (bytes : List ℕ) (x : Placed) → AreBytes bytes → get old.held position.number ≡ Some x → HasWrite old position bytes
  write_done position bytes x are there = elim (cases_lt (length x.bytes) (position.from + length bytes)) [
    | inl past ↦ record { answer = Err access.Range; heap = old; step = (record { object = x; found = there; past = past }, refl); kept = rules }
    | inr within ↦ (
        let v = written x.bytes position.from bytes in
        let sound = sound_written position.number x v there (length-written x.bytes position.from bytes within) in
        let few = few_replaced position.number x (record x { bytes = v }) there
        (written_are_bytes x.bytes position.from bytes within (rules.numbers.bytes position.number x there) are) in
        let ordered = order_written position.number x v there (length-written x.bytes position.from bytes within) old.order pages.order in
        let next = becomes (insert old.held position.number (record x { bytes = v })) old.frames old.order old.cost sound few table_old ordered in
        record {
          answer = Ok tt;
          heap = record old { held = insert old.held position.number (record x { bytes = v }); words = next.words };
          step = record {
            object = x;
            found = there;
            within = within;
            outside = rw (paged, StaysOutside) tt;
            whole = refl;
          };
          kept = next.kept;
        })
  ]

  -- one class gets a bound while no object is live
  module _ (none : len old.held ≡ 0) (c k : ℕ) (some : 1 ≤ k) (low : k ≤ 64) where
    abbrev next : HeapState
    next = record old { bounds = set old.bounds c k }

    one_bound : (d : ℕ) → ((get_or (set old.bounds c k) d 0 ≡ k) ⊎ (get_or (set old.bounds c k) d 0 ≡ get_or old.bounds d 0))
    one_bound d = elim (cases_eq d c) [
      | inr ne ↦ inr (get_or-set_other old.bounds c d k 0 ne)
      | inl is ↦ elim (cases_lt c (length old.bounds)) [
        | inl lt ↦ inl (ap (λ i. get_or (set old.bounds c k) i 0) is ∙ get_or-set_same old.bounds c k 0 lt)
        | inr past ↦ inr (ap (λ v. get_or v d 0) (set_past old.bounds c k past))
      ]
    ]

    order_now : (o : Option Order) → IfSome o (IsOrderOf p old.held old.profile.proxies) → IfSome o (IsOrderOf (paging_in next) old.held old.profile.proxies)
    order_now None is = tt
    order_now (Some o) is = order_bounded p (set old.bounds c k) old.held old.profile.proxies o is

    rules_bounded : KeepsRules next
    rules_bounded = record {
      settings = rules.settings;
      region = rules.region;
      numbers = record { handles = rules.numbers.handles; bytes = rules.numbers.bytes; few = rules.numbers.few };
      of_kind = rw (paged, KeepsRulesOf) (
        record {
          paging = record {
            sized = pages.paging.sized;
            bounded = length-set old.bounds c k ∙ pages.paging.bounded;
            some = λ d lt. elim (one_bound d) [ inl is ↦ rw is some | inr is ↦ rw is (pages.paging.some d lt) ];
          };
          low_bounds = λ d. elim (one_bound d) [ inl is ↦ rw is low | inr is ↦ rw is (pages.low_bounds d) ];
          sound = subst (IsSound (paging_in next)) (sym (no_keys_empty old.held none)) (sound_empty (paging_in next));
          image = pages.image;
          slots = record {
            held = λ h x there. absurd (no_keys old.held none h x there);
            zeros = λ w out. pages.slots.zeros w (λ h x there. absurd (no_keys old.held none h x there));
          };
          no_tiling = pages.no_tiling;
          order = order_now old.order pages.order;
        },
        table_moved old.kind old next refl refl table_old,
      );
    }

  -- after command `k` the rules hold, whether a class got the bound or none did
  pub bound_done : (slot_words k : ℕ) → 1 ≤ k → k ≤ 64 → KeepsRules (with_bound old (class_to_bound old slot_words) k)
  bound_done slot_words k some low = elim (cases_eq (len old.held) 0) [
    | inl none ↦ go none (class_to_bound old slot_words)
    | inr ne ↦ (let e = eq_no (len old.held) 0 ne in rw e rules)
  ]
    where
      go : len old.held ≡ 0 → (o : Option ℕ) → KeepsRules (with_bound old o k)
      go none None = rules
      go none (Some c) = rules_bounded none c k some low
