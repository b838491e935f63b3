-- For the laws of the order of free blocks: which block a malloc takes next from the free lists, that there is one if a block may serve, that a malloc in order
-- is a malloc of the model, that only one follows the order, and that the lists after it, or of a region that is one free block, contain exactly the free
-- blocks. Also: the first and the last list with a block, the lists after a block leaves one or becomes the first of one, and when two lists of lists are
-- equal.
use Rattle.std.proofs.Common.{◌≡◌, ◌≢◌, ℕ, zero, suc, ◌+◌, ◌-◌, ◌^◌, ◌<◌, ◌≤◌, List, [], ◌∷◌, ◌++◌, Option, Some, None, length, drop, replicate, arith, refl, sym, ap, ◌∙◌, inl, inr, subst}
use Rattle.std.specs.Prelude.{nat_eq}
use Rattle.std.specs.List.{Contains, IsDistinct}
use Rattle.std.proofs.lemmas.Bool.{cases_eq, cases_lt}
use Rattle.std.proofs.lemmas.List.{get_or-set_same, get_or-set_other, length-map, length-replicate, length-set}
use Rattle.std.proofs.lemmas.Option.{same_Some as same_place, same_Some as same_block}
use Rattle.cf_base.specs.Lists.{without_number}
use Rattle.cf_base.proofs.Members.{contains_cases, contains_head, contains_nil, contains_tail, contains_without, distinct_cons, distinct_nil, distinct_without, without_absent, without_contains}
use Rattle.cf_base.proofs.Tests.{eq_yes, eq_no, le_yes, le_no}
use Rattle.block_model.specs.Buckets.{FreeLists, AreLawful}
use Rattle.block_model.specs.Tiling.{Block, Demand, Fill, IsTiling, Carves, Serves, block_at, one_free_block, size_at, size_of, carved, carved_at}
use Rattle.block_model.specs.FreeOrder.{AreListsOf, CarvesNext, IsFreeOf, BlocksWithLists, first_listed, first_lists, last_listed, later_or, list_in, lists_carved, lists_led_by, lists_without, next_block}
use Rattle.block_model.proofs.Others.{lies, skip, take_first}
use Rattle.block_model.proofs.Rewriting.{apart}

-- ---- the first block of the lists from one of them on

-- list number `list` begins with address a, and the lists from `start` up to it are empty
pub record IsFirstOf (lists : List (List ℕ)) (start a : ℕ) : Type 0 where
  pub list : ℕ
  pub rest : List ℕ
  pub from : start ≤ list
  pub front : list_in lists list ≡ a ∷ rest
  pub before : (j : ℕ) → start ≤ j → j < list → list_in lists j ≡ []

pub first_is : (lists : List (List ℕ)) (start k a : ℕ) (xs : List ℕ) → start ≤ k → list_in lists k ≡ a ∷ xs
    → ((j : ℕ) → start ≤ j → j < k → list_in lists j ≡ []) → first_listed (drop start lists) ≡ Some a
first_is [] start k a xs from front before = absurd (let e : [] ≡ a ∷ xs = front in cc)
first_is ([] ∷ lists) zero zero a xs from front before = absurd (let e : [] ≡ a ∷ xs = front in cc)
first_is ((b ∷ ys) ∷ lists) zero zero a xs from front before = (let e : b ∷ ys ≡ a ∷ xs = front in let f : b ≡ a = cc in ap Some f)
first_is ([] ∷ lists) zero (suc k) a xs from front before =
    first_is lists zero k a xs (omega arith) front (λ j low lt. before (suc j) (omega arith) (omega arith))
first_is ((b ∷ ys) ∷ lists) zero (suc k) a xs from front before = absurd (let e : b ∷ ys ≡ [] = before 0 (omega arith) (omega arith) in cc)
first_is (ys ∷ lists) (suc start) zero a xs from front before = absurd (omega arith)
first_is (ys ∷ lists) (suc start) (suc k) a xs from front before =
    first_is lists start k a xs (omega arith) front (λ j low lt. before (suc j) (omega arith) (omega arith))

later_first : (lists : List (List ℕ)) (a : ℕ) → IsFirstOf lists 0 a → IsFirstOf ([] ∷ lists) 0 a
later_first lists a f = record { list = suc f.list; rest = f.rest; from = omega arith; front = f.front; before = at }
  where
    at : (j : ℕ) → 0 ≤ j → j < suc f.list → list_in ([] ∷ lists) j ≡ []
    at zero low lt = refl
    at (suc j) low lt = f.before j (omega arith) (omega arith)

past_first : (ys : List ℕ) (lists : List (List ℕ)) (start a : ℕ) → IsFirstOf lists start a → IsFirstOf (ys ∷ lists) (suc start) a
past_first ys lists start a f = record {
  list = suc f.list;
  rest = f.rest;
  from = (let l = f.from in omega arith);
  front = f.front;
  before = at;
}
  where
    at : (j : ℕ) → suc start ≤ j → j < suc f.list → list_in (ys ∷ lists) j ≡ []
    at zero low lt = absurd (omega arith)
    at (suc j) low lt = f.before j (omega arith) (omega arith)

pub first_of : (lists : List (List ℕ)) (start a : ℕ) → first_listed (drop start lists) ≡ Some a → IsFirstOf lists start a
first_of [] zero a is = absurd (let e : None ≡ Some a = is in cc)
first_of [] (suc start) a is = absurd (let e : None ≡ Some a = is in cc)
first_of ([] ∷ lists) zero a is = later_first lists a (first_of lists 0 a is)
first_of ((b ∷ ys) ∷ lists) zero a is = record {
  list = 0;
  rest = ys;
  from = omega arith;
  front = ap (λ x. x ∷ ys) (same_place b a is);
  before = λ j low lt. absurd (omega arith);
}
first_of (ys ∷ lists) (suc start) a is = past_first ys lists start a (first_of lists start a is)

pub first_none : (lists : List (List ℕ)) (start j : ℕ) → first_listed (drop start lists) ≡ None → start ≤ j → list_in lists j ≡ []
first_none [] start j is low = refl
first_none ([] ∷ lists) zero zero is low = refl
first_none ([] ∷ lists) zero (suc j) is low = first_none lists 0 j is (omega arith)
first_none ((b ∷ ys) ∷ lists) zero j is low = absurd (let e : Some b ≡ None = is in cc)
first_none (ys ∷ lists) (suc start) zero is low = absurd (omega arith)
first_none (ys ∷ lists) (suc start) (suc j) is low = first_none lists start j is (omega arith)

pub none_is : (lists : List (List ℕ)) (start : ℕ) → ((j : ℕ) → start ≤ j → list_in lists j ≡ []) → first_listed (drop start lists) ≡ None
none_is [] zero all = refl
none_is [] (suc start) all = refl
none_is ([] ∷ lists) zero all = none_is lists 0 (λ j low. all (suc j) (omega arith))
none_is ((b ∷ ys) ∷ lists) zero all = absurd (let e : b ∷ ys ≡ [] = all 0 (omega arith) in cc)
none_is (ys ∷ lists) (suc start) all = none_is lists start (λ j low. all (suc j) (omega arith))

-- ---- the last list with a block

later_some : (xs ys : List ℕ) → ys ≢ [] → later_or xs ys ≡ ys
later_some xs [] some = absurd (some refl)
later_some xs (y ∷ ys) some = refl

pub last_none : (lists : List (List ℕ)) → ((j : ℕ) → list_in lists j ≡ []) → last_listed lists ≡ []
last_none [] all = refl
last_none (xs ∷ lists) all = ap (later_or xs) (last_none lists (λ j. all (suc j))) ∙ all 0

pub last_is : (lists : List (List ℕ)) (k : ℕ) → list_in lists k ≢ [] → ((j : ℕ) → k < j → list_in lists j ≡ []) → last_listed lists ≡ list_in lists k
last_is [] k some behind = absurd (some refl)
last_is (xs ∷ lists) zero some behind = ap (later_or xs) (last_none lists (λ j. behind (suc j) (omega arith)))
last_is (xs ∷ lists) (suc k) some behind =
    let e = last_is lists k some (λ j lt. behind (suc j) (omega arith)) in
    later_some xs (last_listed lists) (λ none. some (sym e ∙ none)) ∙ e

-- ---- one list after a change

pub list_without : (lists : List (List ℕ)) (a k : ℕ) → list_in (lists_without lists a) k ≡ without_number a (list_in lists k)
list_without [] a k = refl
list_without (ys ∷ lists) a zero = refl
list_without (ys ∷ lists) a (suc k) = list_without lists a k

pub length-without : (lists : List (List ℕ)) (a : ℕ) → length (lists_without lists a) ≡ length lists
length-without lists a = length-map lists (without_number a)

module _ (rule : FreeLists) (lists : List (List ℕ)) (a size : ℕ) where
  pub length-led : length (lists_led_by rule lists a size) ≡ length lists
  length-led = length-set lists (rule.bucket size) (a ∷ list_in lists (rule.bucket size))

  pub led_same : rule.bucket size < length lists → (k : ℕ) → rule.bucket size ≡ k → list_in (lists_led_by rule lists a size) k ≡ a ∷ list_in lists k
  led_same lt k is = rw (← is) (get_or-set_same lists (rule.bucket size) (a ∷ list_in lists (rule.bucket size)) [] lt)

  pub led_other : (k : ℕ) → k ≢ rule.bucket size → list_in (lists_led_by rule lists a size) k ≡ list_in lists k
  led_other k ne = get_or-set_other lists (rule.bucket size) k (a ∷ list_in lists (rule.bucket size)) [] ne

-- two lists of lists are equal if each list k is the same in both
pub same_listed : (xs ys : List (List ℕ)) → length xs ≡ length ys → ((k : ℕ) → list_in xs k ≡ list_in ys k) → xs ≡ ys
same_listed [] [] long same = refl
same_listed [] (y ∷ ys) long same = absurd (omega arith)
same_listed (x ∷ xs) [] long same = absurd (omega arith)
same_listed (x ∷ xs) (y ∷ ys) long same =
    let first : x ≡ y = same 0 in
    let rest = same_listed xs ys (omega arith) (λ k. same (suc k)) in
    λ i. first i ∷ rest i

-- ---- lists of other blocks

-- the blocks `new` have the same free blocks as `old`, except that none is at address a
pub record LosesFree (old : List Block) (a : ℕ) (new : List Block) : Type 0 where
  pub was : (x : ℕ) (b : Block) → block_at new x ≡ Some b → b.owner ≡ None → (x ≢ a) × (block_at old x ≡ Some b)
  pub is : (x : ℕ) (b : Block) → x ≢ a → block_at old x ≡ Some b → b.owner ≡ None → block_at new x ≡ Some b

module _ (rule : FreeLists) (count : ℕ) where
  pub lost : (old new : List Block) (lists : List (List ℕ)) (a : ℕ) → AreListsOf rule count (record { blocks = old; lists = lists }) → LosesFree old a new
      → AreListsOf rule count (record { blocks = new; lists = lists_without lists a })
  lost old new lists a of loses = record {
    as_many = length-without lists a ∙ of.as_many;
    members = λ k x. (
      (λ i.
          let w = contains_without a x (list_in lists k) (subst (λ xs. Contains xs x) (list_without lists a k) i) in
          let f = (of.members k x).0 w.1 in
          record { block = f.block; there = loses.is x f.block w.0 f.there f.free; free = f.free; bucket = f.bucket }),
      (λ f.
          let o = loses.was x f.block f.there f.free in
          subst (λ xs. Contains xs x) (sym (list_without lists a k))
          (without_contains a x (list_in lists k) o.0 ((of.members k x).1 (record { block = f.block; there = o.1; free = f.free; bucket = f.bucket })))),
    );
    once = λ k. subst (IsDistinct nat_eq) (sym (list_without lists a k)) (distinct_without a (list_in lists k) (of.once k));
  }

  -- a block that is not free is in no list
  pub without_used : (blocks : List Block) (lists : List (List ℕ)) (a : ℕ) → AreListsOf rule count (record { blocks = blocks; lists = lists })
      → ((b : Block) → block_at blocks a ≡ Some b → b.owner ≡ None → ⊥) → lists_without lists a ≡ lists
  without_used blocks lists a of used = same_listed (lists_without lists a) lists (length-without lists a) (λ k. list_without lists a k
      ∙ without_absent a (list_in lists k) (λ i. let f = (of.members k a).0 i in used f.block f.there f.free))

-- the blocks `new` have the same free blocks as `old`, and one more, of `size` words at address a
pub record GainsFree (old : List Block) (a size : ℕ) (new : List Block) : Type 0 where
  pub there : block_at new a ≡ Some (record { address = a; size = size; owner = None })
  pub fresh : (b : Block) → block_at old a ≡ Some b → b.owner ≡ None → ⊥
  pub was : (x : ℕ) (b : Block) → x ≢ a → block_at new x ≡ Some b → b.owner ≡ None → block_at old x ≡ Some b
  pub is : (x : ℕ) (b : Block) → x ≢ a → block_at old x ≡ Some b → b.owner ≡ None → block_at new x ≡ Some b

module _ (rule : FreeLists) (count : ℕ) (old new : List Block) (lists : List (List ℕ)) (a size : ℕ)
    (of : AreListsOf rule count (record { blocks = old; lists = lists })) (gains : GainsFree old a size new) (below : rule.bucket size < count) where
  not_yet : (k : ℕ) → ¬ Contains (list_in lists k) a
  not_yet k i = (let f = (of.members k a).0 i in gains.fresh f.block f.there f.free)

  within : rule.bucket size < length lists
  within = (let e = of.as_many in omega arith)

  -- a free block of the old blocks is a free block of the new ones, in the same bucket
  kept_free : (k x : ℕ) → IsFreeOf rule old k x → IsFreeOf rule new k x
  kept_free k x f = record {
    block = f.block;
    there = gains.is x f.block (λ e. gains.fresh f.block (subst (λ y. block_at old y ≡ Some f.block) e f.there) f.free) f.there f.free;
    free = f.free;
    bucket = f.bucket;
  }

  the_new : (k : ℕ) → rule.bucket size ≡ k → IsFreeOf rule new k a
  the_new k is = record { block = record { address = a; size = size; owner = None }; there = gains.there; free = refl; bucket = is }

  new_member : (k x : ℕ) → Contains (list_in (lists_led_by rule lists a size) k) x → IsFreeOf rule new k x
  new_member k x i = elim (cases_eq k (rule.bucket size)) [
    | inl is ↦ elim (contains_cases x a (list_in lists k) (subst (λ xs. Contains xs x) (led_same rule lists a size within k (sym is)) i)) [
      | inl here ↦ subst (IsFreeOf rule new k) (sym here) (the_new k (sym is))
      | inr later ↦ kept_free k x ((of.members k x).0 later)
    ]
    | inr ne ↦ kept_free k x ((of.members k x).0 (subst (λ xs. Contains xs x) (led_other rule lists a size k ne) i))
  ]

  bucket_of_new : (k : ℕ) → IsFreeOf rule new k a → rule.bucket size ≡ k
  bucket_of_new k f =
      ap (λ (b : Block). rule.bucket b.size) (same_block (record { address = a; size = size; owner = None }) f.block (sym gains.there ∙ f.there)) ∙ f.bucket

  member_new : (k x : ℕ) → IsFreeOf rule new k x → Contains (list_in (lists_led_by rule lists a size) k) x
  member_new k x f = elim (cases_eq x a) [
    | inl here ↦ (
        let is = bucket_of_new k (subst (IsFreeOf rule new k) here f) in
        subst (λ xs. Contains xs x) (sym (led_same rule lists a size within k is)) (rw here (contains_head a (list_in lists k))))
    | inr off ↦ (
        let i = (of.members k x).1 (record { block = f.block; there = gains.was x f.block off f.there f.free; free = f.free; bucket = f.bucket }) in
        elim (cases_eq k (rule.bucket size)) [
          | inl is ↦ subst (λ xs. Contains xs x) (sym (led_same rule lists a size within k (sym is))) (contains_tail x a (list_in lists k) i)
          | inr ne ↦ subst (λ xs. Contains xs x) (sym (led_other rule lists a size k ne)) i
        ])
  ]

  pub gained : AreListsOf rule count (record { blocks = new; lists = lists_led_by rule lists a size })
  gained = record {
    as_many = length-led rule lists a size ∙ of.as_many;
    members = λ k x. (new_member k x, member_new k x);
    once = λ k. elim (cases_eq k (rule.bucket size)) [
      | inl is ↦ subst (IsDistinct nat_eq) (sym (led_same rule lists a size within k (sym is))) (distinct_cons a (list_in lists k) (not_yet k) (of.once k))
      | inr ne ↦ subst (IsDistinct nat_eq) (sym (led_other rule lists a size k ne)) (of.once k)
    ];
  }

-- ---- the blocks after a carve

module _ (d : Demand) (place : ℕ) where
  size_here : (x : Block) (xs : List Block) → x.address ≡ place → size_at (x ∷ xs) place ≡ x.size
  size_here x xs is = ap size_of (take_first x xs place is)

  size_later : (x : Block) (xs : List Block) → x.address ≢ place → size_at (x ∷ xs) place ≡ size_at xs place
  size_later x xs other = ap size_of (skip x xs place other)

  -- a carve changes no block but the one at `place` and the rest of it
  carve_elsewhere : (bs : List Block) (a : ℕ) → a ≢ place → (d.need + 2 ≤ size_at bs place → a ≢ place + d.need)
      → block_at (carved_at bs place d) a ≡ block_at bs a
  carve_elsewhere [] a ne off = refl
  carve_elsewhere (x ∷ xs) a ne off = elim (cases_eq x.address place) [
    | inl is ↦ (
        let size = size_here x xs is in
        rw (eq_yes x.address place is) (elim (cases_lt x.size (d.need + 2)) [
          | inl small ↦ rw (le_no (d.need + 2) x.size small) (
              skip (record { address = x.address; size = x.size; owner = Some d.owner }) xs a (λ e. ne (sym e ∙ is))
              ∙ sym (skip x xs a (λ e. ne (sym e ∙ is))))
          | inr large ↦ rw (le_yes (d.need + 2) x.size large) (
              skip (record { address = x.address; size = d.need; owner = Some d.owner })
              (record { address = x.address + d.need; size = x.size - d.need; owner = None } ∷ xs) a (λ e. ne (sym e ∙ is))
              ∙ skip (record { address = x.address + d.need; size = x.size - d.need; owner = None }) xs a (λ e. off (omega arith) (sym e ∙ ap (λ n. n + d.need) is))
              ∙ sym (skip x xs a (λ e. ne (sym e ∙ is))))
        ]))
    | inr other ↦ rw (eq_no x.address place other) (elim (cases_eq x.address a) [
      | inl same ↦ take_first x (carved_at xs place d) a same ∙ sym (take_first x xs a same)
      | inr not ↦ skip x (carved_at xs place d) a not
          ∙ carve_elsewhere xs a ne (λ large. off (let e = size_later x xs other in omega arith)) ∙ sym (skip x xs a not)
    ])
  ]

  -- the block at `place` is not free after the carve
  carve_used : (bs : List Block) (b : Block) → block_at (carved_at bs place d) place ≡ Some b → b.owner ≡ None → ⊥
  carve_used [] b there free = absurd (let e : None ≡ Some b = there in cc)
  carve_used (x ∷ xs) b there free = elim (cases_eq x.address place) [
    | inl is ↦ (
        let t : block_at (carved x d ++ xs) place ≡ Some b = rw (eq_yes x.address place is) at there in
        elim (cases_lt x.size (d.need + 2)) [
          | inl small ↦ (
              let u : block_at (record { address = x.address; size = x.size; owner = Some d.owner } ∷ xs) place ≡ Some b =
              rw (le_no (d.need + 2) x.size small) at t in
              owned (record { address = x.address; size = x.size; owner = Some d.owner }) xs is refl u)
          | inr large ↦ (
              let u : block_at (record { address = x.address; size = d.need; owner = Some d.owner } ∷ record
              { address = x.address + d.need; size = x.size - d.need; owner = None } ∷ xs) place ≡ Some b = rw (le_yes (d.need + 2) x.size large) at t in
              owned (record { address = x.address; size = d.need; owner = Some d.owner })
              (record { address = x.address + d.need; size = x.size - d.need; owner = None } ∷ xs) is refl u)
        ])
    | inr other ↦ (
        let t : block_at (x ∷ carved_at xs place d) place ≡ Some b = rw (eq_no x.address place other) at there in
        carve_used xs b (sym (skip x (carved_at xs place d) place other) ∙ t) free)
  ]
    where
      owned : (y : Block) (ys : List Block) → y.address ≡ place → y.owner ≡ Some d.owner → block_at (y ∷ ys) place ≡ Some b → ⊥
      owned y ys is by u =
          let e : Some d.owner ≡ None = sym by ∙ ap (λ (z : Block). z.owner) (same_block y b (sym (take_first y ys place is) ∙ u)) ∙ free in cc

  abbrev rest_of : ℕ → Block
  rest_of size = record { address = place + d.need; size = size - d.need; owner = None }

  -- the rest of the carved block, if it has two words or more, is a free block
  carve_rest : (bs : List Block) (from to : ℕ) (found : Block) → Fill bs from to → 2 ≤ d.need → block_at bs place ≡ Some found → d.need + 2 ≤ found.size
      → block_at (carved_at bs place d) (place + d.need) ≡ Some (rest_of found.size)
  carve_rest [] from to found f some there large = absurd (let e : None ≡ Some found = there in cc)
  carve_rest (x ∷ xs) from to found f some there large = elim (cases_eq x.address place) [
    | inl is ↦ (
        let same : x ≡ found = same_block x found (sym (take_first x xs place is) ∙ there) in
        let size : x.size ≡ found.size = ap (λ (y : Block). y.size) same in
        let rest : Block = record { address = x.address + d.need; size = x.size - d.need; owner = None } in
        let one : rest ≡ rest_of found.size = λ i. record { address = is i + d.need; size = size i - d.need; owner = None } in
        rw (eq_yes x.address place is) (rw (le_yes (d.need + 2) x.size (omega arith)) (
        skip (record { address = x.address; size = d.need; owner = Some d.owner }) (rest ∷ xs) (place + d.need) (λ e. absurd (omega arith))
        ∙ take_first rest xs (place + d.need) (omega arith) ∙ ap Some one)))
    | inr other ↦ (
        let later = sym (skip x xs place other) ∙ there in
        let l = lies xs (from + x.size) to place found f.2 later in
        let begins = f.0 in let low = l.low in let size = f.1 in
        rw (eq_no x.address place other) (
        skip x (carved_at xs place d) (place + d.need) (λ e. absurd (omega arith)) ∙ carve_rest xs (from + x.size) to found f.2 some later large))
  ]

-- ---- a carve

module _ (rule : FreeLists) (count : ℕ) (s : BlocksWithLists) (of : AreListsOf rule count s) where
  -- the block at address a is free and may serve the need, and no block that may serve it is in a lower bucket
  pub record IsNext (need a : ℕ) : Type 0 where
    pub block : Block
    pub there : block_at s.blocks a ≡ Some block
    pub serves : Serves rule need block
    pub least : (x : ℕ) (b : Block) → block_at s.blocks x ≡ Some b → Serves rule need b → rule.bucket block.size ≤ rule.bucket b.size

  among : (x : ℕ) (b : Block) → block_at s.blocks x ≡ Some b → b.owner ≡ None → ¬ (list_in s.lists (rule.bucket b.size) ≡ [])
  among x b there free none =
      contains_nil x (subst (λ xs. Contains xs x) none ((of.members (rule.bucket b.size) x).1 (record { block = b; there = there; free = free; bucket = refl })))

  pub next_is : (need a : ℕ) → next_block rule s.lists need ≡ Some a → IsNext need a
  next_is need a is =
      let f = first_of s.lists (rule.search need) a is in
      let m = (of.members f.list a).0 (subst (λ xs. Contains xs a) (sym f.front) (contains_head a f.rest)) in
      let e = m.bucket in
      record {
        block = m.block;
        there = m.there;
        serves = record { free = m.free; reached = (let l = f.from in omega arith) };
        least = λ x b there serves. elim (cases_lt (rule.bucket b.size) f.list) [
          | inl earlier ↦ absurd (among x b there serves.free (f.before (rule.bucket b.size) serves.reached earlier))
          | inr le ↦ omega arith
        ];
      }

  -- there is a next block, if a free block may serve the need
  pub next_there : (need x : ℕ) (b : Block) → block_at s.blocks x ≡ Some b → Serves rule need b → (a : ℕ) × (next_block rule s.lists need ≡ Some a)
  next_there need x b there serves = by_cases (next_block rule s.lists need) refl
    where
      by_cases : (o : Option ℕ) → next_block rule s.lists need ≡ o → (a : ℕ) × (next_block rule s.lists need ≡ Some a)
      by_cases (Some a) is = (a, is)
      by_cases None is = absurd (among x b there serves.free (first_none s.lists (rule.search need) (rule.bucket b.size) is serves.reached))

  pub carve_follows : (d : Demand) (x : ℕ) (b : Block) → block_at s.blocks x ≡ Some b → Serves rule d.need b
      → (place : ℕ) × (new : BlocksWithLists) × CarvesNext rule s d place new
  carve_follows d x b there serves =
      let n = next_there d.need x b there serves in
      (n.0, record { blocks = carved_at s.blocks n.0 d; lists = lists_carved rule s d.need n.0 }, record { next = n.1; blocks = refl; lists = refl })

  module _ (d : Demand) (place : ℕ) (new : BlocksWithLists) (c : CarvesNext rule s d place new) where
    next : IsNext d.need place
    next = next_is d.need place c.next

    -- a carve of the next block is a malloc of the model
    pub carve_is_malloc : Carves rule s.blocks d place new.blocks
    carve_is_malloc = record { found = next.block; there = next.there; serves = next.serves; least = next.least; carved = c.blocks }

pub one_carve : (rule : FreeLists) (s : BlocksWithLists) (d : Demand) (a b : ℕ) (one two : BlocksWithLists) → CarvesNext rule s d a one → CarvesNext rule s d b two
    → (a ≡ b) × (one ≡ two)
one_carve rule s d a b one two c e =
    let same : a ≡ b = same_place a b (sym c.next ∙ e.next) in
    let blocks : one.blocks ≡ two.blocks = c.blocks ∙ ap (λ x. carved_at s.blocks x d) same ∙ sym e.blocks in
    let lists : one.lists ≡ two.lists = c.lists ∙ ap (lists_carved rule s d.need) same ∙ sym e.lists in
    (same, λ i. record { blocks = blocks i; lists = lists i })

-- the lists after a carve of a free block
module _ (rule : FreeLists) (count words : ℕ) (lawful : AreLawful rule count) (few : words ≤ 2 ^ 23) (s : BlocksWithLists) (t : IsTiling words s.blocks)
    (of : AreListsOf rule count s) (d : Demand) (some : 2 ≤ d.need) (place : ℕ) (found : Block) (there : block_at s.blocks place ≡ Some found)
    (free : found.owner ≡ None) where
  size_is : size_at s.blocks place ≡ found.size
  size_is = ap size_of there

  -- the demand for the whole block that was found
  abbrev all : Demand
  all = record { need = found.size; owner = d.owner }

  abbrev mid : List Block
  mid = carved_at s.blocks place all

  mid_elsewhere : (x : ℕ) → x ≢ place → block_at mid x ≡ block_at s.blocks x
  mid_elsewhere x ne = carve_elsewhere all place s.blocks x ne (λ large. absurd (let e = size_is in omega arith))

  mid_loses : LosesFree s.blocks place mid
  mid_loses = record {
    was = λ x b at by. elim (cases_eq x place) [
      | inl is ↦ absurd (carve_used all place s.blocks b (subst (λ y. block_at mid y ≡ Some b) is at) by)
      | inr ne ↦ (ne, sym (mid_elsewhere x ne) ∙ at)
    ];
    is = λ x b ne at by. mid_elsewhere x ne ∙ at;
  }

  mid_lists : AreListsOf rule count (record { blocks = mid; lists = lists_without s.lists place })
  mid_lists = lost rule count s.blocks mid s.lists place of mid_loses

  abbrev new : List Block
  new = carved_at s.blocks place d

  small_loses : found.size < d.need + 2 → LosesFree s.blocks place new
  small_loses small = record {
    was = λ x b at by. elim (cases_eq x place) [
      | inl is ↦ absurd (carve_used d place s.blocks b (subst (λ y. block_at new y ≡ Some b) is at) by)
      | inr ne ↦ (ne, sym (carve_elsewhere d place s.blocks x ne (λ large. absurd (let e = size_is in omega arith))) ∙ at)
    ];
    is = λ x b ne at by. carve_elsewhere d place s.blocks x ne (λ large. absurd (let e = size_is in omega arith)) ∙ at;
  }

  large_gains : d.need + 2 ≤ found.size → GainsFree mid (place + d.need) (found.size - d.need) new
  large_gains large = record {
    there = carve_rest d place s.blocks 0 words found t.fill some there large;
    fresh = λ b at by. elim (apart s.blocks 0 words place (place + d.need) found b t.fill there
        (sym (mid_elsewhere (place + d.need) (λ e. absurd (omega arith))) ∙ at) (λ e. absurd (omega arith))) [
          | inl before ↦ absurd (omega arith)
          | inr behind ↦ absurd (omega arith)
        ];
    was = λ x b off at by. elim (cases_eq x place) [
      | inl is ↦ absurd (carve_used d place s.blocks b (subst (λ y. block_at new y ≡ Some b) is at) by)
      | inr ne ↦ mid_elsewhere x ne ∙ sym (carve_elsewhere d place s.blocks x ne (λ _. off)) ∙ at
    ];
    is = λ x b off at by. elim (cases_eq x place) [
      | inl is ↦ absurd (carve_used all place s.blocks b (subst (λ y. block_at mid y ≡ Some b) is at) by)
      | inr ne ↦ carve_elsewhere d place s.blocks x ne (λ _. off) ∙ sym (mid_elsewhere x ne) ∙ at
    ];
  }

  pub carve_lists : AreListsOf rule count (record { blocks = new; lists = lists_carved rule s d.need place })
  carve_lists = elim (cases_lt found.size (d.need + 2)) [
    | inl small ↦ rw (le_no (d.need + 2) (size_at s.blocks place) (let e = size_is in omega arith)) (
        lost rule count s.blocks new s.lists place of (small_loses small))
    | inr large ↦ (
        let l = lies s.blocks 0 words place found t.fill there in
        let high = l.high in
        rw (le_yes (d.need + 2) (size_at s.blocks place) (let e = size_is in omega arith)) (
        rw size_is (gained rule count mid new (lists_without s.lists place) (place + d.need) (found.size - d.need) mid_lists (large_gains large)
        (lawful.below (found.size - d.need) (omega arith) (omega arith)))))
  ]

pub carve_keeps_lists : (rule : FreeLists) (count words : ℕ) (old new : BlocksWithLists) (d : Demand) (place : ℕ) → AreLawful rule count → words ≤ 2 ^ 23 → 2 ≤ d.need
    → IsTiling words old.blocks → AreListsOf rule count old → CarvesNext rule old d place new → AreListsOf rule count new
carve_keeps_lists rule count words old new d place lawful few some t of c =
    let n = next_is rule count old of d.need place c.next in
    let e : new ≡ record { blocks = carved_at old.blocks place d; lists = lists_carved rule old d.need place } =
    λ i. record { blocks = c.blocks i; lists = c.lists i } in
    subst (AreListsOf rule count) (sym e) (carve_lists rule count words lawful few old t of d some place n.block n.there n.serves.free)

-- ---- the lists of one free block

pub no_list : (count k : ℕ) → list_in (replicate count []) k ≡ []
no_list zero k = refl
no_list (suc count) zero = refl
no_list (suc count) (suc k) = no_list count k

pub opening_lists : (rule : FreeLists) (count words : ℕ) → AreLawful rule count → 2 ≤ words → words ≤ 2 ^ 23
    → AreListsOf rule count (record { blocks = one_free_block words; lists = first_lists rule count words })
opening_lists rule count words lawful some few = gained rule count [] (one_free_block words) (replicate count []) 0 words empty gains (lawful.below words some few)
  where
    empty : AreListsOf rule count (record { blocks = []; lists = replicate count [] })
    empty = record {
      as_many = length-replicate {A = List ℕ} count [];
      members = λ k x. (
        (λ i. absurd (contains_nil x (subst (λ xs. Contains xs x) (no_list count k) i))),
        (λ f. absurd (let there : None ≡ Some f.block = f.there in cc)),
      );
      once = λ k. subst (IsDistinct nat_eq) (sym (no_list count k)) distinct_nil;
    }

    gains : GainsFree [] 0 words (one_free_block words)
    gains = record {
      there = refl;
      fresh = λ b at by. (let e : None ≡ Some b = at in cc);
      was = λ x b ne at by. sym (skip (record { address = 0; size = words; owner = None }) [] x (λ e. ne (sym e))) ∙ at;
      is = λ x b ne at by. absurd (let e : None ≡ Some b = at in cc);
    }
