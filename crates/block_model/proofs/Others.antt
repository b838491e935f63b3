-- For the laws `other_blocks_stay` and `malloc_gives_what_is_needed`: after a malloc or a free every other used block stays and no other becomes used; the
-- block of a malloc has the words that are needed or one more. After a free no used block begins at the address of the freed one. For other proofs: a block
-- lies within the words that the blocks fill, which don't end before they begin; no used block is free; and an address finds the first block if it begins
-- there, else one of the others.
use Rattle.std.proofs.Common.{◌≡◌, ◌≢◌, ℕ, Bool, true, false, ◌+◌, ◌-◌, ◌^◌, ◌≤◌, List, [], ◌∷◌, ◌++◌, Some, None, arith, sym, ◌∙◌, inl, inr, ap, refl, subst}
use Rattle.std.specs.Prelude.{◌&&◌, is_none}
use Rattle.std.proofs.lemmas.Bool.{cases_lt, cases_eq}
use Rattle.std.proofs.lemmas.Option.{same_Some as some_injective}
use Rattle.block_model.specs.Buckets.{FreeLists, AreLawful}
use Rattle.block_model.specs.Tiling.{Block, is_free, Fill, IsTiling, block_at, Demand, carved, carved_at, Carves, joined, merged, freed_at, released}
use Rattle.block_model.specs.Tiling.{IsCarvedTo, StaysUsed}
use Rattle.cf_base.proofs.Tests.{eq_yes, eq_no, le_yes, le_no}
use Rattle.block_model.proofs.Releases.{freed_fill, merged_fill}

pub fill_le : (bs : List Block) (from to : ℕ) → Fill bs from to → from ≤ to
fill_le [] from to f = omega arith
fill_le (b ∷ bs) from to f = (let r = fill_le bs (from + b.size) to f.2 in omega arith)

-- block b begins at address a and lies within the words from `from` to `to`
pub record IsBlockWithin (b : Block) (a from to : ℕ) : Type 0 where
  pub address : b.address ≡ a
  pub size : 2 ≤ b.size
  pub low : from ≤ a
  pub high : a + b.size ≤ to

pub lies : (bs : List Block) (from to a : ℕ) (b : Block) → Fill bs from to → block_at bs a ≡ Some b → IsBlockWithin b a from to
lies [] from to a b f there = cc
lies (x ∷ xs) from to a b f there = elim (cases_eq x.address a) [
  | inl is ↦ (
      let there' : Some x ≡ Some b = rw (eq_yes x.address a is) at there in
      let same : x ≡ b = cc in
      let e = f.0 in let size = f.1 in
      let r = fill_le xs (from + x.size) to f.2 in
      subst (λ y. IsBlockWithin y a from to) same (record { address = is; size = size; low = omega arith; high = omega arith }))
  | inr other ↦ (
      let there' : block_at xs a ≡ Some b = rw (eq_no x.address a other) at there in
      let r = lies xs (from + x.size) to a b f.2 there' in
      record { address = r.address; size = r.size; low = omega (arith, r.low); high = r.high })
]

pub used_is_not_free : (b : Block) (h : ℕ) → b.owner ≡ Some h → b.owner ≡ None → ⊥
used_is_not_free b h e f = cc

pub skip : (x : Block) (xs : List Block) (a : ℕ) → x.address ≢ a → block_at (x ∷ xs) a ≡ block_at xs a
skip x xs a other = rw (eq_no x.address a other) refl

pub take_first : (x : Block) (xs : List Block) (a : ℕ) → x.address ≡ a → block_at (x ∷ xs) a ≡ Some x
take_first x xs a is = rw (eq_yes x.address a is) refl

module _ (d : Demand) (place a : ℕ) (b : Block) (h : ℕ) (away : a ≢ place) (used : b.owner ≡ Some h) where
  carved_kept : (x : Block) (xs : List Block) → x.address ≡ place → ((x.address + d.need ≡ a) → d.need + 2 ≤ x.size → block_at xs a ≡ Some b → ⊥)
      → block_at xs a ≡ Some b → block_at (carved x d ++ xs) a ≡ Some b
  carved_kept x xs is clear there = elim (cases_lt x.size (d.need + 2)) [
    | inl small ↦ rw (le_no (d.need + 2) x.size small) (skip (record { address = x.address; size = x.size; owner = Some d.owner }) xs a (λ e. away (sym e ∙ is))
        ∙ there)
    | inr large ↦ rw (le_yes (d.need + 2) x.size large) (
        skip (record { address = x.address; size = d.need; owner = Some d.owner })
        (record { address = x.address + d.need; size = x.size - d.need; owner = None } ∷ xs) a (λ e. away (sym e ∙ is))
        ∙ skip (record { address = x.address + d.need; size = x.size - d.need; owner = None }) xs a (λ e. clear e large there) ∙ there)
  ]

  carved_no_other : (x : Block) (xs : List Block) → x.address ≡ place → block_at (carved x d ++ xs) a ≡ Some b → block_at xs a ≡ Some b
  carved_no_other x xs is there = elim (cases_lt x.size (d.need + 2)) [
    | inl small ↦ (
        let t : block_at (record { address = x.address; size = x.size; owner = Some d.owner } ∷ xs) a ≡ Some b =
        rw (le_no (d.need + 2) x.size small) at there in
        sym (skip (record { address = x.address; size = x.size; owner = Some d.owner }) xs a (λ e. away (sym e ∙ is))) ∙ t)
    | inr large ↦ (
        let t : block_at (record { address = x.address; size = d.need; owner = Some d.owner } ∷ record
        { address = x.address + d.need; size = x.size - d.need; owner = None } ∷ xs) a ≡ Some b = rw (le_yes (d.need + 2) x.size large) at there in
        let rest : Block = record { address = x.address + d.need; size = x.size - d.need; owner = None } in
        let u : block_at (rest ∷ xs) a ≡ Some b = sym (skip (record { address = x.address; size = d.need; owner = Some d.owner }) (rest ∷ xs) a
        (λ e. away (sym e ∙ is))) ∙ t in
        elim (cases_eq rest.address a) [
          | inl same ↦ absurd (used_is_not_free b h used (sym (ap (λ (y : Block). y.owner) (some_injective rest b (sym (take_first rest xs a same) ∙ u)))))
          | inr other ↦ sym (skip rest xs a other) ∙ u
        ])
  ]

  pub malloc_kept : (bs : List Block) (from to : ℕ) → Fill bs from to → block_at bs a ≡ Some b → block_at (carved_at bs place d) a ≡ Some b
  malloc_kept [] from to f there = there
  malloc_kept (x ∷ xs) from to f there = elim (cases_eq x.address place) [
    | inl is ↦ (
        let rest : block_at xs a ≡ Some b = sym (skip x xs a (λ e. away (sym e ∙ is))) ∙ there in
        let l = lies xs (from + x.size) to a b f.2 rest in
        let begins = f.0 in
        rw (eq_yes x.address place is) (carved_kept x xs is (λ e large _. (let low = l.low in omega arith)) rest))
    | inr other ↦ rw (eq_no x.address place other) (elim (cases_eq x.address a) [
      | inl same ↦ take_first x (carved_at xs place d) a same ∙ sym (take_first x xs a same) ∙ there
      | inr not ↦ skip x (carved_at xs place d) a not ∙ malloc_kept xs (from + x.size) to f.2 (sym (skip x xs a not) ∙ there)
    ])
  ]

  pub malloc_no_other : (bs : List Block) → block_at (carved_at bs place d) a ≡ Some b → block_at bs a ≡ Some b
  malloc_no_other [] there = there
  malloc_no_other (x ∷ xs) there = elim (cases_eq x.address place) [
    | inl is ↦ (
        let t : block_at (carved x d ++ xs) a ≡ Some b = rw (eq_yes x.address place is) at there in
        skip x xs a (λ e. away (sym e ∙ is)) ∙ carved_no_other x xs is t)
    | inr other ↦ (
        let t : block_at (x ∷ carved_at xs place d) a ≡ Some b = rw (eq_no x.address place other) at there in
        elim (cases_eq x.address a) [
          | inl same ↦ take_first x xs a same ∙ sym (take_first x (carved_at xs place d) a same) ∙ t
          | inr not ↦ skip x xs a not ∙ malloc_no_other xs (sym (skip x (carved_at xs place d) a not) ∙ t)
        ])
  ]

  -- a free changes no other block
  freed_other : (bs : List Block) → block_at (freed_at bs place) a ≡ block_at bs a
  freed_other [] = refl
  freed_other (x ∷ xs) = elim (cases_eq x.address place) [
    | inl is ↦ rw (eq_yes x.address place is) (
        skip (record { address = x.address; size = x.size; owner = None }) xs a (λ e. away (sym e ∙ is)) ∙ sym (skip x xs a (λ e. away (sym e ∙ is))))
    | inr other ↦ rw (eq_no x.address place other) (elim (cases_eq x.address a) [
      | inl same ↦ take_first x (freed_at xs place) a same ∙ sym (take_first x xs a same)
      | inr not ↦ skip x (freed_at xs place) a not ∙ freed_other xs ∙ sym (skip x xs a not)
    ])
  ]

  free_owner : (x : Block) → is_free x ≡ true → Some x ≡ Some b → ⊥
  free_owner x free e = absurd (no_owner b used (ap is_free (sym (some_injective x b e)) ∙ free))
    where
      no_owner : (y : Block) → y.owner ≡ Some h → is_free y ≡ true → ⊥
      no_owner y e f = (let g : is_free y ≡ false = ap is_none e in cc)

  and_both : (s t : Bool) → (s && t) ≡ true → (s ≡ true) × (t ≡ true)
  and_both true t e = (refl, e)
  and_both false t e = cc

  -- joining free neighbours changes no used block
  joined_kept : (x : Block) (cs : List Block) → block_at (x ∷ cs) a ≡ Some b → block_at (joined x cs) a ≡ Some b
  joined_kept x [] there = there
  joined_kept x (c ∷ cs) there = by_cases (is_free x && is_free c) refl
    where
      by_cases : (t : Bool) → (is_free x && is_free c) ≡ t → block_at (joined x (c ∷ cs)) a ≡ Some b
      by_cases false e = rw e there
      by_cases true e =
          let free = and_both (is_free x) (is_free c) e in
          let not_x : x.address ≢ a = λ same. free_owner x free.0 (sym (take_first x (c ∷ cs) a same) ∙ there) in
          let u : block_at (c ∷ cs) a ≡ Some b = sym (skip x (c ∷ cs) a not_x) ∙ there in
          let not_c : c.address ≢ a = λ same. free_owner c free.1 (sym (take_first c cs a same) ∙ u) in
          rw e (skip (record { address = x.address; size = x.size + c.size; owner = None }) cs a not_x ∙ sym (skip c cs a not_c) ∙ u)

  joined_no_other : (x : Block) (cs : List Block) (from to : ℕ) → Fill (x ∷ cs) from to → block_at (joined x cs) a ≡ Some b → block_at (x ∷ cs) a ≡ Some b
  joined_no_other x [] from to f there = there
  joined_no_other x (c ∷ cs) from to f there = by_cases (is_free x && is_free c) refl
    where
      by_cases : (t : Bool) → (is_free x && is_free c) ≡ t → block_at (x ∷ c ∷ cs) a ≡ Some b
      by_cases false e = rw e at there
      by_cases true e =
          let one : Block = record { address = x.address; size = x.size + c.size; owner = None } in
          let t : block_at (one ∷ cs) a ≡ Some b = rw e at there in
          let not_x : x.address ≢ a = λ same. free_owner one refl (sym (take_first one cs a same) ∙ t) in
          let u : block_at cs a ≡ Some b = sym (skip one cs a not_x) ∙ t in
          let l = lies cs (from + x.size + c.size) to a b f.2.2 u in
          let begins = f.2.0 in
          let size = f.2.1 in
          let low = l.low in
          skip x (c ∷ cs) a not_x ∙ skip c cs a (λ same. omega arith) ∙ u

  merged_kept : (bs : List Block) → block_at bs a ≡ Some b → block_at (merged bs) a ≡ Some b
  merged_kept [] there = there
  merged_kept (x ∷ xs) there = joined_kept x (merged xs) (elim (cases_eq x.address a) [
    | inl same ↦ take_first x (merged xs) a same ∙ sym (take_first x xs a same) ∙ there
    | inr not ↦ skip x (merged xs) a not ∙ merged_kept xs (sym (skip x xs a not) ∙ there)
  ])

  pub merged_no_other : (bs : List Block) (from to : ℕ) → Fill bs from to → block_at (merged bs) a ≡ Some b → block_at bs a ≡ Some b
  merged_no_other [] from to f there = there
  merged_no_other (x ∷ xs) from to f there =
      let t = joined_no_other x (merged xs) from to (f.0, f.1, merged_fill xs (from + x.size) to f.2) there in
      elim (cases_eq x.address a) [
        | inl same ↦ take_first x xs a same ∙ sym (take_first x (merged xs) a same) ∙ t
        | inr not ↦ skip x xs a not ∙ merged_no_other xs (from + x.size) to f.2 (sym (skip x (merged xs) a not) ∙ t)
      ]

  pub free_kept : (bs : List Block) → block_at bs a ≡ Some b → block_at (released bs place) a ≡ Some b
  free_kept bs there = merged_kept (freed_at bs place) (freed_other bs ∙ there)

  pub free_no_other : (bs : List Block) (from to : ℕ) → Fill bs from to → block_at (released bs place) a ≡ Some b → block_at bs a ≡ Some b
  free_no_other bs from to f there = sym (freed_other bs) ∙ merged_no_other (freed_at bs place) from to (freed_fill bs place from to f) there

-- a malloc keeps every other used block
pub malloc_stays : (rule : FreeLists) (words : ℕ) (old new : List Block) (d : Demand) (place : ℕ) → IsTiling words old → Carves rule old d place new
    → StaysUsed old place new
malloc_stays rule words old new d place t step = (let e = step.carved in rw e (record {
  kept = λ a b h away used there. malloc_kept d place a b h away used old 0 words t.fill there;
  no_other = λ a b h away used there. malloc_no_other d place a b h away used old there;
}))

-- a free keeps every other used block
pub free_stays : (words : ℕ) (old : List Block) (place : ℕ) → IsTiling words old → StaysUsed old place (released old place)
free_stays words old place t = record {
  kept = λ a b h away used there. free_kept (record { need = 0; owner = 0 }) place a b h away used old there;
  no_other = λ a b h away used there. free_no_other (record { need = 0; owner = 0 }) place a b h away used old 0 words t.fill there;
}

module _ (d : Demand) (place : ℕ) where
  carved_to : (x : Block) (xs : List Block) → x.address ≡ place → d.need ≤ x.size → IsCarvedTo (carved x d ++ xs) place d
  carved_to x xs is enough = elim (cases_lt x.size (d.need + 2)) [
    | inl small ↦ rw (le_no (d.need + 2) x.size small) (record {
      block = record { address = x.address; size = x.size; owner = Some d.owner };
      there =
          take_first (record { address = x.address; size = x.size; owner = Some d.owner }) xs place is;
      owner = refl;
      least = enough;
      most = omega arith;
    })
    | inr large ↦ rw (le_yes (d.need + 2) x.size large) (record {
      block = record { address = x.address; size = d.need; owner = Some d.owner };
      there =
          take_first (record { address = x.address; size = d.need; owner = Some d.owner })
          (record { address = x.address + d.need; size = x.size - d.need; owner = None } ∷ xs) place is;
      owner = refl;
      least = omega arith;
      most =
          omega arith;
    })
  ]

  given_block : (bs : List Block) (found : Block) → block_at bs place ≡ Some found → d.need ≤ found.size → IsCarvedTo (carved_at bs place d) place d
  given_block [] found there enough = cc
  given_block (x ∷ xs) found there enough = elim (cases_eq x.address place) [
    | inl is ↦ (
        let same = some_injective x found (sym (take_first x xs place is) ∙ there) in
        rw (eq_yes x.address place is) (carved_to x xs is (rw same enough)))
    | inr other ↦ (
        let r = given_block xs found (sym (skip x xs place other) ∙ there) enough in
        rw (eq_no x.address place other) (record {
          block = r.block;
          there = skip x (carved_at xs place d) place other
              ∙ r.there;
          owner = r.owner;
          least = r.least;
          most = r.most;
        }))
  ]

-- the block of a malloc has the words that are needed, or one more
pub malloc_gives : (rule : FreeLists) (count words : ℕ) (old new : List Block) (d : Demand) (place : ℕ) → AreLawful rule count → words ≤ 2 ^ 23 → 2 ≤ d.need
    → d.need ≤ 2 ^ 23
    → IsTiling words old → Carves rule old d place new → IsCarvedTo new place d
malloc_gives rule count words old new d place lawful small some few t step =
    let l = lies old 0 words place step.found t.fill step.there in
    let size = l.size in let high = l.high in
    let enough = lawful.large_enough step.found.size d.need size (omega arith) some few step.serves.reached in
    let e = step.carved in
    rw e (given_block d place old step.found step.there enough)

-- no used block begins at a released address
pub released_is_free : (words : ℕ) (old : List Block) (place : ℕ) (b : Block) (h : ℕ) → IsTiling words old → block_at (released old place) place ≡ Some b
    → b.owner ≡ Some h → ⊥
released_is_free words old place b h t there used =
    let before = merged_no_other (record { need = 0; owner = 0 }) (place + 1) place b h (omega arith) used (freed_at old place) 0 words
    (freed_fill old place 0 words t.fill) there in
    used_is_not_free b h used (freed_owner old before)
  where
    freed_owner : (bs : List Block) → block_at (freed_at bs place) place ≡ Some b → b.owner ≡ None
    freed_owner [] e = cc
    freed_owner (x ∷ xs) e = elim (cases_eq x.address place) [
      | inl is ↦ (
          let one : Block = record { address = x.address; size = x.size; owner = None } in
          let e' : block_at (one ∷ xs) place ≡ Some b = rw (eq_yes x.address place is) at e in
          ap (λ (y : Block). y.owner) (sym (some_injective one b (sym (take_first one xs place is) ∙ e'))))
      | inr other ↦ (
          let e' : block_at (x ∷ freed_at xs place) place ≡ Some b = rw (eq_no x.address place other) at e in
          freed_owner xs (sym (skip x (freed_at xs place) place other) ∙ e'))
    ]
