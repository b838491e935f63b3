-- For the law `a_malloc_is_done_or_lacks_a_block`: in the model a malloc splits a free block of the lowest list that may serve its need, or no free block is
-- in a list that is searched.
use Rattle.std.proofs.Common.{◌≡◌, ℕ, ◌+◌, ◌≤◌, List, [], ◌∷◌, Option, Some, None, arith, sym, ◌∙◌, inl, inr, ap, refl}
use Rattle.std.specs.Prelude.{◌⊎◌}
use Rattle.std.proofs.lemmas.Bool.{cases_eq, cases_lt}
use Rattle.block_model.specs.Buckets.{FreeLists}
use Rattle.block_model.specs.Tiling.{Block, Carves, Demand, Fill, IsTiling, LacksBlock, Serves, block_at, carved_at}
use Rattle.cf_base.proofs.Tests.{eq_yes, eq_no}
use Rattle.block_model.proofs.Rewriting.{behind}

module _ (rule : FreeLists) (need : ℕ) where
  -- a free block that may serve the need, of the lowest bucket of such blocks
  record Least (bs : List Block) : Type 0 where
    place : ℕ
    found : Block
    there : block_at bs place ≡ Some found
    serves : Serves rule need found
    least : (a : ℕ) (b : Block) → block_at bs a ≡ Some b → Serves rule need b → rule.bucket found.size ≤ rule.bucket b.size

  -- a block may serve the need or not
  serves_or_not : (b : Block) → Serves rule need b ⊎ (Serves rule need b → ⊥)
  serves_or_not b = by_owner b.owner refl
    where
      by_owner : (o : Option ℕ) → b.owner ≡ o → Serves rule need b ⊎ (Serves rule need b → ⊥)
      by_owner (Some h) is = inr (λ s. (let free = s.free in let e : Some h ≡ None = sym is ∙ free in cc))
      by_owner None is = elim (cases_lt (rule.bucket b.size) (rule.search need)) [
        | inl low ↦ inr (λ s. (let reached = s.reached in omega arith))
        | inr reached ↦ inl (record { free = is; reached = reached })
      ]

  -- a block at an address is the first one or a later one
  first_or_later : (x : Block) (xs : List Block) (a : ℕ) (b : Block) → block_at (x ∷ xs) a ≡ Some b → ((x ≡ b) ⊎ (block_at xs a ≡ Some b))
  first_or_later x xs a b at = elim (cases_eq x.address a) [
    | inl is ↦ (let e : Some x ≡ Some b = rw (eq_yes x.address a is) at at in inl (let z : x ≡ b = cc in z))
    | inr other ↦ inr (rw (eq_no x.address a other) at at)
  ]

  first_at : (x : Block) (xs : List Block) → block_at (x ∷ xs) x.address ≡ Some x
  first_at x xs = rw (eq_yes x.address x.address refl) refl

  least_or_none : (bs : List Block) (from to : ℕ) → Fill bs from to → Least bs ⊎ LacksBlock rule bs need
  least_or_none [] from to f = inr (λ a b at serves. (let e : None ≡ Some b = at in cc))
  least_or_none (x ∷ xs) from to f = elim (serves_or_not x) [
    | inr fails ↦ elim (least_or_none xs (from + x.size) to f.2) [
      | inr lacks ↦ inr (λ a b at serves. elim (first_or_later x xs a b at) [ inl is ↦ fails (rw is serves) | inr later ↦ lacks a b later serves ])
      | inl found ↦ inl (record {
        place = found.place;
        found = found.found;
        there = behind x xs from to found.place found.found f found.there;
        serves = found.serves;
        least = λ a b at serves. elim (first_or_later x xs a b at) [ inl is ↦ absurd (fails (rw is serves)) | inr later ↦ found.least a b later serves ];
      })
    ]
    | inl does ↦ elim (least_or_none xs (from + x.size) to f.2) [
      | inr lacks ↦ inl (record {
        place = x.address;
        found = x;
        there = first_at x xs;
        serves = does;
        least = λ a b at serves. elim (first_or_later x xs a b at) [ inl is ↦ rw is (omega arith) | inr later ↦ absurd (lacks a b later serves) ];
      })
      | inl found ↦ elim (cases_lt (rule.bucket found.found.size) (rule.bucket x.size)) [
        | inl less ↦ inl (record {
          place = found.place;
          found = found.found;
          there = behind x xs from to found.place found.found f found.there;
          serves = found.serves;
          least = λ a b at serves. elim (first_or_later x xs a b at)
              [ inl is ↦ (let e = ap (λ (y : Block). rule.bucket y.size) is in omega arith) | inr later ↦ found.least a b later serves ];
        })
        | inr le ↦ inl (record {
          place = x.address;
          found = x;
          there = first_at x xs;
          serves = does;
          least = λ a b at serves. elim (first_or_later x xs a b at)
              [ inl is ↦ rw is (omega arith) | inr later ↦ (let m = found.least a b later serves in omega arith) ];
        })
      ]
    ]
  ]

-- a malloc has a result, or no free block may serve the need
pub carved_or_lacking : (rule : FreeLists) (count : ℕ) (old : List Block) (d : Demand) → IsTiling count old
    → ((place : ℕ) × (new : List Block) × Carves rule old d place new) ⊎ LacksBlock rule old d.need
carved_or_lacking rule count old d t = elim (least_or_none rule d.need old 0 count t.fill) [
  | inl l ↦ inl (l.place, carved_at old l.place d, record { found = l.found; there = l.there; serves = l.serves; least = l.least; carved = refl })
  | inr lacks ↦ inr lacks
]
