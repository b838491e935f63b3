-- The most steps of a call, which a caller in C can ask for before the call: bounds for every heap of long objects over a moving heap, in every state; and the
-- sizes on which they depend, the bytes of a part and the most words of a slot. `page_bytes` is the bytes of a page.
use Rattle.std.specs.Prelude.{◌≡◌, ℕ, ◌+◌, ◌-◌, ◌*◌, ◌/◌, ◌≤◌, List, Some, Result, length, max, min}
use Rattle.std.specs.FinMap.{get}
use Rattle.cf_base.specs.declared.results.AccessFault.{AccessFault}
use Rattle.cf_base.specs.declared.results.Handle.{Handle}
use Rattle.cf_base.specs.declared.results.Refusal.{Refusal}
use Rattle.cf_base.specs.declared.kind.Kind.TheVariants.{Moving}
use Rattle.cf_model.specs.Steps.{Position}
use Rattle.large_objects.specs.Large.{KeepsParts, LargeState}
use Rattle.large_objects.specs.LargeCosts.{large_access_steps, large_free_steps, large_malloc_steps, moving_costs}

-- the heap keeps its rules (`KeepsParts`) over a moving one, and its pages have `page_bytes` bytes
pub record HasPagesOf (page_bytes : ℕ) (s : LargeState) : Type 0 where
  pub kept : KeepsParts s
  pub kind : s.inner.kind ≡ Moving
  pub words : s.inner.profile.page_words ≡ page_bytes / 8

-- a malloc of `bytes` bytes takes at most `most` steps
abbrev pub IsMostLargeMalloc : ℕ → ℕ → ℕ → Type 0
IsMostLargeMalloc page_bytes bytes most =
    (s : LargeState) (answer : Result Handle Refusal) → HasPagesOf page_bytes s → large_malloc_steps moving_costs s bytes answer ≤ most

-- a free of an object of `bytes` bytes takes at most `most` steps
abbrev pub IsMostLargeFree : ℕ → ℕ → ℕ → Type 0
IsMostLargeFree page_bytes bytes most =
    (s : LargeState) (h : ℕ) (v : List ℕ) → HasPagesOf page_bytes s → get s.objects h ≡ Some v → length v ≡ bytes → large_free_steps moving_costs s h ≤ most

-- a read or a write of `count` bytes from byte `at` on takes at most `most` steps
abbrev pub IsMostLargeAccess : ℕ → ℕ → ℕ → ℕ → Type 0
IsMostLargeAccess page_bytes at count most =
    (s : LargeState) (p : Position) (answer : Result (Unit {0}) AccessFault) → HasPagesOf page_bytes s → p.from ≡ at
    → large_access_steps moving_costs s p count answer ≤ most

-- the bytes of a whole part in a page of w words
abbrev pub part_of : ℕ → ℕ
part_of w = 8 * (w - 1)

-- what the slot of an object of n bytes has at most, in words, in a page of w words: slot sizes rise by an eighth
abbrev pub slot_cap : ℕ → ℕ → ℕ
slot_cap w n = min (max 4 ((9 * ((n + 7) / 8) + 7) / 8)) w
