-- The two families of kinds: managers that divide their region into pages, and those that divide it into blocks; and the free lists of the latter.
use Rattle.std.specs.Prelude.{◌≡◌, ℕ}
use Rattle.cf_base.specs.declared.kind.Kind.{Kind}
use Rattle.cf_base.specs.declared.kind.Kind.TheVariants.{Moving, NonMoving, Tlsf, HalfFit}
use Rattle.block_model.specs.Buckets.{FreeLists, half_fit, tlsf}

-- `paged`: the region is divided into equal pages with slots (moving, non-moving). `tiled`: it is divided into blocks, each for one object or free (TLSF,
-- Half-Fit).
pub data Family : Type 0 where
  paged : Family
  tiled : Family

-- the family that each kind is in
abbrev pub family_of : Kind → Family
family_of Moving = paged
family_of NonMoving = paged
family_of Tlsf = tiled
family_of HalfFit = tiled

-- the kind divides its region into pages: it is `Moving` or `NonMoving`
abbrev pub IsPaged : Kind → Type 0
IsPaged kind = family_of kind ≡ paged

-- the kind divides its region into blocks: it is `Tlsf` or `HalfFit`
abbrev pub IsTiled : Kind → Type 0
IsTiled kind = family_of kind ≡ tiled

-- the number of free lists of a kind with blocks; 0 with pages
abbrev pub list_count_of : Kind → ℕ
list_count_of Moving = 0
list_count_of NonMoving = 0
list_count_of Tlsf = 336
list_count_of HalfFit = 24

-- which free list a block of each size is in, and which one a search for each size begins at, by the rule of the kind; the values for kinds with pages are
-- never used
abbrev pub free_lists_of : Kind → FreeLists
free_lists_of Moving = tlsf
free_lists_of NonMoving = tlsf
free_lists_of Tlsf = tlsf
free_lists_of HalfFit = half_fit
