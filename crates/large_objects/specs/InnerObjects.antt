-- The inner objects of an object (itself if it fits a page, else a spine and parts): their lengths, their number in all and in a class, and the pages they
-- need; and sums over the lengths of objects, or of their inner objects. In all definitions u is the bytes of a whole part.
use Rattle.std.specs.Prelude.{ℕ, ◌+◌, ◌-◌, ◌*◌, List, [], ◌∷◌, ◌++◌, length, replicate, count_by, sum_by, nat_eq, nat_le, min, if◌then◌else◌}
use Rattle.std.specs.FinMap.{values}
use Rattle.cf_base.specs.Settings.{Profile}
use Rattle.page_model.specs.Arrangement.{pages_for}
use Rattle.page_model.specs.Counts.{ceil_div}
use Rattle.page_model.specs.Held.{Objects}
use Rattle.page_model.specs.Paging.{Paging, class_for}

-- the bytes of a whole part, the largest object that fits a page with the settings p: eight for each word of the page but the header
abbrev pub whole_part_bytes : Profile → ℕ
whole_part_bytes p = 8 * (p.page_words - 1)

-- the number of parts of at most u bytes into which an object of n bytes is cut
unfoldable pub part_count : ℕ → ℕ → ℕ
part_count u n = ceil_div n u

-- the bytes of part i, counted from 0, of an object of n bytes: u, or the rest for the last part
abbrev pub part_length : ℕ → ℕ → ℕ → ℕ
part_length u n i = min u (n - u * i)

-- the bytes of a spine: a handle of four bytes for each part
abbrev pub spine_bytes : ℕ → ℕ → ℕ
spine_bytes u n = 4 * part_count u n

-- the lengths of the inner objects of an object of n bytes: n itself if it fits a page, else those of its spine, its whole parts, and its last part
unfoldable pub inner_lengths : ℕ → ℕ → List ℕ
inner_lengths u n =
    if nat_le n u then n ∷ [] else (spine_bytes u n ∷ (replicate (part_count u n - 1) u ++ ((n - u * (part_count u n - 1)) ∷ [])))

-- the number of the given lengths that are in class c
unfoldable pub in_class : Paging → ℕ → List ℕ → ℕ
in_class p c lengths = count_by (λ n. nat_eq (class_for p n) c) lengths

-- the number of inner objects of all objects `large` together
unfoldable pub inner_count : ℕ → Objects → ℕ
inner_count u large = sum_by (λ v. length (inner_lengths u (length v))) (values large)

-- the sum of f over the lengths of all objects
unfoldable pub length_sum : (ℕ → ℕ) → Objects → ℕ
length_sum f objects = sum_by (λ v. f (length v)) (values objects)

-- the sum of f over the lengths of the inner objects of all objects `large`
unfoldable pub inner_sum : (ℕ → ℕ) → ℕ → Objects → ℕ
inner_sum f u large = sum_by (λ v. sum_by f (inner_lengths u (length v))) (values large)

-- of the inner objects of all objects `large`, the number of those in class c
unfoldable pub inner_live : Paging → ℕ → Objects → ℕ → ℕ
inner_live p u large c = sum_by (λ v. in_class p c (inner_lengths u (length v))) (values large)

-- the pages that the inner objects of all objects `large` and of one more object of n bytes need, computed from their lengths
unfoldable pub inner_pages_with : Paging → ℕ → Objects → ℕ → ℕ
inner_pages_with p u large n = pages_for p (λ c. inner_live p u large c + in_class p c (inner_lengths u n))
