-- The free-list rules of TLSF (2004) and of Half-Fit (1995), the binary logarithm that they use, and when a rule is right (`AreLawful`). A bucket is the number
-- of a free list. Sizes and needs are in words.
use Rattle.std.specs.Prelude.{ℕ, zero, suc, ◌+◌, ◌-◌, ◌*◌, ◌/◌, ◌^◌, ◌<◌, ◌≤◌, if◌then◌else◌, nat_le, nat_lt}

-- the greatest f up to `top` with 2^f at most n, else 0
unfoldable pub log_up_to : ℕ → ℕ → ℕ
log_up_to zero n = 0
log_up_to (suc top) n = if nat_le (2 ^ suc top) n then suc top else log_up_to top n

-- the binary logarithm of n, rounded down, if n is positive and below 2^32
abbrev pub log : ℕ → ℕ
log n = log_up_to 31 n

-- the number of the TLSF list for a free block of s words: a list for each size below 16, then 16 lists for each power of two
unfoldable pub tlsf_bucket : ℕ → ℕ
tlsf_bucket s = if nat_lt s 16 then s else 16 + 16 * (log s - 4) + (s - 2 ^ log s) / 2 ^ (log s - 4)

-- the size whose TLSF list a search begins with: the need, raised so far that every block in the list of the result has at least `need` words
unfoldable pub tlsf_rounded : ℕ → ℕ
tlsf_rounded need = if nat_lt need 16 then need else need + 2 ^ (log need - 4) - 1

-- the number of the TLSF list that a search begins with: the first one in which every block has at least `need` words
abbrev pub tlsf_search : ℕ → ℕ
tlsf_search need = tlsf_bucket (tlsf_rounded need)

-- the number of the Half-Fit list for a free block of s words: list i holds the sizes from 2^i on, below 2^(i+1)
abbrev pub half_fit_bucket : ℕ → ℕ
half_fit_bucket s = log s

-- the number of the Half-Fit list that a search begins with: the first one in which every block has at least `need` words
abbrev pub half_fit_search : ℕ → ℕ
half_fit_search need = if nat_le need 1 then 0 else log (need - 1) + 1

-- a free-list rule: `bucket` is the list of a free block by its size, `search` the first list that is searched for a need
pub record FreeLists : Type 0 where
  pub bucket : ℕ → ℕ
  pub search : ℕ → ℕ

-- the free-list rule of TLSF
abbrev pub tlsf : FreeLists
tlsf = record { bucket = tlsf_bucket; search = tlsf_search }

-- the free-list rule of Half-Fit
abbrev pub half_fit : FreeLists
half_fit = record { bucket = half_fit_bucket; search = half_fit_search }

-- the rule is right for sizes and needs from 2 words to 2^23: buckets are below `count` and never fall as the size grows, and from the first searched bucket on
-- every block is large enough
pub record AreLawful (rule : FreeLists) (count : ℕ) : Type 0 where
  pub below : (size : ℕ) → 2 ≤ size → size ≤ 2 ^ 23 → rule.bucket size < count
  pub rising : (size larger : ℕ) → 2 ≤ size → size ≤ larger → larger ≤ 2 ^ 23 → rule.bucket size ≤ rule.bucket larger
  pub large_enough : (size need : ℕ) → 2 ≤ size → size ≤ 2 ^ 23 → 2 ≤ need → need ≤ 2 ^ 23 → rule.search need ≤ rule.bucket size → need ≤ size
