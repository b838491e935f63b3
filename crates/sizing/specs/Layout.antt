-- The pages that declared objects need, summed over the slot sizes of a page, as `count.rt` computes them. No public clause cites this module.
use Rattle.std.specs.Prelude.{ℕ, zero, suc, ◌+◌, ◌/◌, ◌&&◌, List, [], ◌∷◌, if◌then◌else◌, nat_le, nat_lt, slice_index, sum_by}
use Rattle.cf_base.specs.Classes.{need}
use Rattle.page_model.specs.Counts.{ceil_div}
use Rattle.quota_model.specs.declared.results.Need.{Need}

-- how many of the declared objects need more than `below` words and at most `most`
abbrev pub declared_between : ℕ → ℕ → List Need → ℕ
declared_between below most needs = sum_by (λ (e : Need). if nat_lt below (need e.bytes) && nat_le (need e.bytes) most then e.count else 0) needs

-- How many pages of `page_words` words the declared objects need that need more than `below` words, with slots of these sizes, which rise: the objects of each
-- size are divided by the slots of a page and rounded up, and these are summed.
abbrev pub pages_by_size : ℕ → ℕ → List ℕ → List Need → ℕ
pages_by_size page_words below [] needs = 0
pages_by_size page_words below (size ∷ sizes) needs = ceil_div (declared_between below size needs) (page_words / size) + pages_by_size page_words size sizes needs

-- the size before size c, 0 before the first
abbrev pub size_before : List ℕ → ℕ → ℕ
size_before sizes zero = 0
size_before sizes (suc c) = slice_index sizes c

-- how many of the declared objects need more than the size before size c, and at most size c
abbrev pub declared_from : List ℕ → ℕ → List Need → ℕ
declared_from sizes c needs = declared_between (size_before sizes c) (slice_index sizes c) needs
