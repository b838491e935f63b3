-- For the laws of `costs.rt`: a carve (finding a free block and making it used) takes at most 23 steps, a release (clearing a block and coalescing it) at
-- most 37 and one for each word. Also: a search that finds no block takes at most 2; to lead a list past a block takes at most 3 before it and 2 behind it.
use Rattle.std.proofs.Common.{ℕ, Bool, true, false, ◌+◌, ◌-◌, ◌/◌, ◌%◌, ◌^◌, ◌≤◌, ◌==◌, List, Option, Some, None, cond, length, get_or, arith}
use Rattle.std.specs.Prelude.{nat_le, nat_lt}
use Rattle.block_model.specs.Buckets.{FreeLists}
use Rattle.block_model.specs.Costs.{before_steps, carve_at_steps, carve_steps, claim_steps, cut_steps, find_steps, join_steps, link_then, list_length, list_steps}
use Rattle.block_model.specs.Costs.{next_merge_steps, next_steps, previous_merge_steps, previous_steps, pushed_steps, release_by, release_steps, unlink_steps}
use Rattle.block_model.specs.FreeOrder.{free_from, free_up_to, no_block}
use Rattle.block_model.specs.Tiling.{Block, size_at}

-- if two numbers are at most n, the one that a test chooses is at most n
either_at_most : (t : Bool) (x y n : ℕ) → x ≤ n → y ≤ n → cond t x y ≤ n
either_at_most true x y n p q = p
either_at_most false x y n p q = q

-- a sum is at most the sum of the bounds
sum_at_most : (a b m n : ℕ) → a ≤ m → b ≤ n → a + b ≤ m + n
sum_at_most a b m n p q = omega arith

pub next_at_most : (previous : ℕ) → next_steps previous ≤ 3
next_at_most previous = either_at_most (previous == no_block) 3 2 3 (omega arith) (omega arith)

pub previous_at_most : (next : ℕ) → previous_steps next ≤ 2
previous_at_most next = either_at_most (next == no_block) 0 2 2 (omega arith) (omega arith)

unlink_at_most : (link : ℕ) → unlink_steps link ≤ 6
unlink_at_most link =
    sum_at_most (1 + next_steps (link / 2 ^ 32)) (previous_steps (link % 2 ^ 32)) 4 2
    (sum_at_most 1 (next_steps (link / 2 ^ 32)) 1 3 (omega arith) (next_at_most (link / 2 ^ 32))) (previous_at_most (link % 2 ^ 32))

before_at_most : (at words : ℕ) → before_steps at words ≤ 2
before_at_most at words = either_at_most (nat_lt at words) 2 0 2 (omega arith) (omega arith)

pushed_at_most : (many : ℕ) → pushed_steps many ≤ 7
pushed_at_most many = either_at_most (many == 1) 5 7 7 (omega arith) (omega arith)

-- ---- a carve

list_at_most : (start list : ℕ) → list_steps start (Some list) ≤ 3
list_at_most start list = either_at_most (list / 16 == start / 16) 1 3 3 (omega arith) (omega arith)

pub none_at_most : (rule : FreeLists) (count : ℕ) (blocks : List Block) (need : ℕ) → find_steps rule count blocks need None ≤ 2
none_at_most rule count blocks need =
    either_at_most (nat_le count (rule.search need)) 0 (list_steps (rule.search need) None) 2 (omega arith)
    (either_at_most (rule.search need / 16 == 31) 1 2 2 (omega arith) (omega arith))

found_at_most : (rule : FreeLists) (count : ℕ) (blocks : List Block) (need place : ℕ) → find_steps rule count blocks need (Some place) ≤ 4
found_at_most rule count blocks need place =
    sum_at_most (list_steps (rule.search need) (Some (rule.bucket (size_at blocks place)))) 1 3 1
    (list_at_most (rule.search need) (rule.bucket (size_at blocks place))) (omega arith)

cut_at_most : (end words many : ℕ) → cut_steps end words many ≤ 10
cut_at_most end words many =
    sum_at_most (1 + before_steps end words) (pushed_steps many) 3 7 (sum_at_most 1 (before_steps end words) 1 2 (omega arith) (before_at_most end words))
    (pushed_at_most many)

carve_at_at_most : (rule : FreeLists) (words : List ℕ) (old : List Block) (need place : ℕ) (new : List Block)
    → carve_at_steps rule words old need place new ≤ 19
carve_at_at_most rule words old need place new =
    sum_at_most (claim_steps (get_or words (place + 1) 0))
    (cond (nat_le (need + 2) (size_at old place)) (cut_steps (place + size_at old place) (length words)
    (list_length rule new (rule.bucket (size_at old place - need)))) 0) 9 10
    (sum_at_most 3 (unlink_steps (get_or words (place + 1) 0)) 3 6 (omega arith) (unlink_at_most (get_or words (place + 1) 0)))
    (either_at_most (nat_le (need + 2) (size_at old place)) (cut_steps (place + size_at old place) (length words)
    (list_length rule new (rule.bucket (size_at old place - need)))) 0 10
    (cut_at_most (place + size_at old place) (length words) (list_length rule new (rule.bucket (size_at old place - need)))) (omega arith))

pub carve_at_most : (rule : FreeLists) (count : ℕ) (words : List ℕ) (old : List Block) (need : ℕ) (place : Option ℕ) (new : List Block)
    → carve_steps rule count words old need place new ≤ 23
carve_at_most rule count words old need None new = (let few = none_at_most rule count old need in few_more (find_steps rule count old need None) few)
  where
    few_more : (n : ℕ) → n ≤ 2 → n ≤ 23
    few_more n le = omega arith
carve_at_most rule count words old need (Some place) new =
    sum_at_most (find_steps rule count old need (Some place)) (carve_at_steps rule words old need place new) 4 19
    (found_at_most rule count old need place) (carve_at_at_most rule words old need place new)

-- ---- a release

join_at_most : (link end words : ℕ) → join_steps link end words ≤ 13
join_at_most link end words =
    sum_at_most (5 + unlink_steps link) (before_steps end words) 11 2 (sum_at_most 5 (unlink_steps link) 5 6 (omega arith) (unlink_at_most link))
    (before_at_most end words)

-- reading the header of a neighbour, if there is one, and joining with it, if it is free, costs at most 14 steps
merge_at_most : (last none : Bool) (link end words : ℕ) → cond last 0 1 + cond none 0 (join_steps link end words) ≤ 14
merge_at_most last none link end words =
    sum_at_most (cond last 0 1) (cond none 0 (join_steps link end words)) 1 13 (either_at_most last 0 1 1 (omega arith) (omega arith))
    (either_at_most none 0 (join_steps link end words) 13 (omega arith) (join_at_most link end words))

total_at_most : (size next previous made : ℕ) → next ≤ 14 → previous ≤ 14 → made ≤ 7 → size + next + previous + (2 + made) ≤ 37 + size
total_at_most size next previous made n p m = omega arith

-- the link of the free block before a released one, once the free block behind it has left its list
abbrev link_left : List ℕ → ℕ → ℕ → ℕ → ℕ → ℕ
link_left words at size more less = link_then more (at - less) (get_or words (at - less + 1) 0) (get_or words (at + size + 1) 0)

release_by_at_most : (words : List ℕ) (at size more less many : ℕ) → release_by words at size more less many ≤ 37 + size
release_by_at_most words at size more less many =
    total_at_most size (next_merge_steps (get_or words (at + size + 1) 0) (at + size) more (length words))
    (previous_merge_steps (link_left words at size more less) at less (at + (size + more)) (length words)) (pushed_steps many)
    (merge_at_most (at + size == length words) (more == 0) (get_or words (at + size + 1) 0) (at + size + more) (length words))
    (merge_at_most (at == 0) (less == 0) (link_left words at size more less) (at + (size + more)) (length words)) (pushed_at_most many)

pub release_at_most : (rule : FreeLists) (words : List ℕ) (old : List Block) (place : ℕ) (new : List Block)
    → release_steps rule words old place new ≤ 37 + size_at old place
release_at_most rule words old place new =
    release_by_at_most words place (size_at old place) (free_from old (place + size_at old place)) (free_up_to old place)
    (list_length rule new (rule.bucket (free_up_to old place + (size_at old place + free_from old (place + size_at old place)))))
