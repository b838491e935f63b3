-- How many steps calls on blocks, and the parts of these calls, cost, by the blocks and words that they find. A carve, by a malloc, finds a free block and
-- splits it; a release, by a free, clears a block and coalesces it with neighbours; another call finds the largest free block. Also: how many free blocks
-- belong to a list, and the link of a block after another one left its list.
use Rattle.std.specs.Prelude.{ℕ, ◌+◌, ◌-◌, ◌*◌, ◌/◌, ◌%◌, ◌^◌, ◌==◌, ◌&&◌, List, Option, Some, None, if◌then◌else◌, nat_eq, nat_le, nat_lt, count_by}
use Rattle.std.specs.Prelude.{length, slice_index}
use Rattle.block_model.specs.Buckets.{FreeLists}
use Rattle.block_model.specs.FreeOrder.{free_from, free_up_to, last_listed, link_word, no_block}
use Rattle.block_model.specs.Tiling.{Block, is_free, size_at}

-- The steps of finding the first list with a block in the groups of 16 lists from `group` on, by the result: `Some list`, or `None` if there is none. One step
-- reads the bits of the groups, and one those of the group found. The last group is 31, so from 32 on nothing is read.
abbrev pub group_steps : ℕ → Option ℕ → ℕ
group_steps group None = if group == 32 then 0 else 1
group_steps group (Some list) = 2

-- The steps of finding the first list with a block from list `start` on, by the result: `Some list`, or `None` if there is none. One step reads the bits of the
-- group of `start`; if these show no list, `group_steps` are added for the groups after it.
abbrev pub list_steps : ℕ → Option ℕ → ℕ
list_steps start None = if start / 16 == 31 then 1 else 2
list_steps start (Some list) = if list / 16 == start / 16 then 1 else 3

-- The steps of finding a free block for a need, with `count` lists, by the result: `Some at`, the block's address, or `None` if there is none. They are those of
-- finding the first list with a block, and one for reading its head. A search that begins past the last list costs none.
abbrev pub find_steps : FreeLists → ℕ → List Block → ℕ → Option ℕ → ℕ
find_steps rule count blocks need None = if nat_le count (rule.search need) then 0 else list_steps (rule.search need) None
find_steps rule count blocks need (Some at) = list_steps (rule.search need) (Some (rule.bucket (size_at blocks at))) + 1

-- The steps of finding the largest free block, by the free lists. One step reads which groups of lists have a block. If a block is free, a second step reads
-- which lists of the last such group have a block. A third reads the head of the last of these lists. Two steps read each block of that list.
abbrev pub largest_steps : List (List ℕ) → ℕ
largest_steps lists = if length (last_listed lists) == 0 then 1 else 3 + 2 * length (last_listed lists)

-- The steps of writing a block's size into the header of the block behind it, at `at`; none if the region of `words` words ends there.
abbrev pub before_steps : ℕ → ℕ → ℕ
before_steps at words = if nat_lt at words then 2 else 0

-- Some of the steps of removing a block from its list, so that the list leads past it: the link of the previous block in the list, at `previous`, is
-- changed, or the head of the list if there is no previous block.
abbrev pub next_steps : ℕ → ℕ
next_steps previous = if previous == no_block then 3 else 2

-- The steps of changing the link of the next block of a list, at `next`, if there is one.
abbrev pub previous_steps : ℕ → ℕ
previous_steps next = if next == no_block then 0 else 2

-- The steps of removing a block with this link from its list: its link is read, and the links of its neighbours in the list are written, or the head.
abbrev pub unlink_steps : ℕ → ℕ
unlink_steps link = 1 + next_steps (link / 2 ^ 32) + previous_steps (link % 2 ^ 32)

-- The steps of making a block the head of a list whose head was `next`: the head is read, the link of the block and that of `next` are written, and the block
-- is written as the new head.
abbrev pub push_steps : ℕ → ℕ
push_steps next = 5 + previous_steps next

-- how many free blocks of the region belong to a list, by the free-list rule
unfoldable pub list_length : FreeLists → List Block → ℕ → ℕ
list_length rule blocks list = count_by (λ b. is_free b && nat_eq (rule.bucket b.size) list) blocks

-- The steps of making a free block the head of a list that then has `many` blocks: `push_steps`, which depends only on whether the list has another block.
abbrev pub pushed_steps : ℕ → ℕ
pushed_steps many = if many == 1 then 5 else 7

-- The steps of making a free block with this link a used one: its header is read and written, it leaves its list, and its tag is written.
abbrev pub claim_steps : ℕ → ℕ
claim_steps link = 3 + unlink_steps link

-- The steps of making the rest of a split block a free block. The rest ends at `end` in a region of `words` words. Its header is written, and its size is
-- written into the header behind, if there is one. It becomes the head of a list that then has `many` blocks.
abbrev pub cut_steps : ℕ → ℕ → ℕ → ℕ
cut_steps end words many = 1 + before_steps end words + pushed_steps many

-- The steps of carving the block at `at` for a need: it becomes used, and is cut if two words or more are left. `words` are the words before, `old` the blocks
-- before, `new` those afterwards.
abbrev pub carve_at_steps : FreeLists → List ℕ → List Block → ℕ → ℕ → List Block → ℕ
carve_at_steps rule words old need at new = claim_steps (slice_index words (at + 1)) + (if nat_le (need + 2) (size_at old at)
    then cut_steps (at + size_at old at) (length words) (list_length rule new (rule.bucket (size_at old at - need)))
    else 0)

-- The steps of a carve for a need, with `count` lists: a free block is found at `at` and carved, or none is found. `words` and `old` are the words and blocks
-- before, `new` the blocks afterwards.
abbrev pub carve_steps : FreeLists → ℕ → List ℕ → List Block → ℕ → Option ℕ → List Block → ℕ
carve_steps rule count words old need None new = find_steps rule count old need None
carve_steps rule count words old need (Some at) new = find_steps rule count old need (Some at) + carve_at_steps rule words old need at new

-- The steps of making two neighbours one block that ends at `end`, in a region of `words` words. The header of the first is read and written. The free one,
-- which has this link, leaves its list. Three words are cleared. The header behind the new block is written, if there is one.
abbrev pub join_steps : ℕ → ℕ → ℕ → ℕ
join_steps link end words = 5 + unlink_steps link + before_steps end words

-- The steps of coalescing a block that ends at `end` with the one behind it: the header of the block behind is read, if there is one; if that block is free, of
-- `more` words and with this link, the two become one.
abbrev pub next_merge_steps : ℕ → ℕ → ℕ → ℕ → ℕ
next_merge_steps link end more words = (if end == words then 0 else 1) + (if more == 0 then 0 else join_steps link (end + more) words)

-- The steps of coalescing the block at `at` with the one before it: the header of the block before is read, if there is one; if that block is free, of `less`
-- words and with this link, the two become one, which ends at `end`.
abbrev pub previous_merge_steps : ℕ → ℕ → ℕ → ℕ → ℕ → ℕ
previous_merge_steps link at less end words = (if at == 0 then 0 else 1) + (if less == 0 then 0 else join_steps link end words)

-- The link of the block at `a`, changed if that block was right before one that left the list. It was `link` before, and the block that left had the link
-- `gone`. If the block at `a` was right before the one that left, its next block is now the next block of the one that left. Otherwise the link is unchanged,
-- even if the block at `a` was right after the one that left.
abbrev pub link_if_before_removed : ℕ → ℕ → ℕ → ℕ
link_if_before_removed a link gone = if a == gone / 2 ^ 32 then link_word (gone % 2 ^ 32) (link / 2 ^ 32) else link

-- The link of the block at `a` after another block left the list. It was `link` before, and the block that left had the link `gone`. If the block at `a` was
-- right before the one that left, its link changes as in `link_if_before_removed`. If it was right after the one that left, its previous block is now the
-- previous block of the one that left. Otherwise the link is unchanged.
abbrev pub link_after_removal : ℕ → ℕ → ℕ → ℕ
link_after_removal a link gone = if a == gone % 2 ^ 32 then link_word (link_if_before_removed a link gone % 2 ^ 32) (gone / 2 ^ 32) else link_if_before_removed a link gone

-- the link of the block at `a` once a free block of `more` words, with the link `gone`, left the list (`link_after_removal`); 0 words mean that none did
abbrev pub link_then : ℕ → ℕ → ℕ → ℕ → ℕ
link_then more a link gone = if more == 0 then link else link_after_removal a link gone

-- The steps of releasing the used block of `size` words at `at`: it is cleared, and coalesced with a free block of `more` words behind it and one of `less`
-- words before it, if these aren't 0. Then half a word of its header is written, and it becomes the head of a list that then has `many` blocks.
abbrev pub release_by : List ℕ → ℕ → ℕ → ℕ → ℕ → ℕ → ℕ
release_by words at size more less many =
    size + next_merge_steps (slice_index words (at + size + 1)) (at + size) more (length words)
    + previous_merge_steps (link_then more (at - less) (slice_index words (at - less + 1)) (slice_index words (at + size + 1))) at less (at + (size + more)) (length words)
    + (2 + pushed_steps many)

-- The steps of releasing the used block of `size` words at `at`, as `release_by` counts them. The blocks afterwards (`new`) show how many blocks the list of
-- the merged block then has.
abbrev pub release_sized : FreeLists → List ℕ → ℕ → ℕ → ℕ → ℕ → List Block → ℕ
release_sized rule words at size more less new = release_by words at size more less (list_length rule new (rule.bucket (less + (size + more))))

-- The steps of releasing the block at `at`. `words` and `old` are the words and blocks before, `new` the blocks afterwards.
abbrev pub release_steps : FreeLists → List ℕ → List Block → ℕ → List Block → ℕ
release_steps rule words old at new = release_sized rule words at (size_at old at) (free_from old (at + size_at old at)) (free_up_to old at) new
