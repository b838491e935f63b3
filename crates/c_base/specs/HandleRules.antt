-- What is true of the handles of a heap: when it is opened, in every state, and of the handle of a malloc.
use Rattle.std.specs.Prelude.{◌≡◌, ℕ, ◌/◌, ◌*◌, ◌^◌, ◌+◌, ◌<◌, ◌≤◌, List, None, length, slice_index}
use Rattle.std.specs.FinMap.{FinMap, get}
use Rattle.std.specs.Ordering.{nat_cmp}
use Rattle.c_base.specs.Handles.{first_handles, handle_of, none, number_in}

-- a count of handles: a power of two, at most 65,536
pub record IsCount (count : ℕ) : Type 0 where
  pub bits : ℕ
  pub power : count ≡ 2 ^ bits
  pub some : 1 ≤ count
  pub few : count < 131072

-- the mask of the low bits of these handles, and the largest handle that has a next generation
pub record AreCounted (handles : List ℕ) (mask limit : ℕ) : Type 0 where
  pub count : IsCount (length handles)
  pub mask_is : mask + 1 ≡ length handles
  pub limit_is : limit + 2 * length handles + 1 ≡ 2 ^ 32

-- The handles of a heap with this many proxies that was just opened. There are as many as the least power of two that is not below `proxies`, and they are larger than `last`, or begin at 0 if too few are larger.
pub record AreFirstHandles (proxies last : ℕ) (handles : List ℕ) : Type 0 where
  pub count : IsCount (length handles)
  pub enough : proxies ≤ length handles
  pub least : length handles < 2 * proxies
  pub whole : handles ≡ first_handles (length handles) last

-- this is a handle of number n among `count`: its low bits are n, the others its generation, which is not the last of 32 bits. So the handle is not `none`
pub record IsHandleOf (count n handle : ℕ) : Type 0 where
  pub generation : ℕ
  pub whole : handle ≡ generation * count + n
  pub in_range : generation + 1 < 2 ^ 32 / count

-- the count of these handles is a power of two (`IsCount`), and each number below it has a handle of that number (`IsHandleOf`)
pub record AreHandles (handles : List ℕ) : Type 0 where
  pub count : IsCount (length handles)
  pub each : (n : ℕ) → n < length handles → IsHandleOf (length handles) n (slice_index handles n)

-- a heap keeps its rules (`heap_rules`), and each number that an object can have, all below `proxies`, has a handle
pub record HasHandles (heap_rules : Type 0) (proxies : ℕ) (table : List ℕ) : Type 0 where
  pub rules : heap_rules
  pub handles : AreHandles table
  pub enough : proxies ≤ length table

-- This handle is that of a new object: it named a number without an object (`objects`) in the handles `old`, still names it in `new`, and is less than `none`.
pub record IsNewOf {V : Type 0} (objects : FinMap nat_cmp V) (old : List ℕ) (handle : ℕ) (new : List ℕ) : Type 0 where
  pub number : ℕ
  pub whole : handle ≡ handle_of old number
  pub unused : get objects number ≡ None
  pub before : number_in old handle ≡ number
  pub names : number_in new handle ≡ number
  pub in_range : handle < none
