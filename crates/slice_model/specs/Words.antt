-- The words that the region of a sliced heap has in each state, also while a job has done only some of its words; which of them a slice and a write change, and
-- which a read reads.
use Rattle.std.specs.Prelude.{◌≡◌, ◌≢◌, ℕ, ◌+◌, ◌-◌, ◌/◌, ◌%◌, ◌<◌, List, Some, ⊤, length, slice_index, if◌then◌else◌, nat_eq, nat_le, ◌&&◌}
use Rattle.std.specs.FinMap.{get}
use Rattle.page_model.specs.Held.{Held, Placed}
use Rattle.page_model.specs.Paging.{Paging, slot_words}
use Rattle.page_model.specs.Image.{IsOutside, IsOutsideOf, WordRange, Clears, MovesWords, object_word, slot_for}
use Rattle.page_model.specs.Bytes.{byte_of}
use Rattle.slice_model.specs.State.{JobSlot, Job, Sliced, job_slot, Idle, Clear, Move}

-- The address of word i of object h, where x is the object and word 0 its header. If the job is moving the object, the words that are yet to move lie in
-- the job's slot. Every other word lies at the object's address.
abbrev pub word_at : Job → ℕ → Placed → ℕ → ℕ
word_at Idle h x i = x.place + i
word_at (Clear k) h x i = x.place + i
word_at (Move q k) h x i = if nat_eq q h && nat_le k.done i then k.address + i else x.place + i

-- word w of the region is not in the job's slot, or no job is pending
abbrev pub IsOutsideJob : Paging → Job → ℕ → Type 0
IsOutsideJob p j w = (k : JobSlot) → job_slot j ≡ Some k → IsOutside k.address (slot_words p k.class) w

-- These are the words of state s. Each word of an object's slot is at its address (`word_at`). The words of the job's slot that are done are zeros, and so
-- is every word that is neither in an object's slot nor in the job's.
pub record HasWords (p : Paging) (s : Sliced) (words : List ℕ) : Type 0 where
  pub held : (h : ℕ) (x : Placed) → get s.held h ≡ Some x → (i : ℕ) → i < slot_for p (length x.bytes)
      → slice_index words (word_at s.job h x i) ≡ object_word h x.bytes i
  pub done : (k : JobSlot) → job_slot s.job ≡ Some k → (i : ℕ) → i < k.done → slice_index words (k.address + i) ≡ 0
  pub zeros : (w : ℕ) → ((h : ℕ) (x : Placed) → get s.held h ≡ Some x → IsOutsideOf (slot_for p) x w) → IsOutsideJob p s.job w → slice_index words w ≡ 0

-- Word w of the region is none of the words from number `k.done` on of a slot at address a, of the class of slot k. Those are the words that the job of
-- slot k has yet to do.
abbrev pub IsBehind : Paging → JobSlot → ℕ → ℕ → Type 0
IsBehind p k a w = IsOutside (a + k.done) (slot_words p k.class - k.done) w

-- Word w is none of those that the job leaves open: the words that it has yet to clear; or those that it has yet to move, both in the job's slot and at the
-- object's address.
abbrev pub IsClosedWord : Paging → Held → Job → ℕ → Type 0
IsClosedWord p m Idle w = ⊤
IsClosedWord p m (Clear k) w = IsBehind p k k.address w
IsClosedWord p m (Move h k) w = IsBehind p k k.address w × ((x : Placed) → get m h ≡ Some x → IsBehind p k x.place w)

-- what a slice of n words changes in the region: the job's next n words are cleared, or moved from its slot to the address of the object in motion
abbrev pub DoesWords : Held → Job → ℕ → List ℕ → List ℕ → Type 0
DoesWords m Idle n old new = new ≡ old
DoesWords m (Clear k) n old new = Clears old new (record { from = k.address + k.done; count = n })
DoesWords m (Move h k) n old new = (x : Placed) × (get m h ≡ Some x) × MovesWords old new (record { from = k.address + k.done; count = n }) (x.place + k.done)

-- Object h, which is x, gets the bytes v: its words in the range `part` become those of v, each where it lies (`word_at`). Every other word is unchanged.
pub record RewritesObject (j : Job) (h : ℕ) (x : Placed) (v : List ℕ) (part : WordRange) (old new : List ℕ) : Type 0 where
  pub within : (i : ℕ) → i < part.count → slice_index new (word_at j h x (part.from + i)) ≡ object_word h v (part.from + i)
  pub others : (w : ℕ) → ((i : ℕ) → i < part.count → word_at j h x (part.from + i) ≢ w) → slice_index new w ≡ slice_index old w

-- byte k of object h, which is x, as read from the word that holds it, where that word lies (`word_at`)
abbrev pub byte_read : Job → List ℕ → ℕ → Placed → ℕ → ℕ
byte_read j words h x k = byte_of (k % 8) (slice_index words (word_at j h x (1 + k / 8)))
