-- The texts of the replies to commands, but for `f` and `k`, computed from the result of the manager's call or from the state of the run.
use Rattle.std.specs.Prelude.{ℕ, ◌+◌, List, ◌++◌, Option, Some, None, Result, Ok, Err, codes, length, take, drop, nat_le, if◌then◌else◌, slice_get}
use Rattle.hex.specs.Hex.{encode_lower}
use Rattle.cf_base.specs.declared.results.AccessFault.{AccessFault}
use Rattle.cf_base.specs.declared.results.AccessFault.TheVariants as access
use Rattle.cf_base.specs.declared.results.Handle.{Handle}
use Rattle.cf_base.specs.declared.results.Refusal.{Refusal}
use Rattle.cf_base.specs.declared.results.Refusal.TheVariants as refusal
use Rattle.cf_base.specs.declared.results.Resized.{Resized}
use Rattle.cf_base.specs.declared.results.ResizeFault.{ResizeFault}
use Rattle.cf_base.specs.declared.results.ResizeFault.TheVariants as resize
use Rattle.cf_base.specs.declared.kind.Kind.{Kind}
use Rattle.cf_base.specs.declared.kind.Kind.TheVariants.{Moving, NonMoving, Tlsf, HalfFit}
use Rattle.page_model.specs.Held.{Placed}
use Rattle.cf_io.specs.Lines.{word_text}
use Rattle.cf_model.specs.Answers.{block_of_object}
use Rattle.cf_model.specs.Families.{paged, tiled, family_of}
use Rattle.cf_model.specs.State.{HeapState}
use Rattle.script_reader.specs.declared.command.Command.{Command}
use Rattle.script_reader.specs.declared.command.Command.TheVariants.{Read, Place, Block, Peek, Walk, Frag, Steps}
use Rattle.run_model.specs.Reports.{frag_of, walk_of}
use Rattle.run_model.specs.Sessions.{RunState, SessionState}
pub use Rattle.id_table.specs.ById.{object_of}
use Rattle.run_model.specs.Texts.{Reply, said, with_number}

-- the reply to `m`, from the result of the manager's malloc
abbrev pub malloc_text : Result Handle Refusal → List ℕ
malloc_text (Ok h) = codes "ok"
malloc_text (Err refusal.Size) = codes "refused size"
malloc_text (Err refusal.Proxy) = codes "refused proxy"
malloc_text (Err refusal.Space) = codes "refused space"

-- the reply to `w`, from the result of the manager's write
abbrev pub write_text : Result Unit AccessFault → List ℕ
write_text (Ok u) = codes "ok"
write_text (Err access.Unknown) = codes "unknown"
write_text (Err access.Range) = codes "range"

-- the reply to `z`, from the result of the manager's resize; `none` if the kind has no resize
abbrev pub resize_text : Result Resized ResizeFault → List ℕ
resize_text (Ok done) = codes "ok"
resize_text (Err resize.Unknown) = codes "unknown"
resize_text (Err resize.Kind) = codes "none"
resize_text (Err resize.Size) = codes "refused size"
resize_text (Err resize.Space) = codes "refused space"

-- the reply to `r` of `count` bytes from byte `at` on: `=` and the bytes in hexadecimal; `range` if `at + count` exceeds the object's length; `unknown` if
-- there is no object
abbrev pub read_text : Option Placed → ℕ → ℕ → List ℕ
read_text None at count = codes "unknown"
read_text (Some x) at count = if nat_le (at + count) (length x.bytes) then codes "=" ++ encode_lower (take count (drop at x.bytes)) else codes "range"

-- the reply to `q`: the address of the object in words, from the start of the region (on the non-moving kind, of the virtual blocks); `unknown` if there is
-- no object
abbrev pub place_text : Option Placed → List ℕ
place_text None = codes "unknown"
place_text (Some x) = with_number (codes "at ") x.place

-- the reply to `b` of a kind with a block table: the number of the physical block, or `range` if the slot of the object has no such block
abbrev pub frame_text : Option ℕ → List ℕ
frame_text None = codes "range"
frame_text (Some frame) = with_number (codes "block ") frame

-- the reply to `b` for block `i` of the slot of a live object `x` in heap `s`; `none` unless the kind is the non-moving one, which alone has a block table
abbrev pub block_text : Kind → HeapState → Placed → ℕ → List ℕ
block_text Moving s x i = codes "none"
block_text NonMoving s x i = frame_text (block_of_object s (Some x) i)
block_text Tlsf s x i = codes "none"
block_text HalfFit s x i = codes "none"

-- the reply to `b` for block `i` of an object's slot: `unknown` if there is no object, as the id isn't live
abbrev pub block_text_at : HeapState → Option Placed → ℕ → List ℕ
block_text_at s None i = codes "unknown"
block_text_at s (Some x) i = block_text s.kind s x i

-- the reply to `p`: the word's value as 16 hexadecimal digits, or `range` if the region has no such word
abbrev pub peek_text : Option ℕ → List ℕ
peek_text None = codes "range"
peek_text (Some word) = word_text word

-- the reply to `steps`: `cost`, the steps of the last malloc, free or, with pages, resize; with pages also the bound on them, how many objects frees and
-- resizes have moved into the slots that they freed, and the words of these slots
abbrev pub steps_text : Kind → SessionState → ℕ → List ℕ
steps_text kind s cost = elim (family_of kind) [
  | paged ↦ with_number (codes "steps last ") cost ++ (with_number (codes " bound ") s.bound
      ++ (with_number (codes " moves ") s.moves ++ with_number (codes " words ") s.words))
  | tiled ↦ with_number (codes "steps last ") cost
]

-- the reply to a command that changes nothing, in the state of a run; `none` to the commands of other modes. `Step` defines the replies to `m`, `f`, `w`, `z`
-- and `k`; for these it doesn't use the last equation here.
abbrev pub shown : RunState → Command → Reply
shown s (Read id at count) = said (read_text (object_of s id) at count)
shown s (Place id) = said (place_text (object_of s id))
shown s (Block id i) = said (block_text_at s.heap (object_of s id) i)
shown s (Peek word) = said (peek_text (slice_get s.heap.words word))
shown s Walk = walk_of s.heap.kind s.heap
shown s Frag = frag_of s.heap
shown s Steps = said (steps_text s.heap.kind s.session s.heap.cost)
shown s command = said (codes "none")
