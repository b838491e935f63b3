-- The headline: what is claimed of the replies to every script, by its lines and these replies alone. In each definition `old` is the heap before the command
-- and `new` the heap after it, as lines and replies show them; `id` is the command's id, `x` the object that it names, `n` the bytes asked for.
--
-- The replies meet the headline if there is one for each item, and heaps between them, such that each reply and each heap follow from the heap before and the
-- item. `IsAnswer` defines how, command by command. All is fixed but these choices of the manager: which of the free places a malloc takes, or a resize to another
-- class; which object moves; how many steps a call takes within its bound; which unused number an object gets (only its header shows the number); and with blocks
-- word 1 of a free block.
use Rattle.std.specs.Prelude.{◌≡◌, ◌≢◌, ℕ, ◌⊎◌, ◌+◌, ◌*◌, ◌≤◌, ◌<◌, List, ◌++◌, Option, Some, None, Err, codes, if◌then◌else◌, length, max, nat_le, nat_lt}
use Rattle.run_model.specs.Terms.{Block, Bound, class_at, Command, CostsAtMost, CostsByKind, family_of, Frag, Free, get, insert, IsPaged, Item, Kind, len, Malloc, need, paged, paging_in, Peek, Place, Placed, Profile, Read, Refusal, region_words, remove, Reply, Resize, ResizeFault, said, Steps, tiled, Walk, with_bound, with_number, Write, written}
use Rattle.page_model.specs.Image.{slot_for}
use Rattle.page_model.specs.Paging.{class_for}
use Rattle.page_model.specs.Steps.{IsFreePlace, CallResult, Moves, resized_at, without, zeros_at}
use Rattle.cf_model.specs.Steps.{IsPlacedBy, IsRefusedBy, IsResizeFault, IsLeftByRefusal, MovesIn, frames_left, slot_in, tiling_left}
use Rattle.run_model.specs.Plays.{PlayRun}
use Rattle.run_model.specs.Replies.{block_text_at, malloc_text, peek_text, place_text, read_text, resize_text}
use Rattle.run_model.specs.Reports.{frag_of, walk_of}
use Rattle.run_model.specs.Steps.{Stays, bound_text, class_to_bound}
use Rattle.script_laws.specs.ShownHeap.{IsArranged, ShownHeap, heap_opened, move_counted}
use Rattle.script_laws.specs.ShownWords.{ShowsWord}

-- Command `m` with the reply `ok`: the id names a new object of `n` zeros at `place`. With pages it is in a free slot of its class, on a partly full page if
-- the class has one, else on a free page; with blocks in a block of the least bucket that serves. `number` is the manager's own number for the object, below
-- the proxies, and no other object has it; only `p` shows it. Object and header fit a page, a proxy was unused, and the steps are at most 64, with blocks 25.
pub record MallocSucceeds (old : ShownHeap) (id n : ℕ) (reply : Reply) (new : ShownHeap) : Type 0 where
  pub fits : need n ≤ old.heap.profile.page_words
  pub few : len old.heap.held < old.heap.profile.proxies
  pub place : ℕ
  pub number : ℕ
  pub in_range : number < old.heap.profile.proxies
  pub unused : (other : ℕ) → get old.numbers other ≢ Some number
  pub placed : IsPlacedBy old.heap.kind old.heap (record { number = number; length = n }) place new.heap
  pub steps : CostsByKind old.heap.kind new.heap.cost 64 25
  pub reply_is : reply ≡ said (codes "ok")
  pub heap_is : new ≡ record old {
    heap = record old.heap { held = insert old.heap.held id (zeros_at place n); tiling = new.heap.tiling; cost = new.heap.cost };
    numbers = insert old.numbers id number;
    step_bound = 64;
  }

-- Command `m`, refused: `refused size` if the object needs more than a page, else `refused proxy` if all proxies are in use, else `refused space` if there is
-- no room: with pages if no page of its class is partly full and none is free, with blocks if no free block serves. No object changes. The steps are at most
-- 64, with blocks 25.
pub record IsRefusedMalloc (old : ShownHeap) (n : ℕ) (reply : Reply) (new : ShownHeap) : Type 0 where
  pub refusal : Refusal
  pub cause : IsRefusedBy old.heap n refusal
  pub steps : CostsByKind old.heap.kind new.heap.cost 64 25
  pub reply_is : reply ≡ said (malloc_text (Err refusal))
  pub heap_is : new ≡ record old { heap = record old.heap { cost = new.heap.cost }; step_bound = 64 }

-- Command `m` for the id, by the object that the id names before it: if there is one, the reply is `live` and nothing changes; else the malloc is done or
-- refused.
abbrev pub ShowsMalloc : Option Placed → ShownHeap → ℕ → ℕ → Reply → ShownHeap → Type 0
ShowsMalloc (Some x) old id n reply new = Stays old (codes "live") reply new
ShowsMalloc None old id n reply new = MallocSucceeds old id n reply new ⊎ IsRefusedMalloc old n reply new

-- Command `f` for a live id: its object `x` is removed. With pages an object of a partly full page of the same class moves into the slot of x, if the page of x
-- was full with more than one slot and the class had as many partly full pages as its bound; else none moves. `moved` is the id of the object that moved. No
-- other address changes. For a slot or block of s words the steps are at most 96 + 2s, with blocks 41 + s.
pub record FreeSucceeds (old : ShownHeap) (id : ℕ) (x : Placed) (reply : Reply) (new : ShownHeap) : Type 0 where
  pub moved : Option ℕ
  pub moves : MovesIn old.heap.kind old.heap x moved
  pub steps : CostsByKind old.heap.kind new.heap.cost (96 + 2 * slot_in old.heap.kind old.heap x) (41 + slot_in old.heap.kind old.heap x)
  pub reply_is : reply ≡ said (codes "ok")
  pub heap_is : new ≡ move_counted (record old {
    heap = record old.heap {
      held = without old.heap.held id x.place moved;
      frames = frames_left old.heap.kind old.heap (record { held = without old.heap.held id x.place moved; moved = moved });
      tiling = tiling_left old.heap.kind old.heap x.place;
      cost = new.heap.cost;
    };
    numbers = remove old.numbers id;
    step_bound = 96 + 2 * slot_in old.heap.kind old.heap x;
  }) moved (slot_in old.heap.kind old.heap x)

-- command `f` for the id, by the object that the id names: if there is none, the reply is `unknown`, and nothing changes
abbrev pub ShowsFree : Option Placed → ShownHeap → ℕ → Reply → ShownHeap → Type 0
ShowsFree None old id reply new = Stays old (codes "unknown") reply new
ShowsFree (Some x) old id reply new = FreeSucceeds old id x reply new

-- the heap `s` with the object `x` under the id
abbrev pub heap_with : ShownHeap → ℕ → Placed → ShownHeap
heap_with s id x = record s { heap = record s.heap { held = insert s.heap.held id x } }

-- command `w` for the id, by the object that the id names: the bytes are written from byte `at` on if they lie within the object, else the reply is `range`; if
-- there is no object, `unknown`
abbrev pub ShowsWrite : Option Placed → ShownHeap → ℕ → ℕ → List ℕ → Reply → ShownHeap → Type 0
ShowsWrite None old id at bytes reply new = Stays old (codes "unknown") reply new
ShowsWrite (Some x) old id at bytes reply new =
    (reply ≡ said (if nat_le (at + length bytes) (length x.bytes) then codes "ok" else codes "range"))
    × (new ≡ if nat_le (at + length bytes) (length x.bytes) then heap_with old id (record x { bytes = written x.bytes at bytes }) else old)

-- Command `z` within the class: `after` is the objects afterwards, in which the id has `n` bytes at the same address; no object moves.
pub record RefitsInPlace (old : ShownHeap) (id : ℕ) (x : Placed) (n : ℕ) (after : CallResult) : Type 0 where
  pub same : class_for (paging_in old.heap) n ≡ class_at (paging_in old.heap) x
  pub still : after.moved ≡ None
  pub placed : after.held ≡ insert old.heap.held id (resized_at x.place x n)

-- Command `z` to another class: the object takes the free slot at `place` as a malloc does, and leaves its old slot as a free does. `after.moved` is the id of
-- the object that moved into the old slot, if one did.
pub record RefitsElsewhere (old : ShownHeap) (id : ℕ) (x : Placed) (n : ℕ) (after : CallResult) : Type 0 where
  pub other : class_for (paging_in old.heap) n ≢ class_at (paging_in old.heap) x
  pub place : ℕ
  pub free : IsFreePlace (paging_in old.heap) old.heap.held n place
  pub moves : Moves (paging_in old.heap) old.heap.held x after.moved
  pub placed : after.held ≡ insert (without old.heap.held id x.place after.moved) id (resized_at place x n)

-- the step bound of a resize of x to n bytes: 160, and three for each word of the larger slot
abbrev pub resize_bound_for : ShownHeap → Placed → ℕ → ℕ
resize_bound_for old x n = 160 + 3 * max (slot_for (paging_in old.heap) (length x.bytes)) (slot_for (paging_in old.heap) n)

-- Command `z` with the reply `ok`, never with blocks: the object `x` has `n` bytes afterwards, and fits a page. Its first bytes stay, and added bytes are zeros.
-- The steps are at most `resize_bound_for`.
pub record ResizeSucceeds (old : ShownHeap) (id : ℕ) (x : Placed) (n : ℕ) (reply : Reply) (new : ShownHeap) : Type 0 where
  pub pages : IsPaged old.heap.kind
  pub fits : need n ≤ old.heap.profile.page_words
  pub after : CallResult
  pub refits : RefitsInPlace old id x n after ⊎ RefitsElsewhere old id x n after
  pub steps : CostsAtMost old.heap.kind new.heap.cost (resize_bound_for old x n)
  pub reply_is : reply ≡ said (codes "ok")
  pub heap_is : new ≡ move_counted (record old {
    heap = record old.heap { held = after.held; frames = frames_left old.heap.kind old.heap after; cost = new.heap.cost };
    step_bound = resize_bound_for old x n;
  }) after.moved (slot_for (paging_in old.heap) (length x.bytes))

-- Command `z`, refused: `none` with blocks; `refused size` if the object would need more than a page, else `refused space` if it would need another class, and
-- this class has no slot left. No object changes. With pages the steps are at most 160.
pub record IsRefusedResize (old : ShownHeap) (id n : ℕ) (reply : Reply) (new : ShownHeap) : Type 0 where
  pub fault : ResizeFault
  pub cause : IsResizeFault old.heap (record { number = id; length = n }) fault
  pub steps : CostsAtMost old.heap.kind new.heap.cost 160
  pub reply_is : reply ≡ said (resize_text (Err fault))
  pub still : IsLeftByRefusal old.heap.kind old.heap new.heap
  pub heap_is : new ≡ record old { heap = new.heap; step_bound = 160 }

-- command `z` for the id, by the object that the id names: if there is none, the reply is `unknown`, and nothing changes
abbrev pub ShowsResize : Option Placed → ShownHeap → ℕ → ℕ → Reply → ShownHeap → Type 0
ShowsResize None old id n reply new = Stays old (codes "unknown") reply new
ShowsResize (Some x) old id n reply new = ResizeSucceeds old id x n reply new ⊎ IsRefusedResize old id n reply new

-- command `k`: if no object is live, the class with slots of `slot_words` words gets the bound `k`, and the reply is `ok`; else, or without such a class,
-- `none`
abbrev pub ShowsBound : ShownHeap → ℕ → ℕ → Reply → ShownHeap → Type 0
ShowsBound old slot_words k reply new = (reply ≡ said (bound_text (class_to_bound old.heap slot_words)))
    × (new ≡ record old { heap = with_bound old.heap (class_to_bound old.heap slot_words) k })

-- command `p`: word `word` of the region in 16 hexadecimal digits, with the value that objects and blocks require (`ShowsWord`); `range` past the region
abbrev pub Peeks : ShownHeap → ℕ → Reply → ShownHeap → Type 0
Peeks old word reply new = (value : ℕ) × Stays old (peek_text (if nat_lt word (region_words old.heap.profile) then Some value else None)) reply new
    × ShowsWord old word value

-- the reply to `steps` with pages: the steps of the last malloc, free or resize, the bound on them, how many objects frees and resizes have moved into the
-- slots that they freed, and the words of these slots
abbrev pub steps_line : ℕ → ℕ → ℕ → ℕ → List ℕ
steps_line last bound moves words = with_number (codes "steps last ") last ++ (with_number (codes " bound ") bound
    ++ (with_number (codes " moves ") moves ++ with_number (codes " words ") words))

-- the reply to `steps` for a heap `t` of the kind; with blocks it has only the steps
abbrev pub steps_shown : Kind → ShownHeap → List ℕ
steps_shown kind t = elim (family_of kind) [
  | paged ↦ steps_line t.heap.cost t.step_bound t.moves t.moved_words
  | tiled ↦ with_number (codes "steps last ") t.heap.cost
]

-- In heap `old` the command may get this reply and leave the heap `new`. The last equation is for the commands of other modes, which get `none`.
abbrev pub IsAnswer : ShownHeap → Command → Reply → ShownHeap → Type 0
IsAnswer old (Malloc id n) reply new = ShowsMalloc (get old.heap.held id) old id n reply new
IsAnswer old (Free id) reply new = ShowsFree (get old.heap.held id) old id reply new
IsAnswer old (Write id at bytes) reply new = ShowsWrite (get old.heap.held id) old id at bytes reply new
IsAnswer old (Read id at count) reply new = Stays old (read_text (get old.heap.held id) at count) reply new
IsAnswer old (Place id) reply new = Stays old (place_text (get old.heap.held id)) reply new
IsAnswer old (Block id i) reply new = Stays old (block_text_at old.heap (get old.heap.held id) i) reply new
IsAnswer old (Peek word) reply new = Peeks old word reply new
IsAnswer old Walk reply new = (reply ≡ walk_of old.heap.kind old.heap) × (new ≡ old)
IsAnswer old Frag reply new = (reply ≡ frag_of old.heap) × (new ≡ old)
IsAnswer old Steps reply new = Stays old (steps_shown old.heap.kind old) reply new
IsAnswer old (Bound slot_words k) reply new = ShowsBound old slot_words k reply new
IsAnswer old (Resize id n) reply new = ShowsResize (get old.heap.held id) old id n reply new
IsAnswer old command reply new = Stays old (codes "none") reply new

-- the reply to the `heap` line with settings `p` is `ok`, and the heap after it is empty and arranged by the rules (`IsArranged`)
abbrev pub OpensEmpty : Kind → Profile → Reply → ShownHeap → Type 0
OpensEmpty kind p reply new = (reply ≡ said (codes "ok")) × (new ≡ heap_opened kind p) × IsArranged new.heap

-- in heap `old` the command may get this reply and leave the heap `new`, which is arranged by the rules (`IsArranged`)
abbrev pub MayReply : ShownHeap → Command → Reply → ShownHeap → Type 0
MayReply old command reply new = IsAnswer old command reply new × IsArranged new.heap

-- There is one reply for each item of the script, and there are heaps between them such that each reply and each heap follow from the item and the heap before.
abbrev pub MeetsHeadline : Kind → List Item → List Reply → Type 0
MeetsHeadline kind script replies = (end : Option ShownHeap) × PlayRun (OpensEmpty kind) MayReply None script replies end
