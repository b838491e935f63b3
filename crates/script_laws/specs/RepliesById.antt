-- The reply to each command and the state after it, if every bound is 1, computed from `t`, the state before it. `v` is the bytes of an object.
use Rattle.std.specs.Prelude.{ℕ, ◌+◌, Bool, ◌&&◌, List, Option, Some, None, Err, codes, if◌then◌else◌, length, nat_eq, nat_le, nat_lt, not}
use Rattle.std.specs.Prelude.{position, replicate, slice_set}
use Rattle.run_model.specs.Terms.{AccessFault, Bound, Command, Frag, Free, get, insert, len, Malloc, need, Objects, Read, Refusal, remove, Reply, Request, Resize, ResizeFault, said, Walk, Write, written}
use Rattle.cf_base.specs.declared.results.AccessFault.TheVariants as access
use Rattle.cf_base.specs.declared.results.Refusal.TheVariants as refusal
use Rattle.cf_base.specs.declared.results.ResizeFault.TheVariants as resize
use Rattle.page_model.specs.Arrangement.{pages_needed_with}
use Rattle.page_model.specs.Paging.{class_for}
use Rattle.page_model.specs.Steps.{resized}
use Rattle.run_model.specs.Replies.{malloc_text, resize_text, write_text}
use Rattle.run_model.specs.Reports.{frag_line}
use Rattle.run_model.specs.Steps.{bound_text}
use Rattle.script_laws.specs.AtOne.{totals_at_one, walk_at_one}
use Rattle.script_laws.specs.IdBytes.{read_shown}
use Rattle.script_laws.specs.ById.{ById, paging_by_id}

-- whether the objects and one more of `bytes` bytes need more pages than the region has
abbrev pub passes_pages : ById → ℕ → Bool
passes_pages t bytes = nat_lt t.profile.pages (pages_needed_with (paging_by_id t) t.objects bytes)

-- why a malloc of `bytes` bytes is refused: for its size, else for a proxy, else for space; `None` if it isn't refused
abbrev pub malloc_fault : ById → ℕ → Option Refusal
malloc_fault t bytes =
    if nat_lt t.profile.page_words (need bytes) then Some refusal.Size
    else (if nat_eq (len t.objects) t.profile.proxies then Some refusal.Proxy
    else (if passes_pages t bytes then Some refusal.Space else None))

-- why a write of `count` bytes from byte `at` on is refused: it passes the end of the object; `None` if it isn't refused
abbrev pub write_fault : List ℕ → ℕ → ℕ → Option AccessFault
write_fault v at count = if nat_le (at + count) (length v) then None else Some access.Range

-- whether an object of `bytes` bytes would have the same class as the object `v`
abbrev pub is_in_class : ById → List ℕ → ℕ → Bool
is_in_class t v bytes = nat_eq (class_for (paging_by_id t) bytes) (class_for (paging_by_id t) (length v))

-- why a resize of `v` to `bytes` bytes is refused: for its size, else for space if the class changes and the objects with one more of `bytes` bytes need more
-- pages than there are; `None` if it isn't refused
abbrev pub resize_fault : ById → List ℕ → ℕ → Option ResizeFault
resize_fault t v bytes =
    if nat_lt t.profile.page_words (need bytes) then Some resize.Size
    else (if not (is_in_class t v bytes) && passes_pages t bytes then Some resize.Space else None)

-- `ok`, or the text of the fault
abbrev pub ok_or : {E : Type 0} → (E → List ℕ) → Option E → List ℕ
ok_or text None = codes "ok"
ok_or text (Some e) = text e

-- the reply to `m`; the first argument holds the bytes of the id's object, `None` if the id isn't live
abbrev pub malloc_said : Option (List ℕ) → ById → ℕ → List ℕ
malloc_said (Some v) t bytes = codes "live"
malloc_said None t bytes = ok_or (λ e. malloc_text (Err e)) (malloc_fault t bytes)

-- the reply to `f`; the argument holds the bytes of the id's object, `None` if the id isn't live
abbrev pub free_said : Option (List ℕ) → List ℕ
free_said (Some v) = codes "ok"
free_said None = codes "unknown"

-- the reply to `w` of `count` bytes from byte `at` on; the first argument holds the bytes of the id's object, `None` if the id isn't live
abbrev pub write_said : Option (List ℕ) → ℕ → ℕ → List ℕ
write_said (Some v) at count = ok_or (λ e. write_text (Err e)) (write_fault v at count)
write_said None at count = codes "unknown"

-- the reply to `z`; the first argument holds the bytes of the id's object, `None` if the id isn't live
abbrev pub resize_said : Option (List ℕ) → ById → ℕ → List ℕ
resize_said (Some v) t bytes = ok_or (λ e. resize_text (Err e)) (resize_fault t v bytes)
resize_said None t bytes = codes "unknown"

-- the class with slots of `slot_words` words, which gets a new bound; `None` if an object is live, or if no class has such slots
abbrev pub class_bounded : ById → ℕ → Option ℕ
class_bounded t slot_words = if nat_eq (len t.objects) 0 then position (λ w. nat_eq w slot_words) (paging_by_id t).sizes else None

-- The reply to a command; `none` to the commands of other modes. To `q`, `b`, `p` and `steps`, whose replies depend on addresses and costs, it isn't the reply
-- of a run: the last equation serves them only to make the function total.
abbrev pub reply_by_id : ById → Command → Reply
reply_by_id t (Malloc id bytes) = said (malloc_said (get t.objects id) t bytes)
reply_by_id t (Free id) = said (free_said (get t.objects id))
reply_by_id t (Write id at bytes) = said (write_said (get t.objects id) at (length bytes))
reply_by_id t (Read id at count) = said (read_shown (get t.objects id) at count)
reply_by_id t Walk = walk_at_one (paging_by_id t) t.objects
reply_by_id t Frag = said (frag_line (totals_at_one (paging_by_id t) t.objects))
reply_by_id t (Bound slot_words k) = said (bound_text (class_bounded t slot_words))
reply_by_id t (Resize id bytes) = said (resize_said (get t.objects id) t bytes)
reply_by_id t command = said (codes "none")

-- the objects with the bytes `v` under the id; unchanged if there is a fault
abbrev pub put_unless : {E : Type 0} → Option E → Objects → ℕ → List ℕ → Objects
put_unless (Some e) objects id v = objects
put_unless None objects id v = insert objects id v

-- the objects after a malloc of `asked.length` bytes for the id `asked.number`; the first argument holds the bytes of the id's object, `None` if the id isn't
-- live
abbrev pub malloc_leaves : Option (List ℕ) → ById → Request → Objects
malloc_leaves (Some v) t asked = t.objects
malloc_leaves None t asked = put_unless (malloc_fault t asked.length) t.objects asked.number (replicate asked.length 0)

-- the objects after a resize of the id `asked.number` to `asked.length` bytes; the first argument holds the bytes of the id's object, `None` if the id isn't
-- live
abbrev pub resize_leaves : Option (List ℕ) → ById → Request → Objects
resize_leaves (Some v) t asked = put_unless (resize_fault t v asked.length) t.objects asked.number (resized v asked.length)
resize_leaves None t asked = t.objects

-- bytes to be written into the object of an id, from byte `at` on
pub record Writing : Type 0 where
  pub id : ℕ
  pub at : ℕ
  pub bytes : List ℕ

-- the objects after the write `w`; the first argument holds the bytes of the object of its id, `None` if the id isn't live
abbrev pub write_leaves : Option (List ℕ) → Objects → Writing → Objects
write_leaves (Some v) objects w = put_unless (write_fault v w.at (length w.bytes)) objects w.id (written v w.at w.bytes)
write_leaves None objects w = objects

-- the objects after a command
abbrev pub objects_after : ById → Command → Objects
objects_after t (Malloc id bytes) = malloc_leaves (get t.objects id) t (record { number = id; length = bytes })
objects_after t (Free id) = remove t.objects id
objects_after t (Write id at bytes) = write_leaves (get t.objects id) t.objects (record { id = id; at = at; bytes = bytes })
objects_after t (Resize id bytes) = resize_leaves (get t.objects id) t (record { number = id; length = bytes })
objects_after t command = t.objects

-- the bounds with `k` for the class, if there is one
abbrev pub bounds_with : List ℕ → Option ℕ → ℕ → List ℕ
bounds_with bounds None k = bounds
bounds_with bounds (Some c) k = slice_set bounds c k

-- the bounds after a command; only command `k` changes one
abbrev pub bounds_after : ById → Command → List ℕ
bounds_after t (Bound slot_words k) = bounds_with t.bounds (class_bounded t slot_words) k
bounds_after t command = t.bounds

-- the state after a command in state `t`
abbrev pub after_by_id : ById → Command → ById
after_by_id t command = record t { bounds = bounds_after t command; objects = objects_after t command }
