-- What is claimed of every script in mode `large`: each reply is a function of its line and the lines before it. `t` is the heap before a command: its
-- settings, with the bound 1 in each class, and its objects by id, long ones whole.
--
-- An object that fits a page is one inner object, a longer one is a spine and its parts (`inner_lengths`). Refusals and reports count inner objects.
use Rattle.std.specs.Prelude.{◌≡◌, ℕ, ◌+◌, ◌-◌, ◌*◌, ◌&&◌, List, [], ◌∷◌, ◌++◌, Option, Some, None, Err, codes, filter, if◌then◌else◌, length, map, nat_eq, nat_lt, not}
use Rattle.std.specs.Prelude.{replicate}
use Rattle.std.specs.List.{range_with_len}
use Rattle.run_model.specs.Terms.{asks, at_bound_one, bad, bad_line, classes, Command, Frag, Free, get, Item, Kind, Malloc, Objects, Read, Refusal, Reply, said, slot_words, slots_of, starts, Walk, Write}
use Rattle.cf_base.specs.declared.results.Figures.{Figures}
use Rattle.cf_base.specs.declared.results.Refusal.TheVariants as refusal
use Rattle.cf_base.specs.declared.results.Totals.{Totals}
use Rattle.page_model.specs.Arrangement.{pages_for}
use Rattle.page_model.specs.Counts.{ceil_div}
use Rattle.page_model.specs.Paging.{class_for}
use Rattle.run_model.specs.Replies.{malloc_text}
use Rattle.run_model.specs.Reports.{class_line, frag_line, total_line}
use Rattle.large_objects.specs.InnerObjects.{inner_count, inner_live, inner_pages_with, inner_sum, inner_lengths, whole_part_bytes, spine_bytes}
use Rattle.script_laws.specs.AtOne.{part_pages}
use Rattle.script_laws.specs.ById.{ById, begun, paging_by_id}
use Rattle.script_laws.specs.IdBytes.{read_shown}
use Rattle.script_laws.specs.RepliesById.{free_said, objects_after, ok_or, put_unless, write_said}

-- the most bytes of one part: the bytes of a page without a header
abbrev pub most : ById → ℕ
most t = whole_part_bytes t.profile

-- Why a malloc of `n` bytes is refused; None if it isn't. The first cause that holds: its spine would be longer than a page (`Size`); the inner objects with
-- the new ones would be more than the proxies (`Proxy`); they would need more pages than there are (`Space`).
abbrev pub large_refusal : ById → ℕ → Option Refusal
large_refusal t n =
    if nat_lt (most t) n && nat_lt (most t) (spine_bytes (most t) n) then Some refusal.Size
    else (if nat_lt t.profile.proxies (inner_count (most t) t.objects + length (inner_lengths (most t) n)) then Some refusal.Proxy
    else (if nat_lt t.profile.pages (inner_pages_with (paging_by_id t) (most t) t.objects n) then Some refusal.Space else None))

-- the reply to `m` for `n` bytes, from the bytes that the id names (None if it isn't live)
abbrev pub large_malloc_line : Option (List ℕ) → ById → ℕ → List ℕ
large_malloc_line (Some v) t n = codes "live"
large_malloc_line None t n = ok_or (λ e. malloc_text (Err e)) (large_refusal t n)

-- the number of inner objects of class c
abbrev pub live_inner : ById → ℕ → ℕ
live_inner t c = inner_live (paging_by_id t) (most t) t.objects c

-- the pages that all inner objects need
abbrev pub pages_of_inner : ById → ℕ
pages_of_inner t = pages_for (paging_by_id t) (live_inner t)

-- the figures of class c: its inner objects use the fewest pages that can hold them
abbrev pub large_figures : ById → ℕ → Figures
large_figures t c = record {
  slot_words = slot_words (paging_by_id t) c;
  slots = slots_of (paging_by_id t) c;
  live = live_inner t c;
  pages = ceil_div (live_inner t c) (slots_of (paging_by_id t) c);
  not_full = part_pages (live_inner t c) (slots_of (paging_by_id t) c);
}

-- the figures of the whole heap: the bytes asked are those of all inner objects, spines included, and the bytes taken are those of their slots
abbrev pub large_totals : ById → Totals
large_totals t = record {
  live = inner_count (most t) t.objects;
  asked = inner_sum (λ n. n) (most t) t.objects;
  taken = 8 * inner_sum (λ n. slot_words (paging_by_id t) (class_for (paging_by_id t) n)) (most t) t.objects;
  held = 8 * t.profile.page_words * pages_of_inner t;
  used = pages_of_inner t;
  free = t.profile.pages - pages_of_inner t;
  largest = if nat_eq (t.profile.pages - pages_of_inner t) 0 then 0 else t.profile.page_words;
}

-- the reply to `walk`: a line for each class with inner objects, in rising order, and then the line of the totals
abbrev pub large_walk : ById → Reply
large_walk t =
    map (λ c. class_line (large_figures t c)) (filter (λ c. not (nat_eq (live_inner t c) 0)) (range_with_len 0 (classes (paging_by_id t))))
    ++ said (total_line (large_totals t))

-- the reply to a command; `none` to the commands of other modes
abbrev pub large_reply : ById → Command → Reply
large_reply t (Malloc id n) = said (large_malloc_line (get t.objects id) t n)
large_reply t (Free id) = said (free_said (get t.objects id))
large_reply t (Write id at bytes) = said (write_said (get t.objects id) at (length bytes))
large_reply t (Read id at count) = said (read_shown (get t.objects id) at count)
large_reply t Walk = large_walk t
large_reply t Frag = said (frag_line (large_totals t))
large_reply t command = said (codes "none")

-- the objects after `m` for `n` bytes, from the bytes that the id names: the id names `n` zeros; unchanged if the id was live or the malloc is refused
abbrev pub large_malloc_leaves : Option (List ℕ) → ById → ℕ → ℕ → Objects
large_malloc_leaves (Some v) t id n = t.objects
large_malloc_leaves None t id n = put_unless (large_refusal t n) t.objects id (replicate n 0)

-- the objects after a command
abbrev pub large_leaves : ById → Command → Objects
large_leaves t (Malloc id n) = large_malloc_leaves (get t.objects id) t id n
large_leaves t (Free id) = objects_after t (Free id)
large_leaves t (Write id at bytes) = objects_after t (Write id at bytes)
large_leaves t command = t.objects

-- the heap after a command
abbrev pub large_after : ById → Command → ById
large_after t command = record t { objects = large_leaves t command }

-- the reply to an item; a command before the `heap` line has a reply without lines
abbrev pub large_reply_in : Option ById → Item → Reply
large_reply_in t (starts p) = said (codes "ok")
large_reply_in None (asks command) = []
large_reply_in (Some t) (asks command) = large_reply t command
large_reply_in t (bad n) = said (bad_line n)

-- the heap after an item; a `heap` line with the settings `p` opens it with the bound 1 in each class, whatever bound the line has
abbrev pub after_in : Kind → Option ById → Item → Option ById
after_in kind t (starts p) = Some (begun kind (at_bound_one p))
after_in kind None (asks command) = None
after_in kind (Some t) (asks command) = Some (large_after t command)
after_in kind t (bad n) = t

-- the replies to the items, one each, from the heap `t` on; None is before the `heap` line
abbrev pub large_replies : Kind → Option ById → List Item → List Reply
large_replies kind t [] = []
large_replies kind t (item ∷ rest) = large_reply_in t item ∷ large_replies kind (after_in kind t item) rest

-- the claim of mode `large`: over an inner manager of the kind, the replies to a script are those of `large_replies`
abbrev pub MeetsLarge : Kind → List Item → List Reply → Type 0
MeetsLarge kind items replies = replies ≡ large_replies kind None items
