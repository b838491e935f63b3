-- The reply to `walk`, and the totals that the reply to `frag` shows, on a heap with pages if every bound is 1. Then each class uses as few pages as possible,
-- so they are computed from the objects without their addresses. `p` is the pages and classes, `objects` the bytes of each object.
use Rattle.std.specs.Prelude.{ℕ, ◌-◌, ◌*◌, ◌%◌, List, ◌++◌, filter, map, if◌then◌else◌, nat_eq, not}
use Rattle.std.specs.List.{range_with_len}
use Rattle.run_model.specs.Terms.{classes, len, Objects, Paging, Reply, said, slot_words, slots_of}
use Rattle.cf_base.specs.declared.results.Figures.{Figures}
use Rattle.cf_base.specs.declared.results.Totals.{Totals}
use Rattle.page_model.specs.Arrangement.{live, pages_needed}
use Rattle.page_model.specs.Counts.{ceil_div}
use Rattle.page_model.specs.Figures.{asked_bytes, taken_bytes}
use Rattle.run_model.specs.Reports.{class_line, total_line}

-- how many pages are partly full if `n` objects use the fewest pages, `m` to a page: none if `m` divides `n`, else one
abbrev pub part_pages : ℕ → ℕ → ℕ
part_pages n m = if nat_eq (n % m) 0 then 0 else 1

-- the figures of class `c`, whose live objects use the fewest pages
abbrev pub figures_at_one : Paging → Objects → ℕ → Figures
figures_at_one p objects c = record {
  slot_words = slot_words p c;
  slots = slots_of p c;
  live = live p objects c;
  pages = ceil_div (live p objects c) (slots_of p c);
  not_full = part_pages (live p objects c) (slots_of p c);
}

-- how many pages no object needs
abbrev pub pages_spare : Paging → Objects → ℕ
pages_spare p objects = p.pages - pages_needed p objects

-- the figures of the whole heap; `held` is the bytes of the pages needed, and `largest` the words of a page if one is free, else 0
abbrev pub totals_at_one : Paging → Objects → Totals
totals_at_one p objects = record {
  live = len objects;
  asked = asked_bytes objects;
  taken = taken_bytes p objects;
  held = 8 * p.page_words * pages_needed p objects;
  used = pages_needed p objects;
  free = pages_spare p objects;
  largest = if nat_eq (pages_spare p objects) 0 then 0 else p.page_words;
}

-- the classes with live objects, in rising order
abbrev pub classes_in_use : Paging → Objects → List ℕ
classes_in_use p objects = filter (λ c. not (nat_eq (live p objects c) 0)) (range_with_len 0 (classes p))

-- the reply to `walk`: a line for each class with live objects, and then the line of totals
abbrev pub walk_at_one : Paging → Objects → Reply
walk_at_one p objects = map (λ c. class_line (figures_at_one p objects c)) (classes_in_use p objects) ++ said (total_line (totals_at_one p objects))
