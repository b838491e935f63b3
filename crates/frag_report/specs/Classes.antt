-- The lines of `walk` on a heap with pages, as they are written one after the other, and the totals that its last line shows. `p` is the pages and classes, `m`
-- the objects by the numbers of their proxies, `c` a class.
use Rattle.std.specs.Prelude.{ℕ, List, [], map, filter, not, nat_eq, if◌then◌else◌}
use Rattle.std.specs.List.{range_with_len}
use Rattle.cf_base.specs.declared.results.Figures.{Figures}
use Rattle.cf_base.specs.declared.results.Totals.{Totals}
use Rattle.page_model.specs.Arrangement.{live}
use Rattle.page_model.specs.Figures.{figures_of}
use Rattle.page_model.specs.Held.{Held, objects}
use Rattle.page_model.specs.Paging.{Paging}
use Rattle.run_model.specs.Reports.{class_line}
use Rattle.run_model.specs.Texts.{Reply, said}

-- a line for each class of the list that has live objects
abbrev pub lines_of : Paging → Held → List ℕ → Reply
lines_of p m classes = map (λ c. class_line (figures_of p m c)) (filter (λ c. not (nat_eq (live p (objects m) c) 0)) classes)

-- a line for each class below c that has live objects
abbrev pub classes_below : Paging → Held → ℕ → Reply
classes_below p m c = lines_of p m (range_with_len 0 c)

-- the line of the class with the figures f; no line if it has no live object
abbrev pub class_if_live : Figures → Reply
class_if_live f = if nat_eq f.live 0 then [] else said (class_line f)

-- totals with the three figures that the last line of a report on pages shows; the other figures are 0 and aren't shown
abbrev pub totals_with : ℕ → ℕ → ℕ → Totals
totals_with live used free = record { live = live; asked = 0; taken = 0; held = 0; used = used; free = free; largest = 0 }
