-- The replies to `walk`, a report on classes and pages or on blocks, and to `frag`, a line on the bytes that a heap uses.
use Rattle.std.specs.Prelude.{ℕ, List, ◌++◌, codes, map, filter, not, nat_eq}
use Rattle.std.specs.List.{range_with_len}
use Rattle.cf_base.specs.declared.results.Figures.{Figures}
use Rattle.cf_base.specs.declared.results.Totals.{Totals}
use Rattle.cf_base.specs.declared.kind.Kind.{Kind}
use Rattle.page_model.specs.Arrangement.{live}
use Rattle.page_model.specs.Figures.{figures_of}
use Rattle.page_model.specs.Held.{objects}
use Rattle.cf_model.specs.Answers.{classes_in, totals_in}
use Rattle.cf_model.specs.Families.{paged, tiled, family_of}
use Rattle.cf_model.specs.State.{HeapState, paging_in}
use Rattle.run_model.specs.Texts.{Reply, said, with_number}

-- the line of a class with the figures `f`: the words of a slot, the slots of a page, the live objects, the pages, and how many of the pages are partly full
abbrev pub class_line : Figures → List ℕ
class_line f =
    with_number (codes "class ") f.slot_words ++ (with_number (codes " slots ") f.slots ++ (with_number (codes " live ") f.live
    ++ (with_number (codes " pages ") f.pages ++ with_number (codes " notfull ") f.not_full)))

-- the classes of heap `s` that have live objects, in rising order
abbrev pub live_classes : HeapState → List ℕ
live_classes s = filter (λ c. not (nat_eq (live (paging_in s) (objects s.held) c) 0)) (range_with_len 0 (classes_in s.kind s))

-- the last line of `walk` with pages, from the totals `t`: how many objects are live, how many pages are in use, and how many are free
abbrev pub total_line : Totals → List ℕ
total_line t = with_number (codes "total live ") t.live ++ (with_number (codes " pages ") t.used ++ with_number (codes " free ") t.free)

-- the line of `walk` with blocks, from the totals `t`: how many blocks are used, how many are free, and the words of the largest free one
abbrev pub blocks_line : Totals → List ℕ
blocks_line t = with_number (codes "blocks used ") t.used ++ (with_number (codes " free ") t.free ++ with_number (codes " largest ") t.largest)

-- the reply to `walk` for a heap `s` with pages: a line for each class with live objects, then the line of totals
abbrev pub pages_report : HeapState → Reply
pages_report s = map (λ c. class_line (figures_of (paging_in s) s.held c)) (live_classes s) ++ said (total_line (totals_in s.kind s))

-- the reply to `walk` for a heap `s` of the kind: with pages a report on each class, with blocks one line
abbrev pub walk_of : Kind → HeapState → Reply
walk_of kind s = elim (family_of kind) [ paged ↦ pages_report s | tiled ↦ said (blocks_line (totals_in s.kind s)) ]

-- the line of `frag`, from the totals `t`, in bytes: asked for by the live objects; taken by their slots or blocks; held by the pages in use or, with blocks,
-- by the whole region
abbrev pub frag_line : Totals → List ℕ
frag_line t = with_number (codes "frag asked ") t.asked ++ (with_number (codes " taken ") t.taken ++ with_number (codes " held ") t.held)

-- the reply to `frag`: this line, for the bytes of heap `s`
abbrev pub frag_of : HeapState → Reply
frag_of s = said (frag_line (totals_in s.kind s))
