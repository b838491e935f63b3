-- The figures that reports show of a class and of the whole heap, computed from the objects.
use Rattle.std.specs.Prelude.{ℕ, ◌*◌, length, sum_by, if◌then◌else◌, nat_eq}
use Rattle.std.specs.FinMap.{len, values}
use Rattle.cf_base.specs.declared.results.Figures.{Figures}
use Rattle.cf_base.specs.declared.results.Totals.{Totals}
use Rattle.page_model.specs.Held.{Held, Objects, objects}
use Rattle.page_model.specs.Paging.{Paging, slot_words, slots_of, class_for}
use Rattle.page_model.specs.Arrangement.{live, pages_of_class, not_full_pages, used_pages, free_pages}

-- the figures of class c: the words of a slot, the slots of a page, the live objects, the pages with one, and those that are partly full
abbrev pub figures_of : Paging → Held → ℕ → Figures
figures_of p m c = record {
  slot_words = slot_words p c;
  slots = slots_of p c;
  live = live p (objects m) c;
  pages = pages_of_class p m c;
  not_full =
      not_full_pages p m c;
}

-- the bytes asked for: the lengths of all objects
unfoldable pub asked_bytes : Objects → ℕ
asked_bytes objects = sum_by length (values objects)

-- the bytes of the slots of all objects
unfoldable pub taken_bytes : Paging → Objects → ℕ
taken_bytes p objects = 8 * sum_by (λ v. slot_words p (class_for p (length v))) (values objects)

-- the figures of the whole heap: live objects; bytes asked for; bytes of their slots; bytes of the pages in use (`held`); pages in use and free pages; and the
-- words of a page if one is free, else 0 (`largest`)
abbrev pub totals_of : Paging → Held → Totals
totals_of p m = record {
  live = len (objects m);
  asked = asked_bytes (objects m);
  taken = taken_bytes p (objects m);
  held = 8 * p.page_words * used_pages p m;
  used = used_pages p m;
  free = free_pages p m;
  largest = if nat_eq (free_pages p m) 0 then 0 else p.page_words;
}
