-- A heap after `leave_slot`, by its fields, and by what `page_slots` says of it.
use Rattle.std.proofs.Common.{◌≡◌, ℕ, ◌%◌, ◌^◌, get_or, Option, Some, None, arith, ◌∙◌, ap, subst}
use Rattle.cf_base.specs.declared.results.Handle.{Handle}
use Rattle.cf_base.specs.declared.kind.Kind.{Kind}
use Rattle.class_lists.specs.PageLists.{PageLists}
use Rattle.page_slots.specs.Leaving.{Leaves, Memory, Parts, parts}
use Rattle.page_slots.specs.declared.leave.LeftSlot.{LeftSlot}
use Rattle.page_slots.specs.declared.page_tables.PageTables.{PageTables}
use Rattle.proxy_table.specs.Proxies.{Proxies, with_place}
use Rattle.virtual_words.specs.Words.{frames_of, words_of}
use Rattle.paged_heap.specs.declared.open_heap.OpenHeap.{OpenHeap}
use Rattle.paged_heap.specs.Heap.{Heap, seen}
use Rattle.paged_heap.specs.Layout.{tables_in}

-- the parts of the heap that change when a slot is left
abbrev pub parts_of : Heap → Parts
parts_of h = record { classes = h.classes; tables = tables_in h; proxies = h.proxies; words = h.words; frames = h.frames }

-- the slot of class c at the address a, of `words` words; the headers hold the handles
abbrev pub slot : ℕ → ℕ → ℕ → LeftSlot
slot words c a = record { class = c; place = a; words = words; first = 0 }

-- the heap n is g after `leave_slot`, by its result: no other part of it changes
pub record Left (g : Heap) (c a : ℕ) (r : Option Handle) (n : Heap) : Type 0 where
  pub rest : n ≡ record g { maps = n.maps; lists = n.lists; pool = n.pool; proxies = n.proxies; words = n.words; frames = n.frames }
  pub done : Leaves (parts_of g) (slot (get_or g.classes.sizes c 0) c a) r (parts_of n)

-- an open heap with other tables, page lists and proxies, and other memory
abbrev pub with_parts : OpenHeap → PageTables → PageLists → Proxies → Memory → OpenHeap
with_parts h t lists p m = record h { tables = t; lists = lists; proxies = p; region = m.region; blocks = m.blocks }

pub left_by : (kind : Kind) (h : OpenHeap) (t : PageTables) (lists : PageLists) (p : Proxies) (m : Memory) {words c a : ℕ} {r : Option Handle}
    → words ≡ get_or h.tables.classes.sizes c 0 → t.classes ≡ h.tables.classes → Leaves (parts_of (seen kind h)) (slot words c a) r (parts kind t lists p m)
    → Left (seen kind h) c a r (seen kind (with_parts h t lists p m))
left_by kind h t lists p m {words} {c} {a} {r} is same done = record {
  rest = ap (λ k. record (seen kind h) {
    classes = k;
    maps = t.maps.pages;
    lists = lists;
    pool = t.pool;
    proxies = p;
    words = words_of kind m.blocks m.region;
    frames = frames_of kind m.blocks;
  }) same;
  done = subst (λ n. Leaves (parts_of (seen kind h)) (slot n c a) r (parts kind t lists p m)) is done;
}

module _ {g n : Heap} {c a : ℕ} where
  -- without a move, proxies and frames stay
  pub alone_rest : Left g c a None n → n ≡ record g { maps = n.maps; lists = n.lists; pool = n.pool; words = n.words }
  alone_rest left =
      left.rest
      ∙ ap (λ p. record g { maps = n.maps; lists = n.lists; pool = n.pool; proxies = p; words = n.words; frames = n.frames }) left.done.proxies
      ∙ ap (λ f. record g { maps = n.maps; lists = n.lists; pool = n.pool; words = n.words; frames = f }) left.done.frames

  module _ {i : Handle} (left : Left g c a (Some i) n) where
    pub filled_rest : n ≡ record g {
      maps = n.maps;
      lists = n.lists;
      pool = n.pool;
      proxies = with_place g.proxies i.0 a;
      words = n.words;
      frames = n.frames;
    }
    filled_rest = left.rest
        ∙ ap (λ p. record g { maps = n.maps; lists = n.lists; pool = n.pool; proxies = p; words = n.words; frames = n.frames }) left.done.proxies

    pub number_in : i.0 ≡ get_or g.words left.done.from 0 % 2 ^ 32
    number_in = (let e = left.done.number in omega arith)
