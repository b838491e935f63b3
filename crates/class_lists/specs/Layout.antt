-- How the lists are linked, as rings of nodes; the lists that the links represent; and when links are valid: they form rings, and no page is in two. Each page
-- is a node; after the pages each list has a node of its own, through which its ring goes. No public clause cites this module.
use Rattle.std.specs.Prelude.{◌≡◌, ℕ, zero, suc, ◌+◌, ◌*◌, ◌/◌, ◌^◌, ◌<◌, List, [], ◌∷◌, length, slice_index, slice_index_or, nat_eq}
use Rattle.std.specs.List.{Contains, IsDistinct}
use Rattle.class_lists.specs.PageLists.{PageLists}

-- the first `count` nodes from `node` on, each the `next` of the one before
abbrev pub chain : List ℕ → ℕ → ℕ → List ℕ
chain next zero node = []
chain next (suc count) node = node ∷ chain next count (slice_index next node)

-- the lists of these lengths: the ring of the first goes through node `node`, that of the second through node `node + 1`, and so on
abbrev pub chains : List ℕ → ℕ → List ℕ → List (List ℕ)
chains next node [] = []
chains next node (len ∷ lens) = chain next len (slice_index next node) ∷ chains next (node + 1) lens

-- the lists that the links and the lengths represent, two for each class
abbrev pub lists_of : List ℕ → List ℕ → ℕ → PageLists
lists_of next lens pages = record { pages = pages; classes = length lens / 2; lists = chains next pages lens }

-- From node `start` the links `next` lead through the nodes of the list to node `end`, and the links `previous` lead back.
abbrev pub IsLinked : List ℕ → List ℕ → ℕ → List ℕ → ℕ → Type 0
IsLinked next previous start [] end =
    (slice_index next start ≡ end) × (slice_index previous end ≡ start)
IsLinked next previous start (node ∷ nodes) end =
    (slice_index next start ≡ node) × (slice_index previous node ≡ start) × IsLinked next previous node nodes end

-- list number k of all lists; empty if there is no such list
abbrev pub list_at : List (List ℕ) → ℕ → List ℕ
list_at lists k = slice_index_or lists k []

-- The links represent these lists: the ring of list number k begins and ends at the list's own node, `pages + k`, and `lens` has the length of each list.
pub record AreRings (next previous lens : List ℕ) (pages : ℕ) (lists : List (List ℕ)) : Type 0 where
  pub as_many : length lists ≡ length lens
  pub linked : (k : ℕ) → k < length lens → IsLinked next previous (pages + k) (list_at lists k) (pages + k)
  pub counted : (k : ℕ) → k < length lens → slice_index lens k ≡ length (list_at lists k)

-- each page of a list is one of the `pages` pages, and no page is in two lists, or twice in one
pub record HoldPagesOnce (pages : ℕ) (lists : List (List ℕ)) : Type 0 where
  pub within : (k page : ℕ) → Contains (list_at lists k) page → page < pages
  pub distinct : (k : ℕ) → IsDistinct nat_eq (list_at lists k)
  pub once : (j k page : ℕ) → Contains (list_at lists j) page → Contains (list_at lists k) page → j ≡ k

-- The invariant of `ClassLists`: there is a node for each page and each list, and there are two lists for each class; the links are rings, and no page is
-- listed twice.
pub record IsValid (next previous lens : List ℕ) (pages : ℕ) : Type 0 where
  pub nodes : pages + length lens ≡ length next
  pub backed : length previous ≡ length next
  pub few : length next < 2 ^ 32
  pub paired : 2 * (length lens / 2) ≡ length lens
  pub linked : AreRings next previous lens pages (chains next pages lens)
  pub disjoint : HoldPagesOnce pages (chains next pages lens)
