-- For reads, writes and moves with a block table: the address and the size of each slot are multiples of four words (`IsWhole`).
use Rattle.std.proofs.Common.{◌≡◌, ℕ, List, length, Some}
use Rattle.std.specs.Prelude.{IsTrue, take}
use Rattle.std.specs.FinMap.{get}
use Rattle.cf_base.specs.Limits.{is_page_size}
use Rattle.cf_base.specs.Settings.{Profile, profile_of}
use Rattle.cf_base.specs.declared.kind.Kind.{Kind}
use Rattle.cf_base.specs.declared.kind.Kind.TheVariants.{Moving, NonMoving, Tlsf, HalfFit}
use Rattle.cf_base.specs.declared.kind.Layout.TheVariants.{Blocks}
use Rattle.page_model.specs.Held.{Held, Placed}
use Rattle.page_model.specs.Paging.{IsPaging, class_for, paging_of}
use Rattle.page_model.specs.Arrangement.{IsSound}
use Rattle.page_model.specs.Image.{slot_for}
use Rattle.page_model.proofs.CallerLemmas.{place_is_block, in_blocks}
use Rattle.cf_model.specs.Rules.{IsPaged}
use Rattle.cf_model.specs.State.{layout_of}
use Rattle.virtual_words.specs.Words.{IsWhole}
use Rattle.paged_heap.specs.Heap.{Heap}
use Rattle.paged_heap.specs.Layout.{IsValid, held_in, paging_at}
use Rattle.paged_heap.proofs.LayoutFacts.{paged_kind, paging_ok}

pub whole_by : (kind : Kind) → IsPaged kind → (s : Profile) (bounds : List ℕ) → IsTrue (is_page_size s.page_words)
    → IsPaging (paging_of s (layout_of kind) bounds) → (m : Held) → IsSound (paging_of s (layout_of kind) bounds) m
    → (q : ℕ) (x : Placed) → get m q ≡ Some x → IsWhole kind x.place × IsWhole kind (slot_for (paging_of s (layout_of kind) bounds) (length x.bytes))
whole_by Moving p s bounds size ok m sound q x e = (tt, tt)
whole_by NonMoving p s bounds size ok m sound q x e = (
    let b = in_blocks s bounds size in
    (place_is_block (paging_of s Blocks bounds) ok b m sound q x e, b.slot (class_for (paging_of s Blocks bounds) (length x.bytes))))
whole_by Tlsf p s bounds size ok m sound q x e = (tt, tt)
whole_by HalfFit p s bounds size ok m sound q x e = (tt, tt)

-- the address and the size of an object's slot are whole blocks
pub whole_slot : (h : Heap) (k : IsValid h) (q : ℕ) (x : Placed) → get (held_in h) q ≡ Some x → IsWhole h.kind x.place
    × IsWhole h.kind (slot_for (paging_at h) (length x.bytes))
whole_slot h k q x e = whole_by h.kind (paged_kind h k) (profile_of h.settings) (take (length h.classes.sizes) h.bounds) h.settings.page_size
    (paging_ok h k) (held_in h) k.sound q x e

-- the size of a slot for n bytes is whole blocks
size_by : (kind : Kind) → IsPaged kind → (s : Profile) (bounds : List ℕ) → IsTrue (is_page_size s.page_words) → (n : ℕ)
    → IsWhole kind (slot_for (paging_of s (layout_of kind) bounds) n)
size_by Moving p s bounds size n = tt
size_by NonMoving p s bounds size n = (in_blocks s bounds size).slot (class_for (paging_of s Blocks bounds) n)
size_by Tlsf p s bounds size n = tt
size_by HalfFit p s bounds size n = tt

pub whole_size : (h : Heap) (k : IsValid h) (n : ℕ) → IsWhole h.kind (slot_for (paging_at h) n)
whole_size h k n = size_by h.kind (paged_kind h k) (profile_of h.settings) (take (length h.classes.sizes) h.bounds) h.settings.page_size n
