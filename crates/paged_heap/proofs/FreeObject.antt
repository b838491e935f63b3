-- For `free_object`: its object's slot can be left (`MayLeave`); and the heap after it, with a move or without one.
use Rattle.std.proofs.Common.{◌≡◌, ℕ, get_or, Bool, Option, Some, None, arith, refl, sym, ◌∙◌, ap, subst}
use Rattle.std.specs.Prelude.{◌↔◌, IsTrue, is_some}
use Rattle.std.proofs.lemmas.Bool.{false≢true}
use Rattle.cf_base.specs.declared.results.Freed.{Freed}
use Rattle.cf_base.specs.declared.results.Handle.{Handle}
use Rattle.cf_model.specs.Steps.{FreesObject, number_of}
use Rattle.page_model.specs.Order.{FreeFollows}
use Rattle.page_model.specs.Steps.{MustMove}
use Rattle.page_slots.specs.Tables.{AreTables}
use Rattle.proxy_table.specs.Proxies.{AreBelowLimit}
use Rattle.virtual_words.specs.Words.{IsWhole}
use Rattle.paged_heap.specs.Choices.{FreeChooses}
use Rattle.page_slots.specs.Leaving.{MayLeave}
use Rattle.paged_heap.specs.Heap.{Heap}
use Rattle.paged_heap.specs.Layout.{IsFramed, IsValid, held_in, order_in, paging_at, state_of, tables_in, owner_in}
use Rattle.paged_heap.proofs.ByKind.{frames_stay}
use Rattle.paged_heap.proofs.FreeAlone.{alone, alone_follows, frames_same}
use Rattle.paged_heap.proofs.FreeAndFill.{fill_follows, filling, frames_are, free_is, is, moved_is, number_shown, refilled}
use Rattle.paged_heap.proofs.FreeAndFill.{whole, whole_source}
use Rattle.paged_heap.proofs.FreedObject.{goes_freed, goes_kept, rest_held, taken_out}
use Rattle.paged_heap.proofs.LayoutFacts.{paged_kind, owns}
use Rattle.paged_heap.proofs.LeftSlot.{Left, parts_of, slot}
use Rattle.paged_heap.proofs.WholeBlocks.{whole_slot}
use Rattle.page_slots.proofs.CallerLemmas.{it, it_found, it_slot, may_leave as can_leave, moving, mover, other}
use Rattle.page_slots.specs.Owner.{IsObjectAt, MustMoveInto}

-- a free of object q in the heap h
pub record FreesBy (h : Heap) (q : ℕ) (freed : Freed) (n : Heap) : Type 0 where
  pub step : FreesObject (state_of h) q freed (state_of n)
  pub kept : IsValid n
  pub choice : FreeChooses h q freed n

module _ {h : Heap} (k : IsValid h) {q a size c : ℕ} (o : IsObjectAt (owner_in h) q a size c) (moves : Bool)
    (due : IsTrue moves ↔ MustMoveInto (owner_in h) a c) {g : Heap}
    (counted : g ≡ taken_out h q size c) where
  pub may_leave : {words : ℕ} → words ≡ get_or h.classes.sizes c 0 → AreBelowLimit g.proxies → MayLeave h.kind (parts_of g) (slot words c a) moves
  may_leave {words} long handles = subst (λ (x : Heap). MayLeave h.kind (parts_of x) (slot words c a) moves) (sym counted)
      (can_leave (owns k) o 0 (λ b new f. (let e = number_shown k f in omega arith)) h.kind moves long due refl
      (subst (λ (x : Heap). AreBelowLimit x.proxies) counted handles) (whole_slot h k q (it (owns k) o) (it_found (owns k) o)).0
      (subst (IsWhole h.kind) (sym (long ∙ it_slot (owns k) o)) (whole_slot h k q (it (owns k) o) (it_found (owns k) o)).1) (λ b new f. whole_source k f))

  pub freed_by : {n : Heap} → AreTables g.classes (tables_in n) → IsFramed h.kind n → AreBelowLimit n.proxies → (moved : Option Handle)
      → is_some moved ≡ moves → Left g c a moved n → (freed : Freed) → freed.slot_words ≡ get_or h.classes.sizes c 0 → freed.moved ≡ moved → FreesBy h q freed n
  freed_by {n} tables framed handles None none left freed words is_moved =
      let still : MustMoveInto (owner_in h) a c → ⊥ = λ m. absurd (false≢true (none ∙ due.1 m)) in
      let b = alone k o still counted left tables framed handles in
      let no : MustMove (paging_at h) (held_in h) (it (owns k) o) → ⊥ = λ m. still (moving (owns k) o m) in
      record {
        step = goes_freed k o n None no b (frames_same k o still counted left tables framed handles
            ∙ sym (frames_stay h.kind (paged_kind h k) (state_of h) (rest_held k o n None no))) freed words (ap number_of is_moved);
        kept = goes_kept k o n None no b;
        choice = subst (λ v. FreeFollows (paging_at h) (held_in h) q v (order_in h) (order_in n)) (sym (ap number_of is_moved))
            (alone_follows k o still counted left tables framed handles);
      }
  freed_by {n} tables framed handles (Some i) some left freed words is_moved =
      let d = due.0 (sym some) in
      let f = filling k o d counted left tables in
      let w = whole k o d counted left tables in let m = moved_is k o d counted left tables in
      let e : number_of freed.moved ≡ Some (other f) = ap number_of is_moved ∙ ap Some (is k o d counted left tables) in
      let b = refilled k f w m framed refl handles in
      record {
        step = goes_freed k o n (Some (other f)) (mover f) b (frames_are k f w m framed refl handles) freed words e;
        kept = goes_kept k o n (Some (other f)) (mover f) b;
        choice = subst (λ v. FreeFollows (paging_at h) (held_in h) q v (order_in h) (order_in n)) (sym e)
            (fill_follows k f w m framed refl handles (free_is k o d counted left tables));
      }
