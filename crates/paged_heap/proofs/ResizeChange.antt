-- For `resize_to_class`: once the object has entered its new class, its old slot can be left (`MayLeave`); and the heap after that, with a move or without one.
use Rattle.std.proofs.Common.{◌≡◌, ℕ, ◌+◌, ◌-◌, ◌%◌, ◌^◌, ◌≤◌, Bool, length, get_or, Option, Some, None, arith, refl, sym, ◌∙◌, ap, subst}
use Rattle.std.specs.Prelude.{◌↔◌, ◌⊎◌, IsSome, IsTrue, is_some}
use Rattle.std.proofs.lemmas.Bool.{false≢true}
use Rattle.std.specs.FinMap.{get}
use Rattle.cf_base.specs.declared.results.Handle.{Handle}
use Rattle.cf_base.specs.declared.results.Resized.{Resized}
use Rattle.cf_model.specs.Steps.{ResizesObject, number_of}
use Rattle.page_model.specs.Steps.{Request}
use Rattle.page_slots.specs.Tables.{AreTables}
use Rattle.size_classes.specs.Table.{ClassTable}
use Rattle.virtual_words.specs.Words.{IsWhole}
use Rattle.paged_heap.specs.Choices.{ResizeChooses}
use Rattle.page_slots.specs.Leaving.{MayLeave}
use Rattle.paged_heap.proofs.LeftSlot.{Left, parts_of, slot}
use Rattle.paged_heap.specs.Heap.{Heap}
use Rattle.paged_heap.specs.Layout.{IsFramed, IsValid, state_of, tables_in, owner_in}
use Rattle.paged_heap.specs.ResizeClass.{EntersAt, IsChange, old_words}
use Rattle.paged_heap.specs.declared.resize_class.Change.{Change}
use Rattle.proxy_table.specs.Proxies.{AreBelowLimit}
use Rattle.paged_heap.proofs.ResizeClass.{change_chosen, change_kept, change_resized, entered_long, found, object, old_used}
use Rattle.paged_heap.proofs.ResizeClassAlone as alone
use Rattle.paged_heap.proofs.ResizeClassFilled as filled
use Rattle.paged_heap.proofs.WholeBlocks.{whole_slot}
use Rattle.page_slots.proofs.CallerLemmas.{it_slot, it_inside, class_listed}
use Rattle.page_slots.specs.Owner.{MustMoveInto}
use Rattle.paged_heap.proofs.LayoutFacts.{owns}

-- a resize to another class in the heap h
pub record ChangesBy (h : Heap) (asked : Request) (done : Resized) (m : Heap) : Type 0 where
  pub step : ResizesObject (state_of h) asked done (state_of m)
  pub kept : IsValid m
  pub choice : ResizeChooses h asked done m

module _ {h : Heap} (k : IsValid h) {x : Change} (is : IsChange h x) {b : ℕ} {n : Heap} (en : EntersAt h x b n) (moves : Bool)
    (due : IsTrue moves ↔ MustMoveInto (owner_in h) x.place x.class) where
  pub may_leave : {words : ℕ} → words ≡ old_words h x → MayLeave h.kind (parts_of n) (slot words x.class x.place) moves
  may_leave {words} long = record {
    tables = subst (λ (t : ClassTable). AreTables t (tables_in n)) (sym en.classes) en.tables;
    used = old_used k is en;
    class = (let l = class_listed (owns k) is.object in let e = ap (λ (t : ClassTable). length t.sizes) en.classes in omega arith);
    words = long ∙ sym (ap (λ (t : ClassTable). get_or t.sizes x.class 0) en.classes);
    inside = (let i = it_inside (owns k) is.object in let l = entered_long k is en in omega arith);
    handles = en.handles;
    whole = (whole_slot h k x.handle.0 (object k is en) (found k is en)).0;
    whole_words = subst (IsWhole h.kind) (sym (long ∙ it_slot (owns k) is.object)) (whole_slot h k x.handle.0 (object k is en) (found k is en)).1;
    some = λ t. filled.some_fills k is en (due.0 t);
    mover = λ t from new fills tables. (
        let f : filled.Refills h x b n from new =
        record { valid = k; change = is; enters = en; moves = due.0 t; filled = fills; tables = tables } in
        let shown = filled.number_shown f in
        let number : filled.r f ≡ get_or n.words from 0 % 2 ^ 32 - 0 = omega arith in
        record {
          header = filled.place_in f;
          source = (let s = filled.source_in f in omega arith);
          apart = subst (λ w. (from + w ≤ x.place) ⊎ (x.place + w ≤ from)) (sym long) (filled.slots_apart f);
          whole = filled.whole_source f;
          first = omega arith;
          live = subst (λ j. IsSome (get n.proxies.places j)) number (filled.live_still f);
        });
  }

  pub changed_by : {m : Heap} → AreTables n.classes (tables_in m) → IsFramed h.kind m → AreBelowLimit m.proxies → (moved : Option Handle)
      → is_some moved ≡ moves → Left n x.class x.place moved m → (done : Resized) → done.old_slot_words ≡ get_or h.classes.sizes x.class 0
      → done.slot_words ≡ get_or h.classes.sizes x.to 0 → done.moved ≡ moved → ChangesBy h (record { number = x.handle.0; length = x.bytes }) done m
  changed_by {m} tables framed handles None none left done was words is_moved =
      let still : MustMoveInto (owner_in h) x.place x.class → ⊥ = λ m. absurd (false≢true (none ∙ due.1 m)) in
      let no = alone.never k is en still left tables framed in let ke = alone.keeps k is en still left tables framed in
      let be = alone.changed_alone k is en still left tables framed in
      let e = ap number_of is_moved in
      record {
        step = change_resized k is en None no m ke be (alone.frames_are k is en still left tables framed) done was words e;
        kept = change_kept k is en None no m ke be;
        choice = change_chosen k is en None no m ke be (alone.alone_follows k is en still left tables framed) (alone.free_same k is en still left tables framed) _ e;
      }
  changed_by {m} tables framed handles (Some i) some left done was words is_moved =
      let d = due.0 (sym some) in
      let f = filled.refills k is en d left tables in
      let w = filled.whole_is k is en d left tables in let s = filled.shift_is k is en d left tables in
      let e : number_of done.moved ≡ Some (filled.r f) = ap number_of is_moved ∙ ap Some (filled.number_is k is en d left tables) in
      let ke = filled.keeps f w left.done.free s framed refl handles in let be = filled.changed_filled f w left.done.free s framed refl handles in
      record {
        step = change_resized k is en (Some (filled.r f)) (filled.mover f) m ke be (filled.frames_are f w left.done.free s framed refl handles) done was words e;
        kept = change_kept k is en (Some (filled.r f)) (filled.mover f) m ke be;
        choice = change_chosen k is en (Some (filled.r f)) (filled.mover f) m ke be (filled.fill_follows f w left.done.free s framed refl handles)
            (filled.free_same f w left.done.free s framed refl handles) _ e;
      }
