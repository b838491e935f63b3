-- With blocks, a malloc and a free keep each object in a block of its own (law `blocks_stay_owned`), and so does replacing an object's bytes by as many
-- others, as a write does. Also (`no_one`): an option isn't both none and some.
use Rattle.std.proofs.Common.{◌≡◌, ◌≢◌, ℕ, List, Option, Some, None, length, replicate, sym, ◌∙◌, subst, inl, inr, ap}
use Rattle.std.proofs.lemmas.List.{length-replicate}
use Rattle.std.proofs.lemmas.Bool.{cases_eq}
use Rattle.std.proofs.lemmas.Option.{same_Some as some_block, same_Some as some_placed, same_Some as some_number}
use Rattle.std.specs.FinMap.{get, insert, remove}
use Rattle.cf_base.proofs.Maps.{get_inserted, get_insert_other, get_removed, get_remove_other}
use Rattle.page_model.specs.Held.{Held, Placed}
use Rattle.page_model.specs.Steps.{zeros_at}
use Rattle.block_model.specs.Buckets.{FreeLists}
use Rattle.block_model.specs.Tiling.{Block, Carves, IsTiling, IsCarvedTo, block_at, block_need, released}
use Rattle.block_model.proofs.CallerLemmas.{free_stays, malloc_stays, released_is_free}
use Rattle.cf_model.specs.Rules.{AreOwned, IsBlockOf}

-- no value is none and some
pub no_one : {A : Type 0} (o : Option A) (x : A) → o ≡ None → o ≡ Some x → ⊥
no_one o x e f = (let g : None ≡ Some x = sym e ∙ f in cc)

-- a malloc: the new object owns the block that was carved
pub owned_malloc : (rule : FreeLists) (words : ℕ) (m : Held) (old new : List Block) (h n place : ℕ) → IsTiling words old → AreOwned m old → get m h ≡ None
    → Carves rule old (record { need = block_need n; owner = h }) place new → IsCarvedTo new place (record { need = block_need n; owner = h })
    → AreOwned (insert m h (zeros_at place n)) new
owned_malloc rule words m old new h n place t owned none step given =
    let stays = malloc_stays rule words old new (record { need = block_need n; owner = h }) place t step in
    let len : length (replicate {A = ℕ} n 0) ≡ n = length-replicate n 0 in
    record {
      placed = λ q x e. elim (cases_eq q h) [
        | inl is ↦ (
            let same : zeros_at place n ≡ x = some_placed (zeros_at place n) x
            (sym (get_inserted m h (zeros_at place n)) ∙ ap (get (insert m h (zeros_at place n))) (sym is) ∙ e) in
            let block : IsBlockOf given.block q (zeros_at place n) = record {
              owner = given.owner ∙ ap Some (sym is);
              least = rw len given.least;
              most = rw len given.most;
            } in
            subst (λ (y : Placed). (b : Block) × (block_at new y.place ≡ Some b) × IsBlockOf b q y) same (given.block, given.there, block))
        | inr other ↦ (
            let was : get m q ≡ Some x = sym (get_insert_other m h (zeros_at place n) q other) ∙ e in
            let mine = owned.placed q x was in
            let away : x.place ≢ place = λ is. no_one mine.0.owner q
            (ap (λ (b : Block). b.owner) (some_block mine.0 step.found (sym mine.1 ∙ ap (block_at old) is ∙ step.there)) ∙ step.serves.free) mine.2.owner in
            (mine.0, stays.kept x.place mine.0 q away mine.2.owner mine.1, mine.2))
      ];
      live = λ a b q there used. elim (cases_eq a place) [
        | inl is ↦ (
            let same : given.block ≡ b = some_block given.block b (sym given.there ∙ ap (block_at new) (sym is) ∙ there) in
            let who : h ≡ q = some_number h q (sym given.owner ∙ ap (λ (c : Block). c.owner) same ∙ used) in
            (zeros_at place n, ap (get (insert m h (zeros_at place n))) (sym who) ∙ get_inserted m h (zeros_at place n), sym is))
        | inr away ↦ (
            let mine = owned.live a b q (stays.no_other a b q away used there) used in
            let other : q ≢ h = λ is. no_one (get m h) mine.0 none (ap (get m) (sym is) ∙ mine.1) in
            (mine.0, get_insert_other m h (zeros_at place n) q other ∙ mine.1, mine.2))
      ];
    }

-- a free: the object and its used block are removed
pub owned_free : (words : ℕ) (m : Held) (old : List Block) (h : ℕ) (x : Placed) → IsTiling words old → AreOwned m old → get m h ≡ Some x
    → AreOwned (remove m h) (released old x.place)
owned_free words m old h x t owned found =
    let stays = free_stays words old x.place t in
    let own = owned.placed h x found in
    record {
      placed = λ q y e. elim (cases_eq q h) [
        | inl is ↦ absurd (no_one (get (remove m h) q) y (ap (get (remove m h)) is ∙ get_removed m h) e)
        | inr other ↦ (
            let was : get m q ≡ Some y = sym (get_remove_other m h q other) ∙ e in
            let mine = owned.placed q y was in
            let away : y.place ≢ x.place = λ is. other (some_number q h
            (sym mine.2.owner ∙ ap (λ (b : Block). b.owner) (some_block mine.0 own.0 (sym mine.1 ∙ ap (block_at old) is ∙ own.1)) ∙ own.2.owner)) in
            (mine.0, stays.kept y.place mine.0 q away mine.2.owner mine.1, mine.2))
      ];
      live = λ a b q there used. elim (cases_eq a x.place) [
        | inl is ↦ absurd (released_is_free words old x.place b q t (ap (block_at (released old x.place)) (sym is) ∙ there) used)
        | inr away ↦ (
            let mine = owned.live a b q (stays.no_other a b q away used there) used in
            let other : q ≢ h = λ is. away (sym mine.2 ∙ ap (λ (y : Placed). y.place) (some_placed mine.0 x (sym mine.1 ∙ ap (get m) is ∙ found))) in
            (mine.0, get_remove_other m h q other ∙ mine.1, mine.2))
      ];
    }

-- other bytes of the same length in the same block
pub owned_replaced : (m : Held) (blocks : List Block) (h : ℕ) (x y : Placed) → AreOwned m blocks → get m h ≡ Some x → y.place ≡ x.place
    → length y.bytes ≡ length x.bytes → AreOwned (insert m h y) blocks
owned_replaced m blocks h x y owned found same long = record {
  placed = λ q z e. elim (cases_eq q h) [
    | inl is ↦ (
        let it : y ≡ z = some_placed y z (sym (get_inserted m h y) ∙ ap (get (insert m h y)) (sym is) ∙ e) in
        let mine = owned.placed h x found in
        let block : IsBlockOf mine.0 q y = record { owner = mine.2.owner ∙ ap Some (sym is); least = rw long mine.2.least; most = rw long mine.2.most } in
        subst (λ (w : Placed). (b : Block) × (block_at blocks w.place ≡ Some b) × IsBlockOf b q w) it (mine.0, ap (block_at blocks) same ∙ mine.1, block))
    | inr other ↦ owned.placed q z (sym (get_insert_other m h y q other) ∙ e)
  ];
  live = λ a b q there used. elim (cases_eq q h) [
    | inl is ↦ (
        let mine = owned.live a b q there used in
        let it : mine.0 ≡ x = some_placed mine.0 x (sym mine.1 ∙ ap (get m) is ∙ found) in
        (y, ap (get (insert m h y)) is ∙ get_inserted m h y, same ∙ ap (λ (w : Placed). w.place) (sym it) ∙ mine.2))
    | inr other ↦ (
        let mine = owned.live a b q there used in
        (mine.0, get_insert_other m h y q other ∙ mine.1, mine.2))
  ];
}
