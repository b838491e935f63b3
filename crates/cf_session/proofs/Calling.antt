-- For `set_bound`, which does command `k`: its step with and without live objects; no id is live if and only if no object is. For `build_steps_line`:
-- the line that it builds is the reply to `steps`.
use Rattle.std.proofs.Common.{Bool, ◌≡◌, ◌∙◌, ◌++◌, ℕ, true, false, List, Option, Some, None, refl, ap, sym, inl, inr, append_assoc, ◌⊎◌, codes, if◌then◌else◌, nat_eq, is_some}
use Rattle.std.specs.Ordering.{nat_cmp}
use Rattle.std.specs.FinMap.{get, len, empty, empty_of_len, get-empty, len-empty}
use Rattle.run_model.specs.Terms.{AreTied, Bound, HeapState, Held, IsGoing, KeepsRules, Kind, Moving, NonMoving, Placed, said, SessionState, with_bound, with_number}
use Rattle.cf_base.proofs.Maps.{equal_maps}
use Rattle.cf_base.proofs.Tests.{eq_no}
use Rattle.cf_model.specs.Answers.{class_with}
use Rattle.run_model.specs.Steps.{Step, bound_text, class_to_bound}
use Rattle.run_model.specs.Replies.{steps_text}
use Rattle.cf_session.specs.Apply.{run_at}

-- if no id is live, no object is live
module _ (session : SessionState) (heap : HeapState) (tied : AreTied session heap) (none : session.ids ≡ empty) where
  no_object : (o : Option Placed) (q : ℕ) → get heap.held q ≡ o → o ≡ None
  no_object None q is = refl
  no_object (Some x) q is = absurd (
      let id = tied.ids.all q x is in
      let e : get session.ids id.0 ≡ None = ap (λ i. get i id.0) none ∙ get-empty nat_cmp id.0 in
      let s = id.1 in
      cc)

  pub none_held : heap.held ≡ empty
  none_held = equal_maps heap.held empty (λ q. no_object (get heap.held q) q refl ∙ sym (get-empty nat_cmp q))

-- if no object is live, no id is live
module _ (session : SessionState) (heap : HeapState) (tied : AreTied session heap) (none : heap.held ≡ empty) where
  no_id : (o : Option ℕ) (id : ℕ) → get session.ids id ≡ o → o ≡ None
  no_id None id is = refl
  no_id (Some h) id is = absurd (
      let object = tied.ids.named id h is in
      let e : get heap.held h ≡ None = ap (λ i. get i h) none ∙ get-empty nat_cmp h in
      let s = object.1 in
      cc)

  pub none_named : session.ids ≡ empty
  none_named = equal_maps session.ids empty (λ q. no_id (get session.ids q) q refl ∙ sym (get-empty nat_cmp q))

pub bound_ok : (o : Option ℕ) → is_some o ≡ true → codes "ok" ≡ bound_text o
bound_ok None is = absurd (let e : false ≡ true = is in cc)
bound_ok (Some c) is = refl

pub bound_none : (o : Option ℕ) → is_some o ≡ false → codes "none" ≡ bound_text o
bound_none None is = refl
bound_none (Some c) is = absurd (let e : true ≡ false = is in cc)

-- `Step` of command `k` if no object is live
module _ (session : SessionState) (old : HeapState) where
  pub bound_step : (slot_words k : ℕ) (text : List ℕ) (new : HeapState) → old.held ≡ empty
      → new ≡ with_bound old (class_with old.kind old slot_words) k → KeepsRules new → text ≡ bound_text (class_with old.kind old slot_words)
      → Step (run_at session old) (Bound slot_words k) (said text) (run_at session new)
  bound_step slot_words k text new none is rules shown =
      let n : len old.held ≡ 0 = ap (λ (m : Held). len m) none ∙ len-empty nat_cmp Placed in
      let here : class_to_bound old slot_words ≡ class_with old.kind old slot_words =
      ap (λ i. if nat_eq i 0 then class_with old.kind old slot_words else None) n in
      record {
        heap = is ∙ ap (λ (o : Option ℕ). with_bound old o k) (sym here);
        rules = rules;
        session = refl;
        reply_is = ap said (shown ∙ ap bound_text (sym here));
      }

-- `Step` of command `k` if an id is live: no class gets a bound
pub bound_refused : (session : SessionState) (heap : HeapState) (slot_words k : ℕ) → IsGoing (run_at session heap) → (session.ids ≡ empty → ⊥)
    → Step (run_at session heap) (Bound slot_words k) (said (codes "none")) (run_at session heap)
bound_refused session heap slot_words k going some =
    let none : nat_eq (len heap.held) 0 ≡ false = eq_no (len heap.held) 0 (λ e. some (none_named session heap going.tied (empty_of_len heap.held e))) in
    let here : class_to_bound heap slot_words ≡ None = ap (λ (b : Bool). if b then class_with heap.kind heap slot_words else None) none in
    record {
      heap = ap (λ (o : Option ℕ). with_bound heap o k) (sym here);
      rules = going.rules;
      session = refl;
      reply_is = ap (λ (o : Option ℕ). said (bound_text o)) (sym here);
    }

-- what `build_steps_line` appends to a line, field by field, with pages, is the text of the reply to `steps`
pub steps_line : (k : Kind) (s : SessionState) (cost seen b m w : ℕ) (line after_cost after_bound after_moves after_words : List ℕ)
    → (k ≡ Moving) ⊎ (k ≡ NonMoving) → seen ≡ cost → b ≡ s.bound → m ≡ s.moves → w ≡ s.words
    → after_cost ≡ line ++ with_number (codes "steps last ") seen → after_bound ≡ after_cost ++ with_number (codes " bound ") b
    → after_moves ≡ after_bound ++ with_number (codes " moves ") m
    → after_words ≡ after_moves ++ with_number (codes " words ") w → after_words ≡ line ++ steps_text k s cost
steps_line k s cost seen b m w line after_cost after_bound after_moves after_words kind shown_cost shown_bound shown_moves shown_words first second third fourth =
    rw (fourth, third, second, first, shown_cost, shown_bound, shown_moves, shown_words)
    (elim kind [ inl e ↦ rw e (simp append_assoc) | inr e ↦ rw e (simp append_assoc) ])
