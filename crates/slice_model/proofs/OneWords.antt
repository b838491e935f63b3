-- For `an_order_leaves_no_choice_beside_a_job`: on the same words, two mallocs that write the same header, two slices of the same job, and two writes of the
-- same bytes leave the same words.
use Rattle.std.proofs.Common.{◌≡◌, ◌≢◌, ℕ, ◌+◌, List, length, get_or, sym, ◌∙◌, subst, inl, inr}
use Rattle.std.specs.Prelude.{◌⊎◌}
use Rattle.std.proofs.lemmas.Bool.{cases_eq}
use Rattle.std.proofs.lemmas.Grind.{same_number_lists}
use Rattle.cf_base.proofs.Maps.{found_once}
use Rattle.cf_base.proofs.Searches.{search_below}
use Rattle.page_model.specs.Held.{Held, Placed}
use Rattle.page_model.specs.Image.{MovesWords, Rewrites, WordRange}
use Rattle.page_model.proofs.CallerLemmas.{within_or}
use Rattle.slice_model.specs.State.{Job, Idle, Clear, Move}
use Rattle.slice_model.specs.Words.{DoesWords, RewritesObject, word_at}

pub rewrites_once : (old new other : List ℕ) (run : WordRange) (f : ℕ → ℕ) → Rewrites old new run f → Rewrites old other run f → length new ≡ length other
    → new ≡ other
rewrites_once old new other run f a b long = same_number_lists new other long (λ w _. elim (within_or run.from run.count w) [
  | inl (i, lt, is) ↦ subst (λ z. get_or new z 0 ≡ get_or other z 0) is (a.within i lt ∙ sym (b.within i lt))
  | inr out ↦ a.others w out ∙ sym (b.others w out)
])

moves_once : (old new other : List ℕ) (run : WordRange) (to : ℕ) → MovesWords old new run to → MovesWords old other run to → length new ≡ length other
    → new ≡ other
moves_once old new other run to a b long = same_number_lists new other long (λ w _. elim (within_or to run.count w) [
  | inl (i, lt, is) ↦ subst (λ z. get_or new z 0 ≡ get_or other z 0) is (a.arrived i lt ∙ sym (b.arrived i lt))
  | inr beyond ↦ elim (within_or run.from run.count w) [
    | inl (i, lt, is) ↦ subst (λ z. get_or new z 0 ≡ get_or other z 0) is (a.left_zeros i lt ∙ sym (b.left_zeros i lt))
    | inr out ↦ a.others w out beyond ∙ sym (b.others w out beyond)
  ]
])

pub does_once : (m : Held) (j : Job) (n : ℕ) (old new other : List ℕ) → DoesWords m j n old new → DoesWords m j n old other → length new ≡ length other
    → new ≡ other
does_once m Idle n old new other a b long = a ∙ sym b
does_once m (Clear k) n old new other a b long = rewrites_once old new other (record { from = k.address + k.done; count = n }) (λ _. 0) a b long
does_once m (Move h k) n old new other (x, there, a) (y, here, b) long =
    let same : y ≡ x = found_once m h y x here there in
    moves_once old new other (record { from = k.address + k.done; count = n }) (x.place + k.done) a
    (subst (λ (z : Placed). MovesWords old other (record { from = k.address + k.done; count = n }) (z.place + k.done)) same b) long

pub rewritten_once : (j : Job) (h : ℕ) (x : Placed) (v : List ℕ) (part : WordRange) (old new other : List ℕ) → RewritesObject j h x v part old new
    → RewritesObject j h x v part old other → length new ≡ length other → new ≡ other
rewritten_once j h x v part old new other a b long = same_number_lists new other long (λ w _. elim (search_below
    (λ i. word_at j h x (part.from + i) ≢ w) (λ i. word_at j h x (part.from + i) ≡ w) (λ i. either w i) part.count) [
      | inr (i, lt, is) ↦ subst (λ z. get_or new z 0 ≡ get_or other z 0) is (a.within i lt ∙ sym (b.within i lt))
      | inl none ↦ a.others w none ∙ sym (b.others w none)
    ])
  where
    either : (w i : ℕ) → (word_at j h x (part.from + i) ≢ w) ⊎ (word_at j h x (part.from + i) ≡ w)
    either w i = elim (cases_eq (word_at j h x (part.from + i)) w) [
      | inl is ↦ inr is
      | inr ne ↦ inl ne
    ]
