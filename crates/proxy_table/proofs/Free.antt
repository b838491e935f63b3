-- For the calls of `ProxyTable`: the free numbers, by the stack that holds them, each once and none live, and the list of them after one is taken or released.
use Rattle.std.proofs.Common.{◌≡◌, ◌≢◌, ℕ, zero, suc, ◌+◌, ◌-◌, ◌<◌, ◌≤◌, List, ◌∷◌, Option, None, length, get_or, set, arith, refl, sym, ◌∙◌, ap, eqb, cond}
use Rattle.std.specs.Prelude.{not}
use Rattle.std.specs.List.{Contains, IsDistinct, range_with_len}
use Rattle.std.proofs.lemmas.Bool.{ne_eqb}
use Rattle.std.proofs.lemmas.List.{get_or-set_same, get_or-set_other}
use Rattle.std.proofs.lemmas.Map.Keys.{IsDistinct-from_apart}
use Rattle.cf_base.specs.Lists.{without_number}
use Rattle.cf_base.proofs.Members.{without_same}
use Rattle.proxy_table.specs.Layout.{IsFalling, IsValid, top_down}

length_top : (stack : List ℕ) (left : ℕ) → length (top_down stack left) ≡ left
length_top stack zero = refl
length_top stack (suc left) = ap suc (length_top stack left)

at_top : (stack : List ℕ) (left i d : ℕ) → i < left → get_or (top_down stack left) i d ≡ get_or stack (left - 1 - i) 0
at_top stack zero i d lt = absurd (omega arith)
at_top stack (suc left) zero d lt = ap (λ k. get_or stack k 0) (omega arith)
at_top stack (suc left) (suc i) d lt =
    at_top stack left i d (omega arith) ∙ ap (λ k. get_or stack k 0) (let e : left - 1 - i ≡ suc left - 1 - suc i = omega arith in e)

-- the free numbers are the first `left` of the stack, each once, and none of them is live
pub record AreFree (places : List (Option ℕ)) (free : List ℕ) (left : ℕ) : Type 0 where
  pub long : length free ≡ left
  pub below : (number : ℕ) → Contains free number → number < length places
  pub not_live : (number : ℕ) → Contains free number → get_or places number None ≡ None
  pub once : IsDistinct eqb free

pub are_free : (places : List (Option ℕ)) (stack : List ℕ) (left : ℕ) → IsValid places stack left → AreFree places (top_down stack left) left
are_free places stack left s = record {
  long = length_top stack left;
  below = λ number (k, lt, is). (
      let l = length_top stack left in
      let e : get_or stack (left - 1 - k) 0 ≡ number = sym (at_top stack left k number (omega arith)) ∙ is in
      let r = s.in_range (left - 1 - k) (omega arith) in
      omega arith);
  not_live = λ number (k, lt, is). (
      let l = length_top stack left in
      let e : number ≡ get_or stack (left - 1 - k) 0 = sym is ∙ at_top stack left k number (omega arith) in
      ap (λ n. get_or places n None) e ∙ s.not_live (left - 1 - k) (omega arith));
  once = IsDistinct-from_apart eqb (top_down stack left) (λ i j d lt within. (
      let l = length_top stack left in
      let ei = at_top stack left i d (omega arith) in let ej = at_top stack left j d (omega arith) in
      let apart = s.distinct (left - 1 - j) (left - 1 - i) (omega arith) (omega arith) in
      rw (ei, ej) (ne_eqb _ _ (λ same. apart (sym same)))));
}

pub free_given : (stack : List ℕ) (left h : ℕ) → 0 < left → h ≡ get_or stack (left - 1) 0 → top_down stack left ≡ h ∷ top_down stack (left - 1)
free_given stack zero h some is = absurd (omega arith)
free_given stack (suc left) h some is =
    let e : suc left - 1 ≡ left = omega arith in
    let top : h ≡ get_or stack left 0 = rw e at is in
    rw (e, top) refl

-- writing on top of the stack changes nothing below
below_stay : (stack : List ℕ) (left n h : ℕ) → n ≤ left → top_down (set stack left h) n ≡ top_down stack n
below_stay stack left zero h le = refl
below_stay stack left (suc n) h le =
    ap (λ x. x ∷ top_down (set stack left h) n) (get_or-set_other stack left n h 0 (omega arith))
    ∙ ap (λ xs. get_or stack n 0 ∷ xs) (below_stay stack left n h (omega arith))

pub free_taken : (stack : List ℕ) (left h : ℕ) → left < length stack → top_down (set stack left h) (left + 1) ≡ h ∷ top_down stack left
free_taken stack left h room =
    let e : left + 1 ≡ suc left = omega arith in
    rw e (ap (λ x. x ∷ top_down (set stack left h) left) (get_or-set_same stack left h 0 room)
    ∙ ap (λ xs. h ∷ xs) (below_stay stack left left h (omega arith)))

-- leaving out a number that isn't among the free numbers changes nothing
pub without_stack : (stack : List ℕ) (h n : ℕ) → ((i : ℕ) → i < n → get_or stack i 0 ≢ h) → without_number h (top_down stack n) ≡ top_down stack n
without_stack stack h zero off = refl
without_stack stack h (suc n) off =
    let rest = without_number h (top_down stack n) in
    ap (λ b. cond (not b) (get_or stack n 0 ∷ rest) rest) (ne_eqb (get_or stack n 0) h (off n (omega arith)))
    ∙ ap (λ xs. get_or stack n 0 ∷ xs) (without_stack stack h n (λ i lt. off i (omega arith)))

pub free_rest : (stack : List ℕ) (left h : ℕ) → 0 < left → h ≡ get_or stack (left - 1) 0 → ((i : ℕ) → i < left - 1 → get_or stack i 0 ≢ h)
    → without_number h (top_down stack left) ≡ top_down stack (left - 1)
free_rest stack left h some is off =
    ap (without_number h) (free_given stack left h some is) ∙ without_same h (top_down stack (left - 1)) ∙ without_stack stack h (left - 1) off

falling_from : (n : ℕ) (stack : List ℕ) → IsFalling n stack → (k : ℕ) → k ≤ n → top_down stack k ≡ range_with_len (n - k) k
falling_from n stack f zero le = refl
falling_from n stack f (suc k) le =
    let long = f.long in
    let top : get_or stack k 0 ≡ n - suc k = f.falls k (omega arith) ∙ (let e : n - 1 - k ≡ n - suc k = omega arith in e) in
    let next : n - k ≡ n - suc k + 1 = omega arith in
    ap (λ x. x ∷ top_down stack k) top ∙ ap (λ xs. (n - suc k) ∷ xs) (falling_from n stack f k (omega arith) ∙ ap (λ a. range_with_len a k) next)

-- the free numbers of a new table: all, from 0 on
pub free_new : (n : ℕ) (stack : List ℕ) → IsFalling n stack → top_down stack n ≡ range_with_len 0 n
free_new n stack f = falling_from n stack f n (omega arith) ∙ ap (λ a. range_with_len a n) (let e : n - n ≡ 0 = omega arith in e)
