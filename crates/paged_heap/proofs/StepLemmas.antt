-- For the clauses `steps` and `bound`: a range of words within a slot costs the same wherever the slot begins; the steps of a read, a write, a cut and a copy,
-- and the most of a resize in place. The most steps of a call are within the bounds of `Manager`. Also, two classes have two slot sizes.
use Rattle.std.proofs.Common.{◌≡◌, ◌≢◌, ℕ, ◌+◌, ◌-◌, ◌*◌, ◌/◌, ◌%◌, ◌<◌, ◌≤◌, List, get_or, Ok, Err, arith, refl, sym, ◌∙◌, ap, subst, inl, inr}
use Rattle.std.specs.Prelude.{Result, if◌then◌else◌, length, min, nat_lt}
use Rattle.std.proofs.lemmas.Bool.{cases_eq, cases_lt}
use Rattle.cf_base.specs.Rising.{AreSizes}
use Rattle.cf_base.specs.declared.results.AccessFault.{AccessFault}
use Rattle.cf_base.specs.declared.results.AccessFault.TheVariants as access
use Rattle.cf_base.specs.declared.results.Freed.{Freed}
use Rattle.cf_base.specs.declared.results.NotLive.{NotLive}
use Rattle.cf_base.specs.declared.results.Resized.{Resized}
use Rattle.cf_base.specs.declared.results.ResizeFault.{ResizeFault}
use Rattle.cf_base.specs.declared.results.ResizeFault.TheVariants as resize
use Rattle.cf_base.specs.declared.kind.Kind.{Kind}
use Rattle.cf_base.specs.declared.kind.Kind.TheVariants.{Moving, NonMoving, Tlsf, HalfFit}
use Rattle.cf_base.proofs.Tests.{eq_no, eq_yes, lt_no, lt_yes}
use Rattle.cf_model.specs.Costs.{access_bound, free_bound, resize_bound, words_touched}
use Rattle.page_model.specs.Order.{word_steps}
use Rattle.page_model.proofs.CallerLemmas.{run_few, slot_few, word_few}
use Rattle.step_ledger.proofs.CallerLemmas.{rose_both, rose_none}
use Rattle.step_ledger.specs.Counting.{RoseBy}
use Rattle.virtual_words.specs.Words.{IsWhole, copy_steps, run_steps, slot_steps}
use Rattle.region.specs.Overwriting.{words_with}
use Rattle.paged_heap.specs.Costs.{access_steps, change_steps, free_steps, resize_steps, stay_steps}
use Rattle.cf_model.specs.ExactCosts.{tail_steps}

-- the steps of a run of no word, and of one word
pub run_none : (kind : Kind) (i : ℕ) → run_steps kind i 0 ≡ 0
run_none Moving i = refl
run_none NonMoving i = omega arith
run_none Tlsf i = refl
run_none HalfFit i = refl

pub run_one : (kind : Kind) (i : ℕ) → run_steps kind i 1 ≡ word_steps kind
run_one Moving i = refl
run_one NonMoving i = omega arith
run_one Tlsf i = refl
run_one HalfFit i = refl

-- a run inside a slot costs the same wherever the slot begins
pub run_along : (kind : Kind) (a i j n : ℕ) → IsWhole kind a → j ≡ a + i → run_steps kind j n ≡ run_steps kind i n
run_along Moving a i j n w e = refl
run_along NonMoving a i j n w e = omega arith
run_along Tlsf a i j n w e = refl
run_along HalfFit a i j n w e = refl

pub copy_along : (kind : Kind) (a i j n : ℕ) → IsWhole kind a → j ≡ a + i → copy_steps kind j n ≡ copy_steps kind i n
copy_along Moving a i j n w e = refl
copy_along NonMoving a i j n w e = omega arith
copy_along Tlsf a i j n w e = refl
copy_along HalfFit a i j n w e = refl

-- more words take more steps
pub run_more : (kind : Kind) (i m n : ℕ) → m ≤ n → run_steps kind i m ≤ run_steps kind i n
run_more Moving i m n le = le
run_more NonMoving i m n le = omega arith
run_more Tlsf i m n le = le
run_more HalfFit i m n le = le

-- copying the kept words of an object costs fewer steps than moving a slot of the smaller size
pub copy_few : (kind : Kind) (n s t : ℕ) → IsWhole kind s → IsWhole kind t → n + 1 ≤ s → n + 1 ≤ t → copy_steps kind 1 n + 1 ≤ slot_steps kind (min s t)
copy_few Moving n s t a b le less = omega arith
copy_few NonMoving n s t a b le less = omega arith
copy_few Tlsf n s t a b le less = omega arith
copy_few HalfFit n s t a b le less = omega arith

-- the steps of a read or a write are those of finding the object and of a run inside its slot
pub touched_steps : (kind : Kind) (a from count : ℕ) → IsWhole kind a → count ≢ 0
    → 1 + word_steps kind + run_steps kind (a + 1 + from / 8) (words_with (from % 8) count) ≡ access_steps kind from count (Ok tt)
touched_steps kind a from count w some =
    let touched : words_touched from count ≡ words_with (from % 8) count = rw (eq_no count 0 some) refl in
    ap (λ n. 1 + word_steps kind + n)
    (run_along kind a (1 + from / 8) (a + 1 + from / 8) (words_with (from % 8) count) w (omega arith) ∙ ap (run_steps kind (1 + from / 8)) (sym touched))

pub empty_steps : (kind : Kind) (from count : ℕ) → count ≡ 0 → 1 + word_steps kind ≡ access_steps kind from count (Ok tt)
empty_steps kind from count none =
    let z : access_steps kind from 0 (Ok tt) ≡ 1 + word_steps kind = ap (λ n. 1 + word_steps kind + n) (run_none kind (1 + from / 8)) ∙ add_none (1 + word_steps kind) in
    sym (ap (λ n. access_steps kind from n (Ok tt)) none ∙ z)
  where
    add_none : (n : ℕ) → n + 0 ≡ n
    add_none n = omega arith

-- the steps of `zero_tail` are those of its first word and of the words after it
pub tail_rose : (kind : Kind) (place keep bytes : ℕ) → keep < bytes → (a b d first one next rest : ℕ) → one ≡ 1 → next ≡ place + 2 + keep / 8
    → rest ≡ (bytes + 7) / 8 - keep / 8 - 1 → RoseBy a b (run_steps kind first one) → RoseBy b d (run_steps kind next rest)
    → RoseBy a d (tail_steps kind place keep bytes)
tail_rose kind place keep bytes less a b d first one next rest is_one is_next is_rest x y =
    let x' : RoseBy a b (word_steps kind) = subst (RoseBy a b) (ap (run_steps kind first) is_one ∙ run_one kind first) x in
    let y' : RoseBy b d (run_steps kind (place + 2 + keep / 8) ((bytes + 7) / 8 - keep / 8 - 1)) =
    subst (RoseBy b d) (ap (λ i. run_steps kind i rest) is_next ∙ ap (run_steps kind (place + 2 + keep / 8)) is_rest) y in
    rw (lt_yes keep bytes less) (rose_both a b d _ _ x' y')

pub tail_still : (kind : Kind) (place keep bytes : ℕ) → bytes ≤ keep → (a : ℕ) → RoseBy a a (tail_steps kind place keep bytes)
tail_still kind place keep bytes le a = rw (lt_no keep bytes le) (rose_none a)

pub tail_along : (kind : Kind) (a n m : ℕ) → IsWhole kind a → tail_steps kind a n m ≡ tail_steps kind 0 n m
tail_along kind a n m w =
    ap (λ r. if nat_lt n m then word_steps kind + r else 0) (run_along kind a (0 + 2 + n / 8) (a + 2 + n / 8) ((m + 7) / 8 - n / 8 - 1) w (omega arith))

-- after a copy to another slot, `zero_tail` writes at most one word
pub tail_few : (kind : Kind) (place keep n : ℕ) → (8 * n + 7) / 8 - keep / 8 ≤ 1 → tail_steps kind place keep (8 * n) ≤ word_steps kind
tail_few kind place keep n few = elim (cases_lt keep (8 * n)) [
  | inl less ↦ (
      let none : (8 * n + 7) / 8 - keep / 8 - 1 ≡ 0 = omega arith in
      let zero' : run_steps kind (place + 2 + keep / 8) ((8 * n + 7) / 8 - keep / 8 - 1) ≡ 0 =
      ap (run_steps kind (place + 2 + keep / 8)) none ∙ run_none kind (place + 2 + keep / 8) in
      let is : tail_steps kind place keep (8 * n) ≡ word_steps kind + run_steps kind (place + 2 + keep / 8) ((8 * n + 7) / 8 - keep / 8 - 1) =
      rw (lt_yes keep (8 * n) less) refl in
      omega arith)
  | inr le ↦ (let is : tail_steps kind place keep (8 * n) ≡ 0 = rw (lt_no keep (8 * n) le) refl in omega arith)
]

-- the most steps of a resize in its slot
pub stay_most : (kind : Kind) (place keep bytes s : ℕ) → IsWhole kind place → 1 + (bytes + 7) / 8 ≤ s
    → 3 + 2 * word_steps kind + tail_steps kind place keep bytes ≤ stay_steps kind keep s
stay_most kind place keep bytes s w holds = elim (cases_lt keep bytes) [
  | inl less ↦ (
      let is : tail_steps kind place keep bytes ≡ word_steps kind + run_steps kind (place + 2 + keep / 8) ((bytes + 7) / 8 - keep / 8 - 1) =
      rw (lt_yes keep bytes less) refl in
      let along = run_along kind place (2 + keep / 8) (place + 2 + keep / 8) ((bytes + 7) / 8 - keep / 8 - 1) w (omega arith) in
      let more = run_more kind (2 + keep / 8) ((bytes + 7) / 8 - keep / 8 - 1) (s - 2 - keep / 8) (omega arith) in
      omega arith)
  | inr le ↦ (let is : tail_steps kind place keep bytes ≡ 0 = rw (lt_no keep bytes le) refl in omega arith)
]

-- slots of two classes have two sizes
pub sizes_differ : (words : ℕ) (sizes : List ℕ) → AreSizes words sizes → (c d : ℕ) → c < length sizes → d < length sizes → c ≢ d
    → get_or sizes c 0 ≢ get_or sizes d 0
sizes_differ words sizes s c d in_c in_d ne e = elim (cases_lt c d) [
  | inl less ↦ (let lt = s.rising c d less in_d in omega arith)
  | inr le ↦ elim (cases_lt d c) [
    | inl less ↦ (let lt = s.rising d c less in_c in omega arith)
    | inr ge ↦ ne (omega arith)
  ]
]

-- the steps of each call are at most those that `Manager` allows
pub free_low : (kind : Kind) (r : Result Freed NotLive) → free_steps kind r ≤ free_bound r
free_low kind (Ok freed) = (let a = word_few kind in let b = slot_few kind freed.slot_words in omega arith)
free_low kind (Err e) = omega arith

pub resize_low : (kind : Kind) (n : ℕ) (r : Result Resized ResizeFault) → resize_steps kind n r ≤ resize_bound r
resize_low kind n (Ok done) = elim (cases_eq done.slot_words done.old_slot_words) [
  | inl is ↦ (
      let a = word_few kind in
      let s = done.slot_words in
      let b = run_few kind (2 + n / 8) (s - 2 - n / 8) in
      let e : resize_steps kind n (Ok done) ≡ stay_steps kind n s = rw (eq_yes s done.old_slot_words is) refl in
      omega arith)
  | inr ne ↦ (
      let a = word_few kind in
      let b = slot_few kind done.old_slot_words in
      let d = slot_few kind (min done.old_slot_words done.slot_words) in
      let e : resize_steps kind n (Ok done) ≡ change_steps kind done.old_slot_words done.slot_words = rw (eq_no done.slot_words done.old_slot_words ne) refl in
      omega arith)
]
resize_low kind n (Err resize.Unknown) = omega arith
resize_low kind n (Err resize.Kind) = omega arith
resize_low kind n (Err resize.Size) = omega arith
resize_low kind n (Err resize.Space) = (let a = word_few kind in omega arith)

pub access_low : (kind : Kind) (from count : ℕ) (r : Result Unit AccessFault) → access_steps kind from count r ≤ access_bound from count
access_low kind from count (Ok u) = (let a = word_few kind in let b = run_few kind (1 + from / 8) (words_touched from count) in omega arith)
access_low kind from count (Err access.Unknown) = omega arith
access_low kind from count (Err access.Range) = (let a = word_few kind in omega arith)
