-- For clauses that name the free lists of `TagBlocks`, read from the heads and links (`lists_of`): they are those of the invariant, also after a block leaves a
-- list or becomes the head of one; and what the invariant says of members (`IsIn`, `AreOnce`) in the words of the clauses (`Contains`, `IsDistinct`).
use Rattle.std.proofs.Common.{◌≡◌, ℕ, zero, suc, ◌+◌, ◌%◌, ◌^◌, ◌<◌, ◌≤◌, List, [], ◌∷◌, length, get_or, map, arith, refl, sym, ap, ◌∙◌, inl, inr}
use Rattle.std.specs.Prelude.{nat_eq}
use Rattle.std.specs.List.{Contains, IsDistinct}
use Rattle.std.proofs.lemmas.Bool.{cases_eq, cases_lt}
use Rattle.std.proofs.lemmas.List.{get_or-map, get_or_past, length-map}
use Rattle.cf_base.specs.Lists.{without_number}
use Rattle.cf_base.proofs.Members.{contains_cases, contains_head, contains_nil, contains_tail, distinct_cons, distinct_nil, without_absent, without_other, without_same}
use Rattle.block_model.specs.Buckets.{FreeLists}
use Rattle.block_model.specs.FreeOrder.{list_in, lists_led_by, lists_without}
use Rattle.block_model.proofs.CallerLemmas.{led_other, led_same, length-led, length-without, list_without}
use Rattle.block_model.proofs.CallerLemmas.{same_listed}
use Rattle.tag_blocks.specs.ListHeads.{no_block}
use Rattle.tag_blocks.specs.Links.{AreFreeLists, AreOnce, AreThreaded, IsIn, first, lists_with, without_block}
use Rattle.tag_blocks.specs.Tags.{list_from, lists_of}
use Rattle.tag_blocks.proofs.ThreadLemmas.{at_most, chosen, first_small, low_half, other}

-- ---- members

pub in_contains : (a : ℕ) (xs : List ℕ) → IsIn a xs → Contains xs a
in_contains a [] i = absurd i
in_contains a (x ∷ xs) i = elim i [ inl is ↦ rw is (contains_head x xs) | inr later ↦ contains_tail a x xs (in_contains a xs later) ]

pub contains_in : (a : ℕ) (xs : List ℕ) → Contains xs a → IsIn a xs
contains_in a [] h = contains_nil a h
contains_in a (x ∷ xs) h = elim (contains_cases a x xs h) [ inl is ↦ inl is | inr later ↦ inr (contains_in a xs later) ]

pub once_distinct : (xs : List ℕ) → AreOnce xs → IsDistinct nat_eq xs
once_distinct [] once = distinct_nil
once_distinct (x ∷ xs) once = distinct_cons x xs (λ h. once.0 (contains_in x xs h)) (once_distinct xs once.1)

without_others : (a : ℕ) (xs : List ℕ) → AreOnce xs → without_block a xs ≡ without_number a xs
without_others a [] once = refl
without_others a (x ∷ xs) once = elim (cases_eq x a) [
  | inl is ↦ (
      let out : ¬ Contains xs a = λ h. once.0 (rw is (contains_in a xs h)) in
      let e : without_number a (x ∷ xs) ≡ without_number a xs = rw is (without_same a xs) in
      chosen x a xs (x ∷ without_block a xs) is ∙ sym (e ∙ without_absent a xs out))
  | inr ne ↦ other x a xs (x ∷ without_block a xs) ne ∙ ap (λ ys. x ∷ ys) (without_others a xs once.1) ∙ sym (without_other a x xs ne)
]

-- ---- one list

pub list_read : (words : List ℕ) → length words < 2 ^ 32 → (most previous : ℕ) (xs : List ℕ) → AreThreaded words previous xs
    → ((x : ℕ) → IsIn x xs → x + 1 < length words) → length xs ≤ most → list_from words most (first xs) ≡ xs
list_read words small zero previous [] t within le = refl
list_read words small zero previous (x ∷ xs) t within le = absurd (omega arith)
list_read words small (suc most) previous [] t within le = chosen no_block no_block [] (no_block ∷ list_from words most (get_or words (no_block + 1) 0 % 2 ^ 32)) refl
list_read words small (suc most) previous (x ∷ xs) t within le =
    let low : first xs < 2 ^ 32 = first_small words small (λ z. IsIn z xs) (λ z i. within z (inr i)) xs (λ z i. i) in
    other x no_block [] (x ∷ list_from words most (get_or words (x + 1) 0 % 2 ^ 32)) (λ e. absurd (let lt = within x (inl refl) in omega arith))
    ∙ ap (λ n. x ∷ list_from words most (n % 2 ^ 32)) t.0
    ∙ ap (λ n. x ∷ list_from words most n) (low_half (first xs) previous low)
    ∙ ap (λ ys. x ∷ ys) (list_read words small most x xs t.1 (λ z i. within z (inr i)) (omega arith))

pub none_first : (n : ℕ) (xs : List ℕ) → n < 2 ^ 32 → ((x : ℕ) → IsIn x xs → x + 1 < n) → first xs ≡ no_block → xs ≡ []
none_first n [] small within e = refl
none_first n (x ∷ xs) small within e = absurd (let lt = within x (inl refl) in omega arith)

-- ---- all lists

pub length-lists : (words heads : List ℕ) → length (lists_of words heads) ≡ length heads
unfolding lists_of
length-lists words heads = length-map heads (list_from words (length words))

module _ (words heads : List ℕ) (lists : ℕ → List ℕ) (l : AreFreeLists words heads lists) where
  pub list_seen : (k : ℕ) → list_in (lists_of words heads) k ≡ lists k
  unfolding lists_of
  list_seen k = elim (cases_lt k (length heads)) [
    | inl lt ↦ get_or-map (list_from words (length words)) heads k no_block [] lt ∙ ap (list_from words (length words)) (l.head k)
        ∙ list_read words l.small (length words) no_block (lists k) (l.threaded k) (l.within k)
        (at_most (length words) (lists k) (l.distinct k) (λ x i. let lt' = l.within k x i in omega arith))
    | inr past ↦ get_or_past (map (list_from words (length words)) heads) k [] (let e = length-map heads (list_from words (length words)) in omega arith)
        ∙ sym (none_first (length words) (lists k) l.small (l.within k) (sym (l.head k) ∙ get_or_past heads k no_block past))
  ]

-- after a change
module _ (words heads : List ℕ) (lists : ℕ → List ℕ) (l : AreFreeLists words heads lists) where
  module _ (words' heads' : List ℕ) (many : length heads' ≡ length heads) where
    as_long : length (lists_of words' heads') ≡ length (lists_of words heads)
    as_long = length-lists words' heads' ∙ many ∙ sym (length-lists words heads)

    pub lists_same : AreFreeLists words' heads' lists → lists_of words' heads' ≡ lists_of words heads
    lists_same l' = same_listed (lists_of words' heads') (lists_of words heads) as_long
        (λ k. list_seen words' heads' lists l' k ∙ sym (list_seen words heads lists l k))

    pub lists_led : (rule : FreeLists) (a size : ℕ) → rule.bucket size < length heads
        → AreFreeLists words' heads' (lists_with lists (rule.bucket size) (a ∷ lists (rule.bucket size)))
        → lists_of words' heads' ≡ lists_led_by rule (lists_of words heads) a size
    lists_led rule a size below l' =
        let new : ℕ → List ℕ = lists_with lists (rule.bucket size) (a ∷ lists (rule.bucket size)) in
        same_listed (lists_of words' heads') (lists_led_by rule (lists_of words heads) a size)
        (as_long ∙ sym (length-led rule (lists_of words heads) a size))
        (λ k. list_seen words' heads' new l' k ∙ elim (cases_eq k (rule.bucket size)) [
          | inl is ↦ chosen k (rule.bucket size) (a ∷ lists (rule.bucket size)) (lists k) is
              ∙ ap (λ j. a ∷ lists j) (sym is) ∙ ap (λ ys. a ∷ ys) (sym (list_seen words heads lists l k))
              ∙ sym (led_same rule (lists_of words heads) a size (let e = length-lists words heads in omega arith) k (sym is))
          | inr ne ↦ other k (rule.bucket size) (a ∷ lists (rule.bucket size)) (lists k) ne
              ∙ sym (led_other rule (lists_of words heads) a size k ne ∙ list_seen words heads lists l k)
        ])

    left_at : (a k : ℕ) → IsIn a (lists k) → (j : ℕ) → lists_with lists k (without_block a (lists k)) j ≡ without_number a (lists j)
    left_at a k there j = elim (cases_eq j k) [
      | inl is ↦ chosen j k (without_block a (lists k)) (lists j) is ∙ ap (λ i. without_block a (lists i)) (sym is) ∙ without_others a (lists j) (l.distinct j)
      | inr ne ↦ other j k (without_block a (lists k)) (lists j) ne ∙ sym (without_absent a (lists j) (λ h. ne (l.once j k a (contains_in a (lists j) h) there)))
    ]

    pub lists_left : (a k : ℕ) → IsIn a (lists k) → AreFreeLists words' heads' (lists_with lists k (without_block a (lists k)))
        → lists_of words' heads' ≡ lists_without (lists_of words heads) a
    lists_left a k there l' =
        let new : ℕ → List ℕ = lists_with lists k (without_block a (lists k)) in
        same_listed (lists_of words' heads') (lists_without (lists_of words heads) a)
        (as_long ∙ sym (length-without (lists_of words heads) a))
        (λ j. list_seen words' heads' new l' j ∙ left_at a k there j
        ∙ sym (list_without (lists_of words heads) a j ∙ ap (without_number a) (list_seen words heads lists l j)))
