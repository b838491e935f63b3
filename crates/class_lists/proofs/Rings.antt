-- For the calls of `ClassLists`, in which each page list is a ring of linked nodes: the lists that the links give, and all rings after a page joins one or
-- leaves one. They stay linked, their nodes are in range, and no page is in two.
use Rattle.std.proofs.Common.{◌≡◌, ◌≢◌, ℕ, zero, suc, ◌+◌, ◌-◌, ◌<◌, List, [], ◌∷◌, length, get_or, set, arith, refl, sym, ◌∙◌, ap, inl, inr}
use Rattle.std.specs.Prelude.{nat_eq}
use Rattle.std.specs.List.{Contains, IsDistinct}
use Rattle.std.proofs.lemmas.Bool.{cases_eq}
use Rattle.std.proofs.lemmas.List.{get_or-set_same, get_or-set_other, length-set, same_lists, get_or_default}
use Rattle.cf_base.specs.Lists.{without_number}
use Rattle.cf_base.proofs.Members.{contains_cases, contains_head, contains_without, distinct_cons, distinct_without, length-without}
use Rattle.class_lists.specs.Layout.{chain, chains, list_at, IsLinked, AreRings, HoldPagesOnce}
use Rattle.class_lists.proofs.Chains.{linked_chain, linked_kept, first_in, next_in, previous_in, linked_after_push, linked_after_unlink}

-- one of the lists is replaced
module _ (lists : List (List ℕ)) (k : ℕ) (list : List ℕ) where
  pub list_at-set_same : k < length lists → list_at (set lists k list) k ≡ list
  list_at-set_same lt = get_or-set_same lists k list [] lt

  pub list_at-set_other : (j : ℕ) → j ≢ k → list_at (set lists k list) j ≡ list_at lists j
  list_at-set_other j ne = get_or-set_other lists k j list [] ne

  -- the new list's pages are different and in no other list
  pub disjoint_after : (pages : ℕ) → k < length lists → HoldPagesOnce pages lists
      → ((p : ℕ) → Contains list p → p < pages) → IsDistinct nat_eq list
      → ((j p : ℕ) → j ≢ k → Contains (list_at lists j) p → ¬ Contains list p) → HoldPagesOnce pages (set lists k list)
  disjoint_after pages lt d within distinct apart = record {
    within = λ j p h. elim (cases_eq j k) [
      | inl is ↦ within p (rw (is, list_at-set_same lt) at h)
      | inr ne ↦ d.within j p (rw (list_at-set_other j ne) at h)
    ];
    distinct = λ j. elim (cases_eq j k) [
      | inl is ↦ rw (is, list_at-set_same lt) distinct
      | inr ne ↦ rw (list_at-set_other j ne) (d.distinct j)
    ];
    once = λ i j p h g. elim (cases_eq i k) [
      | inl is ↦ elim (cases_eq j k) [
        | inl js ↦ is ∙ sym js
        | inr nj ↦ absurd (apart j p nj (rw (list_at-set_other j nj) at g) (rw (is, list_at-set_same lt) at h))
      ]
      | inr ni ↦ elim (cases_eq j k) [
        | inl js ↦ absurd (apart i p ni (rw (list_at-set_other i ni) at h) (rw (js, list_at-set_same lt) at g))
        | inr nj ↦ d.once i j p (rw (list_at-set_other i ni) at h) (rw (list_at-set_other j nj) at g)
      ]
    ];
  }

module _ (next previous lens : List ℕ) (pages : ℕ) (lists : List (List ℕ)) (k : ℕ) (lt : k < length lens) (l : AreRings next previous lens pages lists)
    (d : HoldPagesOnce pages lists) where
  -- the nodes of a ring
  abbrev ring : ℕ → List ℕ
  ring j = (pages + j) ∷ list_at lists j

  own_node : (j : ℕ) → ¬ Contains (list_at lists j) (pages + k)
  own_node j h = absurd (let below : pages + k < pages = d.within j (pages + k) h in omega arith)

  -- a node of one ring is in no other
  off_ring : (j q : ℕ) → j ≢ k → Contains (ring k) q → ¬ Contains (ring j) q
  off_ring j q ne h g = elim (contains_cases q (pages + k) (list_at lists k) h) [
    | inl at ↦ elim (contains_cases q (pages + j) (list_at lists j) g) [
      | inl own ↦ ne (omega arith)
      | inr in' ↦ own_node j (rw at at in')
    ]
    | inr in'' ↦ elim (contains_cases q (pages + j) (list_at lists j) g) [
      | inl own ↦ (let below : q < pages = d.within k q in'' in absurd (omega arith))
      | inr in' ↦ ne (d.once j k q in' in'')
    ]
  ]

  -- the nodes of a ring are in range
  ring_within : (q : ℕ) → pages + length lens ≡ length next → Contains (ring k) q → q < length next
  ring_within q nodes h = elim (contains_cases q (pages + k) (list_at lists k) h) [
    | inl at ↦ omega arith
    | inr in' ↦ (let below : q < pages = d.within k q in' in omega arith)
  ]

  -- the ring and length of list k change; the others stay
  linked_after : (next' previous' : List ℕ) (list : List ℕ) (len : ℕ) → len ≡ length list
      → IsLinked next' previous' (pages + k) list (pages + k)
      → ((j : ℕ) → j < length lens → j ≢ k → IsLinked next' previous' (pages + j) (list_at lists j) (pages + j))
      → AreRings next' previous' (set lens k len) pages (set lists k list)
  linked_after next' previous' list len is here others =
      let lt' : k < length lists = (let e = l.as_many in omega arith) in
      record {
        as_many = length-set lists k list ∙ l.as_many ∙ sym (length-set lens k len);
        linked = λ j lj. elim (cases_eq j k) [
          | inl js ↦ rw (js, list_at-set_same lists k list lt') here
          | inr ne ↦ rw (list_at-set_other lists k list j ne) (others j (let e = length-set lens k len in omega arith) ne)
        ];
        counted = λ j lj. elim (cases_eq j k) [
          | inl js ↦ rw (js, list_at-set_same lists k list lt', get_or-set_same lens k len 0 lt) is
          | inr ne ↦ rw (list_at-set_other lists k list j ne, get_or-set_other lens k j len 0 ne) (l.counted j (let e = length-set lens k len in omega arith))
        ];
      }

  module _ (nodes : pages + length lens ≡ length next) (backed : length previous ≡ length next) where
    -- the node after the list's own node
    pub first_within : get_or next (pages + k) 0 < length next
    first_within = ring_within _ nodes (first_in next previous _ _ _ (l.linked k lt))

    pub push_linked : (p first len : ℕ) → p < pages → ((j : ℕ) → ¬ Contains (list_at lists j) p) → get_or next (pages + k) 0 ≡ first → len ≡ get_or lens k 0 + 1
        → AreRings (set (set next (pages + k) p) p first) (set (set previous p (pages + k)) first p) (set lens k len) pages (set lists k (p ∷ list_at lists k))
    push_linked p first len in_p out is counts =
        let in_first : Contains (ring k) first = rw (sym is) (first_in next previous _ _ _ (l.linked k lt)) in
        let off : (j : ℕ) → ¬ Contains (ring j) p = λ j h. elim
        (contains_cases p (pages + j) (list_at lists j) h) [ inl at ↦ absurd (omega arith) | inr in' ↦ out j in' ] in
        let within : first < length next = ring_within first nodes in_first in
        let counted : get_or lens k 0 ≡ length (list_at lists k) = l.counted k lt in
        linked_after _ _ (p ∷ list_at lists k) len (omega arith)
        (linked_after_push next previous (pages + k) p (list_at lists k) first is (omega arith) (omega arith) (omega arith) (omega arith) (omega arith) (out k)
        (own_node k) (d.distinct k) (l.linked k lt))
        (λ j lj ne. linked_kept (set next (pages + k) p) (set previous p (pages + k)) _ _ _ p first first p (off j) (off_ring j first ne in_first)
        (linked_kept next previous _ _ _ (pages + k) p p (pages + k) (off_ring j (pages + k) ne (contains_head (pages + k) (list_at lists k))) (off j)
        (l.linked j lj)))

    pub push_disjoint : (p : ℕ) → p < pages → ((j : ℕ) → ¬ Contains (list_at lists j) p) → HoldPagesOnce pages (set lists k (p ∷ list_at lists k))
    push_disjoint p in_p out =
        disjoint_after lists k (p ∷ list_at lists k) pages (let e = l.as_many in omega arith) d
        (λ q h. elim (contains_cases q p (list_at lists k) h) [ inl at ↦ rw at in_p | inr in' ↦ d.within k q in' ])
        (distinct_cons p (list_at lists k) (out k) (d.distinct k))
        (λ j q ne g h. elim (contains_cases q p (list_at lists k) h) [ inl at ↦ out j (rw at at g) | inr in' ↦ ne (d.once j k q g in') ])

    module _ (p before after : ℕ) (h : Contains (list_at lists k) p) (b : get_or previous p 0 ≡ before) (a : get_or next p 0 ≡ after) where
      on_before : Contains (ring k) before
      on_before = rw (sym b) (previous_in next previous _ _ _ p (l.linked k lt) h)

      on_after : Contains (ring k) after
      on_after = rw (sym a) (next_in next previous _ _ _ p (l.linked k lt) h)

      pub before_within : before < length next
      before_within = ring_within before nodes on_before

      pub after_within : after < length next
      after_within = ring_within after nodes on_after

      pub unlink_linked : (len : ℕ) → len ≡ get_or lens k 0 - 1
          → AreRings (set next before after) (set previous after before) (set lens k len) pages (set lists k (without_number p (list_at lists k)))
      unlink_linked len counts =
          let counted : get_or lens k 0 ≡ length (list_at lists k) = l.counted k lt in
          let shorter : length (without_number p (list_at lists k)) + 1 ≡ length (list_at lists k) = length-without p (list_at lists k) (d.distinct k) h in
          linked_after _ _ (without_number p (list_at lists k)) len (omega arith)
          (linked_after_unlink next previous (pages + k) p (list_at lists k) (pages + k) before after b a before_within (let w = after_within in omega arith)
          (own_node k) (own_node k) (d.distinct k) h (l.linked k lt))
          (λ j lj ne. linked_kept next previous _ _ _ before after after before (off_ring j before ne on_before) (off_ring j after ne on_after) (l.linked j lj))

      pub unlink_disjoint : HoldPagesOnce pages (set lists k (without_number p (list_at lists k)))
      unlink_disjoint =
          disjoint_after lists k (without_number p (list_at lists k)) pages (let e = l.as_many in omega arith) d
          (λ q g. d.within k q (contains_without p q (list_at lists k) g).1)
          (distinct_without p (list_at lists k) (d.distinct k))
          (λ j q ne g in'. ne (d.once j k q g (contains_without p q (list_at lists k) in').1))

-- all lists, read off their chains
pub length-chains : (next : List ℕ) (node : ℕ) (lens : List ℕ) → length (chains next node lens) ≡ length lens
length-chains next node [] = refl
length-chains next node (len ∷ lens) = ap suc (length-chains next (node + 1) lens)

pub list_at-chains : (next : List ℕ) (node : ℕ) (lens : List ℕ) (k : ℕ) → k < length lens
    → list_at (chains next node lens) k ≡ chain next (get_or lens k 0) (get_or next (node + k) 0)
list_at-chains next node [] k lt = absurd (omega arith)
list_at-chains next node (len ∷ lens) zero lt = (let e : node ≡ node + 0 = omega arith in ap (λ n. chain next len (get_or next n 0)) e)
list_at-chains next node (len ∷ lens) (suc k) lt =
    list_at-chains next (node + 1) lens k (omega arith)
    ∙ (let e : node + 1 + k ≡ node + suc k = omega arith in ap (λ n. chain next (get_or lens k 0) (get_or next n 0)) e)

pub chains_are : (next previous lens : List ℕ) (pages : ℕ) (lists : List (List ℕ)) → AreRings next previous lens pages lists → chains next pages lens ≡ lists
chains_are next previous lens pages lists l =
    same_lists _ _ (length-chains next pages lens ∙ sym l.as_many) (λ k e lt.
    let lt' : k < length lens = (let n = length-chains next pages lens in omega arith) in
    let in' : k < length lists = (let n = l.as_many in omega arith) in
    get_or_default (chains next pages lens) k e [] lt
    ∙ list_at-chains next pages lens k lt'
    ∙ ap (λ n. chain next n (get_or next (pages + k) 0)) (l.counted k lt')
    ∙ linked_chain next previous (pages + k) (list_at lists k) (pages + k) (l.linked k lt')
    ∙ get_or_default lists k [] e in')
