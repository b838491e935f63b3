-- For `push` and `unlink`, in which a page list is a ring of nodes linked both ways: the list that the links give; the links of a node of the ring lead to
-- nodes of the ring; and one ring after a write to other nodes, after a node joins it, and after one leaves it.
use Rattle.std.proofs.Common.{◌≡◌, ◌≢◌, ℕ, ◌<◌, List, [], ◌∷◌, length, get_or, set, arith, refl, sym, ◌∙◌, ap, inl, inr}
use Rattle.std.specs.Prelude.{nat_eq}
use Rattle.std.specs.List.{Contains, IsDistinct}
use Rattle.std.proofs.lemmas.Bool.{cases_eq}
use Rattle.std.proofs.lemmas.List.{get_or-set_same, get_or-set_other, length-set}
use Rattle.cf_base.specs.Lists.{without_number}
use Rattle.cf_base.proofs.Members.{contains_cases, contains_head, contains_nil, contains_tail, distinct_head, distinct_tail, without_first, without_other}
use Rattle.class_lists.specs.Layout.{chain, IsLinked}

module _ (next previous : List ℕ) where
  -- the list is found by following `next`
  pub linked_chain : (start : ℕ) (xs : List ℕ) (end : ℕ) → IsLinked next previous start xs end → chain next (length xs) (get_or next start 0) ≡ xs
  linked_chain start [] end l = refl
  linked_chain start (x ∷ xs) end l = rw (l.0) (ap (λ ys. x ∷ ys) (linked_chain x xs end l.2))

  -- the node after the start is the end or in the list
  pub first_in : (start : ℕ) (xs : List ℕ) (end : ℕ) → IsLinked next previous start xs end → Contains (end ∷ xs) (get_or next start 0)
  first_in start [] end l = rw (l.0) (contains_head end [])
  first_in start (x ∷ xs) end l = rw (l.0) (contains_tail x end (x ∷ xs) (contains_head x xs))

  pub next_in : (start : ℕ) (xs : List ℕ) (end p : ℕ) → IsLinked next previous start xs end → Contains xs p → Contains (end ∷ xs) (get_or next p 0)
  next_in start [] end p l h = absurd (contains_nil p h)
  next_in start (x ∷ xs) end p l h =
      let later : Contains (end ∷ xs) (get_or next p 0) → Contains (end ∷ x ∷ xs) (get_or next p 0) = λ g. elim (contains_cases (get_or next p 0) end xs g) [
        | inl at ↦ rw at (contains_head end (x ∷ xs))
        | inr in' ↦ contains_tail _ end (x ∷ xs) (contains_tail _ x xs in')
      ] in
      elim (contains_cases p x xs h) [
        | inl at ↦ later (rw at (first_in x xs end l.2))
        | inr in' ↦ later (next_in x xs end p l.2 in')
      ]

  pub previous_in : (start : ℕ) (xs : List ℕ) (end p : ℕ) → IsLinked next previous start xs end → Contains xs p → Contains (start ∷ xs) (get_or previous p 0)
  previous_in start [] end p l h = absurd (contains_nil p h)
  previous_in start (x ∷ xs) end p l h = elim (contains_cases p x xs h) [
    | inl at ↦ rw (at, l.1) (contains_head start (x ∷ xs))
    | inr in' ↦ contains_tail _ start (x ∷ xs) (previous_in x xs end p l.2 in')
  ]

  -- writes to nodes outside of the ring keep it
  pub linked_kept : (start : ℕ) (xs : List ℕ) (end q v r w : ℕ) → ¬ Contains (start ∷ xs) q → ¬ Contains (end ∷ xs) r
      → IsLinked next previous start xs end → IsLinked (set next q v) (set previous r w) start xs end
  linked_kept start [] end q v r w off back l = (
    get_or-set_other next q start v 0 (λ e. off (rw e (contains_head q []))) ∙ l.0,
    get_or-set_other previous r end w 0 (λ e. back (rw e (contains_head r []))) ∙ l.1,
  )
  linked_kept start (x ∷ xs) end q v r w off back l = (
    get_or-set_other next q start v 0 (λ e. off (rw e (contains_head q (x ∷ xs)))) ∙ l.0,
    get_or-set_other previous r x w 0 (λ e. back (contains_tail r end (x ∷ xs) (rw e (contains_head r xs)))) ∙ l.1,
    linked_kept x xs end q v r w (λ h. off (contains_tail q start (x ∷ xs) h))
        (λ h. elim (contains_cases r end xs h) [
          | inl at ↦ back (rw at (contains_head end (x ∷ xs)))
          | inr in' ↦ back (contains_tail r end (x ∷ xs) (contains_tail r x xs in'))
        ]) l.2,
  )

  -- unlinking node p, if it is the first of the list
  pub passed : (start p : ℕ) (xs : List ℕ) (end after : ℕ) → get_or next p 0 ≡ after → start < length next → after < length previous
      → ¬ Contains xs start → ¬ Contains xs end → IsDistinct nat_eq xs
      → IsLinked next previous start (p ∷ xs) end → IsLinked (set next start after) (set previous after start) start xs end
  passed start p [] end after is lt lt' out out' d l = (
      let e : after ≡ end = sym is ∙ l.2.0 in
      (get_or-set_same next start after 0 lt ∙ e, ap (λ q. get_or (set previous after start) q 0) (sym e) ∙ get_or-set_same previous after start 0 lt'))
  passed start p (x ∷ xs) end after is lt lt' out out' d l = (
      let e : after ≡ x = sym is ∙ l.2.0 in
      let back : ¬ Contains (end ∷ xs) after = λ h. elim (contains_cases after end xs h) [
        | inl at ↦ out' (rw (sym at ∙ e) (contains_head x xs))
        | inr in' ↦ distinct_head x xs d (rw e at in')
      ] in (
        get_or-set_same next start after 0 lt ∙ e,
        ap (λ q. get_or (set previous after start) q 0) (sym e) ∙ get_or-set_same previous after start 0 lt',
        linked_kept x xs end start after after start out back l.2.2,
      ))

  -- unlinking node p, at any position
  pub linked_after_unlink : (start p : ℕ) (xs : List ℕ) (end before after : ℕ) → get_or previous p 0 ≡ before → get_or next p 0 ≡ after → before < length next
      → after < length previous
      → ¬ Contains xs start → ¬ Contains xs end → IsDistinct nat_eq xs → Contains xs p
      → IsLinked next previous start xs end → IsLinked (set next before after) (set previous after before) start (without_number p xs) end
  linked_after_unlink start p [] end before after b a lt lt' out out' d h l = absurd (contains_nil p h)
  linked_after_unlink start p (x ∷ xs) end before after b a lt lt' out out' d h l = elim (cases_eq x p) [
    | inl is ↦ (
        let off : ¬ Contains xs p = rw is at (distinct_head x xs d) in
        let e : without_number p (x ∷ xs) ≡ xs = rw is (without_first p xs off) in
        let s : before ≡ start = sym b ∙ ap (λ q. get_or previous q 0) (sym is) ∙ l.1 in
        rw (e, s) (passed start x xs end after (ap (λ q. get_or next q 0) is ∙ a) (rw s at lt) lt'
        (λ g. out (contains_tail start x xs g)) (λ g. out' (contains_tail end x xs g)) (distinct_tail x xs d) l))
    | inr ne ↦ (
        let rest : Contains xs p = elim (contains_cases p x xs h) [ inl at ↦ absurd (ne (sym at)) | inr in' ↦ in' ] in
        let off : start ≢ before = λ e. out (rw (e ∙ sym b) (previous_in x xs end p l.2 rest)) in
        let back : x ≢ after = λ e. elim (contains_cases _ end xs (next_in x xs end p l.2 rest)) [
          | inl at ↦ out' (rw (sym at ∙ a ∙ sym e) (contains_head x xs))
          | inr in' ↦ distinct_head x xs d (rw (a ∙ sym e) at in')
        ] in
        rw (without_other p x xs ne) (
          get_or-set_other next before start after 0 off ∙ l.0,
          get_or-set_other previous after x before 0 back ∙ l.1,
          linked_after_unlink x p xs end before after b a lt lt' (distinct_head x xs d) (λ g. out' (contains_tail end x xs g)) (distinct_tail x xs d) rest l.2,
        ))
  ]

-- node p becomes the first of the ring
pub linked_after_push : (next previous : List ℕ) (node p : ℕ) (xs : List ℕ) (first : ℕ) → get_or next node 0 ≡ first → node < length next → p < length next
    → p < length previous → first < length previous
    → p ≢ node → ¬ Contains xs p → ¬ Contains xs node → IsDistinct nat_eq xs
    → IsLinked next previous node xs node → IsLinked (set (set next node p) p first) (set (set previous p node) first p) node (p ∷ xs) node
linked_after_push next previous node p [] first is in_node in_p in_p' in_first ne out out' d l =
    let e : first ≡ node = sym is ∙ l.0 in
    let longer : length (set next node p) ≡ length next = length-set next node p in
    let longer' : length (set previous p node) ≡ length previous = length-set previous p node in (
      get_or-set_other (set next node p) p node first 0 (λ s. ne (sym s)) ∙ get_or-set_same next node p 0 in_node,
      get_or-set_other (set previous p node) first p p 0 (λ s. ne (s ∙ e)) ∙ get_or-set_same previous p node 0 in_p',
      (
        get_or-set_same (set next node p) p first 0 (omega arith) ∙ e,
        ap (λ q. get_or (set (set previous p node) first p) q 0) (sym e) ∙ get_or-set_same (set previous p node) first p 0 (omega arith),
      ),
    )
linked_after_push next previous node p (x ∷ xs) first is in_node in_p in_p' in_first ne out out' d l =
    let e : first ≡ x = sym is ∙ l.0 in
    let longer : length (set next node p) ≡ length next = length-set next node p in
    let longer' : length (set previous p node) ≡ length previous = length-set previous p node in
    let off : p ≢ first = λ s. out (rw (s ∙ e) (contains_head x xs)) in
    let back : ¬ Contains (node ∷ xs) p = λ h. elim (contains_cases p node xs h) [ inl at ↦ ne at | inr in' ↦ out (contains_tail p x xs in') ] in
    let back' : ¬ Contains (node ∷ xs) first = λ h. elim (contains_cases first node xs h) [
      | inl at ↦ out' (rw (sym at ∙ e) (contains_head x xs))
      | inr in' ↦ distinct_head x xs d (rw e at in')
    ] in (
      get_or-set_other (set next node p) p node first 0 (λ s. ne (sym s)) ∙ get_or-set_same next node p 0 in_node,
      get_or-set_other (set previous p node) first p p 0 off ∙ get_or-set_same previous p node 0 in_p',
      (
        get_or-set_same (set next node p) p first 0 (omega arith) ∙ e,
        ap (λ q. get_or (set (set previous p node) first p) q 0) (sym e) ∙ get_or-set_same (set previous p node) first p 0 (omega arith),
        linked_kept (set next node p) (set previous p node) x xs node p first first p out back'
            (linked_kept next previous x xs node node p p node out' back l.2),
      ),
    )
