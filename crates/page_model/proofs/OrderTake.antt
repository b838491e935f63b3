-- For `NextSlots`: the order after a slot is taken, on the first partly full page or on the first free one, lists the free and the partly full pages of the
-- arrangement with one object more.
use Rattle.std.proofs.Common.{◌≡◌, ◌≢◌, ℕ, Bool, ◌+◌, ◌<◌, List, [], ◌∷◌, arith, sym, subst, inl, inr}
use Rattle.std.specs.Prelude.{nat_eq, if◌then◌else◌}
use Rattle.std.specs.List.{Contains, IsDistinct}
use Rattle.std.proofs.lemmas.Bool.{cases_eq}
use Rattle.cf_base.proofs.Tests.{eq_no, eq_yes}
use Rattle.cf_base.proofs.Members.{contains_cases, contains_head, contains_nil, contains_tail, distinct_head, distinct_one, distinct_tail}
use Rattle.page_model.specs.Held.{Held}
use Rattle.page_model.specs.Paging.{Paging, classes, slots_of}
use Rattle.page_model.specs.Arrangement.{objects_on, count_on}
use Rattle.page_model.specs.Order.{Order, not_full_in, with_not_full}
use Rattle.page_model.proofs.OrderLists.{HasOneMore, IsList, IsPool, ListsPages, bare_class, bare_same, list_changed, list_same, lists_kept, occupied}

module _ (p : Paging) (n m : Held) (c page : ℕ) (one : HasOneMore p n m c page) (lt : c < classes p) (o : Order) (is : ListsPages p n o) where
  -- the lists of the other classes stay
  others_are : (d : ℕ) → d < classes p → d ≢ c → IsList p m d (not_full_in o d)
  others_are d inside ne = list_same p m n d (not_full_in o d) (λ g. one.others d g (inr (λ e. ne (sym e)))) (is.not_full d inside)

  -- each other page is as free as before
  bare_now : (g : ℕ) → page ≢ g → count_on p n g ≡ 0 → count_on p m g ≡ 0
  bare_now g ne bare = bare_same p m n g (λ d. one.others d g (inl ne)) bare

  bare_then : (g : ℕ) → page ≢ g → count_on p m g ≡ 0 → count_on p n g ≡ 0
  bare_then g ne bare = bare_same p n m g (λ d. sym (one.others d g (inl ne))) bare

  stands_now : 0 < count_on p m page
  stands_now = (let e = one.more in occupied p m c page (omega arith))

  -- the slot is on the first partly full page
  module _ (pages : List ℕ) (front : not_full_in o c ≡ page ∷ pages) where
    listed : Contains (not_full_in o c) page
    listed = subst (λ xs. Contains xs page) (sym front) (contains_head page pages)

    within : page < p.pages
    within = ((is.not_full c lt page).0 listed).0

    some : 0 < objects_on p n c page
    some = (((is.not_full c lt page).0 listed).1).0

    stood : 0 < count_on p n page
    stood = occupied p n c page some

    pages_once : IsDistinct nat_eq (page ∷ pages)
    pages_once = subst (IsDistinct nat_eq) front (is.not_full_once c lt)

    pool_stays : IsPool p m o.pool
    pool_stays g = elim (cases_eq page g) [
      | inl e ↦ (
        λ there. absurd (
            let bare = ((is.pool g).0 there).1 in
            let st = subst (λ j. 0 < count_on p n j) e stood in
            omega arith),
        λ (inside, bare). absurd (let st = subst (λ j. 0 < count_on p m j) e stands_now in omega arith),
      )
      | inr ne ↦ (
        λ there. (let (inside, bare) = (is.pool g).0 there in (inside, bare_now g ne bare)),
        λ (inside, bare). (is.pool g).1 (inside, bare_then g ne bare),
      )
    ]

    -- a full page leaves the list
    filled_list : objects_on p n c page + 1 ≡ slots_of p c → IsList p m c pages
    filled_list full g = elim (cases_eq page g) [
      | inl e ↦ (
        λ there. absurd (distinct_head page pages pages_once (subst (λ q. Contains pages q) (sym e) there)),
        λ (l, (a, b)). absurd (let f = subst (λ j. objects_on p m c j ≡ objects_on p n c page + 1) e one.more in omega arith),
      )
      | inr ne ↦ (
          let same = one.others c g (inl ne) in (
            λ there. (
                let (l, (a, b)) = (is.not_full c lt g).0 (subst (λ xs. Contains xs g) (sym front) (contains_tail g page pages there)) in
                (l, (omega arith, omega arith))),
            λ (l, (a, b)). (
                let there = (is.not_full c lt g).1 (l, (omega arith, omega arith)) in
                elim (contains_cases g page pages (subst (λ xs. Contains xs g) front there)) [
                  | inl e ↦ absurd (ne (sym e))
                  | inr later ↦ later
                ]),
          ))
    ]

    open_list : objects_on p n c page + 1 ≢ slots_of p c → IsList p m c (not_full_in o c)
    open_list part g = elim (cases_eq page g) [
      | inl e ↦ (
          let f = subst (λ j. objects_on p m c j ≡ objects_on p n c page + 1) e one.more in
          let less = (((is.not_full c lt page).0 listed).1).1 in (
            λ there. (subst (λ j. j < p.pages) e within, (omega arith, omega arith)),
            λ _. subst (λ q. Contains (not_full_in o c) q) e listed,
          ))
      | inr ne ↦ (
          let same = one.others c g (inl ne) in (
            λ there. (let (l, (a, b)) = (is.not_full c lt g).0 there in (l, (omega arith, omega arith))),
            λ (l, (a, b)). (is.not_full c lt g).1 (l, (omega arith, omega arith)),
          ))
    ]

    abbrev left_open : Bool → Order
    left_open full = if full then with_not_full o c pages else o

    pub listed_open : ListsPages p m (if nat_eq (objects_on p n c page + 1) (slots_of p c) then with_not_full o c pages else o)
    listed_open = elim (cases_eq (objects_on p n c page + 1) (slots_of p c)) [
      | inl full ↦ subst (λ b. ListsPages p m (left_open b)) (sym (eq_yes _ _ full))
          (list_changed p m o c is.as_many o.pool pool_stays is.pool_once others_are is.not_full_once lt pages (filled_list full)
          (distinct_tail page pages pages_once))
      | inr part ↦ subst (λ b. ListsPages p m (left_open b)) (sym (eq_no _ _ part))
          (lists_kept p m o c is.as_many o.pool pool_stays is.pool_once others_are is.not_full_once (open_list part))
    ]

  -- the slot is on the first free page
  module _ (pages : List ℕ) (none : not_full_in o c ≡ []) (front : o.pool ≡ page ∷ pages) (slots : 0 < slots_of p c) where
    first : Contains o.pool page
    first = subst (λ xs. Contains xs page) (sym front) (contains_head page pages)

    inside_first : page < p.pages
    inside_first = ((is.pool page).0 first).0

    one_here : objects_on p m c page ≡ 1
    one_here = (let z = bare_class p n page ((is.pool page).0 first).1 c in let e = one.more in omega arith)

    pool_once : IsDistinct nat_eq (page ∷ pages)
    pool_once = subst (IsDistinct nat_eq) front is.pool_once

    pool_rest : IsPool p m pages
    pool_rest g = elim (cases_eq page g) [
      | inl e ↦ (
        λ there. absurd (distinct_head page pages pool_once (subst (λ q. Contains pages q) (sym e) there)),
        λ (inside, bare). absurd (let st = subst (λ j. 0 < count_on p m j) e stands_now in omega arith),
      )
      | inr ne ↦ (
        λ there. (
            let (inside, bare) = (is.pool g).0 (subst (λ xs. Contains xs g) (sym front) (contains_tail g page pages there)) in
            (inside, bare_now g ne bare)),
        λ (inside, bare). (
            let there = (is.pool g).1 (inside, bare_then g ne bare) in
            elim (contains_cases g page pages (subst (λ xs. Contains xs g) front there)) [
              | inl e ↦ absurd (ne (sym e))
              | inr later ↦ later
            ]),
      )
    ]

    -- no other page of the class is partly full
    not_elsewhere : (g : ℕ) → page ≢ g → g < p.pages → 0 < objects_on p m c g → objects_on p m c g < slots_of p c → ⊥
    not_elsewhere g ne l a b =
        let same = one.others c g (inl ne) in
        let there = (is.not_full c lt g).1 (l, (omega arith, omega arith)) in
        contains_nil g (subst (λ xs. Contains xs g) none there)

    full_list : slots_of p c ≡ 1 → IsList p m c (not_full_in o c)
    full_list single g = (
      λ there. absurd (contains_nil g (subst (λ xs. Contains xs g) none there)),
      λ (l, (a, b)). elim (cases_eq page g) [
        | inl e ↦ absurd (let f = subst (λ j. objects_on p m c j ≡ 1) e one_here in omega arith)
        | inr ne ↦ absurd (not_elsewhere g ne l a b)
      ],
    )

    first_list : slots_of p c ≢ 1 → IsList p m c (page ∷ [])
    first_list several g = (
      λ there. elim (contains_cases g page [] there) [
        | inl e ↦ (let f = subst (λ j. objects_on p m c j ≡ 1) (sym e) one_here in (subst (λ j. j < p.pages) (sym e) inside_first, (omega arith, omega arith)))
        | inr later ↦ absurd (contains_nil g later)
      ],
      λ (l, (a, b)). elim (cases_eq page g) [
        | inl e ↦ subst (λ q. Contains (page ∷ []) q) e (contains_head page [])
        | inr ne ↦ absurd (not_elsewhere g ne l a b)
      ],
    )

    abbrev left_free : Bool → Order
    left_free single = record (if single then o else with_not_full o c (page ∷ [])) { pool = pages }

    pub listed_free : ListsPages p m (record (if nat_eq (slots_of p c) 1 then o else with_not_full o c (page ∷ [])) { pool = pages })
    listed_free = elim (cases_eq (slots_of p c) 1) [
      | inl single ↦ subst (λ b. ListsPages p m (left_free b)) (sym (eq_yes _ _ single))
          (lists_kept p m o c is.as_many pages pool_rest (distinct_tail page pages pool_once) others_are is.not_full_once (full_list single))
      | inr several ↦ subst (λ b. ListsPages p m (left_free b)) (sym (eq_no _ _ several))
          (list_changed p m o c is.as_many pages pool_rest (distinct_tail page pages pool_once) others_are is.not_full_once lt (page ∷ []) (first_list several)
          (distinct_one page))
    ]
