-- For `OrderSteps`: the order after a slot becomes free (`slot_freed`) lists the free and the partly full pages of the arrangement with one object less,
-- whether the page was full, is now empty, or neither. Its spare numbers stay.
use Rattle.std.proofs.Common.{◌≡◌, ◌≢◌, ℕ, Bool, true, false, ◌+◌, ◌<◌, ◌≤◌, Some, ◌∷◌, arith, refl, sym, ◌∙◌, subst, inl, inr}
use Rattle.std.specs.Prelude.{nat_eq, not, if◌then◌else◌}
use Rattle.std.specs.List.{Contains, IsDistinct, filter}
use Rattle.std.specs.FinMap.{get}
use Rattle.std.proofs.lemmas.Bool.{cases_eq, cases_lt}
use Rattle.cf_base.proofs.Tests.{eq_no, eq_yes}
use Rattle.cf_base.specs.Lists.{without_number}
use Rattle.cf_base.proofs.Members.{contains_cases, contains_head, contains_tail, contains_without, distinct_cons, distinct_without, without_contains}
use Rattle.page_model.specs.Held.{Held, Placed}
use Rattle.page_model.specs.Paging.{IsPaging, Paging, classes, page_of, slots_of}
use Rattle.page_model.specs.Arrangement.{IsSound, class_at, objects_on, count_on}
use Rattle.page_model.specs.Order.{Order, not_full_in, slot_freed, with_not_full}
use Rattle.page_model.proofs.Counting.{on_page}
use Rattle.page_model.proofs.OrderLists.{HasOneMore, IsList, IsPool, ListsPages, bare_page, bare_same, list_changed, list_same, lists_kept, occupied}
use Rattle.page_model.proofs.PageCounts.{within}

-- the order after a slot of class c becomes free on a page with `used` objects
abbrev pub freed_at : Paging → ℕ → Order → ℕ → ℕ → Order
freed_at p used o c page =
    if nat_eq used 1 then record (with_not_full o c (filter (λ other. not (nat_eq other page)) (not_full_in o c))) { pool = page ∷ o.pool }
    else if nat_eq used (slots_of p c) then with_not_full o c (page ∷ not_full_in o c)
    else o

-- the free numbers stay
pub spare_kept : (p : Paging) (m : Held) (o : Order) (c page : ℕ) → (slot_freed p m o c page).spare ≡ o.spare
spare_kept p m o c page = by (nat_eq (objects_on p m c page) 1) (nat_eq (objects_on p m c page) (slots_of p c))
  where
    by : (emptied opened : Bool)
        → (if emptied then record (with_not_full o c (without_number page (not_full_in o c))) { pool = page ∷ o.pool }
        else if opened then with_not_full o c (page ∷ not_full_in o c) else o).spare ≡ o.spare
    by true opened = refl
    by false true = refl
    by false false = refl

module _ (p : Paging) (ok : IsPaging p) (m : Held) (s : IsSound p m) (n : Held) (c page : ℕ) (one : HasOneMore p n m c page) (o : Order)
    (is : ListsPages p m o) where
  used : 0 < objects_on p m c page
  used = (let e = one.more in omega arith)

  object : (q : ℕ) × (y : Placed) × (get m q ≡ Some y) × (page_of p y.place ≡ page) × (class_at p y ≡ c)
  object = on_page p m c page used

  inside : page < p.pages
  inside = subst (λ g. g < p.pages) object.3 (s.slots object.0 object.1 object.2).page

  lt : c < classes p
  lt = subst (λ d. d < classes p) object.4 (s.slots object.0 object.1 object.2).class

  few : objects_on p m c page ≤ slots_of p c
  few = within p ok c lt m s page

  -- the page has no objects of another class
  alone : (d : ℕ) → c ≢ d → objects_on p m d page ≡ 0
  alone d ne = elim (cases_lt 0 (objects_on p m d page)) [
    | inl some ↦ absurd (
        let w = on_page p m d page some in
        ne (sym object.4 ∙ s.one_class object.0 object.1 w.0 w.1 object.2 w.2 (object.3 ∙ sym w.3) ∙ w.4))
    | inr le ↦ omega arith
  ]

  others_are : (d : ℕ) → d < classes p → d ≢ c → IsList p n d (not_full_in o d)
  others_are d within ne = list_same p n m d (not_full_in o d) (λ g. sym (one.others d g (inr (λ e. ne (sym e))))) (is.not_full d within)

  bare_now : (g : ℕ) → page ≢ g → count_on p m g ≡ 0 → count_on p n g ≡ 0
  bare_now g ne bare = bare_same p n m g (λ d. sym (one.others d g (inl ne))) bare

  bare_then : (g : ℕ) → page ≢ g → count_on p n g ≡ 0 → count_on p m g ≡ 0
  bare_then g ne bare = bare_same p m n g (λ d. one.others d g (inl ne)) bare

  stood : 0 < count_on p m page
  stood = occupied p m c page used

  not_free : ¬ Contains o.pool page
  not_free there = (let bare = ((is.pool page).0 there).1 in let st = stood in omega arith)

  -- the page is empty now
  module _ (last : objects_on p m c page ≡ 1) where
    empty : count_on p n page ≡ 0
    empty = bare_page p n page (λ d. elim (cases_eq c d) [
      | inl e ↦ subst (λ j. objects_on p n j page ≡ 0) e (let f = one.more in omega arith)
      | inr ne ↦ sym (one.others d page (inr ne)) ∙ alone d ne
    ])

    pool_more : IsPool p n (page ∷ o.pool)
    pool_more g = elim (cases_eq page g) [
      | inl e ↦ (
        λ _. (subst (λ j. j < p.pages) e inside, subst (λ j. count_on p n j ≡ 0) e empty),
        λ _. subst (λ q. Contains (page ∷ o.pool) q) e (contains_head page o.pool),
      )
      | inr ne ↦ (
        λ there. elim (contains_cases g page o.pool there) [
          | inl e ↦ absurd (ne (sym e))
          | inr later ↦ (let (l, bare) = (is.pool g).0 later in (l, bare_now g ne bare))
        ],
        λ (l, bare). contains_tail g page o.pool ((is.pool g).1 (l, bare_then g ne bare)),
      )
    ]

    emptied_list : IsList p n c (without_number page (not_full_in o c))
    emptied_list g = elim (cases_eq page g) [
      | inl e ↦ (
        λ there. absurd ((contains_without page g (not_full_in o c) there).0 (sym e)),
        λ (l, (a, b)). absurd (let f = subst (λ j. objects_on p m c page ≡ objects_on p n c j + 1) e one.more in omega arith),
      )
      | inr ne ↦ (
          let same = one.others c g (inl ne) in (
            λ there. (
                let (l, (a, b)) = (is.not_full c lt g).0 (contains_without page g (not_full_in o c) there).1 in
                (l, (omega arith, omega arith))),
            λ (l, (a, b)). without_contains page g (not_full_in o c) (λ e. ne (sym e)) ((is.not_full c lt g).1 (l, (omega arith, omega arith))),
          ))
    ]

    listed_emptied : ListsPages p n (record (with_not_full o c (without_number page (not_full_in o c))) { pool = page ∷ o.pool })
    listed_emptied = list_changed p n o c is.as_many (page ∷ o.pool) pool_more (distinct_cons page o.pool not_free is.pool_once) others_are is.not_full_once lt
        (without_number page (not_full_in o c)) emptied_list (distinct_without page (not_full_in o c) (is.not_full_once c lt))

  -- the page still has objects
  module _ (more : objects_on p m c page ≢ 1) where
    pool_stays : IsPool p n o.pool
    pool_stays g = elim (cases_eq page g) [
      | inl e ↦ (
        λ there. absurd (not_free (subst (λ q. Contains o.pool q) (sym e) there)),
        λ (l, bare). absurd (
            let f = one.more in
            let u = used in
            let st = subst (λ j. 0 < count_on p n j) e (occupied p n c page (omega arith)) in
            omega arith),
      )
      | inr ne ↦ (
        λ there. (let (l, bare) = (is.pool g).0 there in (l, bare_now g ne bare)),
        λ (l, bare). (is.pool g).1 (l, bare_then g ne bare),
      )
    ]

    part_now : (g : ℕ) → page ≡ g → (0 < objects_on p n c g) × (objects_on p n c g < slots_of p c)
    part_now g e =
        let f = subst (λ j. objects_on p m c page ≡ objects_on p n c j + 1) e one.more in
        let u = used in let le = few in
        (omega arith, omega arith)

    opened_list : objects_on p m c page ≡ slots_of p c → IsList p n c (page ∷ not_full_in o c)
    opened_list full g = elim (cases_eq page g) [
      | inl e ↦ (
        λ _. (subst (λ j. j < p.pages) e inside, part_now g e),
        λ _. subst (λ q. Contains (page ∷ not_full_in o c) q) e (contains_head page (not_full_in o c)),
      )
      | inr ne ↦ (
          let same = one.others c g (inl ne) in (
            λ there. elim (contains_cases g page (not_full_in o c) there) [
              | inl e ↦ absurd (ne (sym e))
              | inr later ↦ (let (l, (a, b)) = (is.not_full c lt g).0 later in (l, (omega arith, omega arith)))
            ],
            λ (l, (a, b)). contains_tail g page (not_full_in o c) ((is.not_full c lt g).1 (l, (omega arith, omega arith))),
          ))
    ]

    opened_once : objects_on p m c page ≡ slots_of p c → IsDistinct nat_eq (page ∷ not_full_in o c)
    opened_once full = distinct_cons page (not_full_in o c) (λ there. (let (l, (a, b)) = (is.not_full c lt page).0 there in omega arith)) (is.not_full_once c lt)

    still_list : objects_on p m c page ≢ slots_of p c → IsList p n c (not_full_in o c)
    still_list part g = elim (cases_eq page g) [
      | inl e ↦ (
        λ _. (subst (λ j. j < p.pages) e inside, part_now g e),
        λ _. (let u = used in let le = few in subst (λ q. Contains (not_full_in o c) q) e ((is.not_full c lt page).1 (inside, (omega arith, omega arith)))),
      )
      | inr ne ↦ (
          let same = one.others c g (inl ne) in (
            λ there. (let (l, (a, b)) = (is.not_full c lt g).0 there in (l, (omega arith, omega arith))),
            λ (l, (a, b)). (is.not_full c lt g).1 (l, (omega arith, omega arith)),
          ))
    ]

    abbrev left_by : Bool → Order
    left_by opened = if opened then with_not_full o c (page ∷ not_full_in o c) else o

    listed_more : ListsPages p n (left_by (nat_eq (objects_on p m c page) (slots_of p c)))
    listed_more = elim (cases_eq (objects_on p m c page) (slots_of p c)) [
      | inl full ↦ subst (λ b. ListsPages p n (left_by b)) (sym (eq_yes _ _ full))
          (list_changed p n o c is.as_many o.pool pool_stays is.pool_once others_are is.not_full_once lt (page ∷ not_full_in o c) (opened_list full)
          (opened_once full))
      | inr part ↦ subst (λ b. ListsPages p n (left_by b)) (sym (eq_no _ _ part))
          (lists_kept p n o c is.as_many o.pool pool_stays is.pool_once others_are is.not_full_once (still_list part))
    ]

  abbrev freed_by : Bool → Order
  freed_by emptied = if emptied then record (with_not_full o c (without_number page (not_full_in o c))) { pool = page ∷ o.pool }
      else if nat_eq (objects_on p m c page) (slots_of p c) then with_not_full o c (page ∷ not_full_in o c) else o

  pub listed_freed : ListsPages p n (slot_freed p m o c page)
  listed_freed = elim (cases_eq (objects_on p m c page) 1) [
    | inl last ↦ subst (λ b. ListsPages p n (freed_by b)) (sym (eq_yes _ _ last)) (listed_emptied last)
    | inr more ↦ subst (λ b. ListsPages p n (freed_by b)) (sym (eq_no _ _ more)) (listed_more more)
  ]
