-- For the calls of `ClassLists`: the lists that its fields represent, with the class that a list's number determines; what each call finds in these lists, and
-- what it does to them.
use Rattle.std.proofs.Common.{◌≡◌, ◌≢◌, ℕ, zero, suc, ◌+◌, ◌-◌, ◌*◌, ◌/◌, ◌%◌, ◌<◌, ◌≤◌, List, [], ◌∷◌, Some, None, length, get_or, set, replicate, arith, refl}
use Rattle.std.proofs.Common.{sym, ◌∙◌, ap, subst, inl, inr, zero-add}
use Rattle.std.specs.Prelude.{◌^◌, slice_get}
use Rattle.std.specs.List.{Contains, range_with_len}
use Rattle.std.proofs.lemmas.Bool.{cases_eq, cases_lt}
use Rattle.std.proofs.lemmas.List.{get_or_read, get_or-set_same, get_or-set_other, length-set, get_or_past, length-replicate, get_or-replicate}
use Rattle.std.proofs.lemmas.List.FromFn.{length-range_with_len, get_or-range_with_len}
use Rattle.cf_base.specs.Lists.{without_number}
use Rattle.cf_base.proofs.Members.{contains_cases, contains_head, contains_nil, contains_without, distinct_cons, distinct_nil, length-without, length_within}
use Rattle.class_lists.specs.declared.Which.{Which}
use Rattle.class_lists.specs.declared.Which.TheVariants.{Full, NotFull}
use Rattle.class_lists.specs.PageLists.{PageLists, AreApart, AreEmpty, IsUnlisted, KeepsOthers, empty_lists, list_number, pages_in, with_list}
use Rattle.class_lists.specs.Layout.{chains, lists_of, list_at, IsLinked, AreRings, HoldPagesOnce, IsValid}
use Rattle.class_lists.proofs.Rings.{length-chains, chains_are, first_within, push_linked, push_disjoint, before_within, after_within, unlink_linked}
use Rattle.class_lists.proofs.Rings.{unlink_disjoint}

-- a list's number determines its class, and which of the class's two lists it is
pub same_list : (c d : ℕ) (w u : Which) → list_number c w ≡ list_number d u → (c ≡ d) × (w ≡ u)
same_list c d Full Full e = (omega arith, refl)
same_list c d Full NotFull e = absurd (omega arith)
same_list c d NotFull Full e = absurd (omega arith)
same_list c d NotFull NotFull e = (omega arith, refl)

-- if there are n lists, two for each class, the numbers of those of class c are below n
pub class_below : (c : ℕ) (w : Which) (n : ℕ) → c < n / 2 → list_number c w < n
class_below c Full n lt = omega arith
class_below c NotFull n lt = omega arith

class_of_number : (c : ℕ) (w : Which) (n : ℕ) → 2 * (n / 2) ≡ n → list_number c w < n → c < n / 2
class_of_number c Full n e lt = omega arith
class_of_number c NotFull n e lt = omega arith

-- the lists of a value after one of them is replaced
module _ (v : PageLists) (c : ℕ) (w : Which) (list : List ℕ) where
  pub pages_in-with_list : list_number c w < length v.lists → pages_in (with_list v c w list) c w ≡ list
  pages_in-with_list lt = get_or-set_same v.lists (list_number c w) list [] lt

  pub others_kept : KeepsOthers v (with_list v c w list) c w
  others_kept d u other = get_or-set_other v.lists (list_number c w) (list_number d u) list [] (λ e.
      let is = same_list d c u w e in
      elim other [ inl ne ↦ ne is.0 | inr ne ↦ ne is.1 ])

-- a page that leaves its list is in no list
pub unlisted_then : (v : PageLists) (c : ℕ) (w : Which) (p : ℕ) → list_number c w < length v.lists → AreApart v → Contains (pages_in v c w) p
    → IsUnlisted (with_list v c w (without_number p (pages_in v c w))) p
unlisted_then v c w p lt a h d u g = elim (cases_eq (list_number d u) (list_number c w)) [
  | inl is ↦ (
      let there : Contains (without_number p (pages_in v c w)) p =
      rw (is, get_or-set_same v.lists (list_number c w) (without_number p (pages_in v c w)) [] lt) at g in
      (contains_without p p (pages_in v c w) there).0 refl)
  | inr ne ↦ (
      let there : Contains (pages_in v d u) p = rw (get_or-set_other v.lists (list_number c w) (list_number d u) (without_number p (pages_in v c w)) [] ne) at g
      in
      let is = a.once d c u w p there h in
      ne (ap (λ e. list_number e u) is.0 ∙ ap (list_number c) is.1))
]

module _ (next previous lens : List ℕ) (pages : ℕ) (s : IsValid next previous lens pages) where
  abbrev all : List (List ℕ)
  all = chains next pages lens

  -- no page is in two lists
  pub lists_apart : AreApart (lists_of next lens pages)
  lists_apart = record {
    page = λ c w p h. s.disjoint.within (list_number c w) p h;
    class = λ c w p h. elim (cases_lt (list_number c w) (length lens)) [
      | inl lt ↦ class_of_number c w (length lens) s.paired lt
      | inr ge ↦ absurd (contains_nil p (rw (get_or_past all (list_number c w) [] (let e = length-chains next pages lens in omega arith)) at h))
    ];
    distinct = λ c w. s.disjoint.distinct (list_number c w);
    once = λ c d w u p h g. same_list c d w u (s.disjoint.once (list_number c w) (list_number d u) p h g);
  }

  -- links and lengths of the old sizes that represent valid lists meet the invariant
  pub sound_after : (next' previous' lens' : List ℕ) (lists : List (List ℕ)) → length next' ≡ length next → length previous' ≡ length previous
      → length lens' ≡ length lens
      → AreRings next' previous' lens' pages lists → HoldPagesOnce pages lists → IsValid next' previous' lens' pages
  sound_after next' previous' lens' lists n p m l d =
      let e : lists ≡ chains next' pages lens' = sym (chains_are next' previous' lens' pages lists l) in
      let nodes = s.nodes in
      let backed = s.backed in
      record {
        nodes = omega arith;
        backed = omega arith;
        few = rw n s.few;
        paired = rw m s.paired;
        linked = subst (λ ls. AreRings next' previous' lens' pages ls) e l;
        disjoint = subst (λ ls. HoldPagesOnce pages ls) e d;
      }

-- the fields after a call that replaces one list
pub record Changes (next previous lens : List ℕ) (pages : ℕ) (v : PageLists) (c : ℕ) (w : Which) (asked : List ℕ) : Type 0 where
  pub sound : IsValid next previous lens pages
  pub lists : lists_of next lens pages ≡ with_list v c w asked
  pub list : pages_in (lists_of next lens pages) c w ≡ asked
  pub others : KeepsOthers v (lists_of next lens pages) c w
  pub kept : AreApart (lists_of next lens pages)

module _ (next previous lens : List ℕ) (pages : ℕ) (s : IsValid next previous lens pages) (v : PageLists) (seen : lists_of next lens pages ≡ v) where
  pub apart : AreApart v
  apart = subst AreApart seen (lists_apart next previous lens pages s)

  pub pages_are : v.pages ≡ pages
  pages_are = ap (λ (u : PageLists). u.pages) (sym seen)

  pages_at : (c : ℕ) (w : Which) → pages_in v c w ≡ list_at (chains next pages lens) (list_number c w)
  pages_at c w = ap (λ (u : PageLists). pages_in u c w) (sym seen)

  pub list_within : (c : ℕ) (w : Which) → c < v.classes → list_number c w < length lens
  list_within c w lt = class_below c w (length lens) (rw (ap (λ (u : PageLists). u.classes) (sym seen)) at lt)

  -- a list by its number k
  module _ (c : ℕ) (w : Which) (k : ℕ) (at : k ≡ list_number c w) (lt : c < v.classes) where
    within : k < length lens
    within = rw at (list_within c w lt)

    list_k : pages_in v c w ≡ list_at (chains next pages lens) k
    list_k = pages_at c w ∙ ap (λ q. list_at (chains next pages lens) q) (sym at)

    follower : (first : ℕ) → first ≡ get_or next (pages + k) first → first ≡ get_or next (pages + k) 0
    follower first read = get_or_read next (pages + k) first (let e = s.nodes in let f = within in omega arith) read 0

    -- the node after a list's own node is its head, if it is a page
    pub front_some : (first : ℕ) → first ≡ get_or next (pages + k) first → first < pages → Some first ≡ slice_get (pages_in v c w) 0
    front_some first read below = rw list_k (go (list_at (chains next pages lens) k) (s.linked.linked k within))
      where
        go : (xs : List ℕ) → IsLinked next previous (pages + k) xs (pages + k) → Some first ≡ slice_get xs 0
        go [] l = absurd (let e : first ≡ pages + k = follower first read ∙ l.0 in omega arith)
        go (x ∷ xs) l = ap Some (follower first read ∙ l.0)

    -- and if it is no page, the list is empty
    pub front_none : (first : ℕ) → first ≡ get_or next (pages + k) first → pages ≤ first → pages_in v c w ≡ []
    front_none first read above = rw list_k (go (list_at (chains next pages lens) k) (s.disjoint.within k) (s.linked.linked k within))
      where
        go : (xs : List ℕ) → ((p : ℕ) → Contains xs p → p < pages) → IsLinked next previous (pages + k) xs (pages + k) → xs ≡ []
        go [] ranged l = refl
        go (x ∷ xs) ranged l = absurd (let e : first ≡ x = follower first read ∙ l.0 in let below : x < pages = ranged x (contains_head x xs) in omega arith)

    -- the stored length is that of the list
    pub counted : (len : ℕ) → len ≡ get_or lens k 0 → len ≡ length (pages_in v c w)
    counted len read = read ∙ s.linked.counted k within ∙ ap length (sym list_k)

    pub follower_within : (first : ℕ) → first ≡ get_or next (pages + k) first → first < length next
    follower_within first read = rw (follower first read) (first_within next previous lens pages _ k within s.linked s.disjoint s.nodes s.backed)

    inside : list_number c w < length v.lists
    inside =
        let e : length v.lists ≡ length lens = ap (λ (u : PageLists). length u.lists) (sym seen) ∙ length-chains next pages lens in
        let f : list_number c w < length lens = list_within c w lt in
        omega arith

    -- links and lengths that represent all lists, with another list number k, are the fields after a call that replaces it
    changed : (next' previous' lens' : List ℕ) (list list' : List ℕ) → list ≡ list' → length next' ≡ length next → length previous' ≡ length previous
        → length lens' ≡ length lens
        → AreRings next' previous' lens' pages (set (chains next pages lens) k list) → HoldPagesOnce pages (set (chains next pages lens) k list)
        → Changes next' previous' lens' pages v c w list'
    changed next' previous' lens' list list' e n p m l d =
        let seen' : lists_of next' lens' pages ≡ with_list v c w list' =
        (λ i. record { pages = pages; classes = m i / 2; lists = chains_are next' previous' lens' pages _ l i })
        ∙ ap (λ q. record { pages = pages; classes = length lens / 2; lists = set (chains next pages lens) q list }) at
        ∙ ap (λ (u : PageLists). with_list u c w list) seen ∙ ap (with_list v c w) e in
        let sound = sound_after next previous lens pages s next' previous' lens' _ n p m l d in
        record {
          sound = sound;
          lists = seen';
          list = ap (λ (u : PageLists). pages_in u c w) seen' ∙ pages_in-with_list v c w list' inside;
          others = subst (λ (u : PageLists). KeepsOthers v u c w) (sym seen') (others_kept v c w list');
          kept = lists_apart next' previous' lens' pages sound;
        }

    module _ (p : ℕ) (in_p : p < v.pages) (out : IsUnlisted v p) where
      below : p < pages
      below = rw pages_are at in_p

      -- every list belongs to some class, so the page is in no ring
      unlisted : (j : ℕ) → ¬ Contains (list_at (chains next pages lens) j) p
      unlisted j h = elim (cases_lt (j % 2) 1) [
        | inl even ↦ (let e : list_number (j / 2) Full ≡ j = omega arith in out (j / 2) Full (rw (pages_at (j / 2) Full, e) h))
        | inr odd ↦ (let e : list_number (j / 2) NotFull ≡ j = omega arith in out (j / 2) NotFull (rw (pages_at (j / 2) NotFull, e) h))
      ]

      pub room_for_one : length (pages_in v c w) + 1 ≤ pages
      room_for_one =
          let n = length_within pages (p ∷ pages_in v c w) (distinct_cons p (pages_in v c w) (out c w) (apart.distinct c w))
          (λ q h. elim (contains_cases q p (pages_in v c w) h) [ inl is ↦ rw is below | inr in' ↦ rw pages_are at (apart.page c w q in') ]) in
          omega arith

      pub pushed : (first len : ℕ) (next' previous' lens' : List ℕ) → first ≡ get_or next (pages + k) first → len ≡ get_or lens k 0
          → next' ≡ set (set next (pages + k) p) p first → previous' ≡ set (set previous p (pages + k)) first p → lens' ≡ set lens k (len + 1)
          → Changes next' previous' lens' pages v c w (p ∷ pages_in v c w)
      pushed first len next' previous' lens' reads counts n b m =
          let is = follower first reads in
          let more : len + 1 ≡ get_or lens k 0 + 1 = ap (λ q. q + 1) counts in
          let linked : AreRings next' previous' lens' pages (set (chains next pages lens) k (p ∷ list_at (chains next pages lens) k)) =
          rw (n, b, m) (push_linked next previous lens pages _ k within s.linked s.disjoint s.nodes s.backed p first (len + 1) below unlisted (sym is) more) in
          changed next' previous' lens' (p ∷ list_at (chains next pages lens) k) (p ∷ pages_in v c w) (ap (λ xs. p ∷ xs) (sym list_k))
          (ap length n ∙ length-set (set next (pages + k) p) p first ∙ length-set next (pages + k) p)
          (ap length b ∙ length-set (set previous p (pages + k)) first p ∙ length-set previous p (pages + k))
          (ap length m ∙ length-set lens k (len + 1)) linked
          (push_disjoint next previous lens pages _ k within s.linked s.disjoint s.nodes s.backed p below unlisted)

    module _ (p : ℕ) (h : Contains (pages_in v c w) p) where
      at_list : Contains (list_at (chains next pages lens) k) p
      at_list = rw list_k at h

      pub listed_within : p < length next
      listed_within = (let lt' : p < pages = s.disjoint.within k p at_list in let e = s.nodes in omega arith)

      pub page_within : p < pages
      page_within = s.disjoint.within k p at_list

      pub some_page : 1 ≤ length (pages_in v c w)
      some_page = (let lt' : h.0 < length (pages_in v c w) = h.1 in omega arith)

      pub unlisted_now : IsUnlisted (with_list v c w (without_number p (pages_in v c w))) p
      unlisted_now = unlisted_then v c w p inside apart h

      pub shorter : length (without_number p (pages_in v c w)) + 1 ≡ length (pages_in v c w)
      shorter = length-without p (pages_in v c w) (apart.distinct c w) h

      module _ (before after : ℕ) (b : before ≡ get_or previous p before) (a : after ≡ get_or next p after) where
        at_before : get_or previous p 0 ≡ before
        at_before = sym (get_or_read previous p before (let e = s.backed in let f = listed_within in omega arith) b 0)

        at_after : get_or next p 0 ≡ after
        at_after = sym (get_or_read next p after listed_within a 0)

        pub before_inside : before < length next
        before_inside = before_within next previous lens pages _ k within s.linked s.disjoint s.nodes s.backed p before after at_list at_before at_after

        pub after_inside : after < length next
        after_inside = after_within next previous lens pages _ k within s.linked s.disjoint s.nodes s.backed p before after at_list at_before at_after

        pub unlinked : (len : ℕ) (next' previous' lens' : List ℕ) → len ≡ get_or lens k 0
            → next' ≡ set next before after → previous' ≡ set previous after before → lens' ≡ set lens k (len - 1)
            → Changes next' previous' lens' pages v c w (without_number p (pages_in v c w))
        unlinked len next' previous' lens' counts n r m =
            let fewer : len - 1 ≡ get_or lens k 0 - 1 = ap (λ q. q - 1) counts in
            let linked : AreRings next' previous' lens' pages (set (chains next pages lens) k (without_number p (list_at (chains next pages lens) k))) =
            rw (n, r, m) (unlink_linked next previous lens pages _ k within s.linked s.disjoint s.nodes s.backed p before after at_list at_before at_after
            (len - 1) fewer) in
            changed next' previous' lens' (without_number p (list_at (chains next pages lens) k)) (without_number p (pages_in v c w))
            (ap (without_number p) (sym list_k))
            (ap length n ∙ length-set next before after) (ap length r ∙ length-set previous after before)
            (ap length m ∙ length-set lens k (len - 1)) linked
            (unlink_disjoint next previous lens pages _ k within s.linked s.disjoint s.nodes s.backed p before after at_list at_before at_after)

-- no page is listed yet
no_list : (n k : ℕ) → list_at (replicate n []) k ≡ []
no_list zero k = refl
no_list (suc n) zero = refl
no_list (suc n) (suc k) = no_list n k

pub empty_are_empty : (classes pages : ℕ) → AreEmpty (empty_lists classes pages)
empty_are_empty classes pages c w = no_list (2 * classes) (list_number c w)

-- the head of a list is in it
pub front_listed : (xs : List ℕ) (p : ℕ) → Some p ≡ slice_get xs 0 → Contains xs p
front_listed [] p is = absurd (let f : Some p ≡ None = is in cc)
front_listed (x ∷ xs) p is = (let e : p ≡ x = (let f : Some p ≡ Some x = is in cc) in rw e (contains_head x xs))

pub some_not_empty : (xs : List ℕ) (p : ℕ) → Some p ≡ slice_get xs 0 → xs ≢ []
some_not_empty xs p is e = (let f : Some p ≡ None = is ∙ ap (λ ys. slice_get ys 0) e in cc)

module _ (next previous lens : List ℕ) (classes pages nodes : ℕ) (is : pages + 2 * classes ≡ nodes) (small : nodes < 2 ^ 32) (n : next ≡ range_with_len 0 nodes)
    (b : previous ≡ range_with_len 0 nodes) (m : lens ≡ replicate (2 * classes) 0) where
  long : length lens ≡ 2 * classes
  long = ap length m ∙ length-replicate {A = ℕ} (2 * classes) 0

  as_many : (links : List ℕ) → links ≡ range_with_len 0 nodes → length links ≡ nodes
  as_many links e = ap length e ∙ length-range_with_len 0 nodes

  -- in a new table each node is a ring by itself
  alone : (links : List ℕ) → links ≡ range_with_len 0 nodes → (node : ℕ) → node < nodes → get_or links node 0 ≡ node
  alone links e node lt = ap (λ (xs : List ℕ). get_or xs node 0) e ∙ get_or-range_with_len 0 nodes node 0 lt ∙ zero-add node

  new_linked : AreRings next previous lens pages (replicate (2 * classes) [])
  new_linked = record {
    as_many = length-replicate {A = List ℕ} (2 * classes) [] ∙ sym long;
    linked = λ k lt. rw (no_list (2 * classes) k) (
      alone next n (pages + k) (let e = long in omega arith),
      alone previous b (pages + k) (let e = long in omega arith),
    );
    counted = λ k lt. rw (no_list (2 * classes) k, m) (get_or-replicate (2 * classes) k 0 0 (let e = long in omega arith));
  }

  new_chains : chains next pages lens ≡ replicate (2 * classes) []
  new_chains = chains_are next previous lens pages _ new_linked

  pub new_sound : IsValid next previous lens pages
  new_sound = record {
    nodes = (let e = as_many next n in let f = long in omega arith);
    backed = (let e = as_many next n in let f = as_many previous b in omega arith);
    few = (let e = as_many next n in omega arith);
    paired = (let e = long in omega arith);
    linked = rw new_chains new_linked;
    disjoint = rw new_chains record {
      within = λ k p h. absurd (contains_nil p (rw (no_list (2 * classes) k) at h));
      distinct = λ k. rw (no_list (2 * classes) k) distinct_nil;
      once = λ j k p h g. absurd (contains_nil p (rw (no_list (2 * classes) j) at h));
    };
  }

  pub new_view : lists_of next lens pages ≡ empty_lists classes pages
  new_view =
      (λ i. record { pages = pages; classes = length lens / 2; lists = new_chains i })
      ∙ (let e : length lens / 2 ≡ classes = (let f = long in omega arith) in ap
      (λ q. record { pages = pages; classes = q; lists = replicate (2 * classes) [] }) e)
