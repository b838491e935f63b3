-- For `count_pages`: an entry of what a task declares, some objects of one length, adds only pages of their class; the objects of one class need at most the
-- pages of all; and where the mallocs of an entry are in the list of all declared mallocs.
use Rattle.std.proofs.Common.{◌≡◌, ◌≢◌, ℕ, suc, ◌+◌, ◌-◌, ◌*◌, ◌<◌, ◌≤◌, List, [], ◌∷◌, ◌++◌, length, get_or, replicate, take, drop}
use Rattle.std.proofs.Common.{arith, ap, sym, ◌∙◌, refl}
use Rattle.std.specs.Prelude.{nat_eq}
use Rattle.std.proofs.lemmas.List.{append-nil, append_assoc, length-append, length-replicate, take-append-drop, take-append-le, take-replicate}
use Rattle.std.proofs.lemmas.List.Folds.{sum_by-replicate}
use Rattle.std.proofs.Math.Seq.{take-append-add, drop-cons, take-suc}
use Rattle.cf_base.specs.Classes.{need}
use Rattle.cf_base.proofs.Ranges.{one, sum_at_least, sum_changed}
use Rattle.cf_base.proofs.Tests.{eq_no, eq_yes}
use Rattle.page_model.specs.Counts.{ceil_div}
use Rattle.page_model.specs.Paging.{Paging, IsPaging, class_for, classes, slots_of}
use Rattle.page_model.proofs.CallerLemmas.{class_fits}
use Rattle.quota_model.specs.Admission.{count_of_class, in_order, pages_needed_by}
use Rattle.quota_model.specs.declared.results.Need.{Need}
use Rattle.quota_model.proofs.CallerLemmas.{count-append}

module _ (p : Paging) (ok : IsPaging p) (n : ℕ) (fits : need n ≤ p.page_words) (pre : List ℕ) where
  there_is : class_for p n < classes p
  there_is = class_fits p ok n fits

  pub count_with : (j d : ℕ) → count_of_class p (pre ++ replicate j n) d ≡ count_of_class p pre d + j * one (nat_eq (class_for p n) d)
  count_with j d =
      let a = count-append (λ m. nat_eq (class_for p m) d) pre (replicate j n) in
      let b = sum_by-replicate (λ m. one (nat_eq (class_for p m) d)) j n in
      omega arith

  pub count_here : (j : ℕ) → count_of_class p (pre ++ replicate j n) (class_for p n) ≡ count_of_class p pre (class_for p n) + j
  count_here j =
      let a = count_with j (class_for p n) in
      let e : one (nat_eq (class_for p n) (class_for p n)) ≡ 1 = (let y = eq_yes (class_for p n) (class_for p n) refl in rw y) in
      let b : j * one (nat_eq (class_for p n) (class_for p n)) ≡ j * 1 = ap (λ x. j * x) e in
      omega arith

  pub count_other : (j d : ℕ) → d ≢ class_for p n → count_of_class p (pre ++ replicate j n) d ≡ count_of_class p pre d
  count_other j d ne =
      let a = count_with j d in
      let e : one (nat_eq (class_for p n) d) ≡ 0 = (let y = eq_no (class_for p n) d (λ e. ne (sym e)) in rw y) in
      let b : j * one (nat_eq (class_for p n) d) ≡ j * 0 = ap (λ x. j * x) e in
      omega arith

  -- the objects of one class need at most the pages that those of all classes need
  pub ceil_within : ceil_div (count_of_class p pre (class_for p n)) (slots_of p (class_for p n)) ≤ pages_needed_by p pre
  ceil_within = sum_at_least (λ c. ceil_div (count_of_class p pre c) (slots_of p c)) 0 (classes p) (class_for p n) (omega arith)
      (let lt = there_is in omega arith)

  -- more objects of this length change the pages of their class alone
  pub pages_with : (j : ℕ) → pages_needed_by p (pre ++ replicate j n) + ceil_div (count_of_class p pre (class_for p n)) (slots_of p (class_for p n))
      ≡ pages_needed_by p pre + ceil_div (count_of_class p pre (class_for p n) + j) (slots_of p (class_for p n))
  pages_with j =
      let lt = there_is in
      let sum = sum_changed (λ c. ceil_div (count_of_class p (pre ++ replicate j n) c) (slots_of p c)) (λ c. ceil_div (count_of_class p pre c) (slots_of p c))
      0 (classes p) (class_for p n) (omega arith) (omega arith) (λ d _ _ ne. ap (λ x. ceil_div x (slots_of p d)) (count_other j d ne)) in
      let e : ceil_div (count_of_class p (pre ++ replicate j n) (class_for p n)) (slots_of p (class_for p n))
      ≡ ceil_div (count_of_class p pre (class_for p n) + j) (slots_of p (class_for p n)) = ap (λ x. ceil_div x (slots_of p (class_for p n))) (count_here j) in
      omega arith

  pub pages_next : (j : ℕ) → pages_needed_by p (pre ++ replicate j n)
      ≡ (pages_needed_by p pre - ceil_div (count_of_class p pre (class_for p n)) (slots_of p (class_for p n)))
      + ceil_div (count_of_class p pre (class_for p n) + j) (slots_of p (class_for p n))
  pages_next j = (let w = ceil_within in let e = pages_with j in omega arith)

-- the mallocs of two lists of entries in a row are those of the first list, then those of the second
in_order-append : (xs ys : List Need) → in_order (xs ++ ys) ≡ in_order xs ++ in_order ys
in_order-append [] ys = refl
in_order-append (x ∷ xs) ys = ap (λ ns. replicate x.count x.bytes ++ ns) (in_order-append xs ys) ∙ sym (append_assoc (replicate x.count x.bytes) (in_order xs)
    (in_order ys))

module _ (needs : List Need) (i : ℕ) (d : Need) (lt : i < length needs) where
  abbrev entry : Need
  entry = get_or needs i d

  pub in_order_more : in_order (take (i + 1) needs) ≡ in_order (take i needs) ++ replicate entry.count entry.bytes
  in_order_more =
      let a : take (i + 1) needs ≡ take i needs ++ entry ∷ [] = (let e : i + 1 ≡ suc i = omega arith in rw e (take-suc needs i d lt)) in
      ap in_order a ∙ in_order-append (take i needs) (entry ∷ []) ∙ ap (λ ns. in_order (take i needs) ++ ns) (append-nil (replicate entry.count entry.bytes))

  pub in_order_split : in_order needs ≡ in_order (take i needs) ++ (replicate entry.count entry.bytes ++ in_order (drop (suc i) needs))
  in_order_split =
      ap in_order (sym (take-append-drop i needs)) ∙ ap (λ xs. in_order (take i needs ++ xs)) (drop-cons needs i d lt)
      ∙ in_order-append (take i needs) (entry ∷ drop (suc i) needs)

  -- the mallocs up to number j of entry i are those of the entries before it, then j of its length
  pub take_within : (j : ℕ) → j ≤ entry.count → take (length (in_order (take i needs)) + j) (in_order needs)
      ≡ in_order (take i needs) ++ replicate j entry.bytes
  take_within j le =
      let pre : List ℕ = in_order (take i needs) in
      let e : length (replicate {A = ℕ} entry.count entry.bytes) ≡ entry.count = length-replicate {A = ℕ} entry.count entry.bytes in
      ap (take (length (in_order (take i needs)) + j)) in_order_split
      ∙ take-append-add (in_order (take i needs)) (replicate entry.count entry.bytes ++ in_order (drop (suc i) needs)) j
      ∙ ap (λ ns. in_order (take i needs) ++ ns) (take-append-le j (replicate entry.count entry.bytes) (in_order (drop (suc i) needs)) (omega arith)
      ∙ take-replicate j entry.count entry.bytes le)

  pub count_split : length (in_order (take i needs)) + entry.count ≤ length (in_order needs)
  count_split =
      let a = ap length in_order_split in
      let b = length-append (in_order (take i needs)) (replicate entry.count entry.bytes ++ in_order (drop (suc i) needs)) in
      let c = length-append (replicate entry.count entry.bytes) (in_order (drop (suc i) needs)) in
      let e : length (replicate {A = ℕ} entry.count entry.bytes) ≡ entry.count = length-replicate {A = ℕ} entry.count entry.bytes in
      omega arith
