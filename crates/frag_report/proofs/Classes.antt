-- The lines of `walk`, one for each class with live objects, as the report is written: some lines and then more, or those of the classes below c and then that
-- of c, written whole or cut by a failed sink; and which classes there are.
use Rattle.std.proofs.Common.{◌≡◌, ◌∙◌, ℕ, zero, suc, ◌+◌, ◌-◌, ◌<◌, ◌++◌, List, [], ◌∷◌, Bool, true, false, cond, Option, refl, ap, sym, arith}
use Rattle.std.proofs.Common.{◌≤◌, Some, None, inl, inr, nat_lt}
use Rattle.std.proofs.lemmas.Bool.{cases_lt}
use Rattle.std.proofs.lemmas.List.{map-append}
use Rattle.std.specs.Prelude.{Result, Err, Ok, map, not, nat_eq}
use Rattle.std.specs.List.{range_with_len}
use Rattle.std.proofs.lemmas.List.Elements.{filter-append}
use Rattle.cf_base.specs.declared.results.Failed.{Failed}
use Rattle.cf_base.specs.declared.results.Figures.{Figures}
use Rattle.cf_io.specs.Feeds.{SinkState, Writes, WritesAll}
use Rattle.cf_io.proofs.CallerLemmas.{led-append, puts_cut, puts_same, puts_then}
use Rattle.cf_base.proofs.Tests.{lt_no, lt_yes}
use Rattle.page_model.specs.Arrangement.{live}
use Rattle.page_model.specs.Figures.{figures_of}
use Rattle.page_model.specs.Held.{Held, objects}
use Rattle.page_model.specs.Paging.{Paging}
use Rattle.run_model.specs.Reports.{class_line}
use Rattle.run_model.specs.Texts.{Reply, led, said}
use Rattle.frag_report.specs.Classes.{lines_of, classes_below, class_if_live}

-- the n + m numbers from a on are the n numbers from a on and then the m numbers from a + n on
range_from : (a n m : ℕ) → range_with_len a (n + m) ≡ range_with_len a n ++ range_with_len (a + n) m
range_from a zero m = let e : a ≡ a + 0 = omega arith in let z : 0 + m ≡ m = omega arith in ap (range_with_len a) z ∙ ap (λ b. range_with_len b m) e
range_from a (suc n) m =
    let next : suc n + m ≡ suc (n + m) = omega arith in
    let last : (a + 1) + n ≡ a + suc n = omega arith in
    ap (range_with_len a) next ∙ ap (λ r. a ∷ r) (range_from (a + 1) n m) ∙ ap (λ k. a ∷ (range_with_len (a + 1) n ++ range_with_len k m)) last

pub one_class_more : (c : ℕ) → range_with_len 0 (c + 1) ≡ range_with_len 0 c ++ c ∷ []
one_class_more c = let here : 0 + c ≡ c = omega arith in range_from 0 c 1 ∙ ap (λ k. range_with_len 0 c ++ k ∷ []) here

-- if class c has figures, it is one of the n classes
pub class_there : (c n : ℕ) (f x : Figures) → Some f ≡ cond (nat_lt c n) (Some x) None → (c < n) × (f ≡ x)
class_there c n f x is = elim (cases_lt c n) [
  | inl lt ↦ (let e : Some f ≡ Some x = is ∙ ap (λ b. cond b (Some x) None) (lt_yes c n lt) in (lt, cc))
  | inr le ↦ absurd (let e : Some f ≡ None = is ∙ ap (λ b. cond b (Some x) None) (lt_no c n le) in cc)
]

pub class_past : (c n : ℕ) (x : Figures) → None ≡ cond (nat_lt c n) (Some x) None → n ≤ c
class_past c n x is = elim (cases_lt c n) [
  | inl lt ↦ absurd (let e : ◌≡◌ {A = Option Figures} None (Some x) = is ∙ ap (λ b. cond b (Some x) None) (lt_yes c n lt) in cc)
  | inr le ↦ le
]

-- if `lines` were written and then `more`, or only a prefix of `lines` was, that is a write of `lines ++ more`, whole or in part
module _ (lead : List ℕ) (lines more : Reply) (w y : SinkState) where
  pub lines_then : {T : Type 0} (x : SinkState) (r : Result T Failed) → WritesAll w (led lead lines) x → Writes x (led lead more) r y
      → Writes w (led lead (lines ++ more)) r y
  lines_then x r first next = puts_same w y _ _ r (sym (led-append lead lines more)) (puts_then w x y (led lead lines) (led lead more) r first next)

  pub lines_cut : (e : Failed) → Writes {T = Unit {0}} w (led lead lines) (Err e) y → Writes {T = Unit {0}} w (led lead (lines ++ more)) (Err e) y
  lines_cut e cut = puts_same {T = Unit {0}} w y _ _ (Err e) (sym (led-append lead lines more)) (puts_cut w y (led lead lines) (led lead more) e cut)

module _ (p : Paging) (m : Held) where
  lines-append : (some more : List ℕ) → lines_of p m (some ++ more) ≡ lines_of p m some ++ lines_of p m more
  lines-append some more =
      ap (map (λ c. class_line (figures_of p m c))) (filter-append (λ c. not (nat_eq (live p (objects m) c) 0)) some more)
      ∙ map-append (λ c. class_line (figures_of p m c)) _ _

  line_is : (c : ℕ) → lines_of p m (c ∷ []) ≡ class_if_live (figures_of p m c)
  line_is c = go (nat_eq (live p (objects m) c) 0)
    where
      go : (b : Bool) → map (λ d. class_line (figures_of p m d)) (cond (not b) (c ∷ []) []) ≡ cond b [] (said (class_line (figures_of p m c)))
      go true = refl
      go false = refl

  below_more : (c : ℕ) (f : Figures) → f ≡ figures_of p m c → classes_below p m (c + 1) ≡ classes_below p m c ++ class_if_live f
  below_more c f is =
      ap (lines_of p m) (one_class_more c) ∙ lines-append (range_with_len 0 c) (c ∷ [])
      ∙ ap (λ (r : Reply). classes_below p m c ++ r) (line_is c ∙ ap class_if_live (sym is))

  -- if the lines of the classes below c were written, and then the line of class c, the lines of the classes below c + 1 were written
  pub class_put : (lead : List ℕ) (c : ℕ) (f : Figures) (w x y : SinkState) → f ≡ figures_of p m c → WritesAll w (led lead (classes_below p m c)) x
      → WritesAll x (led lead (class_if_live f)) y → WritesAll w (led lead (classes_below p m (c + 1))) y
  class_put lead c f w x y is first next =
      puts_same {T = Unit {0}} w y _ _ (Ok tt) (ap (led lead) (sym (below_more c f is)))
      (lines_then lead (classes_below p m c) (class_if_live f) w y {T = Unit {0}} x (Ok tt) first next)

  -- the lines of all n classes are the lines of the classes below c, the line of class c, and then `more`
  lines_rest : (c n : ℕ) (f : Figures) → c < n → f ≡ figures_of p m c
      → (more : Reply) × (classes_below p m n ≡ (classes_below p m c ++ class_if_live f) ++ more)
  lines_rest c n f lt is =
      let all : n ≡ (c + 1) + (n - (c + 1)) = omega arith in (
        lines_of p m (range_with_len (0 + (c + 1)) (n - (c + 1))),
        ap (classes_below p m) all ∙ ap (lines_of p m) (range_from 0 (c + 1) (n - (c + 1)))
            ∙ lines-append (range_with_len 0 (c + 1)) _
            ∙ ap (λ (r : Reply). r ++ lines_of p m (range_with_len (0 + (c + 1)) (n - (c + 1)))) (below_more c f is),
      )

  pub class_cut : (lead : List ℕ) (c n : ℕ) (f : Figures) (w x y : SinkState) (e : Failed) → c < n → f ≡ figures_of p m c
      → WritesAll w (led lead (classes_below p m c)) x → Writes {T = Unit {0}} x (led lead (class_if_live f)) (Err e) y
      → Writes {T = Unit {0}} w (led lead (classes_below p m n)) (Err e) y
  class_cut lead c n f w x y e lt is first cut =
      let rest = lines_rest c n f lt is in
      puts_same {T = Unit {0}} w y _ _ (Err e) (ap (led lead) (sym rest.1))
      (lines_cut lead (classes_below p m c ++ class_if_live f) rest.0 w y e
      (lines_then lead (classes_below p m c) (class_if_live f) w y {T = Unit {0}} x (Err e) first cut))
