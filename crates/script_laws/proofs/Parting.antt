-- For `the_output_shows_the_replies`: the whole text of the replies determines each of them, since the number of lines of a reply is known before it.
use Rattle.std.proofs.Common.{◌≡◌, ℕ, zero, suc, true, false, ◌++◌, List, [], ◌∷◌, Option, Some, None, sym, ◌∙◌, ap, refl, subst, append_assoc}
use Rattle.std.specs.Prelude.{⊤, codes, nat_eq, not, option_map}
use Rattle.std.proofs.lemmas.Bool.{and_parts}
use Rattle.run_model.specs.Terms.{asks, bad, bad_line, Command, Item, Kind, led, Profile, Reply, starts, text_of}
use Rattle.run_model.specs.Plays.{PlayRun, PlayStep}
use Rattle.script_laws.specs.Headline.{MayReply, MeetsHeadline, OpensEmpty}
use Rattle.script_laws.specs.ShownHeap.{IsArranged, heap_opened}
use Rattle.script_laws.proofs.After.{view, view_after, view_is}
use Rattle.script_laws.proofs.Shapes.{HasLines, is_line, lines_of, one_line, shape, with_line}

-- a line ends at its line feed
split_line : (x y u v : List ℕ) → is_line x ≡ true → is_line y ≡ true → x ++ (10 ∷ u) ≡ y ++ (10 ∷ v) → (x ≡ y) × (u ≡ v)
split_line [] [] u v one two same = (refl, (let e : 10 ∷ u ≡ 10 ∷ v = same in cc))
split_line [] (b ∷ y) u v one two same = absurd (
    let e : 10 ∷ u ≡ b ∷ (y ++ (10 ∷ v)) = same in
    let is : 10 ≡ b = cc in
    let no : not (nat_eq 10 10) ≡ true = subst (λ n. not (nat_eq n 10) ≡ true) (sym is) (and_parts (not (nat_eq b 10)) (is_line y) two).0 in
    let f : false ≡ true = no in cc)
split_line (a ∷ x) [] u v one two same = absurd (
    let e : a ∷ (x ++ (10 ∷ u)) ≡ 10 ∷ v = same in
    let is : a ≡ 10 = cc in
    let no : not (nat_eq 10 10) ≡ true = subst (λ n. not (nat_eq n 10) ≡ true) is (and_parts (not (nat_eq a 10)) (is_line x) one).0 in
    let f : false ≡ true = no in cc)
split_line (a ∷ x) (b ∷ y) u v one two same =
    let e : a ∷ (x ++ (10 ∷ u)) ≡ b ∷ (y ++ (10 ∷ v)) = same in
    let head : a ≡ b = cc in
    let tail : x ++ (10 ∷ u) ≡ y ++ (10 ∷ v) = cc in
    let r = split_line x y u v (and_parts (not (nat_eq a 10)) (is_line x) one).1 (and_parts (not (nat_eq b 10)) (is_line y) two).1 tail in
    ((λ i. head i ∷ r.0 i), r.1)

opened_text : (text : List ℕ) (rest : Reply) (u : List ℕ) → led [] (text ∷ rest) ++ u ≡ text ++ (10 ∷ (led [] rest ++ u))
opened_text text rest u = append_assoc (text ++ 10 ∷ []) (led [] rest) u ∙ append_assoc text (10 ∷ []) (led [] rest ++ u)

-- if two replies of n lines each begin one text, they are equal, and so are the bytes after them
split_reply : (n : ℕ) (a b : Reply) (u v : List ℕ) → HasLines n a → HasLines n b → led [] a ++ u ≡ led [] b ++ v → (a ≡ b) × (u ≡ v)
split_reply zero [] [] u v one two same = (refl, same)
split_reply zero [] (y ∷ b) u v one two same = absurd two
split_reply zero (x ∷ a) b u v one two same = absurd one
split_reply (suc n) [] b u v one two same = absurd one
split_reply (suc n) (x ∷ a) [] u v one two same = absurd two
split_reply (suc n) (x ∷ a) (y ∷ b) u v one two same =
    let first = split_line x y (led [] a ++ u) (led [] b ++ v) one.0 two.0 (sym (opened_text x a u) ∙ same ∙ opened_text y b v) in
    let rest = split_reply n a b u v one.1 two.1 first.1 in
    ((λ i. first.0 i ∷ rest.0 i), rest.1)

-- Runs of any states that are partly known: what is known fixes the number of lines of each reply, and the reply then fixes what is known next.
module _ {S V : Type 0} (begins : Profile → Reply → S → Type 0) (turns : S → Command → Reply → S → Type 0) (known : S → V) (IsGood : S → Type 0)
    (opened : Profile → V) (after : V → Command → Reply → V) (lines : V → Command → ℕ)
    (begins_so : (p : Profile) (reply : Reply) (s : S) → begins p reply s → HasLines 1 reply × (known s ≡ opened p) × IsGood s)
    (turns_so : (old : S) (c : Command) (reply : Reply) (new : S) → IsGood old → turns old c reply new
    → HasLines (lines (known old) c) reply × (known new ≡ after (known old) c reply) × IsGood new) where
  abbrev pub known_at : Option S → Option V
  known_at t = option_map known t

  abbrev pub good_at : Option S → Type 0
  good_at None = ⊤
  good_at (Some t) = IsGood t

  -- what is known after an item and its reply
  next : Option V → Item → Reply → Option V
  next v (starts p) reply = Some (opened p)
  next None (asks c) reply = None
  next (Some v) (asks c) reply = Some (after v c reply)
  next v (bad n) reply = v

  lines_at : Option V → Item → ℕ
  lines_at v (starts p) = 1
  lines_at None (asks c) = 0
  lines_at (Some v) (asks c) = lines v c
  lines_at v (bad n) = 1

  item_shape : (t : Option S) (item : Item) (reply : Reply) (new : Option S) → good_at t → PlayStep begins turns t item reply new
      → HasLines (lines_at (known_at t) item) reply × (known_at new ≡ next (known_at t) item reply) × good_at new
  unfolding next lines_at
  item_shape t (starts p) reply new good step =
      (let b = begins_so p reply step.0 step.1 in (b.0, ap (option_map known) step.2 ∙ ap (λ (v : V). Some v) b.1, subst good_at (sym step.2) b.2))
  item_shape None (asks c) reply new good step = (subst (HasLines 0) (sym step.0) tt, ap (option_map known) step.1, subst good_at (sym step.1) tt)
  item_shape (Some t) (asks c) reply new good step =
      (let a = turns_so t c reply step.0 good step.1 in (a.0, ap (option_map known) step.2 ∙ ap (λ (v : V). Some v) a.1, subst good_at (sym step.2) a.2))
  item_shape t (bad n) reply new good step = (
    one_line (bad_line n) reply step.0 (with_line (codes "bad line ") n refl),
    ap (option_map known) step.1,
    subst good_at (sym step.1) good,
  )

  pub parted : (items : List Item) (t u : Option S) (a b : List Reply) (end other : Option S) → good_at t → good_at u → known_at u ≡ known_at t
      → PlayRun begins turns t items a end → PlayRun begins turns u items b other → text_of [] b ≡ text_of [] a → b ≡ a
  parted [] t u a b end other good right alike one two same = two.0 ∙ sym one.0
  parted (item ∷ rest) t u a b end other good right alike one two same =
      let x = item_shape t item one.1 one.0 good one.3 in
      let y = item_shape u item two.1 two.0 right two.3 in
      let texts : led [] two.1 ++ text_of [] two.2 ≡ led [] one.1 ++ text_of [] one.2 = sym (ap (text_of []) two.4) ∙ same ∙ ap (text_of []) one.4 in
      let s = split_reply (lines_at (known_at t) item) two.1 one.1 (text_of [] two.2) (text_of [] one.2)
      (subst (λ v. HasLines (lines_at v item) two.1) alike y.0) x.0 texts in
      let mids : known_at two.0 ≡ known_at one.0 = y.1 ∙ (λ i. next (alike i) item (s.0 i)) ∙ sym x.1 in
      let more = parted rest one.0 two.0 one.2 two.2 end other x.2 y.2 mids one.5 two.5 s.1 in
      two.4 ∙ (λ i. s.0 i ∷ more i) ∙ sym one.4

  pub parted_from_none : (items : List Item) (a b : List Reply) (end other : Option S) → PlayRun begins turns None items a end
      → PlayRun begins turns None items b other → text_of [] b ≡ text_of [] a → b ≡ a
  parted_from_none items a b end other one two same = parted items None None a b end other tt tt refl one two same

-- replies that meet the headline and have equal texts are equal
pub shown_by_text : (kind : Kind) (items : List Item) (replies others : List Reply) → MeetsHeadline kind items replies → MeetsHeadline kind items others
    → text_of [] others ≡ text_of [] replies → others ≡ replies
shown_by_text kind items replies others first second same = parted_from_none (OpensEmpty kind) MayReply view (λ t. IsArranged t.heap)
    (λ p. view (heap_opened kind p)) view_after lines_of
    (λ p reply s opens. (one_line (codes "ok") reply opens.0 refl, ap view opens.1, opens.2))
    (λ old c reply new good answers. (shape old c reply new answers.0, view_is old new good c reply answers.0, answers.1))
    items replies others first.0 second.0 first.1 second.1 same
