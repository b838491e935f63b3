use Rattle.std.proofs.Common.{◌≡◌, ◌∙◌, ◌++◌, ◌∷◌, ◌==◌, [], ap, map, string_bytes, arith, rules}
use Rattle.std.specs.List.{slice_split}
use Rattle.std.proofs.lemmas.Str.Pattern.{split_parts}
use Rattle.cf_page.proofs.Cuts.{last_one, one_more}
use Rattle.cf_page.proofs.words.words_of.Goals as goal

pub lines-preserved : goal.lines-preserved
lines-preserved c =
    let l = c.lines in
    let cut = rw c.in-Some.is at (split_parts 10 l.rest.now c.split_once.result c.split_once.ensures.cases (omega arith)) in
    let item : c.push-in-Some.new.self.items ≡ l.words.items ++ c.in_ok-from_str-2.field-0 ∷ [] = c.in_ok-push-2.ensures.items in (
      ap (λ ws. map (λ word. string_bytes word) ws ++ slice_split (λ b. b == 10) c.in-Some.more.now) item
          ∙ one_more (λ word. string_bytes word) l.words.items c.in_ok-from_str-2.field-0 c.in-Some.word.now l.rest.now c.in-Some.more.now _ l.invariant.0 cut.0 cut.1
          c.in_ok-from_str-2.ensures.ok,
      search rules,
    )

pub returns : goal.returns
returns c =
    let l = c.lines in
    let none = rw c.in_default.is at (split_parts 10 l.rest.now c.split_once.result c.split_once.ensures.cases (omega arith)) in
    let item : c.push-2.new.self.items ≡ l.words.items ++ c.in_ok-from_str-3.field-0 ∷ [] = c.in_ok-push-3.ensures.items in
    ap (λ ws. map (λ word. string_bytes word) ws) item
    ∙ last_one (λ word. string_bytes word) l.words.items c.in_ok-from_str-3.field-0 l.rest.now _ l.invariant.0 none c.in_ok-from_str-3.ensures.ok
