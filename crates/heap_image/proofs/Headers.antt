-- For `length_of`, which reads an object's length from the heap's words: the word at its address is the header, with the length in the upper half. A manager of
-- kind Moving keeps the rules of pages, for `LivesLemmas` too.
use Rattle.std.proofs.Common.{◌≡◌, ℕ, ◌/◌, ◌^◌, ◌<◌, List, Some, None, length, get_or, arith, sym, ◌∙◌, ap, subst}
use Rattle.std.specs.Prelude.{option_map, slice_get}
use Rattle.std.proofs.lemmas.Option.{slice_get-get_or}
use Rattle.std.specs.FinMap.{get}
use Rattle.cf_base.specs.declared.kind.Kind.{Kind}
use Rattle.cf_base.specs.declared.kind.Kind.TheVariants.{Moving}
use Rattle.page_model.specs.Held.{Placed}
use Rattle.page_model.specs.Arrangement.{class_at}
use Rattle.page_model.proofs.CallerLemmas.{header_shown, object_inside}
use Rattle.cf_model.specs.Answers.{place_of}
use Rattle.cf_model.specs.Rules.{KeepsPages, KeepsRules, KeepsRulesOf}
use Rattle.cf_model.specs.State.{HeapState, paging_in}

-- a manager of kind Moving keeps the rules of its pages
pub pages_of : (s : HeapState) → s.kind ≡ Moving → KeepsRules s → KeepsPages s
pages_of s moving rules = (let r : KeepsRulesOf Moving s = subst (λ (k : Kind). KeepsRulesOf k s) moving rules.of_kind in r.0)

-- at an index below the length there is a word
there : (words : List ℕ) (i : ℕ) → i < length words → slice_get words i ≡ Some (get_or words i 0)
there words i lt = slice_get-get_or words i 0 lt

module _ (s : HeapState) (moving : s.kind ≡ Moving) (rules : KeepsRules s) (h : ℕ) (x : Placed) (some : get s.held h ≡ Some x) (place : ℕ)
    (at : Some place ≡ place_of s h) where
  at_place : place ≡ x.place
  at_place = (let e : Some place ≡ Some x.place = at ∙ ap (option_map (λ (y : Placed). y.place)) some in cc)

  inside : x.place < length s.words
  inside =
      let keeps = pages_of s moving rules in
      let p = paging_in s in
      let end = object_inside p s.held keeps.sound h x some in
      let least = keeps.paging.sized.least (class_at p x) (keeps.sound.slots h x some).class in
      let region = rules.region in
      omega arith

  pub header_is_there : slice_get s.words place ≡ None → ⊥
  header_is_there none = (let e : Some (get_or s.words x.place 0) ≡ None = sym (there s.words x.place inside) ∙ ap (slice_get s.words) (sym at_place)
      ∙ none in absurd (let z = e in cc))

  pub header_says : (header : ℕ) → Some header ≡ slice_get s.words place → header / 2 ^ 32 ≡ length x.bytes
  header_says header is =
      let e : Some header ≡ Some (get_or s.words x.place 0) = is ∙ ap (slice_get s.words) at_place ∙ there s.words x.place inside in
      let same : header ≡ get_or s.words x.place 0 = cc in
      let small = rules.numbers.handles h x some in
      let few = rules.settings.few_proxies in
      ap (λ w. w / 2 ^ 32) same ∙ (header_shown s.held s.words h x (pages_of s moving rules).image some (omega arith)).1
