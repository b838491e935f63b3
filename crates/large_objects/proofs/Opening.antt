-- A heap of long objects that was just opened (`open_heap`), with no object and the bound 1 in each class, satisfies its invariant and keeps its rules. A page
-- has more words than its header.
use Rattle.std.proofs.Common.{◌≡◌, ℕ, zero, suc, ◌-◌, ◌*◌, ◌<◌, ◌≤◌, true, List, Some, None, length, get_or, arith, sym, ◌∙◌, ap, refl, subst, inl, inr}
use Rattle.std.specs.Prelude.{IsTrue, Option, sum_by, option_map}
use Rattle.std.proofs.lemmas.Bool.{cases_lt, false≢true}
use Rattle.std.proofs.lemmas.List.{get_or-replicate, get_or_past, length-replicate}
use Rattle.std.specs.Ordering.{nat_cmp}
use Rattle.std.specs.FinMap.{empty, get, get-empty, len, len-empty}
use Rattle.cf_base.specs.Limits.{is_page_size}
use Rattle.cf_base.specs.Settings.{Profile, profile_of}
use Rattle.cf_base.specs.declared.kind.Kind.{Kind}
use Rattle.cf_base.specs.declared.settings.Settings.{Settings}
use Rattle.cf_base.specs.Maps.{vacant}
use Rattle.cf_base.proofs.Values.{map_values-empty, no_values}
use Rattle.page_model.specs.Arrangement.{live}
use Rattle.page_model.specs.Held.{Objects, Placed, objects}
use Rattle.page_model.specs.Paging.{EveryBoundIsOne, Paging, first_bounds, paging_of}
use Rattle.page_model.proofs.CallerLemmas.{first_ones}
use Rattle.cf_model.specs.Families.{IsPaged}
use Rattle.cf_model.specs.Rules.{KeepsRules}
use Rattle.cf_model.specs.State.{HeapState, layout_of, paging_in}
use Rattle.cf_model.specs.Steps.{IsEmptyHeap, opening_bounds}
use Rattle.large_objects.specs.Large.{AreInnerCounted, AreLaidOut, KeepsParts, LargeState}
use Rattle.large_objects.specs.LargeSteps.{IsEmptyLarge}
use Rattle.large_objects.specs.Layout.{AreKept, AreLengths, IsValid, gathered_objects, large_state}
use Rattle.large_objects.specs.InnerObjects.{inner_count, inner_live, inner_sum, length_sum}
use Rattle.large_objects.proofs.Gathering.{all_gathered}

-- a page has more than its header
pub some_words : (n : ℕ) → IsTrue (is_page_size n) → 2 ≤ n
some_words zero is = absurd (false≢true is)
some_words (suc zero) is = absurd (false≢true is)
some_words (suc (suc n)) is = omega arith

abbrev nothing : Objects
nothing = empty {R = nat_cmp}

none_in : (q : ℕ) → get nothing q ≡ None
none_in q = get-empty nat_cmp q

no_object : {T : Type 0} (o : Objects) → o ≡ nothing → (q : ℕ) (v : List ℕ) → get o q ≡ Some v → T
no_object o is q v some = absurd (let z : Some v ≡ None = sym some ∙ ap (λ (o : Objects). get o q) is ∙ none_in q in cc)

none_laid : (u : ℕ) (inner : Objects) → inner ≡ nothing → AreLaidOut u nothing inner
none_laid u inner is = record {
  small = λ h v some. no_object nothing refl h v some;
  spines = λ h v some. no_object nothing refl h v some;
  parts_are = λ h v some. no_object nothing refl h v some;
  not_objects = λ q h i k. no_object nothing refl h k.bytes k.found;
  of_one = λ q h i g j k l. no_object nothing refl h k.bytes k.found;
  no_others = λ q b some. no_object inner is q b some;
}

none_counted : (p : Paging) (u : ℕ) (inner : Objects) → inner ≡ nothing → AreInnerCounted p u nothing inner
unfolding live inner_count inner_live inner_sum length_sum
none_counted p u inner is = record {
  all = ap (λ (o : Objects). len o) is ∙ len-empty nat_cmp (List ℕ) ∙ sym (ap (sum_by _) no_values);
  each = λ c. ap (λ (o : Objects). live p o c) is ∙ ap (sum_by _) no_values ∙ sym (ap (sum_by _) no_values);
  sums = λ f. ap (λ (o : Objects). length_sum f o) is ∙ ap (sum_by _) no_values ∙ sym (ap (sum_by _) no_values);
}

module _ (settings : Settings) (kind : Kind) (s : HeapState) (lengths : List (Option ℕ)) (paged : IsPaged kind) (one : settings.k ≡ 1)
    (opened : IsEmptyHeap kind settings s) (rules : KeepsRules s) (vacancies : lengths ≡ vacant settings.proxies) where
  abbrev u : ℕ
  u = 8 * (settings.page_words - 1)

  profile_is : s.profile ≡ profile_of settings
  profile_is = ap (λ (s : HeapState). s.profile) opened.whole

  kind_is : s.kind ≡ kind
  kind_is = ap (λ (s : HeapState). s.kind) opened.whole

  none_held : objects s.held ≡ nothing
  none_held = ap (λ (s : HeapState). objects s.held) opened.whole ∙ map_values-empty (λ (x : Placed). x.bytes)

  bounds_are : s.bounds ≡ first_bounds (profile_of settings) (layout_of kind)
  bounds_are = ap (λ (s : HeapState). s.bounds) opened.whole ∙ (rw (paged, opening_bounds) refl)

  paging_is : paging_in s ≡ paging_of (profile_of settings) (layout_of kind) (first_bounds (profile_of settings) (layout_of kind))
  paging_is =
      ap (λ (k : Kind). paging_of s.profile (layout_of k) s.bounds) kind_is
      ∙ ap (λ (p : Profile). paging_of p (layout_of kind) s.bounds) profile_is
      ∙ ap (λ (b : List ℕ). paging_of (profile_of settings) (layout_of kind) b) bounds_are

  some : 0 < u
  some = (
      let words = some_words s.profile.page_words rules.settings.page_size in
      let e = ap (λ (p : Profile). p.page_words) profile_is in omega arith)

  known : AreLengths lengths nothing s.profile.proxies
  known = record {
    count = ap length vacancies ∙ length-replicate settings.proxies None ∙ sym (ap (λ (p : Profile). p.proxies) profile_is);
    each = λ h. ap (λ (l : List (Option ℕ)). get_or l h None) vacancies ∙ at h ∙ sym (ap (option_map length) (none_in h));
  }
    where
      at : (h : ℕ) → get_or (vacant {X = ℕ} settings.proxies) h None ≡ None
      at h = elim (cases_lt h settings.proxies) [
        | inl lt ↦ get_or-replicate settings.proxies h None None lt
        | inr past ↦ get_or_past (vacant {X = ℕ} settings.proxies) h None (let l = length-replicate {A = Option ℕ} settings.proxies None in omega arith)
      ]

  laid : AreLaidOut u nothing (objects s.held)
  laid = none_laid u (objects s.held) none_held

  gathered_none : gathered_objects u lengths (objects s.held) ≡ nothing
  gathered_none = all_gathered u s.profile.proxies lengths nothing (objects s.held) some laid known

  pub parts : KeepsParts (record { is_open = true; objects = nothing; inner = s })
  parts = record {
    opened = ap (λ (s : HeapState). s.is_open) opened.whole;
    rules = rules;
    pages = subst (λ (k : Kind). IsPaged k) (sym kind_is) paged;
    ones = subst (λ (p : Paging). EveryBoundIsOne p) (sym paging_is) (first_ones (profile_of settings) (layout_of kind) one);
    laid = none_laid _ (objects s.held) none_held;
    counted = none_counted (paging_in s) _ (objects s.held) none_held;
  }

  pub opened_valid : IsValid true settings.pages (8 * (settings.page_words - 1)) lengths s
  opened_valid = subst (λ (o : Objects). AreKept settings.pages u lengths o s) (sym gathered_none) (record {
    parts = parts;
    lengths_are = known;
    part_bytes = sym (ap (λ (p : Profile). 8 * (p.page_words - 1)) profile_is);
    some = some;
    pages_are = sym (ap (λ (p : Profile). p.pages) profile_is);
  })

  pub opened_parts : KeepsParts (large_state true (8 * (settings.page_words - 1)) lengths s)
  opened_parts = subst (λ (o : Objects). KeepsParts (record { is_open = true; objects = o; inner = s })) (sym gathered_none) parts

  pub opened_empty : (old : LargeState) → old.inner.kind ≡ kind → IsEmptyLarge old settings (large_state true (8 * (settings.page_words - 1)) lengths s)
  opened_empty old is = record {
    open_now = refl;
    none = gathered_none;
    inner = subst (λ (k : Kind). IsEmptyHeap k settings s) (sym is) opened;
  }
