-- For the calls of `ProxyTable`: the proxies that its fields represent: their limit, addresses, number and free ones, in a new table and after an address is
-- changed, added or removed.
use Rattle.std.proofs.Common.{◌≡◌, ◌≢◌, ℕ, zero, suc, ◌+◌, ◌-◌, ◌<◌, List, ◌∷◌, Option, Some, None, length, get_or, set, arith, refl, sym, ◌∙◌, ap, subst}
use Rattle.std.specs.Prelude.{IsSome, is_some, count_by}
use Rattle.std.proofs.lemmas.List.{length-set, length-replicate}
use Rattle.std.proofs.lemmas.List.Sums.{count_by-le-length}
use Rattle.std.specs.FinMap as map
use Rattle.cf_base.specs.Maps.{numbered}
use Rattle.cf_base.proofs.Numbered.{numbered-set, numbered-clear, get-numbered, numbered_live, len-numbered}
use Rattle.proxy_table.specs.Proxies.{Proxies, AreBelowLimit, no_proxies, with_place, without_place}
use Rattle.cf_base.specs.Maps.{vacant}
use Rattle.proxy_table.specs.Layout.{proxies_of, top_down, IsFalling, IsValid}
use Rattle.proxy_table.proofs.Free.{are_free, free_given, free_rest, free_taken, free_new, without_stack}

some_is_some : {X : Type 0} (o : Option X) (x : X) → o ≡ Some x → IsSome o
some_is_some o x is = rw is refl

-- the proxies that the lists represent are below the limit
pub places_below : (places : List (Option ℕ)) (stack : List ℕ) (left : ℕ) → IsValid places stack left → AreBelowLimit (proxies_of places stack left)
places_below places stack left s =
    let free = are_free places stack left s in
    record {
      below = λ number place is. numbered_live places number (some_is_some _ place is);
      few = (let e = len-numbered 0 places in let l = count_by-le-length is_some places in omega arith);
      free_below = free.below;
      not_live = λ number among. get-numbered places number ∙ free.not_live number among;
      once = free.once;
      counted = (let e = len-numbered 0 places in let l = free.long in let c = s.counted in omega arith);
    }

numbered-vacant : (n k : ℕ) → numbered k (vacant {X = ℕ} n) ≡ map.empty
numbered-vacant zero k = refl
numbered-vacant (suc n) k = numbered-vacant n (k + 1)

pub proxies_of-vacant : (n : ℕ) (stack : List ℕ) → IsFalling n stack → proxies_of (vacant {X = ℕ} n) stack n ≡ no_proxies n
proxies_of-vacant n stack falling =
    λ i. record { limit = length-replicate {A = Option ℕ} n None i; places = numbered-vacant n 0 i; free = free_new n stack falling i }

module _ (places : List (Option ℕ)) (stack : List ℕ) (left : ℕ) (proxies : Proxies) (seen : proxies_of places stack left ≡ proxies) where
  pub below_limit : IsValid places stack left → AreBelowLimit proxies
  below_limit s = subst AreBelowLimit seen (places_below places stack left s)

  pub limit_is : proxies.limit ≡ length places
  limit_is = ap (λ (p : Proxies). p.limit) (sym seen)

  pub len_is : map.len proxies.places ≡ count_by is_some places
  len_is = ap (λ (p : Proxies). map.len p.places) (sym seen) ∙ len-numbered 0 places

  pub get_is : (h : ℕ) → map.get proxies.places h ≡ get_or places h None
  get_is h = ap (λ (p : Proxies). map.get p.places h) (sym seen) ∙ get-numbered places h

  pub live_within : (h : ℕ) → IsSome (map.get proxies.places h) → h < length places
  live_within h live = numbered_live places h (rw (ap (λ (p : Proxies). map.get p.places h) seen) live)

  pub live_at : (h : ℕ) → IsSome (map.get proxies.places h) → IsSome (get_or places h None)
  live_at h live = rw (get_is h) at live

  pub seen_set : (h a : ℕ) → h < length places → ((i : ℕ) → i < left → get_or stack i 0 ≢ h)
      → proxies_of (set places h (Some a)) stack left ≡ with_place proxies h a
  seen_set h a lt off =
      (λ i. record {
        limit = length-set places h (Some a) i;
        places = numbered-set places h a lt i;
        free = sym (without_stack stack h left off) i;
      }) ∙ ap (λ (p : Proxies). with_place p h a) seen

  pub free_is : top_down stack left ≡ proxies.free
  free_is = ap (λ (p : Proxies). p.free) seen

  -- the topmost number of the stack is the first free one
  pub seen_first : (h : ℕ) → 0 < left → h ≡ get_or stack (left - 1) 0 → proxies.free ≡ h ∷ top_down stack (left - 1)
  seen_first h some is = ap (λ (p : Proxies). p.free) (sym seen) ∙ free_given stack left h some is

  pub seen_given : (h a : ℕ) → h < length places → 0 < left → h ≡ get_or stack (left - 1) 0 → ((i : ℕ) → i < left - 1 → get_or stack i 0 ≢ h)
      → proxies_of (set places h (Some a)) stack (left - 1) ≡ with_place proxies h a
  seen_given h a lt some is off =
      (λ i. record {
        limit = length-set places h (Some a) i;
        places = numbered-set places h a lt i;
        free = sym (free_rest stack left h some is off) i;
      }) ∙ ap (λ (p : Proxies). with_place p h a) seen

  -- a released number becomes the first free one
  pub seen_released : (h : ℕ) → h < length places → left < length stack
      → proxies_of (set places h None) (set stack left h) (left + 1) ≡ without_place proxies h
  seen_released h lt room =
      (λ i. record { limit = length-set places h None i; places = numbered-clear places h lt i; free = free_taken stack left h room i })
      ∙ ap (λ (p : Proxies). without_place p h) seen
