-- Laws of the handles that C has (`Handles`): an object's handle names it, and a handle whose number was freed names no object until its number was freed as
-- many times as it has generations; no handle is `none`. Also, for `Handles`: the low bits of a handle, the next generation, and that the handles that
-- `Handles::new` makes are those of a heap just opened.
use Rattle.std.proofs.Common.{◌≡◌, ◌≢◌, ℕ, zero, suc, cond, ◌+◌, ◌-◌, ◌*◌, ◌/◌, ◌%◌, ◌^◌, ◌<◌, ◌≤◌, List, [], ◌∷◌, length, bit_and, max, refl, sym, ◌∙◌, ap, subst, inl, inr, arith}
use Rattle.std.specs.Prelude.{◌⊎◌, nat_eq, nat_lt, slice_index}
use Rattle.std.proofs.lemmas.Bool.{cond-true, cond-false, le-ltb, lt-ltb, eq-eqb, ne_eqb, cases_eq, cases_lt}
use Rattle.std.proofs.lemmas.Nat.{and_mask, div-add-mod', mod_below, mod-mul-add, mul-le, pow-add, pow_below, same_from_place, shl-shr}
use Rattle.std.proofs.lemmas.List.{get_or-set_same, get_or-set_other, length-set}
use Rattle.std.proofs.Math.Nat.{max-eq_right, mod-eq_of_lt}
use Rattle.c_base.specs.Frees.{generation_after, raised_all, times_in}
use Rattle.std.specs.List.{range_with_len}
use Rattle.std.proofs.lemmas.List.FromFn.{length-range_with_len}
use Rattle.c_base.specs.Handles.{base_of, first_handles, handle_of, next, none, number_in, raised}
use Rattle.c_base.specs.HandleRules.{AreFirstHandles, AreHandles, IsCount}

-- the generations of `count` numbers fill 32 bits
pub generations_whole : (count : ℕ) → IsCount count → 2 ^ 32 / count * count ≡ 2 ^ 32
generations_whole count c =
    let low : c.bits ≤ 32 = elim (cases_lt 32 c.bits) [
      | inl lt ↦ absurd (let p = pow_below 32 c.bits lt in let q = c.power in let few = c.few in omega (arith, p, q, few))
      | inr le ↦ le
    ] in
    let split : 32 ≡ 32 - c.bits + c.bits = omega (arith, low) in
    let e : 2 ^ 32 ≡ 2 ^ (32 - c.bits) * 2 ^ c.bits = ap (λ k. 2 ^ k) split ∙ pow-add 2 (32 - c.bits) c.bits in
    subst (λ n. 2 ^ 32 / n * n ≡ 2 ^ 32) (sym c.power)
    (ap (λ n. n / 2 ^ c.bits * 2 ^ c.bits) e ∙ ap (λ n. n * 2 ^ c.bits) (shl-shr (2 ^ (32 - c.bits)) c.bits) ∙ sym e)

-- the handle after one of generation g: that of the next generation, and after the last one of the first
pub next_is : (count most n g : ℕ) → most * count ≡ 2 ^ 32 → n < count → g + 1 < most
    → next count (g * count + n) ≡ cond (nat_lt (g + 1) (most - 1)) (g + 1) 0 * count + n
next_is count most n g whole low few = elim (cases_lt (g + 2) most) [
  | inl lt ↦ (
      let room : (g + 3) * count ≤ most * count = mul-le (g + 3) count most count (omega arith) (omega arith) in
      let three : (g + 3) * count ≡ g * count + 3 * count = omega arith in
      let one : (g + 1) * count ≡ g * count + count = omega arith in
      cond-true (nat_lt (g * count + n + 2 * count) (2 ^ 32)) _ _ (lt-ltb (g * count + n + 2 * count) (2 ^ 32) (omega (arith, room, three, whole, low)))
      ∙ (let e : g * count + n + count ≡ (g + 1) * count + n = omega (arith, one) in e)
      ∙ sym (ap (λ x. x * count + n) (cond-true (nat_lt (g + 1) (most - 1)) (g + 1) 0 (lt-ltb (g + 1) (most - 1) (omega arith)))))
  | inr ge ↦ (
      let full : most * count ≤ (g + 2) * count = mul-le most count (g + 2) count ge (omega arith) in
      let two : (g + 2) * count ≡ g * count + 2 * count = omega arith in
      cond-false (nat_lt (g * count + n + 2 * count) (2 ^ 32)) _ _ (le-ltb (g * count + n + 2 * count) (2 ^ 32) (omega (arith, full, two, whole)))
      ∙ mod-mul-add g count n low ∙ (let e : n ≡ 0 * count + n = omega arith in e)
      ∙ sym (ap (λ x. x * count + n) (cond-false (nat_lt (g + 1) (most - 1)) (g + 1) 0 (le-ltb (g + 1) (most - 1) (omega arith)))))
]

-- g after k frees, k at most c: larger by k, or by k less c
pub after_is : (c k g : ℕ) → g < c → k ≤ c → (generation_after c k g < c) × ((generation_after c k g ≡ g + k) ⊎ (generation_after c k g + c ≡ g + k))
after_is c zero g small few = (small, inl (omega arith))
after_is c (suc k) g small few = elim (cases_lt (g + 1) c) [
  | inl lt ↦ (
      let now : cond (nat_lt (g + 1) c) (g + 1) 0 ≡ g + 1 = cond-true (nat_lt (g + 1) c) (g + 1) 0 (lt-ltb (g + 1) c lt) in
      let rest = after_is c k (g + 1) lt (omega arith) in
      subst (λ x. (generation_after c k x < c) × ((generation_after c k x ≡ g + suc k) ⊎ (generation_after c k x + c ≡ g + suc k))) (sym now)
      (rest.0, elim rest.1 [ inl e ↦ inl (omega (arith, e)) | inr e ↦ inr (omega (arith, e)) ]))
  | inr ge ↦ (
      let now : cond (nat_lt (g + 1) c) (g + 1) 0 ≡ 0 = cond-false (nat_lt (g + 1) c) (g + 1) 0 (le-ltb (g + 1) c ge) in
      let rest = after_is c k 0 (omega arith) (omega arith) in
      subst (λ x. (generation_after c k x < c) × ((generation_after c k x ≡ g + suc k) ⊎ (generation_after c k x + c ≡ g + suc k))) (sym now)
      (rest.0, elim rest.1 [ inl e ↦ inr (omega (arith, e)) | inr e ↦ absurd (omega (arith, e, rest.0)) ]))
]

pub length-raised : (handles : List ℕ) (m : ℕ) → length (raised handles m) ≡ length handles
length-raised handles m = length-set handles m (next (length handles) (slice_index handles m))

pub length-raised_all : (handles ns : List ℕ) → length (raised_all handles ns) ≡ length handles
length-raised_all handles [] = refl
length-raised_all handles (n ∷ ns) = length-raised_all (raised handles n) ns ∙ length-raised handles n

-- the handle of number n after frees is that of the generation after its own frees
raised_at : (count most n : ℕ) → most * count ≡ 2 ^ 32 → n < count → (ns handles : List ℕ) → length handles ≡ count → (g : ℕ) → g + 1 < most
    → slice_index handles n ≡ g * count + n → slice_index (raised_all handles ns) n ≡ generation_after (most - 1) (times_in n ns) g * count + n
raised_at count most n whole low [] handles long g few is = is
raised_at count most n whole low (m ∷ ms) handles long g few is =
    let longer : length (raised handles m) ≡ count = length-raised handles m ∙ long in
    let h = next (length handles) (slice_index handles m) in
    elim (cases_eq m n) [
      | inl same ↦ (
          let g' = cond (nat_lt (g + 1) (most - 1)) (g + 1) 0 in
          let within : n < length handles = subst (λ l. n < l) (sym long) low in
          let value : next (length handles) (slice_index handles n) ≡ g' * count + n =
          ap (λ l. next l (slice_index handles n)) long ∙ ap (next count) is ∙ next_is count most n g whole low few in
          let one : slice_index (raised handles m) n ≡ g' * count + n =
          subst (λ i. slice_index (raised handles i) n ≡ g' * count + n) (sym same) (get_or-set_same handles n (next (length handles) (slice_index handles n)) 0 within ∙ value) in
          let few' : g' + 1 < most = elim (cases_lt (g + 1) (most - 1)) [
            | inl lt ↦ (let e = cond-true (nat_lt (g + 1) (most - 1)) (g + 1) 0 (lt-ltb (g + 1) (most - 1) lt) in omega (arith, e, lt))
            | inr ge ↦ (let e = cond-false (nat_lt (g + 1) (most - 1)) (g + 1) 0 (le-ltb (g + 1) (most - 1) ge) in omega (arith, e, few))
          ] in
          let more : times_in n (m ∷ ms) ≡ suc (times_in n ms) = cond-true (nat_eq m n) (suc (times_in n ms)) (times_in n ms) (eq-eqb m n same) in
          raised_at count most n whole low ms (raised handles m) longer g' few' one ∙ sym (ap (λ k. generation_after (most - 1) k g * count + n) more))
      | inr other ↦ (
          let one : slice_index (raised handles m) n ≡ slice_index handles n = get_or-set_other handles m n h 0 (λ e. other (sym e)) in
          let same : times_in n (m ∷ ms) ≡ times_in n ms = cond-false (nat_eq m n) (suc (times_in n ms)) (times_in n ms) (ne_eqb m n other) in
          raised_at count most n whole low ms (raised handles m) longer g few (one ∙ is) ∙ sym (ap (λ k. generation_after (most - 1) k g * count + n) same))
    ]

-- a handle with these low bits names their number if it is the handle of that number, and else nothing
pub named : (handles : List ℕ) (handle n : ℕ) → handle % length handles ≡ n → number_in handles handle ≡ cond (nat_eq (slice_index handles n) handle) n none
named handles handle n e = rw e refl

-- the low bits of a handle are its rest by the count
pub low_bits : (handle count : ℕ) → IsCount count → bit_and handle (count - 1) ≡ handle % count
low_bits handle count c = subst (λ n. bit_and handle (n - 1) ≡ handle % n) (sym c.power) (and_mask handle c.bits)

-- the least power of two that is not below some proxies is a count for them
pub fits_proxies : (count proxies : ℕ) → count / 2 < max 1 proxies → 1 ≤ proxies → count < 2 * proxies
fits_proxies count proxies upper some = (let m : max 1 proxies ≡ proxies = max-eq_right some in let h = div-add-mod' count 2 in let r = mod_below count 2 (omega arith) in omega (arith, upper, m, h, r))

-- the handles of a heap that was just opened
pub first_are : (proxies last count base : ℕ) (items : List ℕ) → (j : ℕ) × (count ≡ 2 ^ j) → proxies ≤ count → count / 2 < max 1 proxies → 1 ≤ proxies → proxies ≤ 65536
    → base ≡ base_of count last → items ≡ range_with_len base count → AreFirstHandles proxies last items
first_are proxies last count base items power enough upper some few is are =
    let least = fits_proxies count proxies upper some in
    let long : length items ≡ count = ap length are ∙ length-range_with_len base count in
    record {
      count = subst IsCount (sym long) (record { bits = power.0; power = power.1; some = omega (arith, enough, some); few = omega (arith, least, few) });
      enough = omega (arith, long, enough);
      least = omega (arith, long, least);
      whole = are ∙ ap (λ b. range_with_len b count) is ∙ sym (ap (λ n. first_handles n last) long);
    }

module _ (handles : List ℕ) (k : AreHandles handles) (n : ℕ) (within : n < length handles) where
  abbrev count : ℕ
  count = length handles

  is_at : handle_of handles n ≡ slice_index handles n
  is_at = ap (slice_index handles) (mod-eq_of_lt within)

  low_of : handle_of handles n % count ≡ n
  low_of = ap (λ h. h % count) (is_at ∙ (k.each n within).whole) ∙ mod-mul-add (k.each n within).generation count n within

  -- the handle of an object names it
  pub names_itself : number_in handles (handle_of handles n) ≡ n
  names_itself = named handles (handle_of handles n) n low_of ∙ cond-true (nat_eq (slice_index handles n) (handle_of handles n)) n none (eq-eqb (slice_index handles n) (handle_of handles n) (sym is_at))

  -- no handle is `none`
  pub handle_small : handle_of handles n < none
  handle_small =
      let i = k.each n within in let g = i.generation in
      let room : (g + 2) * count ≤ 2 ^ 32 / count * count = mul-le (g + 2) count (2 ^ 32 / count) count (omega (arith, i.in_range)) (omega arith) in
      let two : (g + 2) * count ≡ g * count + 2 * count = omega arith in
      let w = generations_whole count k.count in let v = i.whole in let at = is_at in let lt = within in
      omega (arith, at, v, room, two, w, lt)

  -- THE LAW: a handle names no object from the first free of its number until that number was freed as many times as it has generations
  pub refused_since_freed : (ns : List ℕ) → 1 ≤ times_in n ns → times_in n ns + 1 < 2 ^ 32 / length handles → number_in (raised_all handles ns) (handle_of handles n) ≡ none
  refused_since_freed ns some_free not_all =
      let i = k.each n within in let g = i.generation in let most = 2 ^ 32 / count in
      let now = raised_all handles ns in
      let at : slice_index now n ≡ generation_after (most - 1) (times_in n ns) g * count + n =
      raised_at count most n (generations_whole count k.count) within ns handles refl g i.in_range i.whole in
      let other : slice_index now n ≢ handle_of handles n = λ same.
      let place : generation_after (most - 1) (times_in n ns) g * count + n ≡ g * count + n = sym at ∙ same ∙ is_at ∙ i.whole in
      let still : generation_after (most - 1) (times_in n ns) g ≡ g = (same_from_place (generation_after (most - 1) (times_in n ns) g) n g n count within within place).0 in
      elim (after_is (most - 1) (times_in n ns) g (omega (arith, i.in_range)) (omega (arith, not_all))).1 [
        | inl e ↦ omega (arith, e, still, some_free)
        | inr e ↦ omega (arith, e, still, not_all)
      ] in
      named now (handle_of handles n) n (subst (λ l. handle_of handles n % l ≡ n) (sym (length-raised_all handles ns)) low_of)
      ∙ cond-false (nat_eq (slice_index now n) (handle_of handles n)) n none (ne_eqb (slice_index now n) (handle_of handles n) other)
