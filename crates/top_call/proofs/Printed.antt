-- For the law `printed_scripts_are_read_back`, clauses `read` and `clean`: the printed script is read back as its items, has no bad line, and is within the
-- limit. For the law `the_size_of_an_image_is_known_beforehand`: the length of an image.
use Rattle.std.proofs.Common.{◌≡◌, ◌∙◌, ◌++◌, ◌+◌, ◌*◌, ◌/◌, ◌%◌, ◌≤◌, ◌<◌, ℕ, zero, suc, true, List, [], ◌∷◌, Option, Some, None, length, take, drop, map, refl, ap, sym, subst, arith, length-drop, inl, inr, ◌-◌, false, mul_assoc, mul-le-mul_left, mul-le-mul_right, add-mul, length-append, take-append-drop, ◌^◌, length-take-le, take_all, ◌==◌, nat_le, nat_eq, sum_by, codes, div-add-mod'}
use Rattle.std.specs.Int.{div_ceil}
use Rattle.std.specs.FinMap.{entries, get, empty, insert, get-empty, len, len-empty}
use Rattle.std.proofs.lemmas.Bool.{cases_lt, and_from, cond-true, cases_eq}
use Rattle.std.proofs.lemmas.Bool.Decides.{nat_tests}
use Rattle.cf_base.specs.Limits.{is_page_bytes, is_page_size}
use Rattle.run_model.specs.Terms.{AreBytes, asks, Command, items, Objects, Profile, starts, classes, IsPaging, need, Paging, slot_words, slots_of, Malloc, Write}
use Rattle.cf_base.specs.Settings.{setting_fault}
use Rattle.cf_base.proofs.Tests.{within_limits, le_yes}
use Rattle.heap_image.specs.Heaps.{HaveImage, image_under}
use Rattle.heap_image.specs.Listed.{listed_objects}
use Rattle.top_call.proofs.OnlyImages.{bytes_left, bytes_taken}
use Rattle.top_call.specs.ImageScript.{commands_of, object_commands, script_under, writes_from, script_items}
use Rattle.script_reader.specs.ReadBack.{ArePlainCommands, CanOpen, IsWord, command_lines, heap_line}
use Rattle.heap_image.proofs.CallerLemmas.{listed_all, listed_end, listed_none, listed_some, page_small, profile_is, AreBelow, below_none, below_some, below_end, length-entry, length-header}
use Rattle.script_reader.proofs.CallerLemmas.{script_back, numbers_short}
use Rattle.std.specs.List.{range_with_len}
use Rattle.std.specs.Ordering.{nat_cmp}
use Rattle.std.proofs.lemmas.List.Sums.{sum_by-cons}
use Rattle.std.proofs.Math.Nat.{div-mul-le_self, mod-lt}
use Rattle.cf_base.proofs.Induction.{map_induction}
use Rattle.cf_base.proofs.Maps.{get_inserted, len_fresh}
use Rattle.cf_base.proofs.Ranges.{one, sum_le}
use Rattle.cf_base.proofs.Values.{no_values, still}
use Rattle.page_model.specs.Arrangement.{live, pages_needed}
use Rattle.page_model.specs.Counts.{ceil_div}
use Rattle.page_model.specs.Figures.{asked_bytes}
use Rattle.page_model.specs.Paging.{class_for}
use Rattle.page_model.proofs.CallerLemmas.{asked_added, class_fits, class_holds, live_added, slots_some, sum_plus, sum_same, first_paged, none_asked}
use Rattle.std.specs.Fmt.{decimal}
use Rattle.hex.specs.Hex.{encode_lower}
use Rattle.cf_io.proofs.CallerLemmas.{length_in_hex}
use Rattle.cf_base.specs.declared.kind.Layout.TheVariants.{Words}
use Rattle.heap_image.specs.Decoded.{image_paging}
use Rattle.script_reader.specs.CommandText.{after_spaces, line_of}
use Rattle.script_loop.specs.ScriptOutcome.{MOST_BYTES, IsClean, has_bad}
use Rattle.heap_image.specs.Image.{entries_of, entry_of, header_of}

-- For the law `printed_scripts_are_read_back`, clause `read`: the text of the script that mode `load` prints for some objects is read back as its items, a
-- `heap` line and valid commands.

plain_joined : (cs ds : List Command) → ArePlainCommands cs → ArePlainCommands ds → ArePlainCommands (cs ++ ds)
plain_joined [] ds are more = more
plain_joined (c ∷ cs) ds are more = (are.0, are.1, plain_joined cs ds are.2 more)

some_taken : (bytes : List ℕ) → 1 ≤ length bytes → 1 ≤ length (take 4096 bytes)
some_taken bytes some = elim (cases_lt 4096 (length bytes)) [
  | inl lt ↦ (let e = length-take-le 4096 bytes (omega (arith, lt)) in omega (arith, e))
  | inr le ↦ (let e = ap (length {A = ℕ}) (take_all 4096 bytes le) in omega (arith, e))
]

few_taken : (bytes : List ℕ) → length (take 4096 bytes) ≤ 4096
few_taken bytes = elim (cases_lt 4096 (length bytes)) [
  | inl lt ↦ (let e = length-take-le 4096 bytes (omega (arith, lt)) in omega (arith, e))
  | inr le ↦ (let e = ap (length {A = ℕ}) (take_all 4096 bytes le) in omega (arith, e, le))
]

plain_writes : (n id at : ℕ) (bytes : List ℕ) → id ≤ 65535 → AreBytes bytes → 4096 * n < length bytes + 4096 → at + 4096 * n ≤ 4294967295 + 4096
    → ArePlainCommands (writes_from n id at bytes)
unfolding writes_from
plain_writes zero id at bytes low are many fits = tt
plain_writes (suc n) id at bytes low are many fits =
    let left = length-drop 4096 bytes in (
      record {
        formed = (some_taken bytes (omega (arith, many)), few_taken bytes);
        typed = (low, (let w : at ≤ 4294967295 = omega (arith, fits) in w), bytes_taken 4096 bytes are);
      },
      refl,
      plain_writes n id (at + 4096) (drop 4096 bytes) low (bytes_left 4096 bytes are) (omega (arith, many, left)) (omega (arith, fits)),
    )

plain_object : (id : ℕ) (v : List ℕ) → id ≤ 65535 → AreBytes v → length v ≤ 4294967295 → ArePlainCommands (object_commands id v)
plain_object id v low are small = (
  record { formed = tt; typed = (low, small) },
  refl,
  plain_writes (div_ceil (length v) 4096) id 0 v low are (omega arith) (omega (arith, small)),
)

module _ (p : Profile) (o : Objects) (h : HaveImage p o) where
  pub bytes_small : (k : ℕ) (v : List ℕ) → get o k ≡ Some v → length v ≤ 4294967295
  bytes_small k v some = (let fit = h.fit k v some in let small = page_small p h.settings in omega arith)

  plain_listed : (n k : ℕ) → ArePlainCommands (commands_of (listed_objects o k n))
  plain_listed zero k = subst (λ (es : List (ℕ × List ℕ)). ArePlainCommands (commands_of es)) (sym (listed_end o k)) tt
  plain_listed (suc n) k = go (get o k) refl (plain_listed n (k + 1))
    where
      go : (v : Option (List ℕ)) → get o k ≡ v → ArePlainCommands (commands_of (listed_objects o (k + 1) n)) → ArePlainCommands (commands_of (listed_objects o k (suc n)))
      go None e rest = subst (λ (es : List (ℕ × List ℕ)). ArePlainCommands (commands_of es)) (sym (listed_none o k n e)) rest
      go (Some v) e rest = subst (λ (es : List (ℕ × List ℕ)). ArePlainCommands (commands_of es)) (sym (listed_some o k n v e))
          (plain_joined (object_commands k v) (commands_of (listed_objects o (k + 1) n))
          (plain_object k v (let low = h.ids k v e in omega (arith, low)) (h.bytes k v e) (bytes_small k v e)) rest)

  pub plain_all : ArePlainCommands (commands_of (entries o))
  plain_all = subst (λ (es : List (ℕ × List ℕ)). ArePlainCommands (commands_of es)) (sym (listed_all o 65536 (λ q v e. h.ids q v e))) (plain_listed 65536 0)

  page_is : is_page_bytes (8 * p.page_words) ≡ true
  page_is =
      let whole_words : (8 * p.page_words % 8 == 0) ≡ true = grind (arith, nat_tests) in
      let back : 8 * p.page_words / 8 ≡ p.page_words = omega arith in
      let size : is_page_size (8 * p.page_words / 8) ≡ true = ap is_page_size back ∙ h.settings.page_size in
      and_from _ _ whole_words size

  region_is : nat_le (p.pages * (8 * p.page_words)) 67108864 ≡ true
  region_is = (let region = h.settings.small_region in le_yes (p.pages * (8 * p.page_words)) 67108864 (omega arith))

  no_fault : setting_fault p.pages (8 * p.page_words) 1 p.proxies ≡ None
  no_fault =
      cond-true _ _ _ (within_limits 1 4096 p.pages h.settings.some_pages h.settings.few_pages) ∙ cond-true _ _ _ page_is
      ∙ cond-true _ _ _ (within_limits 1 65536 p.proxies h.settings.some_proxies h.settings.few_proxies) ∙ cond-true _ _ _ region_is

  can_open : CanOpen p.pages (8 * p.page_words) 1 p.proxies
  can_open = record {
    typed = (
      (let few = h.settings.few_pages in let w : p.pages ≤ 4294967295 = omega (arith, few) in w),
      (let small = page_small p h.settings in let w : 8 * p.page_words ≤ 4294967295 = omega (arith, small) in w),
      (let w : 1 ≤ 4294967295 = omega arith in w),
      (let few = h.settings.few_proxies in let w : p.proxies ≤ 4294967295 = omega (arith, few) in w),
    );
    in_range = no_fault;
  }

  -- the script is read back as the commands that make the objects
  pub read_back : items (script_under p o) true ≡ script_items p o
  read_back = script_back p.pages (8 * p.page_words) 1 p.proxies (commands_of (entries o)) can_open plain_all
      ∙ ap (λ (q : Profile). starts q ∷ map (λ c. asks c) (commands_of (entries o))) (profile_is p o h)

-- For the length of the script that mode `load` prints: the slots of all objects fit on the pages that the objects need, so their bytes are at most those of
-- these pages.

-- a sum in which only term k counts
sum_point : (f : ℕ → ℕ) (k a n : ℕ) → a ≤ k → k < a + n → sum_by (λ c. one (nat_eq k c) * f c) (range_with_len a n) ≡ f k
sum_point f k a zero low high = absurd (omega (arith, low, high))
sum_point f k a (suc n) low high =
    let r = range_with_len (a + 1) n in
    let x = sum_by-cons (λ c. one (nat_eq k c) * f c) a r in
    elim (cases_eq k a) [
      | inl is ↦ (
          let yes : one (nat_eq k a) ≡ 1 = (let e : nat_eq k a ≡ true = grind (arith, nat_tests, is) in ap one e) in
          let none = sum_past f k (a + 1) n (omega (arith, is)) in
          let here : one (nat_eq k a) * f a ≡ f k = ap (λ o. o * f a) yes ∙ (omega arith) ∙ ap f (sym is) in
          omega (arith, x, none, here))
      | inr ne ↦ (
          let no : one (nat_eq k a) ≡ 0 = (let e : nat_eq k a ≡ false = grind (arith, nat_tests, ne) in ap one e) in
          let rest = sum_point f k (a + 1) n (omega (arith, low, ne)) (omega (arith, high)) in
          let here : one (nat_eq k a) * f a ≡ 0 = ap (λ o. o * f a) no ∙ (omega arith) in
          omega (arith, x, rest, here))
    ]
  where
    sum_past : (f : ℕ → ℕ) (k a n : ℕ) → k < a → sum_by (λ c. one (nat_eq k c) * f c) (range_with_len a n) ≡ 0
    sum_past f k a zero past = refl
    sum_past f k a (suc n) past =
        let x = sum_by-cons (λ c. one (nat_eq k c) * f c) a (range_with_len (a + 1) n) in
        let no : one (nat_eq k a) ≡ 0 = (let e : nat_eq k a ≡ false = grind (arith, nat_tests, past) in ap one e) in
        let here : one (nat_eq k a) * f a ≡ 0 = ap (λ o. o * f a) no ∙ (omega arith) in
        let rest = sum_past f k (a + 1) n (omega (arith, past)) in
        omega (arith, x, here, rest)

sum_times : (f : ℕ → ℕ) (w : ℕ) (xs : List ℕ) → sum_by (λ c. w * f c) xs ≡ w * sum_by f xs
sum_times f w [] = omega arith
sum_times f w (x ∷ xs) =
    let a = sum_by-cons (λ c. w * f c) x xs in let b = sum_by-cons f x xs in let c = sum_times f w xs in
    a ∙ ap (λ n. w * f x + n) c ∙ sym (ap (λ n. w * n) b ∙ (let d : w * (f x + sum_by f xs) ≡ w * f x + w * sum_by f xs = grind arith in d))

-- n slots of s words fit on the pages that they need
room_for : (n s w : ℕ) → 0 < s → 0 < w / s → n * s ≤ w * ceil_div n (w / s)
room_for n s w pos some =
    let m : ℕ = w / s in
    let low : m * s ≤ w = div-mul-le_self w s in
    let d : ceil_div n m * m + (n + (m - 1)) % m ≡ n + (m - 1) = div-add-mod' (n + (m - 1)) m in
    let r : (n + (m - 1)) % m < m = mod-lt (n + (m - 1)) some in
    let enough : n ≤ ceil_div n m * m = omega (arith, d, r) in
    let a : n * s ≤ (ceil_div n m * m) * s = mul-le-mul_right s enough in
    let b : (ceil_div n m * m) * s ≡ ceil_div n m * (m * s) = mul_assoc (ceil_div n m) m s in
    let c : ceil_div n m * (m * s) ≤ ceil_div n m * w = mul-le-mul_left (ceil_div n m) low in
    let e : ceil_div n m * w ≡ w * ceil_div n m = grind arith in
    omega (arith, a, b, c, e)

module _ (p : Paging) (ok : IsPaging p) where
  -- the words of the slots of all objects, class by class
  abbrev weight : Objects → ℕ
  weight o = sum_by (λ c. live p o c * slot_words p c) (range_with_len 0 (classes p))

  weight_added : (o : Objects) (h : ℕ) (v : List ℕ) → get o h ≡ None → class_for p (length v) < classes p
      → weight (insert o h v) ≡ weight o + slot_words p (class_for p (length v))
  weight_added o h v none fits =
      let k : ℕ = class_for p (length v) in
      let f : ℕ → ℕ = λ c. live p o c * slot_words p c in
      let g : ℕ → ℕ = λ c. one (nat_eq k c) * slot_words p c in
      sum_same (λ c. live p (insert o h v) c * slot_words p c) (λ c. f c + g c) (range_with_len 0 (classes p))
      (λ c. ap (λ n. n * slot_words p c) (live_added p o h v c none) ∙ add-mul (live p o c) (one (nat_eq k c)) (slot_words p c))
      ∙ sum_plus f g (range_with_len 0 (classes p))
      ∙ ap (λ n. weight o + n) (sum_point (slot_words p) k 0 (classes p) (omega arith) (omega (arith, fits)))

  nothing : asked_bytes (empty {X = List ℕ} {R = nat_cmp}) ≤ 8 * weight empty
  unfolding asked_bytes
  nothing = (let e = ap (sum_by (length {A = ℕ})) no_values in omega (arith, e))

  asked_weight : (o : Objects) → ((q : ℕ) (v : List ℕ) → get o q ≡ Some v → need (length v) ≤ p.page_words) → asked_bytes o ≤ 8 * weight o
  asked_weight = map_induction (λ o. ((q : ℕ) (v : List ℕ) → get o q ≡ Some v → need (length v) ≤ p.page_words) → asked_bytes o ≤ 8 * weight o)
      (λ fit. nothing)
      (λ o h v none ih fit.
      let mine = fit h v (get_inserted o h v) in
      let fits = class_fits p ok (length v) mine in
      let holds = class_holds p ok (length v) fits in
      let before = ih (λ q w f. fit q w (still o h v none q w f).1) in
      let a = asked_added o h v none in
      let b = weight_added o h v none fits in
      omega (arith, holds, before, a, b))

  weight_pages : (o : Objects) → weight o ≤ p.page_words * pages_needed p o
  unfolding pages_needed
  weight_pages o =
      let a = sum_le (λ c. live p o c * slot_words p c) (λ c. p.page_words * ceil_div (live p o c) (slots_of p c)) 0 (classes p)
      (λ c low high.
      let lt : c < classes p = omega (arith, high) in
      let least = ok.sized.least c lt in
      room_for (live p o c) (slot_words p c) p.page_words (omega (arith, least)) (slots_some p ok c lt)) in
      let b = sum_times (λ c. ceil_div (live p o c) (slots_of p c)) p.page_words (range_with_len 0 (classes p)) in
      omega (arith, a, b)

  pub asked_fits : (o : Objects) → ((q : ℕ) (v : List ℕ) → get o q ≡ Some v → need (length v) ≤ p.page_words)
      → asked_bytes o ≤ 8 * (p.page_words * pages_needed p o)
  asked_fits o fit = (let a = asked_weight o fit in let b = weight_pages o in omega (arith, a, b))

-- For the law `printed_scripts_are_read_back`, clause `clean`: the script that mode `load` prints for the objects of an image is within the limit of a
-- script, 268,435,455 bytes.

lines_joined : (cs ds : List Command) → length (command_lines (cs ++ ds)) ≡ length (command_lines cs) + length (command_lines ds)
lines_joined [] ds = omega arith
lines_joined (c ∷ cs) ds =
    let a = length-append (line_of c) (command_lines (cs ++ ds)) in let b = length-append (line_of c) (command_lines cs) in let d = lines_joined cs ds in
    omega (arith, a, b, d)

malloc_short : (id n : ℕ) → IsWord id → IsWord n → length (line_of (Malloc id n)) ≤ 44
malloc_short id n low small =
    let numbers = numbers_short (id ∷ n ∷ []) (low, (small, tt)) in
    let e = length-append (codes "m" ++ after_spaces (decimal id ∷ decimal n ∷ [])) (10 ∷ []) in
    let f = length-append (codes "m") (after_spaces (decimal id ∷ decimal n ∷ [])) in
    omega (arith, numbers, e, f)

write_short : (id at : ℕ) (bytes : List ℕ) → IsWord id → IsWord at → length (line_of (Write id at bytes)) ≤ 45 + 2 * length bytes
write_short id at bytes low small =
    let numbers = numbers_short (id ∷ at ∷ []) (low, (small, tt)) in
    let a = length-append (codes "w" ++ after_spaces (decimal id ∷ decimal at ∷ encode_lower bytes ∷ [])) (10 ∷ []) in
    let b = length-append (codes "w") (after_spaces (decimal id ∷ decimal at ∷ encode_lower bytes ∷ [])) in
    let e = length-append (decimal id) ((32 ∷ decimal at) ++ ((32 ∷ encode_lower bytes) ++ [])) in
    let f = length-append (decimal at) ((32 ∷ encode_lower bytes) ++ []) in
    let g = length-append (encode_lower bytes) [] in
    let h = length-append (decimal id) ((32 ∷ decimal at) ++ []) in
    let i = length-append (decimal at) [] in
    let long = length_in_hex bytes in
    omega (arith, numbers, a, b, e, f, g, h, i, long)

writes_short : (n id at : ℕ) (bytes : List ℕ) → IsWord id → at + 4096 * n ≤ 4294967295 + 4096
    → length (command_lines (writes_from n id at bytes)) ≤ 45 * n + 2 * length bytes
unfolding writes_from
writes_short zero id at bytes low fits = omega arith
writes_short (suc n) id at bytes low fits =
    let a = length-append (line_of (Write id at (take 4096 bytes))) (command_lines (writes_from n id (at + 4096) (drop 4096 bytes))) in
    let b = write_short id at (take 4096 bytes) low (let w : at ≤ 4294967295 = omega (arith, fits) in w) in
    let c = writes_short n id (at + 4096) (drop 4096 bytes) low (omega (arith, fits)) in
    let d = ap (length {A = ℕ}) (take-append-drop 4096 bytes) in
    let e = length-append (take 4096 bytes) (drop 4096 bytes) in
    omega (arith, a, b, c, d, e)

object_short : (id : ℕ) (v : List ℕ) → IsWord id → IsWord (length v) → length (command_lines (object_commands id v)) ≤ 89 + 3 * length v
object_short id v low small =
    let a = length-append (line_of (Malloc id (length v))) (command_lines (writes_from (div_ceil (length v) 4096) id 0 v)) in
    let b = malloc_short id (length v) low small in
    let c = writes_short (div_ceil (length v) 4096) id 0 v low (omega (arith, small)) in
    omega (arith, a, b, c)

heap_short : (a b c d : ℕ) → IsWord a → IsWord b → IsWord c → IsWord d → length (heap_line a b c d) ≤ 89
heap_short a b c d wa wb wc wd =
    let numbers = numbers_short (a ∷ b ∷ c ∷ d ∷ []) (wa, (wb, (wc, (wd, tt)))) in
    let e = length-append (codes "heap" ++ after_spaces (decimal a ∷ decimal b ∷ decimal c ∷ decimal d ∷ [])) (10 ∷ []) in
    let f = length-append (codes "heap") (after_spaces (decimal a ∷ decimal b ∷ decimal c ∷ decimal d ∷ [])) in
    omega (arith, numbers, e, f)

module _ (p : Profile) (o : Objects) (h : HaveImage p o) where
  all_short : (n k : ℕ) (m : Objects) → k + n ≡ 65536 → AreBelow o k m
      → length (command_lines (commands_of (listed_objects o k n))) + (89 * len m + 3 * asked_bytes m) ≤ 89 * len o + 3 * asked_bytes o
  all_short zero k m end b =
      let same = below_end o h.ids k m (omega arith) b in
      let a = ap (λ (m : Objects). len m) same in
      let c = ap asked_bytes same in
      let d = ap (λ (es : List (ℕ × List ℕ)). length (command_lines (commands_of es))) (listed_end o k) in
      omega (arith, a, c, d)
  all_short (suc n) k m end b = go (get o k) refl (λ m b. all_short n (k + 1) m (omega arith) b)
    where
      go : (v : Option (List ℕ)) → get o k ≡ v
          → ((m : Objects) → AreBelow o (k + 1) m
          → length (command_lines (commands_of (listed_objects o (k + 1) n))) + (89 * len m + 3 * asked_bytes m) ≤ 89 * len o + 3 * asked_bytes o)
          → length (command_lines (commands_of (listed_objects o k (suc n)))) + (89 * len m + 3 * asked_bytes m) ≤ 89 * len o + 3 * asked_bytes o
      go None e rest =
          let a = rest m (below_none o k m b e) in
          let d = ap (λ (es : List (ℕ × List ℕ)). length (command_lines (commands_of es))) (listed_none o k n e) in
          omega (arith, a, d)
      go (Some v) e rest =
          let none : get m k ≡ None = b.high k (omega arith) in
          let a = rest (insert m k v) (below_some o k m b v e) in
          let c = len_fresh m k v none in
          let f = asked_added m k v none in
          let low = h.ids k v e in
          let g = object_short k v (let w : k ≤ 4294967295 = omega (arith, low) in w) (bytes_small p o h k v e) in
          let d = ap (λ (es : List (ℕ × List ℕ)). length (command_lines (commands_of es))) (listed_some o k n v e) in
          let j = lines_joined (object_commands k v) (commands_of (listed_objects o (k + 1) n)) in
          omega (arith, a, c, d, f, g, j)

  asked_few : asked_bytes o ≤ 67108864
  asked_few =
      let ok = first_paged p Words h.settings.page_size (let some = h.settings.some_bound in some) in
      let a = asked_fits (image_paging p) ok o h.fit in
      let room = h.room in
      let b : p.page_words * pages_needed (image_paging p) o ≤ p.page_words * p.pages = mul-le-mul_left p.page_words room in
      let c : p.page_words * p.pages ≡ p.pages * p.page_words = grind arith in
      let d = h.settings.small_region in
      omega (arith, a, b, c, d)

  pub script_short : length (script_under p o) ≤ MOST_BYTES
  script_short =
      let small = page_small p h.settings in
      let pages = h.settings.few_pages in
      let proxies = h.settings.few_proxies in
      let top = heap_short p.pages (8 * p.page_words) 1 p.proxies (omega (arith, pages)) (omega (arith, small)) (omega arith) (omega (arith, proxies)) in
      let all = all_short 65536 0 empty (omega arith) (record { low = λ q lt. absurd (omega (arith, lt)); high = λ q le. get-empty nat_cmp q }) in
      let is = ap (λ (es : List (ℕ × List ℕ)). length (command_lines (commands_of es))) (listed_all o 65536 (λ q v e. h.ids q v e)) in
      let joined = length-append (heap_line p.pages (8 * p.page_words) 1 p.proxies) (command_lines (commands_of (entries o))) in
      let few = h.few in
      let asked = asked_few in
      omega (arith, top, all, is, joined, few, proxies, asked)

-- For the law `the_size_of_an_image_is_known_beforehand`: the length of an image. For `printed_scripts_are_read_back`, clause `clean`: the script that mode
-- `load` prints has no bad line and isn't too long.

entry_long : (id : ℕ) (v rest : List ℕ) → length (entry_of id v ++ rest) ≡ 6 + length v + length rest
entry_long id v rest = (let a = length-append (entry_of id v) rest in let b = length-entry id v in omega arith)

module _ (o : Objects) (ids : (id : ℕ) (v : List ℕ) → get o id ≡ Some v → id < 2 ^ 16) where
  all_long : (n k : ℕ) (m : Objects) → k + n ≡ 65536 → AreBelow o k m
      → length (entries_of (listed_objects o k n)) + (6 * len m + asked_bytes m) ≡ 6 * len o + asked_bytes o
  all_long zero k m end b =
      let same = below_end o ids k m (omega arith) b in
      let a = ap (λ (m : Objects). len m) same in
      let c = ap asked_bytes same in
      let d = ap (λ (es : List (ℕ × List ℕ)). length (entries_of es)) (listed_end o k) in
      omega (arith, a, c, d)
  all_long (suc n) k m end b = go (get o k) refl (λ m b. all_long n (k + 1) m (omega arith) b)
    where
      go : (v : Option (List ℕ)) → get o k ≡ v
          → ((m : Objects) → AreBelow o (k + 1) m
          → length (entries_of (listed_objects o (k + 1) n)) + (6 * len m + asked_bytes m) ≡ 6 * len o + asked_bytes o)
          → length (entries_of (listed_objects o k (suc n))) + (6 * len m + asked_bytes m) ≡ 6 * len o + asked_bytes o
      go None e rest =
          let a = rest m (below_none o k m b e) in
          let d = ap (λ (es : List (ℕ × List ℕ)). length (entries_of es)) (listed_none o k n e) in
          omega (arith, a, d)
      go (Some v) e rest =
          let none : get m k ≡ None = b.high k (omega arith) in
          let a = rest (insert m k v) (below_some o k m b v e) in
          let c = len_fresh m k v none in
          let f = asked_added m k v none in
          let d = ap (λ (es : List (ℕ × List ℕ)). length (entries_of es)) (listed_some o k n v e) in
          let j = entry_long k v (entries_of (listed_objects o (k + 1) n)) in
          omega (arith, a, c, d, f, j)

  pub image_long : (p : Profile) → length (image_under p o) ≡ 20 + 6 * len o + asked_bytes o
  image_long p =
      let a = length-append (header_of p.pages (8 * p.page_words) p.proxies (len o)) (entries_of (entries o)) in
      let h = length-header p.pages (8 * p.page_words) p.proxies (len o) in
      let all = all_long 65536 0 empty (omega arith) (record { low = λ q lt. absurd (omega (arith, lt)); high = λ q le. get-empty nat_cmp q }) in
      let is = ap (λ (es : List (ℕ × List ℕ)). length (entries_of es)) (listed_all o 65536 ids) in
      let none = none_asked in
      let no = len-empty nat_cmp (List ℕ) in
      omega (arith, a, h, all, is, none, no)

-- no line is bad
no_bad : (cs : List Command) → has_bad (map (λ c. asks c) cs) ≡ false
no_bad [] = refl
no_bad (c ∷ cs) = no_bad cs

pub script_clean : (p : Profile) (o : Objects) → HaveImage p o → IsClean (Some (script_under p o))
script_clean p o h = (script_short p o h, ap has_bad (read_back p o h) ∙ no_bad (commands_of (entries o)))
