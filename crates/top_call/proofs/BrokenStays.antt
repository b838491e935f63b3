-- For the law `a_broken_rule_stays_broken`: bytes that break a rule of images, and are not only cut, decode to the same whatever bytes follow (`Stays`). T
-- and U decode bytes.
use Rattle.std.proofs.Common.{◌≡◌, ◌∙◌, ◌++◌, ◌≤◌, ◌<◌, ℕ, zero, suc, Bool, true, false, List, [], ◌∷◌, Some, None, length, take, drop, refl, ap, sym, arith, inl, inr, length-append, if◌then◌else◌, nat_le, nat_lt}
use Rattle.std.specs.Int.{Width, w16, w32, byte_len}
use Rattle.std.specs.FinMap.{empty}
use Rattle.std.specs.Str.{bytes_eq}
use Rattle.std.proofs.lemmas.Bool.{cases_lt}
use Rattle.std.proofs.lemmas.Bool.Decides.{nat_tests}
use Rattle.std.proofs.lemmas.List.{drop-append-le, length-take, take-append-le}
use Rattle.std.proofs.lemmas.Slice.Eq.{bytes_eq-Decides}
use Rattle.cf_base.specs.Limits.{is_within}
use Rattle.cf_base.specs.Settings.{Profile, profile_from}
use Rattle.heap_image.specs.Decoded.{Decoded, Reached, at_first, breaks_after, breaks_in, bytes_decoded, count_decoded, cut, decoded, end_decoded}
use Rattle.heap_image.specs.Decoded.{entries_decoded, entry_decoded, has_room, is_page_of, length_decoded, number, page_bytes_decoded, pages_decoded, passed}
use Rattle.heap_image.specs.Decoded.{proxies_decoded, unopened}
use Rattle.heap_image.specs.Image.{mark, number_of_bytes}

abbrev Reading : Type 0
Reading = List ℕ → Decoded

-- bytes that break a rule of T, and not only because they end too early, decode to the same whatever bytes follow
abbrev pub Stays : Reading → Type 0
Stays T = (bytes more : List ℕ) (at : ℕ) → (T bytes).broken ≡ Some at → (T bytes).is_cut ≡ false → T (bytes ++ more) ≡ T bytes

same_stays : (d : Decoded) → Stays (λ _. d)
same_stays d bytes more at broken rule = refl

if_stays : (b : Bool) (T U : Reading) → Stays T → Stays U → Stays (λ bytes. if b then T bytes else U bytes)
if_stays true T U t u = t
if_stays false T U t u = u

-- a field of k bytes: it is cut, or `go` decodes its bytes and those after it
abbrev by_field : ℕ → Decoded → (List ℕ → Reading) → Reading
by_field k bad go bytes = if nat_lt (length bytes) k then cut bad else go (take k bytes) (drop k bytes)

module _ (k : ℕ) (bad : Decoded) (go : List ℕ → Reading) where
  field_whole : (bytes : List ℕ) → k ≤ length bytes → by_field k bad go bytes ≡ go (take k bytes) (drop k bytes)
  field_whole bytes le = (let no : nat_lt (length bytes) k ≡ false = grind (arith, nat_tests) in
      ap (λ b. if b then cut bad else go (take k bytes) (drop k bytes)) no)

  field_cut : (bytes : List ℕ) → length bytes < k → by_field k bad go bytes ≡ cut bad
  field_cut bytes lt = (let yes : nat_lt (length bytes) k ≡ true = grind (arith, nat_tests) in
      ap (λ b. if b then cut bad else go (take k bytes) (drop k bytes)) yes)

  field_stays : ((field : List ℕ) → Stays (go field)) → Stays (by_field k bad go)
  field_stays h bytes more at broken rule = elim (cases_lt (length bytes) k) [
    | inl lt ↦ absurd (let z : true ≡ false = sym (ap (λ (d : Decoded). d.is_cut) (field_cut bytes lt)) ∙ rule in cc)
    | inr le ↦
        let joined = length-append bytes more in
        let here = field_whole bytes le in
        field_whole (bytes ++ more) (omega arith)
        ∙ (λ i. go (take-append-le k bytes more le i) (drop-append-le k bytes more le i))
        ∙ h (take k bytes) (drop k bytes) more at (ap (λ (d : Decoded). d.broken) (sym here) ∙ broken) (ap (λ (d : Decoded). d.is_cut) (sym here) ∙ rule)
        ∙ sym here
  ]

-- `Stays` of a number that must pass a test
number_stays : (w : Width) (bad : Decoded) (test : ℕ → Bool) (go : ℕ → Reading) → ((n : ℕ) → Stays (go n))
    → Stays (λ bytes. number w bytes bad (λ n rest. if test n then go n rest else bad))
number_stays w bad test go h = field_stays (byte_len w) bad (λ field rest. if test (number_of_bytes w field) then go (number_of_bytes w field) rest else bad)
    (λ field. if_stays (test (number_of_bytes w field)) (go (number_of_bytes w field)) (λ _. bad) (h (number_of_bytes w field)) (same_stays bad))

-- `Stays` of an entry
module _ (p : Profile) (r : Reached) (go : Reached → Reading) (h : (r : Reached) → Stays (go r)) where
  bytes_stay : (id n : ℕ) → Stays (λ bytes. bytes_decoded p r id n bytes go)
  unfolding bytes_decoded
  bytes_stay id n = field_stays n (breaks_in p r 6) (λ v rest. go (passed r id v) rest) (λ v. h (passed r id v))

  length_stays : (id : ℕ) → Stays (λ bytes. length_decoded p r id bytes go)
  unfolding length_decoded
  length_stays id = number_stays w32 (breaks_in p r 2) (λ n. has_room p r.objects n) (λ n rest. bytes_decoded p r id n rest go) (λ n. bytes_stay id n)

  entry_stays : Stays (λ bytes. entry_decoded p r bytes go)
  unfolding entry_decoded
  entry_stays = number_stays w16 (breaks_in p r 0) (λ id. nat_le r.next id) (λ id rest. length_decoded p r id rest go) (λ id. length_stays id)

-- `Stays` of the end
end_stays : (p : Profile) (r : Reached) → Stays (end_decoded p r)
unfolding end_decoded
end_stays p r [] more at broken rule = absurd (let z : None ≡ Some at = broken in cc)
end_stays p r (b ∷ rest) more at broken rule = refl

entries_stay : (n : ℕ) (p : Profile) (r : Reached) → Stays (entries_decoded p n r)
unfolding entries_decoded
entries_stay zero p r = end_stays p r
entries_stay (suc n) p r = entry_stays p r (λ r rest. entries_decoded p n r rest) (λ r. entries_stay n p r)

-- `Stays` of the number of objects and of the settings
count_stays : (p : Profile) → Stays (count_decoded p)
unfolding count_decoded
count_stays p = number_stays w32 (breaks_after p empty 16) (λ n. nat_le n p.proxies) (λ n rest. entries_decoded p n at_first rest)
    (λ n. entries_stay n p at_first)

proxies_stay : (pages page_bytes : ℕ) → Stays (proxies_decoded pages page_bytes)
unfolding proxies_decoded
proxies_stay pages page_bytes = number_stays w32 (unopened 12) (λ n. is_within 1 65536 n)
    (λ n rest. count_decoded (profile_from pages page_bytes 1 n) rest) (λ n. count_stays (profile_from pages page_bytes 1 n))

page_bytes_stay : (pages : ℕ) → Stays (page_bytes_decoded pages)
unfolding page_bytes_decoded
page_bytes_stay pages = number_stays w32 (unopened 8) (λ n. is_page_of pages n) (λ n rest. proxies_decoded pages n rest) (λ n. proxies_stay pages n)

pages_stay : Stays pages_decoded
unfolding pages_decoded
pages_stay = number_stays w32 (unopened 4) (λ n. is_within 1 4096 n) (λ n rest. page_bytes_decoded n rest) (λ n. page_bytes_stay n)

-- what bytes that don't begin with the mark decode to; and `Stays` of the mark
abbrev unmarked : List ℕ → Decoded
unmarked bytes = record (unopened 0) { is_cut = nat_lt (length bytes) 4 }

by_mark : (bytes : List ℕ) → decoded bytes ≡ (if bytes_eq (take 4 bytes) mark then pages_decoded (drop 4 bytes) else unmarked bytes)
unfolding decoded
by_mark bytes = refl

by_test : (bytes : List ℕ) (b : Bool) → bytes_eq (take 4 bytes) mark ≡ b → decoded bytes ≡ (if b then pages_decoded (drop 4 bytes) else unmarked bytes)
by_test bytes b e = by_mark bytes ∙ ap (λ b. if b then pages_decoded (drop 4 bytes) else unmarked bytes) e

module _ (bytes more : List ℕ) (at : ℕ) where
  longer : (b : Bool) → bytes_eq (take 4 bytes) mark ≡ b → 4 ≤ length bytes → bytes_eq (take 4 (bytes ++ more)) mark ≡ b
  longer b e le = ap (λ (l : List ℕ). bytes_eq l mark) (take-append-le 4 bytes more le) ∙ e

  by_case : (b : Bool) → bytes_eq (take 4 bytes) mark ≡ b → (decoded bytes).broken ≡ Some at → (decoded bytes).is_cut ≡ false
      → decoded (bytes ++ more) ≡ decoded bytes
  by_case true e broken rule =
      let four : length (take 4 bytes) ≡ 4 = ap (length {A = ℕ}) ((bytes_eq-Decides (take 4 bytes) mark).0 e) in
      let taken = length-take 4 bytes in
      let le : 4 ≤ length bytes = omega arith in
      let here = by_test bytes true e in
      by_test (bytes ++ more) true (longer true e le) ∙ ap pages_decoded (drop-append-le 4 bytes more le)
      ∙ pages_stay (drop 4 bytes) more at (ap (λ (d : Decoded). d.broken) (sym here) ∙ broken) (ap (λ (d : Decoded). d.is_cut) (sym here) ∙ rule)
      ∙ sym here
  by_case false e broken rule =
      let here = by_test bytes false e in
      let short : nat_lt (length bytes) 4 ≡ false = ap (λ (d : Decoded). d.is_cut) (sym here) ∙ rule in
      let le : 4 ≤ length bytes = grind (arith, nat_tests) in
      let joined = length-append bytes more in
      let still : nat_lt (length (bytes ++ more)) 4 ≡ false = grind (arith, nat_tests) in
      by_test (bytes ++ more) false (longer false e le)
      ∙ ap (λ b. record (unopened 0) { is_cut = b }) (still ∙ sym short) ∙ sym here

pub broken_stays : Stays decoded
broken_stays bytes more at broken rule = by_case bytes more at (bytes_eq (take 4 bytes) mark) refl broken rule
