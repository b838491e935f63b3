-- Fields of an image that are numbers of two or four bytes: a number that was written is read back, and bytes that were read are written back; a whole field
-- decodes to its number, a cut one as cut. The length of such a field, of an entry and of the header.
use Rattle.std.proofs.Common.{◌≡◌, ◌∙◌, ◌+◌, ◌++◌, ◌<◌, ◌^◌, ℕ, Bool, true, false, List, length, take, drop, refl, ap, sym, arith, get_or}
use Rattle.std.specs.Prelude.{nat_lt, if◌then◌else◌}
use Rattle.std.specs.Int.{Width, w16, w32, byte_len}
use Rattle.std.proofs.Common.{length-append}
use Rattle.std.proofs.Math.Seq.{drop-append_seam, take-append_seam}
use Rattle.std.proofs.lemmas.Bool.Decides.{nat_tests}
use Rattle.std.proofs.lemmas.Nat.{from_le_bytes-to_le_bytes_2, from_le_bytes-to_le_bytes_4, le_bytes_2, le_bytes_4}
use Rattle.heap_image.specs.Decoded.{Decoded, cut, number}
use Rattle.heap_image.specs.Image.{entry_of, header_of, number_bytes, number_of_bytes}

pub length-number_2 : (n : ℕ) → length (number_bytes w16 n) ≡ 2
unfolding number_bytes
length-number_2 n = refl

pub length-number_4 : (n : ℕ) → length (number_bytes w32 n) ≡ 4
unfolding number_bytes
length-number_4 n = refl

pub length-entry : (id : ℕ) (v : List ℕ) → length (entry_of id v) ≡ 6 + length v
length-entry id v =
    let a = length-append (number_bytes w16 id) (number_bytes w32 (length v) ++ v) in
    let b = length-append (number_bytes w32 (length v)) v in
    let c = length-number_2 id in
    let d = length-number_4 (length v) in
    omega (arith, a, b, c, d)

pub length-header : (pages page_bytes proxies count : ℕ) → length (header_of pages page_bytes proxies count) ≡ 20
length-header pages page_bytes proxies count =
    let a = length-append (number_bytes w32 pages) (number_bytes w32 page_bytes ++ (number_bytes w32 proxies ++ number_bytes w32 count)) in
    let b = length-append (number_bytes w32 page_bytes) (number_bytes w32 proxies ++ number_bytes w32 count) in
    let c = length-append (number_bytes w32 proxies) (number_bytes w32 count) in
    let d = length-number_4 pages in
    let e = length-number_4 page_bytes in
    let f = length-number_4 proxies in
    let g = length-number_4 count in
    omega (arith, a, b, c, d, e, f, g)

pub number_back_2 : (n : ℕ) → n < 2 ^ 16 → number_of_bytes w16 (number_bytes w16 n) ≡ n
unfolding number_bytes number_of_bytes
number_back_2 n small = from_le_bytes-to_le_bytes_2 n small

pub number_back_4 : (n : ℕ) → n < 2 ^ 32 → number_of_bytes w32 (number_bytes w32 n) ≡ n
unfolding number_bytes number_of_bytes
number_back_4 n small = from_le_bytes-to_le_bytes_4 n small

pub bytes_back_2 : (bytes : List ℕ) → length bytes ≡ 2 → ((i : ℕ) → get_or bytes i 0 < 256) → number_bytes w16 (number_of_bytes w16 bytes) ≡ bytes
unfolding number_bytes number_of_bytes
bytes_back_2 bytes two small = le_bytes_2 bytes _ two small refl

pub bytes_back_4 : (bytes : List ℕ) → length bytes ≡ 4 → ((i : ℕ) → get_or bytes i 0 < 256) → number_bytes w32 (number_of_bytes w32 bytes) ≡ bytes
unfolding number_bytes number_of_bytes
bytes_back_4 bytes four small = le_bytes_4 bytes _ four small refl

module _ (w : Width) (bytes : List ℕ) (bad : Decoded) (go : ℕ → List ℕ → Decoded) where
  -- a whole field decodes to its number, and `go` decodes what follows
  pub number_whole : (rest : List ℕ) → length bytes ≡ byte_len w → number w (bytes ++ rest) bad go ≡ go (number_of_bytes w bytes) rest
  number_whole rest same =
      let more = length-append bytes rest in
      let long : nat_lt (length (bytes ++ rest)) (byte_len w) ≡ false = grind (arith, nat_tests) in
      let front : take (byte_len w) (bytes ++ rest) ≡ bytes = ap (λ n. take n (bytes ++ rest)) (sym same) ∙ take-append_seam bytes rest in
      let back : drop (byte_len w) (bytes ++ rest) ≡ rest = ap (λ n. drop n (bytes ++ rest)) (sym same) ∙ drop-append_seam bytes rest in
      ap (λ b. if b then cut bad else go (number_of_bytes w (take (byte_len w) (bytes ++ rest))) (drop (byte_len w) (bytes ++ rest))) long
      ∙ (λ i. go (number_of_bytes w (front i)) (back i))

  -- a field that is cut decodes to `bad`, marked as cut
  pub number_cut : length bytes < byte_len w → number w bytes bad go ≡ cut bad
  number_cut short =
      let less : nat_lt (length bytes) (byte_len w) ≡ true = grind (arith, nat_tests) in
      ap (λ b. if b then cut bad else go (number_of_bytes w (take (byte_len w) bytes)) (drop (byte_len w) bytes)) less

-- a number that was written is read back, whatever follows it
module _ (n : ℕ) (rest : List ℕ) (bad : Decoded) (go : ℕ → List ℕ → Decoded) where
  pub number_read_2 : n < 2 ^ 16 → number w16 (number_bytes w16 n ++ rest) bad go ≡ go n rest
  number_read_2 small = number_whole w16 (number_bytes w16 n) bad go rest (length-number_2 n) ∙ ap (λ n. go n rest) (number_back_2 n small)

  pub number_read_4 : n < 2 ^ 32 → number w32 (number_bytes w32 n ++ rest) bad go ≡ go n rest
  number_read_4 small = number_whole w32 (number_bytes w32 n) bad go rest (length-number_4 n) ∙ ap (λ n. go n rest) (number_back_4 n small)

-- a number that was written and passes its test is read back, and `yes` decodes what follows
module _ (n : ℕ) (rest : List ℕ) (bad : Decoded) (test : ℕ → Bool) (yes : ℕ → List ℕ → Decoded) (good : test n ≡ true) where
  accepted : (if test n then yes n rest else bad) ≡ yes n rest
  accepted = ap (λ b. if b then yes n rest else bad) good

  pub field_read_2 : n < 2 ^ 16 → number w16 (number_bytes w16 n ++ rest) bad (λ n rest. if test n then yes n rest else bad) ≡ yes n rest
  field_read_2 small = number_read_2 n rest bad (λ n rest. if test n then yes n rest else bad) small ∙ accepted

  pub field_read_4 : n < 2 ^ 32 → number w32 (number_bytes w32 n ++ rest) bad (λ n rest. if test n then yes n rest else bad) ≡ yes n rest
  field_read_4 small = number_read_4 n rest bad (λ n rest. if test n then yes n rest else bad) small ∙ accepted
