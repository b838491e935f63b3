-- The image of settings and objects, decoded field by field, has these settings and these objects (laws `an_image_is_read_back` and
-- `an_image_determines_its_objects`). How each field decodes, for the proofs of a load too.
use Rattle.std.proofs.Common.{◌≡◌, ◌∙◌, ◌++◌, ◌+◌, ◌*◌, ◌/◌, ◌%◌, ◌≤◌, ◌<◌, ◌^◌, ℕ, zero, suc, true, List, [], Option, Some, None}
use Rattle.std.proofs.Common.{length, refl, ap, sym, arith, append_assoc}
use Rattle.std.proofs.Common.{length-append}
use Rattle.std.specs.Prelude.{nat_le, ◌==◌}
use Rattle.std.specs.Int.{w16, w32}
use Rattle.std.specs.FinMap.{empty, entries, get, get-empty, insert, len, len-entries}
use Rattle.std.specs.Ordering.{nat_cmp}
use Rattle.std.proofs.Math.Seq.{drop-append_seam, take-append_seam}
use Rattle.std.proofs.lemmas.Bool.{and_from, cond-false}
use Rattle.std.proofs.lemmas.Bool.Decides.{nat_tests}
use Rattle.std.proofs.lemmas.Nat.{mul-le}
use Rattle.cf_base.specs.Limits.{is_page_size, is_within}
use Rattle.cf_base.specs.Settings.{Profile, profile_from}
use Rattle.cf_base.proofs.Tests.{within_limits, le_yes, lt_no}
use Rattle.cf_model.specs.Rules.{AreInRange}
use Rattle.page_model.specs.Arrangement.{pages_needed}
use Rattle.page_model.specs.Held.{Objects}
use Rattle.heap_image.specs.Decoded.{Decoded, Reached, at_first, bytes_decoded, breaks_after, breaks_in, count_decoded, decoded, end_decoded, entries_decoded}
use Rattle.heap_image.specs.Decoded.{entry_decoded, has_room, image_paging, is_page_of, length_decoded, page_bytes_decoded, pages_decoded, passed}
use Rattle.heap_image.specs.Decoded.{proxies_decoded, unopened, whole}
use Rattle.heap_image.specs.Heaps.{HaveImage, image_under}
use Rattle.heap_image.specs.Image.{entries_of, entry_of, mark, number_bytes}
use Rattle.heap_image.specs.Listed.{listed_objects}
use Rattle.heap_image.proofs.Encoded.{AreBelow, below_none, below_some, needed_added, needed_more, below_end}
use Rattle.heap_image.proofs.Listing.{listed_all, listed_end, listed_none, listed_some}
use Rattle.heap_image.proofs.Numbers.{field_read_2, field_read_4}

-- an entry that was written decodes to its object, and `go` decodes what follows
module _ (p : Profile) (r : Reached) (go : Reached → List ℕ → Decoded) where
  pub bytes_read : (id : ℕ) (v rest : List ℕ) → bytes_decoded p r id (length v) (v ++ rest) go ≡ go (passed r id v) rest
  unfolding bytes_decoded
  bytes_read id v rest =
      let more = length-append v rest in
      cond-false _ _ _ (lt_no (length (v ++ rest)) (length v) (omega arith))
      ∙ (λ i. go (passed r id (take-append_seam v rest i)) (drop-append_seam v rest i))

  length_read : (id : ℕ) (v rest : List ℕ) → length v < 2 ^ 32 → has_room p r.objects (length v) ≡ true
      → length_decoded p r id (number_bytes w32 (length v) ++ (v ++ rest)) go ≡ go (passed r id v) rest
  unfolding length_decoded
  length_read id v rest small room = field_read_4 (length v) (v ++ rest) (breaks_in p r 2) (λ n. has_room p r.objects n)
      (λ n rest. bytes_decoded p r id n rest go) room small ∙ bytes_read id v rest

  pub entry_read : (id : ℕ) (v rest : List ℕ) → id < 2 ^ 16 → r.next ≤ id → length v < 2 ^ 32 → has_room p r.objects (length v) ≡ true
      → entry_decoded p r (entry_of id v ++ rest) go ≡ go (passed r id v) rest
  unfolding entry_decoded
  entry_read id v rest low next small room =
      ap (λ (b : List ℕ). entry_decoded p r b go) (append_assoc (number_bytes w16 id) (number_bytes w32 (length v) ++ v) rest
      ∙ ap (λ (b : List ℕ). number_bytes w16 id ++ b) (append_assoc (number_bytes w32 (length v)) v rest))
      ∙ field_read_2 id (number_bytes w32 (length v) ++ (v ++ rest)) (breaks_in p r 0) (λ id. nat_le r.next id) (λ id rest. length_decoded p r id rest go)
      (le_yes r.next id next) low ∙ length_read id v rest small room

-- decoding entries: without a further one, and with one more
pub entries_end : (p : Profile) (r : Reached) → entries_decoded p 0 r [] ≡ whole p r.objects
unfolding entries_decoded end_decoded
entries_end p r = refl

pub entries_next : (p : Profile) (n : ℕ) (r : Reached) (bytes : List ℕ)
    → entries_decoded p (suc n) r bytes ≡ entry_decoded p r bytes (λ r rest. entries_decoded p n r rest)
unfolding entries_decoded
entries_next p n r bytes = refl

-- `pages_decoded` decodes what follows the mark
pub mark_read : (rest : List ℕ) → decoded (mark ++ rest) ≡ pages_decoded rest
unfolding decoded
mark_read rest = refl

-- a page has at most 8,388,608 words, so its bytes fit a number of 32 bits
pub page_small : (p : Profile) → AreInRange p → p.page_words ≤ 8388608
page_small p h = (let least = h.some_pages in let most = h.small_region in let m = mul-le 1 p.page_words p.pages p.page_words least (omega arith) in omega
    arith)

module _ (p : Profile) (o : Objects) (h : HaveImage p o) where
  needs_less : (n k : ℕ) (m : Objects) → k + n ≡ 65536 → AreBelow o k m → pages_needed (image_paging p) m ≤ pages_needed (image_paging p) o
  needs_less zero k m end b = (let e = ap (pages_needed (image_paging p)) (below_end o h.ids k m (omega arith) b) in omega arith)
  needs_less (suc n) k m end b = go (get o k) refl (λ m b. needs_less n (k + 1) m (omega arith) b)
    where
      go : (v : Option (List ℕ)) → get o k ≡ v
          → ((m : Objects) → AreBelow o (k + 1) m → pages_needed (image_paging p) m ≤ pages_needed (image_paging p) o)
          → pages_needed (image_paging p) m ≤ pages_needed (image_paging p) o
      go None e rest = rest m (below_none o k m b e)
      go (Some v) e rest =
          let more = needed_more (image_paging p) m (length v) in
          let added = needed_added (image_paging p) m k v (b.high k (omega arith)) in
          let less = rest (insert m k v) (below_some o k m b v e) in
          omega arith

  module _ (n k : ℕ) (m : Objects) (v : List ℕ) (end : k + suc n ≡ 65536) (b : AreBelow o k m) (some : get o k ≡ Some v) where
    room_read : has_room p m (length v) ≡ true
    unfolding has_room
    room_read =
        let added = needed_added (image_paging p) m k v (b.high k (omega arith)) in
        let less = needs_less n (k + 1) (insert m k v) (omega arith) (below_some o k m b v some) in
        let room = h.room in
        and_from _ _ (le_yes _ _ (h.fit k v some)) (le_yes _ _ (omega arith))

    bytes_small : length v < 2 ^ 32
    bytes_small = (let fit = h.fit k v some in let small = page_small p h.settings in omega arith)

  entries_read : (n k next at : ℕ) (m : Objects) → k + n ≡ 65536 → next ≤ k → AreBelow o k m
      → entries_decoded p (length (listed_objects o k n)) (record { next = next; objects = m; at = at }) (entries_of (listed_objects o k n)) ≡ whole p o
  entries_read zero k next at m end le b =
      ap (λ (es : List (ℕ × List ℕ)). entries_decoded p (length es) (record { next = next; objects = m; at = at }) (entries_of es)) (listed_end o k)
      ∙ entries_end p (record { next = next; objects = m; at = at }) ∙ ap (whole p) (below_end o h.ids k m (omega arith) b)
  entries_read (suc n) k next at m end le b = go (get o k) refl (λ next at m le b. entries_read n (k + 1) next at m (omega arith) le b)
    where
      go : (v : Option (List ℕ)) → get o k ≡ v
          → ((next at : ℕ) (m : Objects) → next ≤ k + 1 → AreBelow o (k + 1) m
          → entries_decoded p (length (listed_objects o (k + 1) n)) (record { next = next; objects = m; at = at }) (entries_of (listed_objects o (k + 1) n)) ≡ whole p o)
          → entries_decoded p (length (listed_objects o k (suc n))) (record { next = next; objects = m; at = at }) (entries_of (listed_objects o k (suc n))) ≡ whole p o
      go None e rest =
          ap (λ (es : List (ℕ × List ℕ)). entries_decoded p (length es) (record { next = next; objects = m; at = at }) (entries_of es)) (listed_none o k n e)
          ∙ rest next at m (omega arith) (below_none o k m b e)
      go (Some v) e rest =
          ap (λ (es : List (ℕ × List ℕ)). entries_decoded p (length es) (record { next = next; objects = m; at = at }) (entries_of es)) (listed_some o k n v e)
          ∙ entries_next p (length (listed_objects o (k + 1) n)) (record { next = next; objects = m; at = at }) (entry_of k v ++ entries_of (listed_objects o (k + 1) n))
          ∙ entry_read p (record { next = next; objects = m; at = at }) (λ r rest. entries_decoded p (length (listed_objects o (k + 1) n)) r rest) k v
          (entries_of (listed_objects o (k + 1) n)) (h.ids k v e) le (bytes_small n k m v end b e) (room_read n k m v end b e)
          ∙ rest (k + 1) (at + (6 + length v)) (insert m k v) (omega arith) (below_some o k m b v e)

  -- the entries of the whole image
  all_read : entries_decoded p (len o) at_first (entries_of (entries o)) ≡ whole p o
  all_read =
      let all = listed_all o 65536 (λ q v e. h.ids q v e) in
      ap (λ n. entries_decoded p n at_first (entries_of (entries o))) (len-entries o)
      ∙ ap (λ (es : List (ℕ × List ℕ)). entries_decoded p (length es) at_first (entries_of es)) all
      ∙ entries_read 65536 0 0 20 empty (omega arith) (omega arith) (record {
        low = λ q lt. absurd (omega arith);
        high = λ q le. get-empty nat_cmp q;
      })

  count_read : count_decoded p (number_bytes w32 (len o) ++ entries_of (entries o)) ≡ whole p o
  unfolding count_decoded
  count_read =
      let few = h.few in let most = h.settings.few_proxies in
      field_read_4 (len o) (entries_of (entries o)) (breaks_after p empty 16) (λ n. nat_le n p.proxies) (λ n rest. entries_decoded p n at_first rest)
      (le_yes (len o) p.proxies few) (omega arith) ∙ all_read

  pub profile_is : profile_from p.pages (8 * p.page_words) 1 p.proxies ≡ p
  profile_is = (let back : 8 * p.page_words / 8 ≡ p.page_words = omega arith in
      λ i. record { pages = p.pages; page_words = back i; k = sym h.one i; proxies = p.proxies })

  page_is : is_page_of p.pages (8 * p.page_words) ≡ true
  page_is =
      let whole_words : (8 * p.page_words % 8 == 0) ≡ true = grind (arith, nat_tests) in
      let back : 8 * p.page_words / 8 ≡ p.page_words = omega arith in
      let size : is_page_size (8 * p.page_words / 8) ≡ true = ap is_page_size back ∙ h.settings.page_size in
      let region = h.settings.small_region in
      and_from _ _ (and_from _ _ whole_words size) (le_yes (p.pages * (8 * p.page_words)) 67108864 (omega arith))

  abbrev behind : List ℕ
  behind = entries_of (entries o)

  proxies_read : proxies_decoded p.pages (8 * p.page_words) (number_bytes w32 p.proxies ++ (number_bytes w32 (len o) ++ behind)) ≡ whole p o
  unfolding proxies_decoded
  proxies_read =
      let least = h.settings.some_proxies in let most = h.settings.few_proxies in
      field_read_4 p.proxies (number_bytes w32 (len o) ++ behind) (unopened 12) (λ n. is_within 1 65536 n)
      (λ n rest. count_decoded (profile_from p.pages (8 * p.page_words) 1 n) rest) (within_limits 1 65536 p.proxies least most) (omega arith)
      ∙ ap (λ (q : Profile). count_decoded q (number_bytes w32 (len o) ++ behind)) profile_is ∙ count_read

  page_bytes_read : page_bytes_decoded p.pages (number_bytes w32 (8 * p.page_words) ++
      (number_bytes w32 p.proxies ++ (number_bytes w32 (len o) ++ behind))) ≡ whole p o
  unfolding page_bytes_decoded
  page_bytes_read =
      let small = page_small p h.settings in
      field_read_4 (8 * p.page_words) (number_bytes w32 p.proxies ++ (number_bytes w32 (len o) ++ behind)) (unopened 8) (λ n. is_page_of p.pages n)
      (λ n rest. proxies_decoded p.pages n rest) page_is (omega arith) ∙ proxies_read

  pages_read : pages_decoded (number_bytes w32 p.pages ++ (number_bytes w32 (8 * p.page_words) ++
      (number_bytes w32 p.proxies ++ (number_bytes w32 (len o) ++ behind)))) ≡ whole p o
  unfolding pages_decoded
  pages_read =
      let least = h.settings.some_pages in let most = h.settings.few_pages in
      field_read_4 p.pages (number_bytes w32 (8 * p.page_words) ++ (number_bytes w32 p.proxies ++ (number_bytes w32 (len o) ++ behind))) (unopened 4)
      (λ n. is_within 1 4096 n) (λ n rest. page_bytes_decoded n rest) (within_limits 1 4096 p.pages least most) (omega arith) ∙ page_bytes_read

  -- the image of the settings p and the objects o decodes to these
  pub image_read : decoded (image_under p o) ≡ whole p o
  image_read =
      let a = number_bytes w32 p.pages in let b = number_bytes w32 (8 * p.page_words) in let c = number_bytes w32 p.proxies in
      let d = number_bytes w32 (len o) in
      ap (λ (bytes : List ℕ). decoded (mark ++ bytes)) (append_assoc a (b ++ (c ++ d)) behind
      ∙ ap (λ (l : List ℕ). a ++ l) (append_assoc b (c ++ d) behind ∙ ap (λ (l : List ℕ). b ++ l) (append_assoc c d behind)))
      ∙ mark_read _ ∙ pages_read
