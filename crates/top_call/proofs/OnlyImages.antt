-- For the law `only_images_are_read`: bytes that `Decoded` accepts are those of an image, byte for byte, of objects that a heap may hold; they decode to given
-- objects if and only if they are the image of these. On the way: an object with the greatest id is the last entry of a map, and the parts of a list of bytes
-- are lists of bytes.
use Rattle.std.proofs.Common.{◌≡◌, ◌∙◌, ◌++◌, ◌≤◌, ◌<◌, ℕ, false, List, [], ◌∷◌, Some, None, refl, ap, sym, arith, ◌+◌, ◌^◌, zero, suc, Bool, true, length, get_or, take, drop, subst, append-nil, append_assoc, inl, inr, lit<, ◌*◌, ◌/◌, ◌%◌}
use Rattle.std.specs.Prelude.{⊤, cond, nat_le, nat_lt, if◌then◌else◌, ◌==◌, ◌↔◌}
use Rattle.std.specs.Ordering.{eq_by_cmp, nat_cmp}
use Rattle.std.specs.declared.cmp.Ordering.{Ordering}
use Rattle.std.specs.declared.cmp.Ordering.TheVariants.{Greater}
use Rattle.std.specs.Cmp.{nat_cmp_is, nat_cmp_total, unsigned_tied}
use Rattle.std.specs.FinMap.{entries, entries-insert, find, get, get-entries, insert, empty, get-empty, len, len-entries}
use Rattle.std.specs.FinMap.Entries.{by_order, put}
use Rattle.std.proofs.lemmas.Bool.Decides.{nat_tests}
use Rattle.run_model.specs.Terms.{Objects, AreBytes, need, Profile, AreInRange}
use Rattle.std.specs.Int.{Width, w16, w32, byte_len}
use Rattle.std.proofs.lemmas.Bool.{cases_lt, and_parts, leb-true, ltb-false}
use Rattle.std.proofs.lemmas.List.{get_or-drop, get_or-take, get_or_past, length-take, length-take-le, take-append-drop}
use Rattle.cf_base.proofs.Maps.{some_inserted}
use Rattle.page_model.specs.Arrangement.{pages_needed, pages_needed_with}
use Rattle.page_model.proofs.CallerLemmas.{none_needed}
use Rattle.heap_image.specs.Decoded.{Decoded, Reached, breaks_in, bytes_decoded, cut, end_decoded, entries_decoded, entry_decoded, has_room, image_paging, length_decoded, number, passed, IsHeapImage, at_first, breaks_after, count_decoded, decoded, is_page_of, page_bytes_decoded, pages_decoded, proxies_decoded, unopened, whole}
use Rattle.heap_image.specs.Image.{entries_of, entry_of, number_bytes, number_of_bytes, mark}
use Rattle.heap_image.proofs.CallerLemmas.{bytes_back_2, bytes_back_4, needed_added}
use Rattle.std.specs.Str.{bytes_eq}
use Rattle.std.proofs.lemmas.Slice.Eq.{bytes_eq-Decides}
use Rattle.cf_base.specs.Limits.{is_page_bytes, is_page_size, is_within}
use Rattle.cf_base.specs.Settings.{profile_from}
use Rattle.script_laws.proofs.CallerLemmas.{within_range, listed_none}
use Rattle.heap_image.specs.Heaps.{HaveImage, image_under}
use Rattle.top_call.specs.Images.{IsImageOf}

-- For the laws on entries of an image: an object whose id is greater than all others is the last of the map's entries.

-- every id is below k
abbrev pub AreUnder : ℕ → List (ℕ × List ℕ) → Type 0
AreUnder k [] = ⊤
AreUnder k (e ∷ es) = (e.0 < k) × AreUnder k es

pub under_more : (k m : ℕ) (es : List (ℕ × List ℕ)) → k ≤ m → AreUnder k es → AreUnder m es
under_more k m [] le all = tt
under_more k m (e ∷ es) le all = (let first = all.0 in (omega arith, under_more k m es le all.1))

pub under_last : (m id : ℕ) (v : List ℕ) (es : List (ℕ × List ℕ)) → id < m → AreUnder m es → AreUnder m (es ++ ((id, v) ∷ []))
under_last m id v [] lt all = (lt, tt)
under_last m id v (e ∷ es) lt all = (all.0, under_last m id v es lt all.1)

put_last : (id : ℕ) (v : List ℕ) (es : List (ℕ × List ℕ)) → AreUnder id es → put nat_cmp id v es ≡ es ++ ((id, v) ∷ [])
put_last id v [] all = refl
put_last id v (e ∷ es) all =
    ap (λ (r : Ordering). by_order r ((id, v) ∷ e ∷ es) ((e.0, v) ∷ es) (e ∷ put nat_cmp id v es)) (sym (nat_cmp_is id e.0 Greater all.0))
    ∙ ap (λ (l : List (ℕ × List ℕ)). e ∷ l) (put_last id v es all.1)

other : (q k : ℕ) → k < q → eq_by_cmp nat_cmp q k ≡ false
other q k lt = unsigned_tied q k ∙ grind (arith, nat_tests)

find_none : (id : ℕ) (es : List (ℕ × List ℕ)) → AreUnder id es → find nat_cmp id es ≡ None
find_none id [] all = refl
find_none id (e ∷ es) all = ap (λ b. cond b (Some e.1) (find nat_cmp id es)) (other id e.0 all.0) ∙ find_none id es all.1

module _ (o : Objects) (id : ℕ) (under : AreUnder id (entries o)) where
  pub unused_under : get o id ≡ None
  unused_under = get-entries o id ∙ find_none id (entries o) under

  pub entries_last : (v : List ℕ) → entries (insert o id v) ≡ entries o ++ ((id, v) ∷ [])
  entries_last v = entries-insert nat_cmp_total o id v ∙ put_last id v (entries o) under

-- For the law `only_images_are_read`: bytes that `Decoded` accepts as entries are, byte for byte, the entries of the objects that they decode to, and a heap
-- may hold all these objects.

-- if all numbers of a list are bytes, so are the first n of them, and those after the first n
pub bytes_taken : (n : ℕ) (l : List ℕ) → AreBytes l → AreBytes (take n l)
bytes_taken n l b i = elim (cases_lt i n) [
  | inl lt ↦ rw (get_or-take n l i 0 lt) (b i)
  | inr past ↦ rw (get_or_past (take n l) i 0 (simp length-take (omega arith))) (lit< tt)
]

pub bytes_left : (n : ℕ) (l : List ℕ) → AreBytes l → AreBytes (drop n l)
bytes_left n l b i = rw (get_or-drop n l i 0) (b (n + i))

-- what has a broken field isn't an image
pub breaks_not : (d : Decoded) (at : ℕ) → d.broken ≡ Some at → d.broken ≡ None → ⊥
breaks_not d at some none = (let z : Some at ≡ None = sym some ∙ none in cc)

-- if the result of a test is an image and one branch has a broken field, the result is the other branch
pub second_whole : (t : Bool) (x y : Decoded) (at : ℕ) → x.broken ≡ Some at → (if t then x else y).broken ≡ None → (t ≡ false) × (y.broken ≡ None)
second_whole true x y at breaks none = absurd (breaks_not x at breaks none)
second_whole false x y at breaks none = (refl, none)

pub first_whole : (t : Bool) (x y : Decoded) (at : ℕ) → y.broken ≡ Some at → (if t then x else y).broken ≡ None → (t ≡ true) × (x.broken ≡ None)
first_whole true x y at breaks none = (refl, none)
first_whole false x y at breaks none = absurd (breaks_not y at breaks none)

-- a number that is accepted: its value n, its bytes `field`, the bytes `rest` after them, and the test that it passes
pub record AcceptedNumber (w : Width) (bytes : List ℕ) (test : ℕ → Bool) (go : ℕ → List ℕ → Decoded) : Type 0 where
  pub n : ℕ
  pub rest : List ℕ
  pub field : List ℕ
  pub long : length field ≡ byte_len w
  pub small : AreBytes field
  pub is : n ≡ number_of_bytes w field
  pub are : bytes ≡ field ++ rest
  pub rest_bytes : AreBytes rest
  pub passes : test n ≡ true
  pub rest_whole : (go n rest).broken ≡ None

module _ (w : Width) (bytes : List ℕ) (b : AreBytes bytes) (bad : Decoded) (at : ℕ) (breaks : bad.broken ≡ Some at) (test : ℕ → Bool)
    (go : ℕ → List ℕ → Decoded) where
  abbrev pub tested : ℕ → List ℕ → Decoded
  tested n rest = if test n then go n rest else bad

  abbrev front : List ℕ
  front = take (byte_len w) bytes

  abbrev behind : List ℕ
  behind = drop (byte_len w) bytes

  pub number_accepted : (number w bytes bad tested).broken ≡ None → AcceptedNumber w bytes test go
  number_accepted is =
      let whole = second_whole (nat_lt (length bytes) (byte_len w)) (cut bad) (tested (number_of_bytes w front) behind) at breaks is in
      let good = first_whole (test (number_of_bytes w front)) (go (number_of_bytes w front) behind) bad at breaks whole.1 in
      record {
        n = number_of_bytes w front;
        rest = behind;
        field = front;
        long = length-take-le (byte_len w) bytes (ltb-false (length bytes) (byte_len w) whole.0);
        small = bytes_taken (byte_len w) bytes b;
        is = refl;
        are = sym (take-append-drop (byte_len w) bytes);
        rest_bytes = bytes_left (byte_len w) bytes b;
        passes = good.0;
        rest_whole = good.1;
      }

-- the bytes of a field are those of its number
pub field_4 : (field : List ℕ) (n : ℕ) → length field ≡ 4 → AreBytes field → n ≡ number_of_bytes w32 field → field ≡ number_bytes w32 n
field_4 field n long small is = sym (ap (number_bytes w32) is ∙ bytes_back_4 field long small)

field_2 : (field : List ℕ) (n : ℕ) → length field ≡ 2 → AreBytes field → n ≡ number_of_bytes w16 field → field ≡ number_bytes w16 n
field_2 field n long small is = sym (ap (number_bytes w16) is ∙ bytes_back_2 field long small)

small_2 : (field : List ℕ) → AreBytes field → number_of_bytes w16 field < 2 ^ 16
unfolding number_of_bytes
small_2 field small = (let x : get_or field 0 0 < 256 = small 0 in let y : get_or field 1 0 < 256 = small 1 in omega arith)

-- objects that may be held at once, however many proxies there are
pub record MayBeHeld (p : Profile) (o : Objects) : Type 0 where
  pub ids : (id : ℕ) (v : List ℕ) → get o id ≡ Some v → id < 2 ^ 16
  pub bytes : (id : ℕ) (v : List ℕ) → get o id ≡ Some v → AreBytes v
  pub fit : (id : ℕ) (v : List ℕ) → get o id ≡ Some v → need (length v) ≤ p.page_words
  pub room : pages_needed (image_paging p) o ≤ p.pages

pub none_held : (p : Profile) → MayBeHeld p empty
none_held p = record {
  ids = λ id v is. absurd (no id v is);
  bytes = λ id v is. absurd (no id v is);
  fit = λ id v is. absurd (no id v is);
  room = (let none = none_needed (image_paging p) in omega arith);
}
  where
    no : (id : ℕ) (v : List ℕ) → get {R = nat_cmp} empty id ≡ Some v → ⊥
    no id v is = (let z : Some v ≡ None = sym is ∙ get-empty nat_cmp id in cc)

-- an entry that is accepted: an id above those before it, and bytes that fit
record AcceptedEntry (p : Profile) (r : Reached) (bytes : List ℕ) (go : Reached → List ℕ → Decoded) : Type 0 where
  id : ℕ
  v : List ℕ
  rest : List ℕ
  low : id < 2 ^ 16
  rises : r.next ≤ id
  room : has_room p r.objects (length v) ≡ true
  small : AreBytes v
  are : bytes ≡ entry_of id v ++ rest
  rest_bytes : AreBytes rest
  rest_whole : (go (passed r id v) rest).broken ≡ None

module _ (p : Profile) (r : Reached) (go : Reached → List ℕ → Decoded) where
  -- the accepted bytes of an entry's object
  record AcceptedBytes (id n : ℕ) (bytes : List ℕ) : Type 0 where
    v : List ℕ
    rest : List ℕ
    long : length v ≡ n
    small : AreBytes v
    are : bytes ≡ v ++ rest
    rest_bytes : AreBytes rest
    rest_whole : (go (passed r id v) rest).broken ≡ None

  bytes_accepted : (id n : ℕ) (bytes : List ℕ) → AreBytes bytes → (bytes_decoded p r id n bytes go).broken ≡ None → AcceptedBytes id n bytes
  unfolding bytes_decoded
  bytes_accepted id n bytes b is =
      let whole = second_whole (nat_lt (length bytes) n) (cut (breaks_in p r 6)) (go (passed r id (take n bytes)) (drop n bytes)) (r.at + 6) refl is in
      record {
        v = take n bytes;
        rest = drop n bytes;
        long = length-take-le n bytes (ltb-false (length bytes) n whole.0);
        small = bytes_taken n bytes b;
        are = sym (take-append-drop n bytes);
        rest_bytes = bytes_left n bytes b;
        rest_whole = whole.1;
      }

  length_accepted : (id : ℕ) (bytes : List ℕ) → AreBytes bytes → (length_decoded p r id bytes go).broken ≡ None
      → AcceptedNumber w32 bytes (λ n. has_room p r.objects n) (λ n rest. bytes_decoded p r id n rest go)
  unfolding length_decoded
  length_accepted id bytes b is = number_accepted w32 bytes b (breaks_in p r 2) (r.at + 2) refl (λ n. has_room p r.objects n)
      (λ n rest. bytes_decoded p r id n rest go) is

  id_accepted : (bytes : List ℕ) → AreBytes bytes → (entry_decoded p r bytes go).broken ≡ None
      → AcceptedNumber w16 bytes (λ id. nat_le r.next id) (λ id rest. length_decoded p r id rest go)
  unfolding entry_decoded
  id_accepted bytes b is = number_accepted w16 bytes b (breaks_in p r 0) (r.at + 0) refl (λ id. nat_le r.next id) (λ id rest. length_decoded p r id rest go) is

  entry_accepted : (bytes : List ℕ) → AreBytes bytes → (entry_decoded p r bytes go).broken ≡ None → AcceptedEntry p r bytes go
  entry_accepted bytes b is =
      let a = id_accepted bytes b is in
      let l = length_accepted a.n a.rest a.rest_bytes a.rest_whole in
      let h = bytes_accepted a.n l.n l.rest l.rest_bytes l.rest_whole in
      let id_is = field_2 a.field a.n a.long a.small a.is in
      let length_is = field_4 l.field l.n l.long l.small l.is ∙ ap (number_bytes w32) (sym h.long) in
      record {
        id = a.n;
        v = h.v;
        rest = h.rest;
        low = subst (λ n. n < 2 ^ 16) (sym a.is) (small_2 a.field a.small);
        rises = leb-true r.next a.n a.passes;
        room = ap (has_room p r.objects) h.long ∙ l.passes;
        small = h.small;
        are = a.are ∙ (λ i. id_is i ++ (l.are ∙ (λ j. length_is j ++ h.are j)) i)
            ∙ sym (append_assoc (number_bytes w16 a.n) (number_bytes w32 (length h.v) ++ h.v) h.rest
            ∙ ap (λ (l : List ℕ). number_bytes w16 a.n ++ l) (append_assoc (number_bytes w32 (length h.v)) h.v h.rest));
        rest_bytes = h.rest_bytes;
        rest_whole = h.rest_whole;
      }

-- objects that may be held, with one object more
module _ (p : Profile) (o : Objects) (h : MayBeHeld p o) (id : ℕ) (v : List ℕ) (low : id < 2 ^ 16) (small : AreBytes v) (unused : get o id ≡ None)
    (room : has_room p o (length v) ≡ true) where
  fits : need (length v) ≤ p.page_words
  unfolding has_room
  fits = leb-true (need (length v)) p.page_words
      (and_parts (nat_le (need (length v)) p.page_words) (nat_le (pages_needed_with (image_paging p) o (length v)) p.pages) room).0

  needs : pages_needed_with (image_paging p) o (length v) ≤ p.pages
  unfolding has_room
  needs = leb-true (pages_needed_with (image_paging p) o (length v)) p.pages
      (and_parts (nat_le (need (length v)) p.page_words) (nat_le (pages_needed_with (image_paging p) o (length v)) p.pages) room).1

  held_more : MayBeHeld p (insert o id v)
  held_more = record {
    ids = λ q w is. elim (some_inserted o id v q w is) [ inl new ↦ subst (λ n. n < 2 ^ 16) (sym new.0) low | inr old ↦ h.ids q w old.1 ];
    bytes = λ q w is. elim (some_inserted o id v q w is) [ inl new ↦ subst AreBytes new.1 small | inr old ↦ h.bytes q w old.1 ];
    fit = λ q w is. elim (some_inserted o id v q w is) [
      | inl new ↦ subst (λ (x : List ℕ). need (length x) ≤ p.page_words) new.1 fits
      | inr old ↦ h.fit q w old.1
    ];
    room = subst (λ n. n ≤ p.pages) (sym (needed_added (image_paging p) o id v unused)) needs;
  }

-- the objects that the entries up to the end add
pub record AcceptedEntries (p : Profile) (r : Reached) (n : ℕ) (bytes : List ℕ) : Type 0 where
  pub more : List (ℕ × List ℕ)
  pub objects : Objects
  pub many : length more ≡ n
  pub are : bytes ≡ entries_of more
  pub all : entries objects ≡ entries r.objects ++ more
  pub held : MayBeHeld p objects

no_entries_accepted : (p : Profile) (r : Reached) (bytes : List ℕ) → MayBeHeld p r.objects → (entries_decoded p 0 r bytes).broken ≡ None → AcceptedEntries p r 0 bytes
unfolding entries_decoded end_decoded
no_entries_accepted p r [] h is = record { more = []; objects = r.objects; many = refl; are = refl; all = sym (append-nil (entries r.objects)); held = h }
no_entries_accepted p r (b ∷ rest) h is = absurd (breaks_not (breaks_in p r 0) (r.at + 0) refl is)

next_entry_whole : (p : Profile) (n : ℕ) (r : Reached) (bytes : List ℕ) → (entries_decoded p (suc n) r bytes).broken ≡ None
    → (entry_decoded p r bytes (λ r rest. entries_decoded p n r rest)).broken ≡ None
unfolding entries_decoded
next_entry_whole p n r bytes is = is

pub entries_accepted : (n : ℕ) (p : Profile) (r : Reached) (bytes : List ℕ) → AreBytes bytes → MayBeHeld p r.objects → AreUnder r.next (entries r.objects)
    → (entries_decoded p n r bytes).broken ≡ None → AcceptedEntries p r n bytes
entries_accepted zero p r bytes b h under is = no_entries_accepted p r bytes h is
entries_accepted (suc n) p r bytes b h under is =
    let e = entry_accepted p r (λ r rest. entries_decoded p n r rest) bytes b (next_entry_whole p n r bytes is) in
    let before = under_more r.next e.id (entries r.objects) e.rises under in
    let last = entries_last r.objects e.id before e.v in
    let all_under = subst (AreUnder (e.id + 1)) (sym last)
    (under_last (e.id + 1) e.id e.v (entries r.objects) (omega arith) (under_more e.id (e.id + 1) (entries r.objects) (omega arith) before)) in
    let held = held_more p r.objects h e.id e.v e.low e.small (unused_under r.objects e.id before) e.room in
    let rest = entries_accepted n p (passed r e.id e.v) e.rest e.rest_bytes held all_under e.rest_whole in
    record {
      more = (e.id, e.v) ∷ rest.more;
      objects = rest.objects;
      many = ap suc rest.many;
      are = e.are ∙ ap (λ (l : List ℕ). entry_of e.id e.v ++ l) rest.are;
      all = rest.all ∙ ap (λ (l : List (ℕ × List ℕ)). l ++ rest.more) last ∙ append_assoc (entries r.objects) ((e.id, e.v) ∷ []) rest.more;
      held = rest.held;
    }

-- For the law `only_images_are_read`: bytes that `Decoded` accepts are, field by field from the mark on, the image of the settings and objects that they
-- decode to.

-- the bytes from the number of objects on are accepted: they are the entries of some objects
record AcceptedObjects (p : Profile) (bytes : List ℕ) : Type 0 where
  objects : Objects
  held : MayBeHeld p objects
  few : len objects ≤ p.proxies
  are : bytes ≡ number_bytes w32 (len objects) ++ entries_of (entries objects)

count_accepted : (p : Profile) (bytes : List ℕ) → AreBytes bytes → (count_decoded p bytes).broken ≡ None
    → AcceptedNumber w32 bytes (λ n. nat_le n p.proxies) (λ n rest. entries_decoded p n at_first rest)
unfolding count_decoded
count_accepted p bytes b is = number_accepted w32 bytes b (breaks_after p empty 16) 16 refl (λ n. nat_le n p.proxies) (λ n rest. entries_decoded p n at_first rest) is

objects_accepted : (p : Profile) (bytes : List ℕ) → AreBytes bytes → (count_decoded p bytes).broken ≡ None → AcceptedObjects p bytes
objects_accepted p bytes b is =
    let a = count_accepted p bytes b is in
    let all = entries_accepted a.n p at_first a.rest a.rest_bytes (none_held p) (subst (AreUnder 0) (sym listed_none) tt) a.rest_whole in
    let listed : entries all.objects ≡ all.more = all.all ∙ ap (λ (l : List (ℕ × List ℕ)). l ++ all.more) listed_none in
    let many : len all.objects ≡ a.n = len-entries all.objects ∙ ap (length {A = ℕ × List ℕ}) listed ∙ all.many in
    let few = leb-true a.n p.proxies a.passes in
    record {
      objects = all.objects;
      held = all.held;
      few = omega arith;
      are = a.are ∙ (λ i. (field_4 a.field a.n a.long a.small a.is ∙ ap (number_bytes w32) (sym many)) i ++ (all.are ∙ ap entries_of (sym listed)) i);
    }

-- an accepted number of proxies, the last of the settings
proxies_accepted : (pages page_bytes : ℕ) (bytes : List ℕ) → AreBytes bytes → (proxies_decoded pages page_bytes bytes).broken ≡ None
    → AcceptedNumber w32 bytes (λ n. is_within 1 65536 n) (λ n rest. count_decoded (profile_from pages page_bytes 1 n) rest)
unfolding proxies_decoded
proxies_accepted pages page_bytes bytes b is =
    number_accepted w32 bytes b (unopened 12) 12 refl (λ n. is_within 1 65536 n) (λ n rest. count_decoded (profile_from pages page_bytes 1 n) rest) is

page_bytes_accepted : (pages : ℕ) (bytes : List ℕ) → AreBytes bytes → (page_bytes_decoded pages bytes).broken ≡ None
    → AcceptedNumber w32 bytes (λ n. is_page_of pages n) (λ n rest. proxies_decoded pages n rest)
unfolding page_bytes_decoded
page_bytes_accepted pages bytes b is = number_accepted w32 bytes b (unopened 8) 8 refl (λ n. is_page_of pages n) (λ n rest. proxies_decoded pages n rest) is

pages_accepted : (bytes : List ℕ) → AreBytes bytes → (pages_decoded bytes).broken ≡ None
    → AcceptedNumber w32 bytes (λ n. is_within 1 4096 n) (λ n rest. page_bytes_decoded n rest)
unfolding pages_decoded
pages_accepted bytes b is = number_accepted w32 bytes b (unopened 4) 4 refl (λ n. is_within 1 4096 n) (λ n rest. page_bytes_decoded n rest) is

-- an image begins with the mark
mark_accepted : (bytes : List ℕ) → IsHeapImage bytes → (take 4 bytes ≡ mark) × ((pages_decoded (drop 4 bytes)).broken ≡ None)
unfolding decoded
mark_accepted bytes is =
    let whole = first_whole (bytes_eq (take 4 bytes) mark) (pages_decoded (drop 4 bytes)) (record (unopened 0) { is_cut = nat_lt (length bytes) 4 }) 0 refl
    is in
    ((bytes_eq-Decides (take 4 bytes) mark).0 whole.0, whole.1)

-- if `pages` pages may have n bytes each (`is_page_of`), then n is whole words, a size of a page, and the region is within its limit
page_of : (pages n : ℕ) → is_page_of pages n ≡ true → (8 * (n / 8) ≡ n) × (is_page_size (n / 8) ≡ true) × (pages * n ≤ 67108864)
page_of pages n e =
    let size = and_parts (is_page_bytes n) (nat_le (pages * n) 67108864) e in
    let page = and_parts (n % 8 == 0) (is_page_size (n / 8)) size.0 in
    let whole_words : (n % 8 == 0) ≡ true = page.0 in
    let no_rest : n % 8 ≡ 0 = grind (arith, nat_tests) in (
      omega arith,
      page.1,
      leb-true (pages * n) 67108864 size.1,
    )

in_range : (pages n proxies : ℕ) → is_within 1 4096 pages ≡ true → is_page_of pages n ≡ true → is_within 1 65536 proxies ≡ true
    → AreInRange (profile_from pages n 1 proxies)
in_range pages n proxies a b c =
    let p = within_range 1 4096 pages a in
    let q = page_of pages n b in
    let r = within_range 1 65536 proxies c in
    record {
      some_pages = p.0;
      few_pages = p.1;
      page_size = q.1;
      some_bound = omega arith;
      low_bound = omega arith;
      some_proxies = r.0;
      few_proxies = r.1;
      small_region = small_region pages n (n / 8) q.0 q.2;
    }
  where
    small_region : (pages n words : ℕ) → 8 * words ≡ n → pages * n ≤ 67108864 → pages * words ≤ 2 ^ 23
    small_region pages n words e le = (let m : pages * (8 * words) ≡ pages * n = ap (λ k. pages * k) e in omega arith)

joined : (m a b c d e : List ℕ) → (m ++ (a ++ (b ++ (c ++ d)))) ++ e ≡ m ++ (a ++ (b ++ (c ++ (d ++ e))))
joined m a b c d e = simp append_assoc

pub image_of_objects : (bytes : List ℕ) → AreBytes bytes → IsHeapImage bytes → (p : Profile) × (o : Objects) × IsImageOf bytes p o
image_of_objects bytes b is =
    let m = mark_accepted bytes is in
    let x = pages_accepted (drop 4 bytes) (bytes_left 4 bytes b) m.1 in
    let y = page_bytes_accepted x.n x.rest x.rest_bytes x.rest_whole in
    let z = proxies_accepted x.n y.n y.rest y.rest_bytes y.rest_whole in
    let o = objects_accepted (profile_from x.n y.n 1 z.n) z.rest z.rest_bytes z.rest_whole in
    let size = page_of x.n y.n y.passes in
    let pages_are = field_4 x.field x.n x.long x.small x.is in
    let page_is = field_4 y.field y.n y.long y.small y.is ∙ ap (number_bytes w32) (sym size.0) in
    let proxies_are = field_4 z.field z.n z.long z.small z.is in (
      profile_from x.n y.n 1 z.n,
      o.objects,
      record {
        have = record {
          settings = in_range x.n y.n z.n x.passes y.passes z.passes;
          one = refl;
          ids = o.held.ids;
          bytes = o.held.bytes;
          fit = o.held.fit;
          few = o.few;
          room = o.held.room;
        };
        are = sym (take-append-drop 4 bytes) ∙ (λ i. m.0 i ++ (x.are
            ∙ (λ j. pages_are j ++ (y.are ∙ (λ k. page_is k ++ (z.are ∙ (λ l. proxies_are l ++ o.are l)) k)) j)) i)
            ∙ sym (joined mark (number_bytes w32 x.n) (number_bytes w32 (8 * (y.n / 8))) (number_bytes w32 z.n) (number_bytes w32 (len o.objects))
            (entries_of (entries o.objects)));
      },
    )

module _ (read_back : (p : Profile) (o : Objects) → HaveImage p o → decoded (image_under p o) ≡ whole p o) (bytes : List ℕ) (p : Profile) (o : Objects) where
  same_whole : (q : Profile) (n : Objects) → whole q n ≡ whole p o → IsImageOf bytes q n → IsImageOf bytes p o
  same_whole q n e is =
      let settings : Some q ≡ Some p = ap (λ (d : Decoded). d.settings) e in
      let profile : q ≡ p = cc in
      let objects : n ≡ o = ap (λ (d : Decoded). d.objects) e in
      subst (λ (r : Profile). IsImageOf bytes r o) profile (subst (λ (m : Objects). IsImageOf bytes q m) objects is)

  pub shown_exactly : AreBytes bytes → (decoded bytes ≡ whole p o) ↔ IsImageOf bytes p o
  shown_exactly b = (
    λ e.
        let i = image_of_objects bytes b (ap (λ (d : Decoded). d.broken) e) in
        same_whole i.0 i.1 (sym (read_back i.0 i.1 i.2.have) ∙ ap decoded (sym i.2.are) ∙ e) i.2,
    λ is. ap decoded is.are ∙ read_back p o is.have,
  )
