-- The loops of `read_long` and `write_long`, which go part by part: the next bytes are in one part, whose index fits 32 bits, and after each turn the first
-- bytes of the call are read, or are written into the object. The heap keeps its settings and rules (`StaysKept`); by these its inner manager is ready.
use Rattle.std.proofs.Common.{◌≡◌, ℕ, ◌+◌, ◌*◌, ◌/◌, ◌%◌, ◌^◌, ◌<◌, ◌≤◌, List, [], ◌∷◌, ◌++◌}
use Rattle.std.proofs.Common.{Some, length, take, drop, arith, sym, ◌∙◌, ap, refl, subst, length-append, length-drop}
use Rattle.std.proofs.Math.Nat.{div-add-mod, lt_of_mul-lt-mul_left, mod-lt}
use borrow.Rule.Slice.PartMut.{put_mid}
use Rattle.std.proofs.lemmas.List.{length-take, take-append-drop, take_all}
use Rattle.std.proofs.lemmas.Option.{same_Some}
use Rattle.std.proofs.lemmas.Slice.{drop-put_mid, take-put_mid}
use Rattle.std.specs.FinMap.{get, insert}
use Rattle.cf_base.proofs.Maps.{get_inserted, insert_twice}
use Rattle.cf_base.specs.Settings.{Profile}
use Rattle.page_model.specs.Bytes.{written}
use Rattle.page_model.specs.Held.{Objects}
use Rattle.page_model.proofs.CallerLemmas.{inserted_there, length-written, written_nothing}
use Rattle.large_objects.specs.InnerCalls.{IsReadyInner}
use Rattle.large_objects.specs.Large.{KeepsParts, LargeState}
use Rattle.large_objects.specs.LargeSteps.{HasLong, HasPartRange, StaysKept, WritesLarge, part_bytes_in}
use Rattle.large_objects.specs.InnerObjects.{whole_part_bytes, part_count}
use Rattle.large_objects.proofs.Bytes.{take_drop_more, written_more}
use Rattle.large_objects.proofs.Cutting.{parts_enough}
use Rattle.large_objects.proofs.InnerSteps.{inner_small}

take_none : (v : List ℕ) → take 0 v ≡ []
take_none [] = refl
take_none (x ∷ v) = refl

-- the part that a byte is in, and the byte's place in the part
module _ (u from : ℕ) (some : 0 < u) where
  pub place_is : u * (from / u) + from % u ≡ from
  place_is = div-add-mod from u

  pub inside_part : from % u < u
  inside_part = mod-lt from some

  pub part_below : (n : ℕ) → from < n → from / u < part_count u n
  part_below n lt =
      let e = place_is in let enough = parts_enough u n some in
      let l : u * (from / u) < u * part_count u n = omega arith in
      lt_of_mul-lt-mul_left u l

-- the bytes that the loop reads or writes next are in one part
pub next_range : (s : LargeState) (h at done count total : ℕ) (v : List ℕ) → 0 < part_bytes_in s → get s.objects h ≡ Some v → part_bytes_in s < length v
    → at + total ≤ length v → done + count ≤ total → 0 < count → (at + done) % part_bytes_in s + count ≤ part_bytes_in s
    → HasPartRange s h ((at + done) / part_bytes_in s) ((at + done) % part_bytes_in s) count
next_range s h at done count total v some found long within few more inside = record {
  bytes = v;
  found = found;
  long = long;
  below = part_below (part_bytes_in s) (at + done) some (length v) (omega arith);
  inside = inside;
  within = (let e = place_is (part_bytes_in s) (at + done) some in omega arith);
}

-- before the first write: no bytes are written
pub wrote_nothing : (s : LargeState) (h at : ℕ) (bytes v : List ℕ) → get s.objects h ≡ Some v → at ≤ length v
    → s.objects ≡ insert s.objects h (written v at (take 0 bytes))
wrote_nothing s h at bytes v found within =
    let e : written v at (take 0 bytes) ≡ v = ap (written v at) (take_none bytes) ∙ written_nothing v at within in
    sym (ap (insert s.objects h) e ∙ inserted_there s.objects h v found)

-- after one more write, of `chunk`
pub wrote_more : (old now new : LargeState) (h at done count : ℕ) (bytes v chunk : List ℕ) (from : ℕ) → get old.objects h ≡ Some v
    → at + length bytes ≤ length v → done + count ≤ length bytes → now.objects ≡ insert old.objects h (written v at (take done bytes))
    → chunk ≡ take count (drop done bytes) → from ≡ at + done → WritesLarge now (record { number = h; from = from }) chunk new
    → new.objects ≡ insert old.objects h (written v at (take (done + count) bytes))
wrote_more old now new h at done count bytes v chunk from found within few so_far chunk_is from_is wrote =
    let w : List ℕ = written v at (take done bytes) in
    let there : get now.objects h ≡ Some (written v at (take done bytes)) = ap (λ (o : Objects). get o h) so_far ∙ get_inserted old.objects h _ in
    let object = same_Some wrote.object (written v at (take done bytes)) (sym wrote.found ∙ there) in
    wrote.left
    ∙ ap (λ (o : Objects). insert o h (written wrote.object from chunk)) so_far
    ∙ insert_twice old.objects h _ _
    ∙ ap (λ (x : List ℕ). insert old.objects h (written x from chunk)) object
    ∙ ap (λ (k : ℕ). insert old.objects h (written (written v at (take done bytes)) k chunk)) from_is
    ∙ ap (λ (x : List ℕ). insert old.objects h (written (written v at (take done bytes)) (at + done) x)) chunk_is
    ∙ ap (insert old.objects h) (written_more v at bytes done count within few)

-- the object's bytes when the first `done` of the new bytes are written
pub now_found : (old now : LargeState) (h at done : ℕ) (bytes v : List ℕ) → now.objects ≡ insert old.objects h (written v at (take done bytes))
    → get now.objects h ≡ Some (written v at (take done bytes))
now_found old now h at done bytes v so_far = ap (λ (o : Objects). get o h) so_far ∙ get_inserted old.objects h _

pub now_long : (at done : ℕ) (bytes v : List ℕ) → at + length bytes ≤ length v → length (written v at (take done bytes)) ≡ length v
now_long at done bytes v within = length-written v at (take done bytes) (let l = length-take done bytes in omega arith)

-- after the last write: all bytes are written
pub wrote_all : (old now : LargeState) (h at done : ℕ) (bytes : List ℕ) (has : HasLong old h at (length bytes)) → length bytes ≤ done
    → ((v : List ℕ) → get old.objects h ≡ Some v → now.objects ≡ insert old.objects h (written v at (take done bytes)))
    → WritesLarge old (record { number = h; from = at }) bytes now
wrote_all old now h at done bytes has all so_far = record {
  object = has.bytes;
  found = has.found;
  within = has.within;
  left = so_far has.bytes has.found ∙ ap (λ (x : List ℕ). insert old.objects h (written has.bytes at x)) (take_all done bytes all);
}

pub then_kept : (a b c : LargeState) → StaysKept a b → StaysKept b c → StaysKept a c
then_kept a b c x y = record {
  stays = record {
    open_now = y.stays.open_now;
    inner = record {
      kind = y.stays.inner.kind ∙ x.stays.inner.kind;
      open_now = y.stays.inner.open_now;
      profile = y.stays.inner.profile ∙ x.stays.inner.profile;
    };
    promise = y.stays.promise ∙ x.stays.promise;
  };
  parts = y.parts;
}

pub same_part : (a b : LargeState) → StaysKept a b → part_bytes_in b ≡ part_bytes_in a
same_part a b x = ap (λ (p : Profile). whole_part_bytes p) x.stays.inner.profile

pub is_ready : (s : LargeState) → KeepsParts s → IsReadyInner s.inner
is_ready s k = record { opened = k.opened; rules = k.rules; pages = k.pages; ones = k.ones }

-- a part's place in its spine is a number of 32 bits
pub index_small : (s : LargeState) → KeepsParts s → (h : ℕ) (v : List ℕ) → get s.objects h ≡ Some v → part_bytes_in s < length v
    → (i : ℕ) → i < part_count (part_bytes_in s) (length v) → i < 2 ^ 32
index_small s k h v found long i below =
    let spine = k.laid.spines h v found long in
    let small = inner_small s.inner (is_ready s k) h spine.spine spine.found in
    let l = spine.long in omega arith

module _ (old now : LargeState) (h at done count part_bytes : ℕ) (bytes : List ℕ) (has : HasLong old h at (length bytes))
    (so_far : (v : List ℕ) → get old.objects h ≡ Some v → now.objects ≡ insert old.objects h (written v at (take done bytes)))
    (kept : StaysKept old now) (part_is : part_bytes ≡ part_bytes_in old) (positive : 0 < part_bytes) (few : done + count ≤ length bytes) (more : 0 < count) where
  abbrev now_bytes : List ℕ
  now_bytes = written has.bytes at (take done bytes)

  there : get now.objects h ≡ Some (written has.bytes at (take done bytes))
  there = now_found old now h at done bytes has.bytes (so_far has.bytes has.found)

  same_bytes : length (written has.bytes at (take done bytes)) ≡ length has.bytes
  same_bytes = now_long at done bytes has.bytes has.within

  part_now : part_bytes_in now ≡ part_bytes
  part_now = same_part old now kept ∙ sym part_is

  still_long : part_bytes_in now < length now_bytes
  still_long = (let e = part_now in let l = same_bytes in let p = part_is in let long = has.long in omega arith)

  pub write_index_small : (at + done) / part_bytes < 2 ^ 32
  write_index_small =
      let below = part_below part_bytes (at + done) positive (length now_bytes) (let l = same_bytes in let w = has.within in omega arith) in
      index_small now kept.parts h now_bytes there still_long ((at + done) / part_bytes) (subst (λ k. (at + done) / part_bytes < part_count k (length now_bytes))
      (sym part_now) below)

  pub next_write : (at + done) % part_bytes + count ≤ part_bytes → HasPartRange now h ((at + done) / part_bytes) ((at + done) % part_bytes) count
  next_write inside = subst (λ k. HasPartRange now h ((at + done) / k) ((at + done) % k) count) part_now
      (next_range now h at done count (length bytes) now_bytes (let e = part_now in omega arith) there still_long
      (let l = same_bytes in let w = has.within in omega arith) few more
      (subst (λ k. (at + done) % k + count ≤ k) (sym part_now) inside))

  -- after the write of `chunk`
  pub so_far_more : (new : LargeState) (chunk : List ℕ) → chunk ≡ take count (drop done bytes)
      → WritesLarge now (record { number = h; from = part_bytes_in now * ((at + done) / part_bytes) + (at + done) % part_bytes }) chunk new
      → (v : List ℕ) → get old.objects h ≡ Some v → new.objects ≡ insert old.objects h (written v at (take (done + count) bytes))
  so_far_more new chunk chunk_is wrote v found =
      let same = same_Some has.bytes v (sym has.found ∙ found) in
      let within : at + length bytes ≤ length v = (let l = ap length same in let w = has.within in omega arith) in
      let from : part_bytes_in now * ((at + done) / part_bytes) + (at + done) % part_bytes ≡ at + done =
      ap (λ k. k * ((at + done) / part_bytes) + (at + done) % part_bytes) part_now ∙ place_is part_bytes (at + done) positive in
      wrote_more old now new h at done count bytes v chunk (part_bytes_in now * ((at + done) / part_bytes) + (at + done) % part_bytes) found within few (so_far v found)
      chunk_is from wrote

-- the next read, of `count` bytes in one part
module _ (s : LargeState) (h at done count part_bytes total : ℕ) (has : HasLong s h at total) (parts : KeepsParts s) (part_is : part_bytes ≡ part_bytes_in s)
    (positive : 0 < part_bytes)
    (few : done + count ≤ total) (more : 0 < count) where
  pub read_index_small : (at + done) / part_bytes < 2 ^ 32
  read_index_small =
      let below = part_below part_bytes (at + done) positive (length has.bytes) (let w = has.within in omega arith) in
      index_small s parts h has.bytes has.found has.long ((at + done) / part_bytes) (subst (λ k. (at + done) / part_bytes < part_count k (length has.bytes)) part_is below)

  pub next_read : (at + done) % part_bytes + count ≤ part_bytes → HasPartRange s h ((at + done) / part_bytes) ((at + done) % part_bytes) count
  next_read inside = subst (λ k. HasPartRange s h ((at + done) / k) ((at + done) % k) count) (sym part_is)
      (next_range s h at done count total has.bytes (let e = part_is in omega arith) has.found has.long has.within few more
      (subst (λ k. (at + done) % k + count ≤ k) part_is inside))

  -- the bytes read before, followed by those of the next read
  pub read_more : (v out : List ℕ) → (before : List ℕ) → before ≡ take done (drop at v)
      → out ≡ take count (drop (part_bytes_in s * ((at + done) / part_bytes) + (at + done) % part_bytes) v)
      → before ++ out ≡ take (done + count) (drop at v)
  read_more v out before before_is out_is =
      let from : part_bytes_in s * ((at + done) / part_bytes) + (at + done) % part_bytes ≡ at + done =
      ap (λ k. k * ((at + done) / part_bytes) + (at + done) % part_bytes) (sym part_is) ∙ place_is part_bytes (at + done) positive in
      ap (λ w. w ++ out) before_is ∙ ap (λ w. take done (drop at v) ++ w) (out_is ∙ ap (λ k. take count (drop k v)) from) ∙ sym (take_drop_more v at done count)

-- a list keeps its length if a range of it is replaced by a list of the same length
pub length_put : (a k : ℕ) (xs ys : List ℕ) → length ys ≡ k → a + k ≤ length xs → length (put_mid a k xs ys) ≡ length xs
length_put a k xs ys same within =
    let put : List ℕ = put_mid a k xs ys in
    let front = ap length (take-put_mid a k xs ys (a + k) (omega arith) (omega arith)) ∙ length-append (take a xs) ys in
    let back = ap length (drop-put_mid a k xs ys (a + k) (omega arith) (omega arith) same) ∙ length-drop (a + k) xs in
    let whole = ap length (sym (take-append-drop (a + k) (put_mid a k xs ys)))
    ∙ length-append (take (a + k) (put_mid a k xs ys)) (drop (a + k) (put_mid a k xs ys)) in
    let first = length-take a xs in
    omega arith

-- the first bytes of the buffer after one more read
pub read_put : (at done count k : ℕ) (v xs ys : List ℕ) → length ys ≡ count → done + count ≤ length xs → take done xs ++ ys ≡ take (done + count) (drop at v)
    → take (done + count) (put_mid done k xs ys) ≡ take (done + count) (drop at v)
read_put at done count k v xs ys long within after = take-put_mid done k xs ys (done + count) (omega arith) (omega arith) ∙ after
