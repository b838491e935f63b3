-- Which bytes are a heap image: what bytes decode to, field by field, up to the first field that breaks a rule or is cut by the end. In all definitions p is
-- the settings that were decoded.
use Rattle.std.specs.Prelude.{◌≡◌, ℕ, zero, suc, Bool, true, false, ◌⊎◌, ◌&&◌, ◌+◌, ◌*◌, List, [], ◌∷◌, Option, Some, None, length, take, drop}
use Rattle.std.specs.Prelude.{if◌then◌else◌, nat_le, nat_lt}
use Rattle.std.specs.Int.{Width, w16, w32, byte_len}
use Rattle.std.specs.Str.{bytes_eq}
use Rattle.std.specs.FinMap.{empty, insert}
use Rattle.cf_base.specs.Classes.{need}
use Rattle.cf_base.specs.Limits.{is_page_bytes, is_within}
use Rattle.cf_base.specs.Settings.{Profile, profile_from}
use Rattle.cf_base.specs.declared.kind.Layout.TheVariants.{Words}
use Rattle.page_model.specs.Arrangement.{pages_needed_with}
use Rattle.page_model.specs.Held.{Objects}
use Rattle.page_model.specs.Paging.{Paging, first_bounds, paging_of}
use Rattle.heap_image.specs.Image.{mark, number_of_bytes}

-- What bytes decode to if they are read as an image, up to the first field that breaks a rule or is cut.
pub record Decoded : Type 0 where
  -- the settings, with bound 1, if the fields up to the proxies are accepted
  pub settings : Option Profile
  -- the objects of the whole entries
  pub objects : Objects
  -- the offset of the first field that breaks a rule or is cut by the end, or of the first byte past the image; `None` if the bytes are an image
  pub broken : Option ℕ
  -- whether the end of the bytes cuts the field at `broken`
  pub is_cut : Bool

-- the bytes break a rule at this offset, before the proxies are accepted
abbrev pub unopened : ℕ → Decoded
unopened at = record { settings = None; objects = empty; broken = Some at; is_cut = false }

-- the bytes break a rule at this offset, after the settings p and the entries of these objects
abbrev pub breaks_after : Profile → Objects → ℕ → Decoded
breaks_after p objects at = record { settings = Some p; objects = objects; broken = Some at; is_cut = false }

-- the bytes are an image with the settings p and these objects by id
abbrev pub whole : Profile → Objects → Decoded
whole p objects = record { settings = Some p; objects = objects; broken = None; is_cut = false }

-- d, but marked as cut: the end of the bytes cuts the field at `broken`
abbrev pub cut : Decoded → Decoded
cut d = record d { is_cut = true }

-- the bytes break no rule: they are an image, or the end cuts them
abbrev pub BreaksNoRule : Decoded → Type 0
BreaksNoRule d = (d.broken ≡ None) ⊎ (d.is_cut ≡ true)

-- Decodes a number of width w at the start of the bytes: the result is that of `go` for the number and the bytes after it.
-- If the end cuts the number, the result is `bad`, marked as cut.
abbrev pub number : Width → List ℕ → Decoded → (ℕ → List ℕ → Decoded) → Decoded
number w bytes bad go =
    if nat_lt (length bytes) (byte_len w) then cut bad else go (number_of_bytes w (take (byte_len w) bytes)) (drop (byte_len w) bytes)

-- the pages and size classes of the moving manager with the settings p
abbrev pub image_paging : Profile → Paging
image_paging p = paging_of p Words (first_bounds p Words)

-- whether an object of n bytes fits a page, and these objects with it need no more pages than the settings p have
unfoldable pub has_room : Profile → Objects → ℕ → Bool
has_room p objects n = nat_le (need n) p.page_words && nat_le (pages_needed_with (image_paging p) objects n) p.pages

-- How far the entries were decoded: the least id that the next entry may have, the objects so far by id, and the offset of the next entry.
pub record Reached : Type 0 where
  pub next : ℕ
  pub objects : Objects
  pub at : ℕ

-- r after one more entry, whose object has the id `id` and the bytes v
abbrev pub passed : Reached → ℕ → List ℕ → Reached
passed r id v = record { next = id + 1; objects = insert r.objects id v; at = r.at + (6 + length v) }

-- the bytes break a rule n bytes after the start of the entry that is next in r
abbrev pub breaks_in : Profile → Reached → ℕ → Decoded
breaks_in p r n = breaks_after p r.objects (r.at + n)

-- Decodes the n bytes of an entry's object, after its id and its length. In this and the next two definitions r is how far the entries before
-- were decoded, `bytes` are those still to be decoded, and `go` decodes what follows the entry.
unfoldable pub bytes_decoded : Profile → Reached → ℕ → ℕ → List ℕ → (Reached → List ℕ → Decoded) → Decoded
bytes_decoded p r id n bytes go = if nat_lt (length bytes) n then cut (breaks_in p r 6) else go (passed r id (take n bytes)) (drop n bytes)

-- Decodes the length of the object and its bytes, after the entry's id. There must be room for the object (`has_room`).
unfoldable pub length_decoded : Profile → Reached → ℕ → List ℕ → (Reached → List ℕ → Decoded) → Decoded
length_decoded p r id bytes go =
    number w32 bytes (breaks_in p r 2) (λ n rest. if has_room p r.objects n then bytes_decoded p r id n rest go else breaks_in p r 2)

-- Decodes an entry: its id, which must be greater than those before, then the length and the bytes of its object.
unfoldable pub entry_decoded : Profile → Reached → List ℕ → (Reached → List ℕ → Decoded) → Decoded
entry_decoded p r bytes go =
    number w16 bytes (breaks_in p r 0) (λ id rest. if nat_le r.next id then length_decoded p r id rest go else breaks_in p r 0)

-- Decodes the end of an image: no byte may follow the last entry.
unfoldable pub end_decoded : Profile → Reached → List ℕ → Decoded
end_decoded p r [] = whole p r.objects
end_decoded p r (b ∷ rest) = breaks_in p r 0

-- Decodes `left` further entries after r, and then the end.
unfoldable pub entries_decoded : Profile → ℕ → Reached → List ℕ → Decoded
entries_decoded p zero r bytes = end_decoded p r bytes
entries_decoded p (suc left) r bytes = entry_decoded p r bytes (λ r rest. entries_decoded p left r rest)

-- no entry was decoded yet; the first one begins at byte 20
abbrev pub at_first : Reached
at_first = record { next = 0; objects = empty; at = 20 }

-- Decodes the number of objects at byte 16, which must be at most the proxies, then the entries.
unfoldable pub count_decoded : Profile → List ℕ → Decoded
count_decoded p bytes = number w32 bytes (breaks_after p empty 16)
    (λ count rest. if nat_le count p.proxies then entries_decoded p count at_first rest else breaks_after p empty 16)

-- Decodes the proxies at byte 12, which must be 1 to 65,536, then what follows them.
unfoldable pub proxies_decoded : ℕ → ℕ → List ℕ → Decoded
proxies_decoded pages page_bytes bytes = number w32 bytes (unopened 12)
    (λ proxies rest. if is_within 1 65536 proxies then count_decoded (profile_from pages page_bytes 1 proxies) rest else unopened 12)

-- whether `pages` pages may have `page_bytes` bytes each: a page may have this size, and all pages together have at most 64 MiB
abbrev pub is_page_of : ℕ → ℕ → Bool
is_page_of pages page_bytes = is_page_bytes page_bytes && nat_le (pages * page_bytes) 67108864

-- Decodes the bytes of a page at byte 8, then what follows them.
unfoldable pub page_bytes_decoded : ℕ → List ℕ → Decoded
page_bytes_decoded pages bytes = number w32 bytes (unopened 8)
    (λ page_bytes rest. if is_page_of pages page_bytes then proxies_decoded pages page_bytes rest else unopened 8)

-- Decodes the pages at byte 4, which must be 1 to 4,096, then what follows them.
unfoldable pub pages_decoded : List ℕ → Decoded
pages_decoded bytes = number w32 bytes (unopened 4) (λ pages rest. if is_within 1 4096 pages then page_bytes_decoded pages rest else unopened 4)

-- Decodes all bytes, which must begin with the mark of an image.
unfoldable pub decoded : List ℕ → Decoded
decoded bytes =
    if bytes_eq (take 4 bytes) mark then pages_decoded (drop 4 bytes) else record (unopened 0) { is_cut = nat_lt (length bytes) 4 }

-- the bytes are a heap image
abbrev pub IsHeapImage : List ℕ → Type 0
IsHeapImage bytes = (decoded bytes).broken ≡ None

-- the bytes aren't a heap image; this is the offset of the first field that breaks a rule or is cut, or of the first byte past the image
abbrev pub IsBroken : List ℕ → ℕ → Type 0
IsBroken bytes at = (decoded bytes).broken ≡ Some at
