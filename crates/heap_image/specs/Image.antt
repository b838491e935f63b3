-- The bytes of a heap image: 20 bytes with the mark, the settings (but not k) and the number of objects; then an entry for each object, by rising id.
use Rattle.std.specs.Prelude.{ℕ, List, [], ◌∷◌, ◌++◌, codes, length}
use Rattle.std.specs.Int.{Width, w16, w32, from_le_bytes, to_le_bytes}
use Rattle.std.specs.FinMap.{entries, len}
use Rattle.page_model.specs.Held.{Objects}

-- the number n as bytes, the least significant first: two or four, by the width w
unfoldable pub number_bytes : Width → ℕ → List ℕ
number_bytes w n = to_le_bytes w n

-- the number that these bytes are, the least significant first
unfoldable pub number_of_bytes : Width → List ℕ → ℕ
number_of_bytes w bytes = from_le_bytes w bytes

-- the bytes that an image begins with
abbrev pub mark : List ℕ
mark = codes "CFI1"

-- the entry of the object with the bytes v: its id in two bytes, its length in four, and v
abbrev pub entry_of : ℕ → List ℕ → List ℕ
entry_of id v = number_bytes w16 id ++ (number_bytes w32 (length v) ++ v)

-- what is written for the objects of a list, one after the other: for each pair of an id and the object's bytes their `text`
abbrev pub object_texts : (ℕ → List ℕ → List ℕ) → List (ℕ × List ℕ) → List ℕ
object_texts text [] = []
object_texts text (e ∷ es) = text e.0 e.1 ++ object_texts text es

-- the entries of the objects of a list, one after the other
abbrev pub entries_of : List (ℕ × List ℕ) → List ℕ
entries_of es = object_texts entry_of es

-- the first 20 bytes of an image: the mark, and in four bytes each the pages, the bytes of a page, the proxies, and the number of objects
abbrev pub header_of : ℕ → ℕ → ℕ → ℕ → List ℕ
header_of pages page_bytes proxies count =
    mark ++ (number_bytes w32 pages ++ (number_bytes w32 page_bytes ++ (number_bytes w32 proxies ++ number_bytes w32 count)))

-- the image of these objects by rising id, under these settings; an image holds no bound
abbrev pub image_of : ℕ → ℕ → ℕ → Objects → List ℕ
image_of pages page_bytes proxies objects = header_of pages page_bytes proxies (len objects) ++ entries_of (entries objects)
