-- The map from each live id to the bytes of its object, computed from the lines of a script and their replies alone; and the claim that every read prints
-- these bytes.
use Rattle.std.specs.Prelude.{◌≡◌, ℕ, ⊤, Bool, false, ◌+◌, List, [], ◌∷◌, ◌++◌, Option, Some, None, codes, drop, if◌then◌else◌, length, nat_le, replicate, take}
use Rattle.run_model.specs.Terms.{asks, bad, Command, empty, Free, get, insert, Item, Malloc, Objects, Read, remove, Reply, Resize, said, starts, Write, written}
use Rattle.std.specs.Str.{bytes_eq}
use Rattle.hex.specs.Hex.{encode_lower}
use Rattle.page_model.specs.Steps.{resized}

-- whether the first line of the reply is `ok`
abbrev pub is_ok : Reply → Bool
is_ok [] = false
is_ok (text ∷ rest) = bytes_eq text (codes "ok")

-- the map `m` with the bytes `v` of the id replaced by `f v`; `m` itself if the id isn't live
abbrev pub changed : Objects → ℕ → (List ℕ → List ℕ) → Objects
changed m id f = elim (get m id) [ None ↦ m | Some v ↦ insert m id (f v) ]

-- the map after a command with the reply `ok`: a malloc makes zeros, a free removes the id, a write replaces bytes, a resize cuts bytes or adds zeros
abbrev pub bytes_after : Command → Objects → Objects
bytes_after (Malloc id bytes) m = insert m id (replicate bytes 0)
bytes_after (Free id) m = remove m id
bytes_after (Write id at bytes) m = changed m id (λ v. written v at bytes)
bytes_after (Resize id bytes) m = changed m id (λ v. resized v bytes)
bytes_after command m = m

-- the map after an item and its reply, from the map before it; a command without `ok` changes nothing; there is no map before the `heap` line
abbrev pub shown_after : Option Objects → Item → Reply → Option Objects
shown_after shown (starts p) reply = Some empty
shown_after None (asks command) reply = None
shown_after (Some m) (asks command) reply = Some (if is_ok reply then bytes_after command m else m)
shown_after shown (bad n) reply = shown

-- the reply to a read of `count` bytes from byte `at` on, for the bytes of its id: `=` and these in hexadecimal; `range` if it passes their end; `unknown` if
-- the id isn't live
abbrev pub read_shown : Option (List ℕ) → ℕ → ℕ → List ℕ
read_shown None at count = codes "unknown"
read_shown (Some v) at count = if nat_le (at + count) (length v) then codes "=" ++ encode_lower (take count (drop at v)) else codes "range"

-- if the item is a read, its reply is `read_shown` of the bytes that the map has for its id; nothing is claimed before the `heap` line
abbrev pub IsReadOf : Option Objects → Item → Reply → Type 0
IsReadOf (Some m) (asks (Read id at count)) reply = reply ≡ said (read_shown (get m id) at count)
IsReadOf shown item reply = ⊤

-- each of the items has a reply, and the reply to every read is `read_shown` of the bytes that follow from the lines before it and their replies
abbrev pub AreReadsOf : Option Objects → List Item → List Reply → Type 0
AreReadsOf shown [] replies = ⊤
AreReadsOf shown (item ∷ rest) [] = ⊥
AreReadsOf shown (item ∷ rest) (reply ∷ more) = IsReadOf shown item reply × AreReadsOf (shown_after shown item reply) rest more
