-- Calls of a reader, one after the other: the bytes that they took, the items that they returned, and the states that they lead to.
use Rattle.std.specs.Prelude.{◌≡◌, ◌++◌, ℕ, Bool, true, false, List, [], ◌∷◌}
use Rattle.cf_base.specs.Settings.{profile_of}
use Rattle.script_reader.specs.Items.{Item, asks, bad, items, starts}
use Rattle.script_reader.specs.Reading.{Answers, Reading, fed_with}
use Rattle.script_reader.specs.declared.next.Next.{Next}
use Rattle.script_reader.specs.declared.next.Next.TheVariants.{Start, Command, NeedMore, Bad, End}

-- a call of a reader: `feed` took these bytes, `finish` announced the end, or `next_command` returned this result
pub data ReaderCall : Type 0 where
  feeds : List ℕ → ReaderCall
  finishes : ReaderCall
  answers : Next → ReaderCall

-- the call leads from the reading `old` to the reading `new`
abbrev pub IsCall : Reading → ReaderCall → Reading → Type 0
IsCall old (feeds bytes) new = (old.ended ≡ false) × (new ≡ fed_with old bytes)
IsCall old finishes new = new ≡ record old { ended = true }
IsCall old (answers next) new = Answers old next new

-- the calls, one after the other, lead from the reading `old` to the reading `new`
abbrev pub AreCalls : Reading → List ReaderCall → Reading → Type 0
AreCalls old [] new = new ≡ old
AreCalls old (call ∷ rest) new = (mid : Reading) × IsCall old call mid × AreCalls mid rest new

-- all bytes that the calls took, in order
abbrev pub bytes_fed : List ReaderCall → List ℕ
bytes_fed [] = []
bytes_fed (feeds bytes ∷ rest) = bytes ++ bytes_fed rest
bytes_fed (finishes ∷ rest) = bytes_fed rest
bytes_fed (answers next ∷ rest) = bytes_fed rest

-- whether a call announced the end
abbrev pub is_finished : List ReaderCall → Bool
is_finished [] = false
is_finished (feeds bytes ∷ rest) = is_finished rest
is_finished (finishes ∷ rest) = true
is_finished (answers next ∷ rest) = is_finished rest

-- the item of this result and then `after`, the items of the later results; a bad line is the last item, since the reader then reads nothing more
abbrev pub given_then : Next → List Item → List Item
given_then (Start settings) after = starts (profile_of settings) ∷ after
given_then (Command command) after = asks command ∷ after
given_then NeedMore after = after
given_then (Bad line) after = bad line ∷ []
given_then End after = after

-- the items that the calls returned, up to the first bad line
abbrev pub items_given : List ReaderCall → List Item
items_given [] = []
items_given (feeds bytes ∷ rest) = items_given rest
items_given (finishes ∷ rest) = items_given rest
items_given (answers next ∷ rest) = given_then next (items_given rest)

-- whether a call returned a bad line
abbrev pub is_stopped : List ReaderCall → Bool
is_stopped [] = false
is_stopped (feeds bytes ∷ rest) = is_stopped rest
is_stopped (finishes ∷ rest) = is_stopped rest
is_stopped (answers (Bad line) ∷ rest) = true
is_stopped (answers next ∷ rest) = is_stopped rest

-- the calls returned every item of the bytes fed, and no bad line
pub record AllGiven (calls : List ReaderCall) : Type 0 where
  pub given : items (bytes_fed calls) (is_finished calls) ≡ items_given calls
  pub none_bad : is_stopped calls ≡ false
