-- The stages of a load: what each function that reads a field, the settings or an entry claims, and the run after it (`LeadsTo`). `had` and `left` are the
-- source before and after that function, and `taken` is the bytes that it took. `reading` decodes the bytes of an image from the first of these on, as a
-- function of `Decoded`, and t is its result. No public clause cites this module.
use Rattle.std.specs.Prelude.{◌≡◌, ◌<◌, ◌++◌, ℕ, Bool, true, false, List, length, Option, None, Some, Result, Ok, Err}
use Rattle.std.specs.Int.{Width, byte_len}
use Rattle.std.specs.FinMap.{empty}
use Rattle.cf_base.specs.Settings.{Profile, profile_of}
use Rattle.cf_base.specs.declared.settings.Settings.{Settings}
use Rattle.cf_io.specs.Feeds.{IsSpent}
use Rattle.page_model.specs.Held.{Objects}
use Rattle.id_table.specs.Sessions.{RunState}
use Rattle.heap_image.specs.Decoded.{BreaksNoRule, Decoded, count_decoded}
use Rattle.heap_image.specs.Feed.{Feed, TakesBytes}
use Rattle.heap_image.specs.Heaps.{live_objects}
use Rattle.heap_image.specs.Image.{number_of_bytes}
use Rattle.heap_image.specs.Load.{IsLoading, LastBreaks}
use Rattle.heap_image.specs.declared.fault.LoadFault.{LoadFault}
use Rattle.heap_image.specs.declared.fault.LoadFault.TheVariants as fault
use Rattle.heap_image.specs.declared.fields_in.Filled.{Filled}
use Rattle.heap_image.specs.declared.fields_in.Filled.TheVariants as filled

-- `reading` decodes the bytes taken, and nothing after them, to t.
pub record DecodesAs (reading : List ℕ → Decoded) (had left : Feed) (t : Decoded) : Type 0 where
  pub taken : List ℕ
  pub took : TakesBytes taken had left
  pub reads : reading taken ≡ t

-- the last byte of `taken` breaks a rule: the bytes before it break none, and whatever bytes `more` follow `taken`, all these bytes decode to t
pub record BreaksAtLast (reading : List ℕ → Decoded) (taken : List ℕ) (t : Decoded) : Type 0 where
  pub last : LastBreaks reading taken
  pub reads_on : (more : List ℕ) → reading (taken ++ more) ≡ t

-- No byte was taken past the broken field. If the end of the input cuts this field (`true`), the source has no byte left. Else the field breaks a rule, and the
-- last byte of `taken` is the first that shows it.
abbrev pub StopsInImage : (List ℕ → Decoded) → List ℕ → Decoded → Feed → Bool → Type 0
StopsInImage reading taken t left true = IsSpent left.rest
StopsInImage reading taken t left false = BreaksAtLast reading taken t

-- `reading` decodes the bytes taken to t, and no byte was taken past the broken field of t.
pub record ReadsBroken (reading : List ℕ → Decoded) (had left : Feed) (t : Decoded) : Type 0 where
  pub shows : DecodesAs reading had left t
  pub stops : StopsInImage reading shows.taken t left t.is_cut

-- The bytes taken are whole fields: whatever bytes `more` follow them, `reading` decodes all these bytes as `go` decodes `more` alone.
pub record WholeFields (reading : List ℕ → Decoded) (had left : Feed) (go : List ℕ → Decoded) : Type 0 where
  pub taken : List ℕ
  pub took : TakesBytes taken had left
  pub shows : (more : List ℕ) → reading (taken ++ more) ≡ go more

-- fewer than `room` bytes were taken, where `room` is the length of a field or of a buffer
pub record TakesFewer (room : ℕ) (had left : Feed) : Type 0 where
  pub taken : List ℕ
  pub short : length taken < room
  pub took : TakesBytes taken had left

-- what `fill` did, by its result: the buffer is full of the bytes taken; or the source ended before the buffer was full; or the source failed before the buffer
-- was full
abbrev pub FillsBuffer : Feed → List ℕ → Filled → Feed → Type 0
FillsBuffer had buffer filled.Whole left = TakesBytes buffer had left
FillsBuffer had buffer filled.Cut left = TakesFewer (length buffer) had left × IsSpent left.rest
FillsBuffer had buffer filled.Failed left = TakesFewer (length buffer) had left

-- A field of `room` bytes at the offset `at` wasn't read whole. The fault is the cause: the end of the input cuts the field (`Bad`), or the source failed
-- (`Read`).
abbrev pub StopsInField : ℕ → ℕ → Feed → LoadFault → Feed → Type 0
StopsInField room at had (fault.Bad b) left = (b ≡ at) × TakesFewer room had left × IsSpent left.rest
StopsInField room at had fault.Read left = TakesFewer room had left
StopsInField room at had fault.OutOfMemory left = ⊥

-- what `read_u16` and `read_u32` did, by the result: a number of width w at the offset `at` was read, and is n; or it was cut or couldn't be read
abbrev pub ReadsNumber : Width → ℕ → Feed → Result ℕ LoadFault → Feed → Type 0
ReadsNumber w at had (Ok n) left =
    (bytes : List ℕ) × (length bytes ≡ byte_len w) × (number_of_bytes w bytes ≡ n) × TakesBytes bytes had left
ReadsNumber w at had (Err e) left = StopsInField (byte_len w) at had e left

-- The load stopped with a fault. `settings` (`None`: not read) and the objects o are what the bytes before showed. `Bad`: the field at the offset `at` breaks
-- a rule or is cut, as t shows. `Read`: the source failed; the bytes taken break no rule.
abbrev pub StopsReading : Option Profile → Objects → (List ℕ → Decoded) → Feed → LoadFault → Feed → Type 0
StopsReading settings o reading had (fault.Bad at) left =
    (t : Decoded) × (t.broken ≡ Some at) × (t.settings ≡ settings) × (t.objects ≡ o) × ReadsBroken reading had left t
StopsReading settings o reading had fault.Read left =
    (t : Decoded) × (t.settings ≡ settings) × (t.objects ≡ o) × DecodesAs reading had left t × BreaksNoRule t
StopsReading settings o reading had fault.OutOfMemory left = ⊥

-- n bytes were taken, and after them the settings are s, with the bound 1; `count_decoded` decodes what follows them
pub record ReadsSettings (n : ℕ) (reading : List ℕ → Decoded) (had left : Feed) (s : Settings) : Type 0 where
  pub taken : List ℕ
  pub few : length taken ≡ n
  pub took : TakesBytes taken had left
  pub shows : (more : List ℕ) → reading (taken ++ more) ≡ count_decoded (profile_of s) more
  pub one : s.k ≡ 1

-- what a function that reads the last n bytes of the settings did, by the result: it returned the settings s, or it stopped with the fault e
abbrev pub ReadsSettingsOrStops : ℕ → (List ℕ → Decoded) → Feed → Result Settings LoadFault → Feed → Type 0
ReadsSettingsOrStops n reading had (Ok s) left = ReadsSettings n reading had left s
ReadsSettingsOrStops n reading had (Err e) left = StopsReading None empty reading had e left

-- the run `new` meets `IsLoading`, its heap has the settings of the run `old`, and its live objects by id are o
pub record LeadsTo (old new : RunState) (o : Objects) : Type 0 where
  pub loading : IsLoading new
  pub profile : new.heap.profile ≡ old.heap.profile
  pub objects : live_objects new ≡ o
