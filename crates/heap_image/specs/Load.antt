-- What holds during a load (`IsLoading`), and what `load` claims, by its result: which bytes it took, and which objects the heap then holds.
use Rattle.std.specs.Prelude.{◌≡◌, ℕ, Bool, true, false, List, [], ◌∷◌, ◌++◌, length, Option, Some, None, Result, Ok, Err}
use Rattle.cf_base.specs.Settings.{Profile, profile_of}
use Rattle.cf_base.specs.declared.kind.Kind.TheVariants.{Moving}
use Rattle.cf_base.specs.declared.settings.Settings.{Settings}
use Rattle.cf_model.specs.State.{paging_in}
use Rattle.page_model.specs.Held.{Objects}
use Rattle.page_model.specs.Paging.{EveryBoundIsOne}
use Rattle.id_table.specs.Sessions.{IsGoing, LacksOne, RunState}
use Rattle.cf_io.specs.Feeds.{MayFollow}
use Rattle.heap_image.specs.Decoded.{BreaksNoRule, Decoded, decoded, whole}
use Rattle.heap_image.specs.Feed.{Feed, TakesBytes}
use Rattle.heap_image.specs.Heaps.{live_objects}
use Rattle.heap_image.specs.declared.fault.LoadFault.{LoadFault}
use Rattle.heap_image.specs.declared.fault.LoadFault.TheVariants as fault

-- `taken` is the bytes `before` and one more, `last`, and the bytes before it break no rule, as `reading` decodes them. So if `taken` breaks one, the last
-- byte does.
pub record LastBreaks (reading : List ℕ → Decoded) (taken : List ℕ) : Type 0 where
  pub before : List ℕ
  pub last : ℕ
  pub are : taken ≡ before ++ (last ∷ [])
  pub sound : BreaksNoRule (reading before)

-- No byte was taken past the broken field. If the end cuts this field (`true`), no bytes `more` follow `taken`, the bytes taken. Else the field breaks a rule,
-- and the last byte of `taken` is the first that shows it: the bytes before it break none.
abbrev pub TakesNoMore : List ℕ → List ℕ → Bool → Type 0
TakesNoMore taken more true = more ≡ []
TakesNoMore taken more false = LastBreaks decoded taken

-- the run s is in progress on a manager of kind Moving, and every bound is 1
pub record IsLoading (s : RunState) : Type 0 where
  pub going : IsGoing s
  pub kind : s.heap.kind ≡ Moving
  pub ones : EveryBoundIsOne (paging_in s.heap)

-- the run s meets `IsLoading`, its heap has the settings p, and its live objects by id are exactly o
pub record HoldsObjects (p : Profile) (o : Objects) (s : RunState) : Type 0 where
  pub loading : IsLoading s
  pub profile : s.heap.profile ≡ p
  pub objects : live_objects s ≡ o

-- if the settings weren't read, the run `to` after the load is the run `from` before it; else its heap has the settings p and holds the objects o
abbrev pub HoldsRead : RunState → Option Profile → Objects → RunState → Type 0
HoldsRead from None o to = to ≡ from
HoldsRead from (Some p) o to = HoldsObjects p o to

-- `Ok`: the bytes taken are an image with these settings, no bytes `more` follow them, and the heap holds the image's objects
pub record LoadsAll (taken more : List ℕ) (settings : Settings) (to : RunState) : Type 0 where
  pub ended : more ≡ []
  pub objects : Objects
  pub reads : decoded taken ≡ whole (profile_of settings) objects
  pub holds : HoldsObjects (profile_of settings) objects to

-- `Bad`: the bytes are no image, and with the bytes `more` that follow them they decode to the same, `shown`. The field at the offset `at` breaks a
-- rule or is cut, and no byte was taken past it. The heap holds the objects before that field. `from` and `to` are the run before and after.
pub record LoadsBroken (from : RunState) (taken more : List ℕ) (at : ℕ) (to : RunState) : Type 0 where
  pub shown : Decoded
  pub reads : decoded taken ≡ shown
  pub reads_all : decoded (taken ++ more) ≡ shown
  pub broken : shown.broken ≡ Some at
  -- no byte was taken past the broken field
  pub no_more : TakesNoMore taken more shown.is_cut
  pub holds : HoldsRead from shown.settings shown.objects to

-- `Read`: the bytes taken break no rule, and the heap holds the objects of the whole entries in them
pub record LoadsInPart (from : RunState) (taken : List ℕ) (to : RunState) : Type 0 where
  pub shown : Decoded
  pub reads : decoded taken ≡ shown
  pub sound : BreaksNoRule shown
  pub holds : HoldsRead from shown.settings shown.objects to

-- `OutOfMemory`: just the mark and the settings were taken, which are 16 bytes, and no memory was found for a heap with these settings
pub record LoadsNothing (from : RunState) (taken : List ℕ) (to : RunState) : Type 0 where
  pub profile : Profile
  pub shown : Decoded
  pub reads : decoded taken ≡ shown
  pub settings : shown.settings ≡ Some profile
  pub few : length taken ≡ 16
  pub lacks : LacksOne from to

-- What a load did, by its result: what the bytes `taken` and those after them, `more`, are, and which objects the heap holds. `from` and `to` are
-- the run before and after.
abbrev pub IsLoaded : RunState → List ℕ → List ℕ → Result Settings LoadFault → RunState → Type 0
IsLoaded from taken more (Ok settings) to = LoadsAll taken more settings to
IsLoaded from taken more (Err (fault.Bad at)) to = LoadsBroken from taken more at to
IsLoaded from taken more (Err fault.Read) to = LoadsInPart from taken to
IsLoaded from taken more (Err fault.OutOfMemory) to = LoadsNothing from taken to

-- Over every source: the bytes that the load took, and what its result claims of them and of all bytes that may follow. `had` and `left` are the
-- source before and after, `from` and `to` the run. `ended` is whether the source had ended, if it isn't observable.
pub record LoadsBy (from : RunState) (had : Feed) (result : Result Settings LoadFault) (left : Feed) (to : RunState) : Type 0 where
  pub taken : List ℕ
  pub ended : Bool
  pub took : TakesBytes taken had left
  pub row : (more : List ℕ) → MayFollow left.rest ended more → IsLoaded from taken more result to
