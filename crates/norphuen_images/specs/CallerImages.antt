-- What a caller in C has for a heap whose objects have ids (`CallerHeap` of `c_base`; it is never lent), and how it is opened, loaded and closed.
use Rattle.std.specs.Prelude.{◌≡◌, ◌⊎◌, ℕ, ℤ, ⊤, pos, Bool, true, false, List}
use Rattle.cf_base.specs.Limits.{is_within}
use Rattle.cf_base.specs.Settings.{profile_from, setting_fault}
use Rattle.c_base.specs.AtPlace.{IsOpenBy}
use Rattle.c_base.specs.CallerHeap.{CallerHeap, Closed, Opened, Lent, closed_with}
use Rattle.c_base.specs.Opening.{Opening}
use Rattle.heap_image.specs.Decoded.{IsBroken}
use Rattle.heap_image.specs.Heaps.{live_objects}
use Rattle.id_table.specs.Sessions.{RunState}
use Rattle.norphuen_images.specs.Calls.{HoldsImage, IsFreshRun, at_bound}
use Rattle.norphuen_images.specs.Needed.{IsImagesHeldBytes}

-- how a heap is opened, with any bound k, and what it needs; its objects have no handles
abbrev pub images_opening : Opening RunState
images_opening = record { takes = λ _. ⊤; is_fresh = λ p _. IsFreshRun p; needs = IsImagesHeldBytes; last = λ _. 0 }

-- the heap after it is closed
abbrev pub images_closed_by : CallerHeap RunState → CallerHeap RunState
images_closed_by = closed_with images_opening.last

-- an open with these settings: pages, bytes of a page, bound k, and proxies
abbrev pub IsImagesOpenCall : CallerHeap RunState → ℕ → ℕ → ℕ → ℕ → ℤ → CallerHeap RunState → Type 0
IsImagesOpenCall old pages page_bytes k proxies code new =
    IsOpenBy (setting_fault pages page_bytes k proxies) (λ _. IsFreshRun (profile_from pages page_bytes k proxies)) old code new

-- The end of a load of these bytes, with the bound k, into a closed heap. 0: they are an image, and the heap is open with its objects. Else the heap is still closed. 21 (`IMAGE`): the bytes
-- are no image, and the caller's number is the offset of the first field that breaks a rule or is cut by the end, or of the first byte past the image. 10 (`MEMORY`): out of memory.
abbrev pub IsImageLoaded : List ℕ → ℕ → ℕ → ℕ → ℤ → ℕ → CallerHeap RunState → Type 0
IsImageLoaded bytes last k before code after (Closed now) = (((code ≡ pos 21) × IsBroken bytes after) ⊎ ((code ≡ pos 10) × (after ≡ before))) × (now ≡ last)
IsImageLoaded bytes last k before code after (Opened h) = (code ≡ pos 0) × (after ≡ before) × HoldsImage bytes k h
IsImageLoaded bytes last k before code after (Lent h w) = ⊥

-- A load of these bytes, with the bound k, into a closed heap. The first argument is whether k is in its range: if not, it returns 13 (`BOUND`), and changes nothing. Else `IsImageLoaded` holds.
abbrev pub IsLoadAt : Bool → ℕ → List ℕ → ℕ → ℕ → ℤ → ℕ → CallerHeap RunState → Type 0
IsLoadAt false last bytes k before code after new = (code ≡ pos 13) × (after ≡ before) × (new ≡ Closed last)
IsLoadAt true last bytes k before code after new = IsImageLoaded bytes last k before code after new

-- A load of these bytes, with the bound k. On a heap that is open already it returns 8 (`OPEN`), on a lent one 9 (`LENT`), and changes nothing.
abbrev pub IsLoadCall : CallerHeap RunState → List ℕ → ℕ → ℕ → ℤ → ℕ → CallerHeap RunState → Type 0
IsLoadCall (Closed last) bytes k before code after new = IsLoadAt (is_within 1 64 k) last bytes k before code after new
IsLoadCall (Opened h) bytes k before code after new = (code ≡ pos 8) × (after ≡ before) × (new ≡ Opened h)
IsLoadCall (Lent h w) bytes k before code after new = (code ≡ pos 9) × (after ≡ before) × (new ≡ Lent h w)

-- what a load, with the bound k, of the image of `s` left: a heap with its settings, but with the bound k, and its objects by id; or, if out of memory, a closed heap
abbrev pub IsLoadedAgain : RunState → ℕ → ℤ → CallerHeap RunState → Type 0
IsLoadedAgain s k code (Closed last) = code ≡ pos 10
IsLoadedAgain s k code (Opened h) = (code ≡ pos 0) × (h.heap.profile ≡ at_bound k s.heap.profile) × (live_objects h ≡ live_objects s)
IsLoadedAgain s k code (Lent h w) = ⊥
