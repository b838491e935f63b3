-- For a mode that answers a script: that it printed replies which, with the items, meet a given claim (`PrintsAs`). And that the bytes of a source are a
-- heap image (`GivesImage`).
use Rattle.std.specs.Prelude.{◌≡◌, ⊤, ℕ, List, [], Option, Some, None}
use Rattle.run_model.specs.Terms.{appended, Item, Reply, text_of}
use Rattle.script_loop.specs.ScriptOutcome.{Effects, items_within}
use Rattle.heap_image.specs.Decoded.{IsHeapImage}

-- The call printed some replies, and `Claim` holds of the items `wanted` and these replies.
pub record PrintsAs (Claim : List Item → List Reply → Type 0) (wanted : List Item) (call : Effects) : Type 0 where
  pub replies : List Reply
  pub printed : call.after ≡ appended call.before (text_of [] replies)
  pub claimed : Claim wanted replies

-- `PrintsAs` for the items of the bytes that the source had before the call; if it isn't observable, nothing is claimed
abbrev pub MeetsClaim : (List Item → List Reply → Type 0) → Option (List ℕ) → Effects → Type 0
MeetsClaim Claim None call = ⊤
MeetsClaim Claim (Some all) call = PrintsAs Claim (items_within all) call

-- the source is observable, and the bytes that it had are a heap image
abbrev pub GivesImage : Option (List ℕ) → Type 0
GivesImage None = ⊥
GivesImage (Some all) = IsHeapImage all
