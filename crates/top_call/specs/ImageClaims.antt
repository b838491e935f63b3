-- What is claimed of modes `save` and `load`, by the bytes read and the bytes printed alone: the image of what a script leaves, the script of an image's
-- objects, the offset of a broken rule, or nothing.
use Rattle.std.specs.Prelude.{◌≡◌, ℕ, List, [], Option, Some, None}
use Rattle.run_model.specs.Terms.{appended, Item, Moving, Objects, objects, Profile, Reply, Status}
use Rattle.cf_base.specs.declared.status.Status.TheVariants.{Done, BadImage}
use Rattle.script_laws.specs.Headline.{MayReply, OpensEmpty}
use Rattle.script_laws.specs.ShownHeap.{ShownHeap}
use Rattle.heap_image.specs.Decoded.{decoded, whole}
use Rattle.heap_image.specs.Heaps.{image_under}
use Rattle.top_call.specs.Loads.{bad_image}
use Rattle.top_call.specs.ImageScript.{script_under}
use Rattle.run_model.specs.Plays.{PlayRun}
use Rattle.script_loop.specs.ScriptOutcome.{Effects, items_within}

-- the image of the objects of the heap that a script and its replies show (`ShownHeap`); no bytes if no `heap` line opened it
abbrev pub image_shown : Option ShownHeap → List ℕ
image_shown None = []
image_shown (Some t) = image_under t.heap.profile (objects t.heap.held)

-- Mode `save`: the script has some replies that meet the claim of mode `run` (`MeetsHeadline`) for kind Moving, and lead to the heap `left` (None without a
-- `heap` line); and what is printed is the image of this heap (`image_shown`).
pub record MeetsSave (script : List Item) (printed : List ℕ) : Type 0 where
  pub replies : List Reply
  pub left : Option ShownHeap
  pub answered : PlayRun (OpensEmpty Moving) MayReply None script replies left
  pub image : printed ≡ image_shown left

-- Mode `load`: the bytes read are an image, and what is printed is the script of the settings and objects that they are the image of.
pub record MeetsLoad (read printed : List ℕ) : Type 0 where
  pub profile : Profile
  pub objects : Objects
  pub image : decoded read ≡ whole profile objects
  pub script : printed ≡ script_under profile objects

-- Mode `load`: the bytes read are no image, and what is printed shows the offset at which they break a rule.
pub record IsRefusedLoad (read printed : List ℕ) : Type 0 where
  pub at : ℕ
  pub broken : (decoded read).broken ≡ Some at
  pub text : printed ≡ bad_image at

-- What mode `save` prints after it read the bytes `read`, by the status: nothing unless it is `Done`. The claims don't use this for `WriteFault`.
abbrev pub SavesAs : Status → List ℕ → List ℕ → Type 0
SavesAs Done read printed = MeetsSave (items_within read) printed
SavesAs status read printed = printed ≡ []

-- What mode `load` prints after it read the bytes `read`, by the status: a script, the offset of a broken rule, or nothing. The claims don't use this for
-- `WriteFault`.
abbrev pub LoadsAs : Status → List ℕ → List ℕ → Type 0
LoadsAs Done read printed = MeetsLoad read printed
LoadsAs BadImage read printed = IsRefusedLoad read printed
LoadsAs status read printed = printed ≡ []

-- a call appended the bytes `printed` to the output, and `Claim` holds of its status, the bytes read and the bytes printed
pub record Prints (Claim : Status → List ℕ → List ℕ → Type 0) (read : List ℕ) (call : Effects) : Type 0 where
  pub printed : List ℕ
  pub written : call.after ≡ appended call.before printed
  pub claimed : Claim call.status read printed
