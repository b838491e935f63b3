-- The heap image of a run: of the live objects of its manager, by the ids of its session; and which objects have an image.
use Rattle.std.specs.Prelude.{◌≡◌, ℕ, ◌*◌, ◌^◌, ◌≤◌, ◌<◌, List, Some, length}
use Rattle.std.specs.FinMap.{get, len}
use Rattle.cf_base.specs.Classes.{need}
use Rattle.cf_base.specs.Settings.{Profile}
use Rattle.page_model.specs.Arrangement.{pages_needed}
use Rattle.page_model.specs.Bytes.{AreBytes}
use Rattle.page_model.specs.Held.{Objects, objects}
use Rattle.cf_model.specs.Rules.{AreInRange}
use Rattle.id_table.specs.Sessions.{RunState}
use Rattle.id_table.specs.ById.{objects_by_id}
use Rattle.heap_image.specs.Decoded.{image_paging}
use Rattle.heap_image.specs.Image.{image_of}

-- the live objects of a run: a map from ids to their bytes
abbrev pub live_objects : RunState → Objects
live_objects s = objects_by_id s.session.ids (objects s.heap.held)

-- the image of these objects under the settings p
abbrev pub image_under : Profile → Objects → List ℕ
image_under p objects = image_of p.pages (8 * p.page_words) p.proxies objects

-- the image of a run's live objects, under the settings of its heap
abbrev pub heap_image : RunState → List ℕ
heap_image s = image_under s.heap.profile (live_objects s)

-- The settings p and the objects by id have an image: the bound is 1, and a heap of kind Moving with these settings can hold all the objects at once.
pub record HaveImage (p : Profile) (objects : Objects) : Type 0 where
  pub settings : AreInRange p
  pub one : p.k ≡ 1
  pub ids : (id : ℕ) (v : List ℕ) → get objects id ≡ Some v → id < 2 ^ 16
  pub bytes : (id : ℕ) (v : List ℕ) → get objects id ≡ Some v → AreBytes v
  -- each object fits a page, there is a proxy for each, and all need no more pages than there are
  pub fit : (id : ℕ) (v : List ℕ) → get objects id ≡ Some v → need (length v) ≤ p.page_words
  pub few : len objects ≤ p.proxies
  pub room : pages_needed (image_paging p) objects ≤ p.pages
