-- When bytes are the heap image of given objects, by id and under given settings.
use Rattle.std.specs.Prelude.{◌≡◌, ℕ, List}
use Rattle.run_model.specs.Terms.{Objects, Profile}
use Rattle.heap_image.specs.Heaps.{HaveImage, image_under}

-- the bytes are the image of these objects by id under the settings `p`, and these objects and settings have an image (`HaveImage`)
pub record IsImageOf (bytes : List ℕ) (p : Profile) (objects : Objects) : Type 0 where
  pub have : HaveImage p objects
  pub are : bytes ≡ image_under p objects
