use Rattle.top_call.proofs.ClaimsExact.{another_length, entry_over, loads_exactly, nothing_loaded, nothing_saved, others_loaded, others_saved, saves_exactly}
use Rattle.top_call.proofs.image_laws.wrong_images_fall_short.Goals as goal

pub returns : goal.returns
returns c = record {
  save = saves_exactly;
  nothing = nothing_saved;
  size = another_length;
  over = entry_over;
  others = λ p o n h have other. others_saved p o h n other c.an_image_determines_its_objects.ensures have;
  load = λ p o h. loads_exactly p o h (c.an_image_is_read_back.ensures p o h);
  silent = λ p o h. nothing_loaded p o h (c.an_image_is_read_back.ensures p o h);
  exchanged = λ p o n h have other. others_loaded p o h (c.an_image_is_read_back.ensures p o h) n other have;
}
