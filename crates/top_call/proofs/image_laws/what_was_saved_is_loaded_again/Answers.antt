use Rattle.top_call.proofs.SavedImage.{further_replies, loaded_again, never_refused, saved_image}
use Rattle.top_call.proofs.image_laws.what_was_saved_is_loaded_again.Goals as goal

pub returns : goal.returns
returns c = record {
  image = λ from to one done ends opened. saved_image c.an_image_is_read_back.ensures from to one done ends opened;
  taken = λ from to one done ends opened image before after there begin two had ends2.
      never_refused c.an_image_is_read_back.ensures from to one done ends opened image before after there begin two had ends2;
  loads = λ from to one done ends opened image before after there begin two had done2 ends2.
      loaded_again c.an_image_is_read_back.ensures from to one done ends opened image before after there begin two had done2 ends2;
  further = λ from to one done ends opened image before after there begin two had done2 ends2 k ones items replies stated last end further run run2.
      further_replies c.an_image_is_read_back.ensures from to one done ends opened image before after there begin two had done2 ends2
      c.equal_objects_get_equal_replies.ensures k ones items replies stated last end further run run2;
}
