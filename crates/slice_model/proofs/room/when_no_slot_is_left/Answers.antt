use Rattle.page_model.specs.Paging.{class_for}
use Rattle.page_model.proofs.CallerLemmas.{class_fits, lacks_room_at_one}
use Rattle.slice_model.specs.State.{occupied}
use Rattle.slice_model.proofs.Occupied.{lacking_is_no_place, no_place_is_lacking}
use Rattle.slice_model.proofs.room.when_no_slot_is_left.Goals as goal

pub returns : goal.returns
returns c = λ plan s bytes ok kept fits. (
    let lt = class_fits plan.paging ok.paging bytes fits in
    let both = lacks_room_at_one plan.paging ok.paging ok.ones (occupied plan s) kept.sound bytes lt in (
      (λ none. both.0 (no_place_is_lacking plan ok s kept (class_for plan.paging bytes) lt none)),
      (λ over. lacking_is_no_place plan ok s kept (class_for plan.paging bytes) (both.1 over)),
    ))
