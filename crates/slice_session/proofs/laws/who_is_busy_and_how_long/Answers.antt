use Rattle.slice_session.proofs.Ending.{waiting_ends, free_is_busy, left_after_free, none_left, spare_page}
use Rattle.slice_session.proofs.laws.who_is_busy_and_how_long.Goals as goal

pub returns : goal.returns
returns c = record {
  free = free_is_busy;
  malloc = spare_page;
  none_left = none_left;
  left = left_after_free;
  ended = waiting_ends;
}
