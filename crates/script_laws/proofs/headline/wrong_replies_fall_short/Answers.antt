use Rattle.script_laws.proofs.WrongReplies.{address_changed, address_shared, block_steps_in_excess, freed_in_vain, malloc_without_reply, one_reply_too_many, page_in_excess, refused_for_size, fitting_malloc_refused, malloc_without_line, steps_in_excess, total_in_excess}
use Rattle.script_laws.proofs.WrongReplies.{word_in_nothing}
use Rattle.script_laws.proofs.headline.wrong_replies_fall_short.Goals as goal

pub returns : goal.returns
returns c = record {
  room = fitting_malloc_refused;
  size = refused_for_size;
  silent = malloc_without_line;
  missing = malloc_without_reply;
  over = one_reply_too_many;
  pages = page_in_excess;
  total = total_in_excess;
  steps = steps_in_excess;
  unknown = freed_in_vain;
  shared = address_shared;
  moved = address_changed;
  word = word_in_nothing;
  blocks = block_steps_in_excess;
}
