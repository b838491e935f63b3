use Rattle.page_model.proofs.Writing.{header_shown}
use Rattle.page_model.proofs.words.headers_show_number_and_length.Goals as goal

pub returns : goal.returns
returns c = header_shown
