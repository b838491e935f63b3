use Rattle.slice_model.proofs.CallWords.{byte_there}
use Rattle.slice_model.proofs.words.bytes_are_read_where_they_lie.Goals as goal

pub returns : goal.returns
returns c = λ plan s words h x k ok kept has there bytes. byte_there plan ok s kept words has h x there bytes k
