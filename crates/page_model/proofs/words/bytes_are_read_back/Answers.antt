use Rattle.page_model.proofs.Writing.{byte_read}
use Rattle.page_model.proofs.words.bytes_are_read_back.Goals as goal

pub returns : goal.returns
returns c = λ m words h k x im e bytes lt. byte_read m words im h x e bytes k lt
