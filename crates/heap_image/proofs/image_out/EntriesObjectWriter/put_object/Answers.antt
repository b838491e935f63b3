use Rattle.std.proofs.Common.{◌∙◌, ◌++◌, List, ℕ, ap}
use Rattle.std.specs.Prelude.{Err, Ok}
use Rattle.cf_io.proofs.CallerLemmas.{puts_same}
use Rattle.heap_image.specs.Image.{number_bytes}
use Rattle.heap_image.proofs.SaveLemmas.{entry_cut, entry_put}
use Rattle.heap_image.proofs.image_out.EntriesObjectWriter.put_object.Goals as goal

pub put_bytes-requires-clause-live : goal.put_bytes-requires-clause-live
put_bytes-requires-clause-live g c = (c.requires.live.0, c.requires.live.1, c.length_of-n.ensures c.requires.live.0 c.requires.live.1)

pub returns : goal.returns
unfolding number_bytes
returns g c = λ x some. entry_put (g.K.Sink.state c.args.out.now) (g.K.Sink.state c.put_all.new.sink) (g.K.Sink.state c.put_bytes.new.out)
    c.args.id c.length_of-n.result c.clear.new.self c.push_text.new.line c.push_text-2.new.line x.bytes c.put_bytes.result c.clear.ensures
    (c.push_text.ensures ∙ ap (λ (b : List ℕ). c.clear.new.self ++ b) c.to_le_bytes.ensures)
    (c.push_text-2.ensures ∙ ap (λ (b : List ℕ). c.push_text.new.line ++ b) c.to_le_bytes-2.ensures)
    (c.length_of-n.ensures x some)
    (puts_same {T = Unit {0}} _ _ _ _ (Ok tt) c.bytes.ensures.value c.in-Ok.ensures) (c.put_bytes.ensures x some)

pub returns-in-Err : goal.returns-in-Err
unfolding number_bytes
returns-in-Err g c = λ x some. entry_cut (g.K.Sink.state c.args.out.now) (g.K.Sink.state c.put_all.new.sink)
    c.args.id c.length_of-n.result c.clear.new.self c.push_text.new.line c.push_text-2.new.line x.bytes c.in-Err.failed c.clear.ensures
    (c.push_text.ensures ∙ ap (λ (b : List ℕ). c.clear.new.self ++ b) c.to_le_bytes.ensures)
    (c.push_text-2.ensures ∙ ap (λ (b : List ℕ). c.push_text.new.line ++ b) c.to_le_bytes-2.ensures)
    (c.length_of-n.ensures x some)
    (puts_same {T = Unit {0}} _ _ _ _ (Err c.in-Err.failed) c.bytes.ensures.value c.in-Err.ensures)
