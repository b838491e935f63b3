use Rattle.cf_io.proofs.CallerLemmas.{puts_same}
use Rattle.top_call.proofs.PrintLemmas.{malloc_line}
use Rattle.top_call.proofs.image_script.put_malloc.Goals as goal

pub returns : goal.returns
returns g c = puts_same _ _ _ _ c.put_line.result
    (malloc_line c.args.id c.args.n c.clear.new.self c.push_field.new.line c.push_field-2.new.line c.clear.ensures c.push_field.ensures.text
    c.push_field-2.ensures.text) c.put_line.ensures
