use Rattle.std.proofs.Common.{◌*◌}
use Rattle.cf_io.proofs.CallerLemmas.{puts_same}
use Rattle.top_call.proofs.PrintLemmas.{heap_line_built}
use Rattle.top_call.proofs.image_script.put_heap.Goals as goal

pub returns : goal.returns
returns g c = puts_same _ _ _ _ c.put_line.result
    (heap_line_built c.args.s.now.pages (8 * c.args.s.now.page_words) 1 c.args.s.now.proxies c.clear.new.self c.push_field.new.line c.push_field-2.new.line
    c.push_field-3.new.line c.push_field-4.new.line c.clear.ensures c.push_field.ensures.text c.push_field-2.ensures.text c.push_field-3.ensures.text
    c.push_field-4.ensures.text) c.put_line.ensures
