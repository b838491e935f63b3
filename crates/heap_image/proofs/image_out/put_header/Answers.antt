use Rattle.std.proofs.Common.{◌≡◌, ◌*◌, ◌++◌, ◌∙◌, []}
use Rattle.cf_io.proofs.CallerLemmas.{five, puts_same}
use Rattle.heap_image.specs.Image.{header_of, mark, number_bytes}
use Rattle.heap_image.proofs.image_out.put_header.Goals as goal

pub returns : goal.returns
unfolding number_bytes
returns g c =
    let line = five [] c.clear.new.self c.push_text.new.line c.push_text-2.new.line c.push_text-3.new.line c.push_text-4.new.line c.push_text-5.new.line
    _ _ _ _ _ c.clear.ensures c.push_text.ensures c.push_text-2.ensures c.push_text-3.ensures c.push_text-4.ensures c.push_text-5.ensures in
    let parts : mark ++ (c.to_le_bytes.result ++ (c.to_le_bytes-2.result ++ (c.to_le_bytes-3.result ++ c.to_le_bytes-4.result)))
    ≡ header_of c.args.s.now.pages (8 * c.args.s.now.page_words) c.args.s.now.proxies c.args.live =
    λ i. mark ++ (c.to_le_bytes.ensures i ++ (c.to_le_bytes-2.ensures i ++ (c.to_le_bytes-3.ensures i ++ c.to_le_bytes-4.ensures i))) in
    puts_same _ _ _ _ c.put_all.result (c.bytes.ensures.value ∙ line ∙ parts) c.put_all.ensures
