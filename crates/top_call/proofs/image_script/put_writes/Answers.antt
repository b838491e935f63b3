use Rattle.std.proofs.Common.{◌∙◌, take, drop, ap, arith, Err, Ok, length-take-le}
use Rattle.script_reader.specs.CommandText.{line_of}
use Rattle.heap_image.proofs.CallerLemmas.{chunk_is, object_length}
use Rattle.cf_io.proofs.CallerLemmas.{puts_same}
use Rattle.top_call.proofs.PrintLemmas.{whole_chunk, writes_cut, writes_first, writes_last, writes_on}
use Rattle.script_reader.specs.declared.command.Command.TheVariants.{Write}
use Rattle.top_call.proofs.image_script.put_writes.Goals as goal

pub chunks-init : goal.chunks-init
chunks-init g c = record { came = λ x some. writes_first c.args.id x.bytes _ }

pub returns-in-Err-put_write : goal.returns-in-Err-put_write
returns-in-Err-put_write g c = λ x some.
    let n = object_length _ _ _ x c.requires.live some in
    let is = chunk_is _ _ _ _ x some c.in-Ok.ensures.answer
    ∙ ap (λ n. take n (drop c.chunks.at x.bytes)) (length-take-le c.min-count.result c.chunks.buffer
    (omega (arith, c.min-count.ensures, c.requires.buffer, c.chunks.auto.buffer)))
    ∙ whole_chunk c.min-count.result c.chunks.at x.bytes (omega (arith, c.min-count.ensures, n)) in
    writes_cut c.args.id x.bytes _ _ c.chunks.at (c.chunks.invariant.came x some) (omega (arith, n, c.chunks-test.true)) _ c.in-Err-put_write.failed
    (puts_same {T = Unit {0}} _ _ _ _ (Err c.in-Err-put_write.failed)
    (ap (λ b. line_of (Write c.args.id c.chunks.at b)) is) c.in-Err-put_write.ensures)

pub chunks-preserved : goal.chunks-preserved
chunks-preserved g c = record {
  came = λ x some.
      let n = object_length _ _ _ x c.requires.live some in
      let is = chunk_is _ _ _ _ x some c.in-Ok.ensures.answer
      ∙ ap (λ n. take n (drop c.chunks.at x.bytes)) (length-take-le c.min-count.result c.chunks.buffer
      (omega (arith, c.min-count.ensures, c.requires.buffer, c.chunks.auto.buffer)))
      ∙ whole_chunk c.min-count.result c.chunks.at x.bytes (omega (arith, c.min-count.ensures, n)) in
      writes_on c.args.id x.bytes _ _ c.chunks.at (c.chunks.invariant.came x some) (omega (arith, n, c.chunks-test.true)) _
      (puts_same {T = Unit {0}} _ _ _ _ (Ok tt) (ap (λ b. line_of (Write c.args.id c.chunks.at b)) is) c.in-Ok-put_write.ensures);
}

pub returns : goal.returns
returns g c = λ x some.
    let n = object_length _ _ _ x c.requires.live some in
    writes_last c.args.id x.bytes _ _ c.chunks.at (c.chunks.invariant.came x some) (omega (arith, n, c.chunks-test.false))
