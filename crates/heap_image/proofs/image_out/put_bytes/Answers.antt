use Rattle.std.proofs.Common.{◌∙◌, take, drop, ap, arith}
use Rattle.std.proofs.lemmas.List.{length-take-le}
use Rattle.heap_image.proofs.Chunks.{chunk_cut, chunk_is, chunk_put, chunks_put, object_length}
use Rattle.heap_image.proofs.image_out.put_bytes.Goals as goal

pub returns-in-Err-put_all : goal.returns-in-Err-put_all
returns-in-Err-put_all g c = λ x some.
    let is = chunk_is _ _ _ _ x some c.in-Ok.ensures.answer in
    chunk_cut (g.K.Sink.state c.args.out.now) (g.K.Sink.state c.chunks.out) (g.K.Sink.state c.put_all.new.sink) x.bytes c.read.new.out
    c.chunks.at _ (c.chunks.invariant.written x some) is c.in-Err-put_all.failed c.in-Err-put_all.ensures

pub chunks-preserved : goal.chunks-preserved
chunks-preserved g c = record {
  within = omega (arith, c.min-count.ensures);
  written = λ x some.
      let is = chunk_is _ _ _ _ x some c.in-Ok.ensures.answer in
      chunk_put (g.K.Sink.state c.args.out.now) (g.K.Sink.state c.chunks.out) (g.K.Sink.state c.put_all.new.sink) x.bytes c.read.new.out
      c.chunks.at c.min-count.result (c.chunks.invariant.written x some) (is ∙ ap (λ n. take n (drop c.chunks.at x.bytes))
      (length-take-le c.min-count.result c.chunks.buffer (omega (arith, c.min-count.ensures, c.requires.buffer, c.chunks.auto.buffer))))
      c.in-Ok-put_all.ensures;
}

pub returns : goal.returns
returns g c = λ x some. chunks_put (g.K.Sink.state c.args.out.now) (g.K.Sink.state c.chunks.out) x.bytes c.chunks.at
    (c.chunks.invariant.written x some)
    (let n = object_length _ _ _ x c.requires.live some in omega (arith, n, c.chunks-test.false))
