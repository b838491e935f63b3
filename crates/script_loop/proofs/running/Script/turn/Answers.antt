use Rattle.std.proofs.Common.{◌≡◌, ◌<◌, ◌+◌, ap, arith, inl, min, refl, sym, ◌∙◌, length-take-le}
use Rattle.cf_io.specs.Feeds.{last_count}
use Rattle.cf_io.proofs.CallerLemmas.{given_min, nothing_taken}
use Rattle.script_loop.proofs.LoopTurn.{chunk_of, some_past, stops_by, whole_chunk}
use Rattle.script_loop.proofs.running.Script.turn.Goals as goal

pub returns-in-Err-clause-turn : goal.returns-in-Err-clause-turn
returns-in-Err-clause-turn g c = record {
  progress = refl;
  rest = c.in-Err.ensures.0;
  counted = inl (omega (arith, c.in-Err.ensures.1));
  left = refl;
}

pub returns-then-n-eq0-clause-turn : goal.returns-then-n-eq0-clause-turn
returns-then-n-eq0-clause-turn g c =
    let took = c.in-Ok.ensures in (
      record {
        progress = refl;
        rest = sym (nothing_taken _ _ c.take.new.buf c.in-Ok.n c.if-n-eq0.true took.0);
        counted = given_min _ _ 0 (took.1 ∙ ap (λ n. min ((g.S.Source.state c.args.source.now).given + n) last_count) c.if-n-eq0.true);
        left = refl;
      },
      took.3 (omega arith) c.if-n-eq0.true,
    )

pub returns-in-Err-answer_chunk-clause-turn : goal.returns-in-Err-answer_chunk-clause-turn
returns-in-Err-answer_chunk-clause-turn g c =
    let took = c.in-Ok.ensures in
    stops_by g.A.ModeHandler.semantics _ _
    (chunk_of _ _ c.take.new.buf c.min-within.result c.in-Ok.n (omega (arith, c.min-within.ensures)) (omega (arith, c.min-within.ensures)) took.2 (omega arith) took.0 took.1)
    c.in-Err-answer_chunk.status c.in-Err-answer_chunk.ensures.goes

pub returns-then-n-self-clause-turn : goal.returns-then-n-self-clause-turn
returns-then-n-self-clause-turn g c =
    let took = c.in-Ok.ensures in
    let below : c.min-within.result < c.in-Ok.n = omega (arith, c.min-within.ensures) in
    record {
      chunk = chunk_of _ _ c.take.new.buf c.min-within.result c.in-Ok.n (omega (arith, below)) (omega (arith, c.min-within.ensures)) took.2 (omega arith) took.0 took.1;
      some = some_past c.take.new.buf c.min-within.result c.in-Ok.n below took.2;
      full = length-take-le c.min-within.result c.take.new.buf (omega (arith, below, took.2)) ∙ (omega (arith, c.min-within.ensures, below));
      went = c.in-Ok-answer_chunk.ensures.goes;
    }

pub returns-clause-turn : goal.returns-clause-turn
returns-clause-turn g c =
    let took = c.in-Ok.ensures in
    let whole : c.min-within.result ≡ c.in-Ok.n = omega (arith, c.min-within.ensures) in
    let long = length-take-le c.in-Ok.n c.take.new.buf took.2 in
    record {
      chunk = whole_chunk _ _ c.take.new.buf c.in-Ok.n (omega arith) took.2 (omega arith) took.0 took.1;
      whole = refl;
      some = omega (arith, long);
      left = omega (arith, long);
      went = rw whole at c.in-Ok-answer_chunk.ensures.goes;
    }
