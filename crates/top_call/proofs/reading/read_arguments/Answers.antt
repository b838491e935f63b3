use Rattle.std.proofs.Common.{◌∙◌, ap, refl, codes}
use Rattle.clap.specs.Words.{app_of, first_of, found_of, one_of}
use Rattle.clap.proofs.WalkLemmas.{first_value-rows, one_text-rows}
use Rattle.top_call.specs.Choices.{kind_named, mode_named, quantum_in, u64_in}
use Rattle.top_call.proofs.ClapReads.{another_kind_is_found, cf_is_free, cf_is_simple}
use Rattle.top_call.proofs.reading.read_arguments.Goals as goal

pub returns-in-Ok-try_get_matches_from : goal.returns-in-Ok-try_get_matches_from
returns-in-Ok-try_get_matches_from c =
    let app = app_of c.in-Ok.command in
    let got = c.in-Ok-try_get_matches_from in
    let rows = (got.ensures.matches (cf_is_simple app c.in-Ok.ensures)).0 in
    let f = found_of got.matches in
    let mode = c.mode_named.ensures ∙ ap mode_named (c.get_str.ensures ∙ (first_value-rows f (codes "mode") ∙ ap (first_of (codes "mode")) rows)) in
    let kind = c.kind_named.ensures
    ∙ ap kind_named (c.get_str-in-Ok-try_get_matches_from.ensures ∙ (first_value-rows f (codes "manager") ∙ ap (first_of (codes "manager")) rows)) in
    let seed = c.u64_in.ensures ∙ ap u64_in (one_text-rows f (codes "seed") ∙ ap (one_of (codes "seed")) rows) in
    let count = c.u64_in-in-Ok-try_get_matches_from.ensures ∙ ap u64_in (one_text-rows f (codes "count") ∙ ap (one_of (codes "count")) rows) in
    let quantum = c.quantum_in.ensures.value ∙ ap quantum_in (one_text-rows f (codes "quantum") ∙ ap (one_of (codes "quantum")) rows) in
    record {
      reads = record {
        app = app;
        is_app = c.in-Ok.ensures;
        accepted = got.ensures.kinds (cf_is_free app c.in-Ok.ensures);
        chosen = rw (mode, kind, seed, count, quantum) refl;
      };
      least = c.quantum_in.ensures.least;
      most = c.quantum_in.ensures.most;
    }

-- an error that isn't out of memory is one of those that `clap` finds
pub returns : goal.returns
returns c =
    let app = app_of c.in-Ok.command in
    let found = c.in-Err.ensures.kinds (cf_is_free app c.in-Ok.ensures) in
    record {
      reads = record {
        app = app;
        is_app = c.in-Ok.ensures;
        refused = another_kind_is_found _ c.in-Err.error found (λ wanting. c.in_default-kind.not-OutOfMemory (c.kind.ensures ∙ wanting));
      };
      least = tt;
      most = tt;
    }
