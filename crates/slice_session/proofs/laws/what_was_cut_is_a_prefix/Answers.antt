use Rattle.script_loop.proofs.CallerLemmas.{cut_is_prefix_by}
use Rattle.slice_session.specs.Playing.{slices}
use Rattle.slice_session.proofs.CommandSteps.{slices_go_on}
use Rattle.slice_session.proofs.laws.what_was_cut_is_a_prefix.Goals as goal

pub returns : goal.returns
returns c = λ from to call all is w. (
    let rules = slices_go_on c.an_empty_heap_is_consistent.ensures from.quantum is in
    cut_is_prefix_by slices from (record {
      is_going = slices.is_going;
      begins_going = λ p reply s begins. rules.begins_going p reply s.run begins;
      still_going = λ old c reply new going can step. rules.still_going old.run c reply new.run going can step;
      begin_exists = λ p can. (let b = rules.begin_exists p can in (b.0, record { run = b.1; quantum = from.quantum }, b.2));
      step_exists = λ old c going can. (let t = rules.step_exists old.run c going can in (t.0, record { run = t.1; quantum = old.quantum }, t.2));
    })
    (λ old c out new going can part. (part.reply, new, part.lost, part.turn, part.cut)) to call all w)
