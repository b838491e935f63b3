use Rattle.heap_tests.proofs.tests.saved.do_commands.Goals as goal

pub commands-preserved : goal.commands-preserved
commands-preserved g c = record {
  going = c.do_command.ensures.going;
  ready = λ p ready. c.do_command.ensures.ready p (c.commands.invariant.ready p ready);
}
