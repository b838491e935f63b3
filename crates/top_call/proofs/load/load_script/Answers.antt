use Rattle.cf_session.specs.Apply.{run_at}
use Rattle.heap_image.proofs.CallerLemmas.{some_load}
use Rattle.top_call.proofs.load.load_script.Goals as goal

pub returns-in-Ok-print_script-clause-ends : goal.returns-in-Ok-print_script-clause-ends
returns-in-Ok-print_script-clause-ends g c = (c.in-Ok.settings, c.in-Ok.ensures.loads, c.in-Ok-print_script.ensures.wrote)

pub print_script-requires-clause-open : goal.print_script-requires-clause-open
print_script-requires-clause-open g c =
    (some_load (run_at c.args.session.now (g.H.Manager.state c.args.heap.now)) (run_at c.load.new.names (g.H.Manager.state c.load.new.heap)) _ _ _
    c.in-Ok.ensures.loads).1.holds.loading.going.opened

pub print_script-requires-clause-tied : goal.print_script-requires-clause-tied
print_script-requires-clause-tied g c =
    (some_load (run_at c.args.session.now (g.H.Manager.state c.args.heap.now)) (run_at c.load.new.names (g.H.Manager.state c.load.new.heap)) _ _ _
    c.in-Ok.ensures.loads).1.holds.loading.going.tied

pub print_script-requires-clause-settings : goal.print_script-requires-clause-settings
print_script-requires-clause-settings g c =
    (some_load (run_at c.args.session.now (g.H.Manager.state c.args.heap.now)) (run_at c.load.new.names (g.H.Manager.state c.load.new.heap)) _ _ _
    c.in-Ok.ensures.loads).1.holds.profile
