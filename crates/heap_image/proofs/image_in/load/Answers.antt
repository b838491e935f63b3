use Rattle.std.proofs.Common.{refl}
use Rattle.id_table.specs.Sessions.{run_at}
use Rattle.heap_image.proofs.CountLemmas.{counts_nothing}
use Rattle.heap_image.proofs.LoadLemmas.{loads_bad, loads_whole, opened_loading, opened_none, opened_profile, settings_lack, settings_stop}
use Rattle.heap_image.proofs.MarkLemmas.{settings_pass_on}
use Rattle.heap_image.proofs.image_in.load.Goals as goal

pub returns-in-Err-clause-loads : goal.returns-in-Err-clause-loads
returns-in-Err-clause-loads g c = settings_stop (run_at (g.N.Namer.state c.args.names.now) (g.H.Manager.state c.args.heap.now)) _ _ c.in-Err.fault c.in-Err.ensures.settings

pub returns-in-Err-open_heap-clause-loads : goal.returns-in-Err-open_heap-clause-loads
returns-in-Err-open_heap-clause-loads g c = settings_lack (run_at (g.N.Namer.state c.args.names.now) (g.H.Manager.state c.args.heap.now))
    (run_at (g.N.Namer.state c.args.names.now) (g.H.Manager.state c.open_heap.new.self)) _ _ c.in-Ok.settings c.in-Ok.ensures.settings c.in-Err-open_heap.ensures.err refl

pub load_objects-requires-clause-loading : goal.load_objects-requires-clause-loading
load_objects-requires-clause-loading g c = opened_loading _ c.requires.moving (g.N.Namer.state c.args.names.now) (g.H.Manager.state c.open_heap.new.self) c.in-Ok.settings
    c.in-Ok.ensures.settings.one c.requires.idle c.in-Ok-open_heap.ensures.ok c.in-Ok-open_heap.ensures.rules

pub load_objects-requires-clause-none : goal.load_objects-requires-clause-none
load_objects-requires-clause-none g c = opened_none _ c.requires.moving (g.N.Namer.state c.args.names.now) (g.H.Manager.state c.open_heap.new.self) c.in-Ok.settings
    c.in-Ok.ensures.settings.one c.requires.idle c.in-Ok-open_heap.ensures.ok c.in-Ok-open_heap.ensures.rules

pub returns-in-Ok-load_objects-clause-loads : goal.returns-in-Ok-load_objects-clause-loads
returns-in-Ok-load_objects-clause-loads g c =
    let opened = opened_profile _ c.requires.moving (g.N.Namer.state c.args.names.now) (g.H.Manager.state c.open_heap.new.self) c.in-Ok.settings
    c.in-Ok.ensures.settings.one c.requires.idle c.in-Ok-open_heap.ensures.ok c.in-Ok-open_heap.ensures.rules in
    loads_whole (run_at (g.N.Namer.state c.args.names.now) (g.H.Manager.state c.args.heap.now)) (run_at (g.N.Namer.state c.load_objects.new.names) (g.H.Manager.state c.load_objects.new.heap))
    c.in-Ok.settings _ _ _ _ opened (settings_pass_on _ _ _ _ _ c.in-Ok.ensures.settings) c.in-Ok-load_objects.ensures.ends

pub returns-in-Err-load_objects-clause-loads : goal.returns-in-Err-load_objects-clause-loads
returns-in-Err-load_objects-clause-loads g c =
    let opened = opened_profile _ c.requires.moving (g.N.Namer.state c.args.names.now) (g.H.Manager.state c.open_heap.new.self) c.in-Ok.settings
    c.in-Ok.ensures.settings.one c.requires.idle c.in-Ok-open_heap.ensures.ok c.in-Ok-open_heap.ensures.rules in
    loads_bad (run_at (g.N.Namer.state c.args.names.now) (g.H.Manager.state c.args.heap.now)) (run_at (g.N.Namer.state c.load_objects.new.names) (g.H.Manager.state c.load_objects.new.heap))
    c.in-Ok.settings _ _ _ _ c.in-Err-load_objects.fault opened (settings_pass_on _ _ _ _ _ c.in-Ok.ensures.settings) c.in-Err-load_objects.ensures.ends

pub returns-in-Err-clause-counts : goal.returns-in-Err-clause-counts
returns-in-Err-clause-counts g c = counts_nothing _

pub returns-in-Err-open_heap-clause-counts : goal.returns-in-Err-open_heap-clause-counts
returns-in-Err-open_heap-clause-counts g c = counts_nothing _
