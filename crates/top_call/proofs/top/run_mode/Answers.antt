use Rattle.top_call.specs.declared.choice.Mode.TheVariants.{Bench, Large, Save, Load, Slice, Quota}
use Rattle.top_call.proofs.Modes.{in_mode}
use Rattle.top_call.proofs.top.run_mode.Goals as goal

pub returns-in-Bench : goal.returns-in-Bench
returns-in-Bench g c = in_mode Bench c.args.choice c.in-Bench.is _ c.bench_seed.result _ (c.bench_seed.ensures _ _)

pub returns-in-Large : goal.returns-in-Large
returns-in-Large g c = in_mode Large c.args.choice c.in-Large.is _ c.play_large.result _ (c.play_large.ensures _)

pub returns-in-Save : goal.returns-in-Save
returns-in-Save g c = in_mode Save c.args.choice c.in-Save.is _ c.save_image.result _ (c.save_image.ensures _)

pub returns-in-Load : goal.returns-in-Load
returns-in-Load g c = in_mode Load c.args.choice c.in-Load.is _ c.load_image.result _ (c.load_image.ensures _)

pub returns-in-Slice : goal.returns-in-Slice
returns-in-Slice g c = in_mode Slice c.args.choice c.in-Slice.is _ c.play_slices.result _ (c.play_slices.ensures _)

pub returns-in-Quota : goal.returns-in-Quota
returns-in-Quota g c = in_mode Quota c.args.choice c.in-Quota.is _ c.play_quotas.result _ (c.play_quotas.ensures _)
