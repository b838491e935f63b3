use Rattle.std.proofs.Common.{◌≡◌, List, ℕ, sym, ◌∙◌, ap}
use Rattle.norphuen_tasks.specs.Handles.{handles_by}
use Rattle.norphuen_tasks.proofs.Tables.{read_is}
use Rattle.norphuen_tasks.proofs.handles.TaskHandles.of_task.Goals as goal

pub returns : goal.returns
returns c =
    let here : c.self.inside.of.items ≡ c.args.self.now = (let v = c.self.view_is in cc) in
    sym (sym (ap (λ (all : List (List ℕ)). handles_by all c.args.task) here)
    ∙ read_is c.self.inside.of.items c.args.task c.index.result.now c.self.invariant c.requires c.index.ensures)
