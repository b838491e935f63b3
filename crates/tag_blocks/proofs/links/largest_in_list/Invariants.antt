use Rattle.std.proofs.Common.{◌*◌, ◌-◌, ℕ, List}
use Rattle.step_ledger.specs.Counting.{RoseBy}
use Rattle.tag_blocks.specs.Links.{IsListFrom, Walks}
use Rattle.tag_blocks.proofs.links.largest_in_list.Given as goal

abbrev pub invariant-walk : goal.invariant-walk
invariant-walk l = record {
  walks : (xs : List ℕ) → IsListFrom l.region l.fn.head xs → Walks l.region l.at l.best l._turn (l.words - l._turn) xs;
  taken : RoseBy l.initial.steps l.steps (2 * l._turn);
}
