-- For any rules of a mode: if a run begins with any settings in range and each valid command has a step, then there is a run over the items of any script,
-- and each run over the first items of a script can be continued to the end.
use Rattle.std.proofs.Common.{◌≡◌, ◌++◌, ℕ, List, [], ◌∷◌, Option, Some, None, refl, sym, subst}
use Rattle.std.specs.Prelude.{⊤, Bool}
use Rattle.run_model.specs.Terms.{AreInRange, asks, bad, bad_line, Command, Item, items, Profile, Reply, said, starts}
use Rattle.script_laws.proofs.Items.{all_items_valid}
use Rattle.script_laws.specs.ValidItems.{AreValidItems, IsValidCommand, IsValidItem}
use Rattle.run_model.proofs.CallerLemmas.{run_joined}
use Rattle.run_model.specs.Plays.{PlayRun, PlayStep}

-- A run can always go on: it begins with any settings in range, each valid command has a step, and the run is in progress afterwards.
pub record CanGoOn {S : Type 0} (begins : Profile → Reply → S → Type 0) (turns : S → Command → Reply → S → Type 0) : Type 1 where
  pub is_going : S → Type 0
  pub begins_going : (p : Profile) (reply : Reply) (s : S) → begins p reply s → is_going s
  pub still_going : (old : S) (c : Command) (reply : Reply) (new : S) → is_going old → IsValidCommand c → turns old c reply new → is_going new
  pub begin_exists : (p : Profile) → AreInRange p → (reply : Reply) × (s : S) × begins p reply s
  pub step_exists : (old : S) (c : Command) → is_going old → IsValidCommand c → (reply : Reply) × (new : S) × turns old c reply new

-- the first items of a list of valid ones are valid
pub valid_before : (done after : List Item) → AreValidItems (done ++ after) → AreValidItems done
valid_before [] after can = tt
valid_before (item ∷ rest) after can = (can.0, valid_before rest after can.1)

pub sayable_behind : (done after : List Item) → AreValidItems (done ++ after) → AreValidItems after
sayable_behind [] after can = can
sayable_behind (item ∷ rest) after can = sayable_behind rest after can.1

module _ {S : Type 0} (begins : Profile → Reply → S → Type 0) (turns : S → Command → Reply → S → Type 0) (rules : CanGoOn begins turns) where
  abbrev pub IsOn : Option S → Type 0
  IsOn None = ⊤
  IsOn (Some s) = rules.is_going s

  pub step_on : (old : Option S) (item : Item) (reply : Reply) (new : Option S) → IsOn old → IsValidItem item
      → PlayStep begins turns old item reply new → IsOn new
  step_on old (starts p) reply new on can step = subst IsOn (sym step.2) (rules.begins_going p reply step.0 step.1)
  step_on None (asks c) reply new on can step = subst IsOn (sym step.1) tt
  step_on (Some old) (asks c) reply new on can step = subst IsOn (sym step.2) (rules.still_going old c reply step.0 on can step.1)
  step_on old (bad n) reply new on can step = subst IsOn (sym step.1) on

  pub run_on : (old : Option S) (items : List Item) (replies : List Reply) (new : Option S) → IsOn old → AreValidItems items
      → PlayRun begins turns old items replies new → IsOn new
  run_on old [] replies new on can run = subst IsOn (sym run.1) on
  run_on old (item ∷ rest) replies new on can run = run_on run.0 rest run.2 new (step_on old item run.1 run.0 on can.0 run.3) can.1 run.5

  pub item_there : (old : Option S) (item : Item) → IsOn old → IsValidItem item
      → (reply : Reply) × (new : Option S) × PlayStep begins turns old item reply new
  item_there old (starts p) on can = let b = rules.begin_exists p can in (b.0, Some b.1, (b.1, b.2, refl))
  item_there None (asks c) on can = ([], None, (refl, refl))
  item_there (Some old) (asks c) on can = let t = rules.step_exists old c on can in (t.0, Some t.1, (t.1, t.2, refl))
  item_there old (bad n) on can = (said (bad_line n), old, (refl, refl))

  pub run_there : (old : Option S) (items : List Item) → IsOn old → AreValidItems items
      → (replies : List Reply) × (new : Option S) × PlayRun begins turns old items replies new
  run_there old [] on can = ([], old, (refl, refl))
  run_there old (item ∷ rest) on can =
      let first = item_there old item on can.0 in
      let more = run_there first.1 rest (step_on old item first.0 first.1 on can.0 first.2) can.1 in
      (first.0 ∷ more.0, more.1, (first.1, first.0, more.0, first.2, refl, more.2))

  -- a run over a prefix of valid items can be continued over all of them
  pub run_goes_on : (all done after : List Item) (replies : List Reply) (mid : Option S) → AreValidItems all → all ≡ done ++ after
      → PlayRun begins turns None done replies mid
      → (more : List Reply) × (new : Option S) × PlayRun begins turns None all (replies ++ more) new
  run_goes_on all done after replies mid can parts run =
      let both = subst AreValidItems parts can in
      let rest = run_there mid after (run_on None done replies mid tt (valid_before done after both) run) (sayable_behind done after both) in (
        rest.0,
        rest.1,
        subst (λ (i : List Item). PlayRun begins turns None i (replies ++ rest.0) rest.1) (sym parts)
            (run_joined begins turns None done after replies rest.0 mid rest.1 run rest.2),
      )

  -- there is a run over the items of any bytes
  pub runs_exist : (given : List ℕ) (ended : Bool) → (replies : List Reply) × (new : Option S) × PlayRun begins turns None (items given ended) replies new
  runs_exist given ended = run_there None (items given ended) tt (all_items_valid given ended)

  -- each run over a prefix of the items can be continued to the end
  pub runs_on : (given : List ℕ) (ended : Bool) (done after : List Item) (replies : List Reply) (mid : Option S) → items given ended ≡ done ++ after
      → PlayRun begins turns None done replies mid
      → (more : List Reply) × (new : Option S) × PlayRun begins turns None (items given ended) (replies ++ more) new
  runs_on given ended done after replies mid parts run = run_goes_on (items given ended) done after replies mid (all_items_valid given ended) parts run
