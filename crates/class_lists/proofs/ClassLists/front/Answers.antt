use Rattle.std.proofs.Common.{refl, sym, ap, rules}
use Rattle.std.specs.Prelude.{slice_get}
use Rattle.std.proofs.lemmas.Bool.{true≢false}
use Rattle.class_lists.proofs.Views.{apart, front_some, front_none, front_listed, some_not_empty}
use Rattle.class_lists.proofs.ClassLists.front.Goals as goal

pub returns-then-first-self : goal.returns-then-first-self
returns-then-first-self c =
    let front = front_some _ _ _ _ c.self.invariant _ c.self.view_is c.args.c c.args.which _ c.number_of.ensures c.requires.class
    c.get-first.result c.get-first.ensures.value c.if-first-self.true in
    record {
      front = front;
      found = front_listed _ c.get-first.result front;
      none = (λ e. absurd (true≢false e), λ e. absurd (some_not_empty _ c.get-first.result front e));
      kept = apart _ _ _ _ c.self.invariant _ c.self.view_is;
      steps = search rules;
    }

pub returns-else-first-self : goal.returns-else-first-self
returns-else-first-self c =
    let empty = front_none _ _ _ _ c.self.invariant _ c.self.view_is c.args.c c.args.which _ c.number_of.ensures c.requires.class
    c.get-first.result c.get-first.ensures.value c.if-first-self.false in
    record {
      front = ap (λ xs. slice_get xs 0) (sym empty);
      found = tt;
      none = (λ e. empty, λ e. refl);
      kept = apart _ _ _ _ c.self.invariant _ c.self.view_is;
      steps = search rules;
    }
