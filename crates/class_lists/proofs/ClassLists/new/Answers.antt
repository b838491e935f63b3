use Rattle.std.proofs.Common.{◌≡◌, ◌+◌, ◌*◌, arith, ◌<◌, ◌^◌, sym, subst}
use Rattle.class_lists.specs.PageLists.{AreEmpty}
use Rattle.class_lists.proofs.Views.{empty_are_empty, lists_apart, new_sound, new_view}
use Rattle.class_lists.proofs.ClassLists.new.Goals as goal

pub invariant_of-result : goal.invariant_of-result
invariant_of-result c =
    let nodes : c.args.pages + 2 * c.args.classes ≡ c.in-Ok.nodes = omega (arith, c.in-Ok.ensures.1, c.from.ensures, c.from-2.ensures) in
    new_sound _ _ _ c.args.classes _ c.in-Ok.nodes nodes (omega (arith, c.in-Ok.ensures.0, c.in-Ok.ensures.1)) c.in-Ok-new.ensures.next
    c.in-Ok-new.ensures.previous c.in-Ok-new-2.ensures

pub returns : goal.returns
returns c =
    let nodes : c.args.pages + 2 * c.args.classes ≡ c.in-Ok.nodes = omega (arith, c.in-Ok.ensures.1, c.from.ensures, c.from-2.ensures) in
    let small : c.in-Ok.nodes < 2 ^ 32 = omega (arith, c.in-Ok.ensures.0, c.in-Ok.ensures.1) in
    let view = new_view _ _ _ _ _ c.in-Ok.nodes nodes small c.in-Ok-new.ensures.next c.in-Ok-new.ensures.previous c.in-Ok-new-2.ensures in
    let sound = new_sound _ _ _ c.args.classes _ c.in-Ok.nodes nodes small c.in-Ok-new.ensures.next c.in-Ok-new.ensures.previous c.in-Ok-new-2.ensures in
    record {
      lists = view;
      empty = subst AreEmpty (sym view) (empty_are_empty c.args.classes c.args.pages);
      kept = lists_apart _ _ _ _ sound;
    }
