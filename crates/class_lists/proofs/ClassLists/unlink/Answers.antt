use Rattle.std.proofs.Common.{sym, subst, ◌+◌, arith, refl, ap, length, get_or, ◌∙◌, rules}
use Rattle.std.proofs.lemmas.List.{get_or_default}
use Rattle.class_lists.proofs.Views.{list_within, listed_within, page_within, before_inside, after_inside, some_page, shorter, unlisted_now, counted, unlinked}
use Rattle.class_lists.specs.PageLists.{PageLists, IsUnlisted}
use Rattle.class_lists.proofs.ClassLists.unlink.Goals as goal

pub get-before-requires : goal.get-before-requires
get-before-requires c =
    let within = listed_within _ _ _ _ c.self.invariant _ c.self.view_is c.args.c c.args.which _ refl c.requires.class c.args.page c.requires.listed in
    omega (arith, c.self.invariant.backed)

pub copy-after-requires-clause-from : goal.copy-after-requires-clause-from
copy-after-requires-clause-from c =
    let within = listed_within _ _ _ _ c.self.invariant _ c.self.view_is c.args.c c.args.which _ refl c.requires.class c.args.page c.requires.listed in
    omega arith

pub copy-after-requires-clause-to : goal.copy-after-requires-clause-to
copy-after-requires-clause-to c =
    let inside = listed_within _ _ _ _ c.self.invariant _ c.self.view_is c.args.c c.args.which _ refl c.requires.class c.args.page c.requires.listed in
    before_inside _ _ _ _ c.self.invariant _ c.self.view_is c.args.c c.args.which _ refl c.requires.class c.args.page c.requires.listed
    c.get-before.result (get_or c.self.inside.links.next c.args.page 0) c.get-before.ensures.value
    (get_or_default c.self.inside.links.next c.args.page 0 (get_or c.self.inside.links.next c.args.page 0) inside)

pub set-requires : goal.set-requires
set-requires c =
    let within = after_inside _ _ _ _ c.self.invariant _ c.self.view_is c.args.c c.args.which _ refl c.requires.class c.args.page c.requires.listed
    c.get-before.result c.copy-after.result c.get-before.ensures.value c.copy-after.ensures.value in
    omega (arith, c.self.invariant.backed)

pub of-len-requires : goal.of-len-requires
of-len-requires c = list_within _ _ _ _ c.self.invariant _ c.self.view_is c.args.c c.args.which c.requires.class

pub put-requires : goal.put-requires
put-requires c = list_within _ _ _ _ c.self.invariant _ c.self.view_is c.args.c c.args.which c.requires.class

pub overflow_sub-len : goal.overflow_sub-len
overflow_sub-len c =
    let some = some_page _ _ _ _ c.self.invariant _ c.self.view_is c.args.c c.args.which _ refl c.requires.class c.args.page c.requires.listed in
    let len = counted _ _ _ _ c.self.invariant _ c.self.view_is c.args.c c.args.which _ refl c.requires.class
    c.of-len.result c.of-len.ensures in
    omega arith

pub invariant_of-self : goal.invariant_of-self
invariant_of-self c =
    let all = unlinked _ _ _ _ c.self.invariant _ c.self.view_is c.args.c c.args.which _ refl c.requires.class c.args.page c.requires.listed
    c.get-before.result c.copy-after.result c.get-before.ensures.value c.copy-after.ensures.value
    c.of-len.result _ _ _ c.of-len.ensures c.copy-after.ensures.cells c.set.ensures.cells c.put.ensures in
    all.sound

pub returns : goal.returns
returns c =
    let all = unlinked _ _ _ _ c.self.invariant _ c.self.view_is c.args.c c.args.which _ refl c.requires.class c.args.page c.requires.listed
    c.get-before.result c.copy-after.result c.get-before.ensures.value c.copy-after.ensures.value
    c.of-len.result _ _ _ c.of-len.ensures c.copy-after.ensures.cells c.set.ensures.cells c.put.ensures in
    let fewer = shorter _ _ _ _ c.self.invariant _ c.self.view_is c.args.c c.args.which _ refl c.requires.class c.args.page c.requires.listed in
    let out = unlisted_now _ _ _ _ c.self.invariant _ c.self.view_is c.args.c c.args.which _ refl c.requires.class c.args.page c.requires.listed in
    record {
      lists = all.lists;
      list = all.list;
      len = ap (λ xs. length xs + 1) all.list ∙ fewer;
      within = page_within _ _ _ _ c.self.invariant _ c.self.view_is c.args.c c.args.which _ refl c.requires.class c.args.page c.requires.listed;
      unlisted = subst (λ (v : PageLists). IsUnlisted v c.args.page) (sym all.lists) out;
      others = all.others;
      kept = all.kept;
      steps = search rules;
    }
