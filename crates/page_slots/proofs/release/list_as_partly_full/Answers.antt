-- A full page leaves the full pages first, so it is in no list when it joins the partly full ones.
use Rattle.std.proofs.Common.{◌<◌, arith, subst}
use Rattle.std.specs.List.{Contains}
use Rattle.class_lists.specs.declared.Which.TheVariants.{Full}
use Rattle.class_lists.specs.PageLists.{pages_in}
use Rattle.page_slots.proofs.Listing.{left_unlisted, left_pages}
use Rattle.page_slots.proofs.release.list_as_partly_full.Goals as goal

pub push-requires-clause-page : goal.push-requires-clause-page
push-requires-clause-page c =
    let e = left_pages _ c.args.c Full c.args.page _
    (record { value = c.unlink.ensures.lists; list = c.unlink.ensures.list; others = c.unlink.ensures.others }) in
    let lt : c.args.page < c.args.lists.now.pages = c.requires.apart.page c.args.c c.args.which c.args.page c.requires.listed in
    omega arith

pub push-requires-clause-unlisted : goal.push-requires-clause-unlisted
push-requires-clause-unlisted c =
    let there = subst (λ w. Contains (pages_in c.args.lists.now c.args.c w) c.args.page) c.in-Full.is c.requires.listed in
    left_unlisted _ c.args.c Full c.args.page _
    (record { value = c.unlink.ensures.lists; list = c.unlink.ensures.list; others = c.unlink.ensures.others }) c.requires.apart there
