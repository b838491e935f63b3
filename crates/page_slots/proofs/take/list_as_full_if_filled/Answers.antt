-- A filled page leaves the partly full pages first, so it is in no list when it joins the full ones.
use Rattle.std.proofs.Common.{◌<◌, arith}
use Rattle.class_lists.specs.declared.Which.TheVariants.{NotFull}
use Rattle.page_slots.proofs.Listing.{left_unlisted, left_pages}
use Rattle.page_slots.proofs.take.list_as_full_if_filled.Goals as goal

pub push-requires-clause-page : goal.push-requires-clause-page
push-requires-clause-page c =
    let e = left_pages _ c.args.c NotFull c.args.page _
    (record { value = c.unlink.ensures.lists; list = c.unlink.ensures.list; others = c.unlink.ensures.others }) in
    let lt : c.args.page < c.args.lists.now.pages = c.requires.apart.page c.args.c NotFull c.args.page c.requires.listed in
    omega arith

pub push-requires-clause-unlisted : goal.push-requires-clause-unlisted
push-requires-clause-unlisted c =
    left_unlisted _ c.args.c NotFull c.args.page _
    (record { value = c.unlink.ensures.lists; list = c.unlink.ensures.list; others = c.unlink.ensures.others }) c.requires.apart c.requires.listed
