-- The first page of the pool is in no list.
use Rattle.std.proofs.Common.{refl, inr, ◌∙◌, ap, arith}
use Rattle.std.specs.Prelude.{slice_get}
use Rattle.page_slots.proofs.Calls.{pool_inside, read_back, written_twice, pool_small, pool_listable, pool_unlisted, pool_unused}
use Rattle.page_slots.proofs.TablesAfterTake.{first_of, taken_gains, taken_others}
use Rattle.page_slots.proofs.page_tables.PageTables.take_on_free_page.Goals as goal

pub renew-requires-clause-page : goal.renew-requires-clause-page
renew-requires-clause-page c = pool_inside _ _ c.requires.tables _ _ c.in_ok-page.ensures.taken

pub renew-requires-clause-few : goal.renew-requires-clause-few
renew-requires-clause-few c = omega (arith, c.slots-slots.ensures.wide, c.args.self.now.room)

pub renew-requires-clause-unused : goal.renew-requires-clause-unused
renew-requires-clause-unused c = pool_unused _ _ c.requires.tables _ _ c.in_ok-page.ensures.taken

pub set-requires : goal.set-requires
set-requires c =
    let inside = pool_inside _ _ c.requires.tables _ _ c.in_ok-page.ensures.taken in
    ap (λ xs. slice_get xs 0) (read_back _ _ _ _ c.renew.ensures.value inside) ∙ first_of c.slots-slots.result c.slots-slots.ensures.some

pub join_with_one-requires-clause-page : goal.join_with_one-requires-clause-page
join_with_one-requires-clause-page c = pool_listable _ _ c.requires.tables _ _ c.in_ok-page.ensures.taken

pub join_with_one-requires-clause-unlisted : goal.join_with_one-requires-clause-unlisted
join_with_one-requires-clause-unlisted c = pool_unlisted _ _ c.requires.tables _ _ c.in_ok-page.ensures.taken

pub address_of-requires-clause-small : goal.address_of-requires-clause-small
address_of-requires-clause-small c = pool_small _ _ c.requires.tables _ _ c.in_ok-page.ensures.taken

pub returns-clause-taken : goal.returns-clause-taken
returns-clause-taken c =
    let inside = pool_inside _ _ c.requires.tables _ _ c.in_ok-page.ensures.taken in record {
      page = c.in_ok-page.page;
      slot = 0;
      address = c.address_of.ensures;
      taken = inr (
        refl,
        record {
          none = c.requires.none;
          front = c.in_ok-page.ensures.taken;
          maps = rw (← c.slots-slots.ensures.value) (written_twice _ _ _ _ _ _ _ c.renew.ensures.value inside c.set.ensures.value);
          filled = rw (← c.slots-slots.ensures.value) c.join_with_one.ensures.filled;
          not_filled = rw (← c.slots-slots.ensures.value) c.join_with_one.ensures.not_filled;
        },
      );
    }

pub returns-clause-others : goal.returns-clause-others
returns-clause-others c =
    taken_others _ _ c.requires.tables c.args.c c.requires.class _ _ (returns-clause-taken c) c.join_with_one.ensures.kept c.take.ensures.kept

pub returns-clause-kept : goal.returns-clause-kept
returns-clause-kept c = (taken_gains _ _ c.requires.tables c.args.c c.requires.class _ _ (returns-clause-taken c) c.join_with_one.ensures.kept
    c.take.ensures.kept).kept
