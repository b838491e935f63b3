use Rattle.std.proofs.Common.{arith, ◌≡◌}
use Rattle.slot_bitmap.proofs.Pages.{fresh_pages, fresh_valid}
use Rattle.slot_bitmap.proofs.slot_maps.free_table.Goals as goal

pub invariant_of-result : goal.invariant_of-result
invariant_of-result c =
    let all : c.loop-page._page ≡ c.args.pages = omega arith in
    rw (c.new-2.ensures, c.in_ok-vec.ensures.items_if_clones_equal (λ _ e. e))
    (fresh_valid c.args.width c.args.pages c.requires.some c.requires.few _ (rw all at c.loop-page.invariant))

pub returns-clause-pages : goal.returns-clause-pages
returns-clause-pages c =
    let all : c.loop-page._page ≡ c.args.pages = omega arith in
    rw (c.new-2.ensures, c.in_ok-vec.ensures.items_if_clones_equal (λ _ e. e))
    (fresh_pages c.args.width c.args.pages c.requires.some c.requires.few _ (rw all at c.loop-page.invariant))
