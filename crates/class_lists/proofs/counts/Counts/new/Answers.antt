use Rattle.class_lists.proofs.Pairs.{none_in_turn}
use Rattle.class_lists.proofs.counts.Counts.new.Goals as goal

pub returns : goal.returns
returns c =
    rw (c.in_ok-vec.ensures.items_if_clones_equal (λ y is. is), c.in_ok-vec-2.ensures.items_if_clones_equal (λ y is. is)) (none_in_turn c.args.classes)
