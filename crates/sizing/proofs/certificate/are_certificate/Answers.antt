use Rattle.std.proofs.Common.{◌≡◌, arith, length, rules}
use Rattle.std.proofs.lemmas.Grind.{common_steps}
use Rattle.sizing.specs.Checks.{paging_with}
use Rattle.sizing.proofs.CheckedPoints.{all_rows, certified, none_without}
use Rattle.sizing.proofs.certificate.are_certificate.Goals as goal

pub returns-then-is_empty : goal.returns-then-is_empty
returns-then-is_empty c =
    let none : length c.args.points.now ≡ 0 = first_of (search rules, grind (arith, common_steps)) in (
      λ yes. certified (paging_with c.args.pages c.args.heap.now) c.args.modes.now c.args.points.now c.args.resizes
          (λ some. absurd (first_of (search rules, grind (arith, common_steps)))) (λ i d lt. absurd (omega arith)),
      λ sure. (
          let empty = none_without (paging_with c.args.pages c.args.heap.now) c.args.modes.now c.args.points.now c.args.resizes none sure.0 in
          first_of (search rules, grind (arith, common_steps))),
    )

pub returns : goal.returns
returns c = (
  λ yes. certified (paging_with c.args.pages c.args.heap.now) c.args.modes.now c.args.points.now c.args.resizes
      (λ _. first_of (search rules, grind (arith, common_steps))) (c.are_points.ensures.0 yes),
  λ sure. c.are_points.ensures.1 (all_rows (paging_with c.args.pages c.args.heap.now) c.args.modes.now c.args.points.now c.args.resizes sure),
)
