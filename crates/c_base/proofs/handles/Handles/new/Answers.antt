-- There are as many handles as the least power of two that is not below the number of proxies.
use Rattle.std.proofs.Common.{◌≡◌, length, ap, ◌∙◌, arith}
use Rattle.std.proofs.lemmas.List.FromFn.{length-range_with_len}
use Rattle.std.specs.List.{range_with_len}
use Rattle.c_base.proofs.Opened.{ok_value}
use Rattle.c_base.proofs.Generations.{first_are, fits_proxies}
use Rattle.c_base.proofs.handles.Handles.new.Goals as goal

pub base-base-requires-clause-few : goal.base-base-requires-clause-few
base-base-requires-clause-few c =
    let l = fits_proxies c.next_power_of_two-count.result c.args.proxies c.next_power_of_two-count.ensures.upper_bound c.requires.some in let f = c.requires.few in omega (arith, l, f)

pub invariant_of-result : goal.invariant_of-result
invariant_of-result c =
    let count = c.next_power_of_two-count.result in let base = c.base-base.result in let n = c.next_power_of_two-count.ensures in
    let items : c.in_ok-of.of.items ≡ range_with_len base count =
    ok_value c.numbers_from.result (λ v. v.items ≡ range_with_len base count) c.numbers_from.ensures
    c.ok.result c.ok.ensures.value c.in_ok-of.of c.in_ok-of.was in
    let first = first_are c.args.proxies c.args.last count base c.in_ok-of.of.items n.power n.lower_bound n.upper_bound c.requires.some c.requires.few c.base-base.ensures items in
    let long : length c.in_ok-of.of.items ≡ count = ap length items ∙ length-range_with_len base count in
    let some = first.count.some in let few = first.count.few in
    record { count = first.count; mask_is = omega (arith, long, some); limit_is = omega (arith, long, few) }

pub returns : goal.returns
returns c =
    let count = c.next_power_of_two-count.result in let base = c.base-base.result in let n = c.next_power_of_two-count.ensures in
    let items : c.in_ok-of.of.items ≡ range_with_len base count =
    ok_value c.numbers_from.result (λ v. v.items ≡ range_with_len base count) c.numbers_from.ensures
    c.ok.result c.ok.ensures.value c.in_ok-of.of c.in_ok-of.was in
    first_are c.args.proxies c.args.last count base c.in_ok-of.of.items n.power n.lower_bound n.upper_bound c.requires.some c.requires.few c.base-base.ensures items
