use Rattle.std.proofs.Common.{rules, arith, ◌∙◌}
use Rattle.std.proofs.lemmas.Grind.{common_steps}
use Rattle.cf_base.specs.Settings.{profile_of}
use Rattle.quota_model.specs.Admission.{CanBeAsked}
use Rattle.sizing.proofs.Needed.{counted_few, counted_serve, fewer_refuse, least_quota, needed_at}
use Rattle.sizing.proofs.least.least_pages.Goals as goal

pub pages_of_needs-requires-clause-low : goal.pages_of_needs-requires-clause-low
pages_of_needs-requires-clause-low c =
    let asked : CanBeAsked (profile_of c.args.s.now) c.args.needs.now = record {
      none_large = first_of (search rules, grind (arith, common_steps));
      few = first_of (search rules, grind (arith, common_steps));
    } in
    let few = counted_few (profile_of c.args.s.now) c.args.layout c.args.s.now.page_size c.args.needs.now asked in
    let proxies = c.args.s.now.few_proxies in
    omega arith

pub overflow_cast-result : goal.overflow_cast-result
overflow_cast-result c =
    let asked : CanBeAsked (profile_of c.args.s.now) c.args.needs.now = record {
      none_large = first_of (search rules, grind (arith, common_steps));
      few = first_of (search rules, grind (arith, common_steps));
    } in
    let few = counted_few (profile_of c.args.s.now) c.args.layout c.args.s.now.page_size c.args.needs.now asked in
    let proxies = c.args.s.now.few_proxies in
    let is = c.pages_of_needs.ensures in
    omega arith

pub returns-clause-enough : goal.returns-clause-enough
returns-clause-enough c =
    let asked : CanBeAsked (profile_of c.args.s.now) c.args.needs.now = record {
      none_large = first_of (search rules, grind (arith, common_steps));
      few = first_of (search rules, grind (arith, common_steps));
    } in
    counted_serve (profile_of c.args.s.now) c.args.layout c.args.s.now.page_size c.args.needs.now asked c.pages_of_needs.result c.pages_of_needs.ensures

pub returns-clause-least : goal.returns-clause-least
returns-clause-least c =
    let asked : CanBeAsked (profile_of c.args.s.now) c.args.needs.now = record {
      none_large = first_of (search rules, grind (arith, common_steps));
      few = first_of (search rules, grind (arith, common_steps));
    } in
    fewer_refuse (profile_of c.args.s.now) c.args.layout c.args.s.now.page_size c.args.needs.now asked c.pages_of_needs.result c.pages_of_needs.ensures

pub returns-clause-quota : goal.returns-clause-quota
returns-clause-quota c =
    let asked : CanBeAsked (profile_of c.args.s.now) c.args.needs.now = record {
      none_large = first_of (search rules, grind (arith, common_steps));
      few = first_of (search rules, grind (arith, common_steps));
    } in
    least_quota (profile_of c.args.s.now) c.args.layout c.args.s.now.page_size c.args.needs.now asked c.pages_of_needs.result c.pages_of_needs.ensures

pub returns-clause-value : goal.returns-clause-value
returns-clause-value c = λ p words same. c.pages_of_needs.ensures
    ∙ needed_at (profile_of c.args.s.now) c.args.layout c.args.s.now.page_size c.args.needs.now p words same
