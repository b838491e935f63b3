use Rattle.std.proofs.Common.{◌*◌, arith, map, ◌∙◌}
use Rattle.cf_base.specs.Classes.{sizes_from}
use Rattle.quota_model.proofs.Filled.{filled_last, filled_next, filled_room}
use Rattle.quota_model.proofs.sizes.fill_rising.Goals as goal

pub offset_bounds-table-count : goal.offset_bounds-table-count
offset_bounds-table-count c =
    let lt = filled_room c.args.unit c.args.page c.sizes.size c.sizes.count c.sizes.table (map (λ s. c.args.unit * s) (sizes_from c.args.page c.args.first c.args.page))
    (c.sizes.auto.table ∙ c.requires.room) c.sizes.invariant.some c.sizes.invariant.made c.requires.few in
    omega arith

pub bounds-table-count : goal.bounds-table-count
bounds-table-count c =
    let lt = filled_room c.args.unit c.args.page c.sizes.size c.sizes.count c.sizes.table (map (λ s. c.args.unit * s) (sizes_from c.args.page c.args.first c.args.page))
    (c.sizes.auto.table ∙ c.requires.room) c.sizes.invariant.some c.sizes.invariant.made c.requires.few in
    omega arith

pub overflow_add-count : goal.overflow_add-count
overflow_add-count c =
    let lt = filled_room c.args.unit c.args.page c.sizes.size c.sizes.count c.sizes.table (map (λ s. c.args.unit * s) (sizes_from c.args.page c.args.first c.args.page))
    (c.sizes.auto.table ∙ c.requires.room) c.sizes.invariant.some c.sizes.invariant.made c.requires.few in
    omega arith

pub offset_bounds-table-count-2 : goal.offset_bounds-table-count-2
offset_bounds-table-count-2 c =
    let lt = filled_room c.args.unit c.args.page c.sizes.size c.sizes.count c.sizes.table (map (λ s. c.args.unit * s) (sizes_from c.args.page c.args.first c.args.page))
    (c.sizes.auto.table ∙ c.requires.room) c.sizes.invariant.some c.sizes.invariant.made c.requires.few in
    omega arith

pub bounds-table-count-2 : goal.bounds-table-count-2
bounds-table-count-2 c =
    let lt = filled_room c.args.unit c.args.page c.sizes.size c.sizes.count c.sizes.table (map (λ s. c.args.unit * s) (sizes_from c.args.page c.args.first c.args.page))
    (c.sizes.auto.table ∙ c.requires.room) c.sizes.invariant.some c.sizes.invariant.made c.requires.few in
    omega arith

pub overflow_add-result : goal.overflow_add-result
overflow_add-result c =
    let lt = filled_room c.args.unit c.args.page c.sizes.size c.sizes.count c.sizes.table (map (λ s. c.args.unit * s) (sizes_from c.args.page c.args.first c.args.page))
    (c.sizes.auto.table ∙ c.requires.room) c.sizes.invariant.some c.sizes.invariant.made c.requires.few in
    omega arith

pub returns-clause-within : goal.returns-clause-within
returns-clause-within c =
    let lt = filled_room c.args.unit c.args.page c.sizes.size c.sizes.count c.sizes.table (map (λ s. c.args.unit * s) (sizes_from c.args.page c.args.first c.args.page))
    (c.sizes.auto.table ∙ c.requires.room) c.sizes.invariant.some c.sizes.invariant.made c.requires.few in
    omega arith

pub sizes-preserved : goal.sizes-preserved
sizes-preserved c =
    let lt = filled_room c.args.unit c.args.page c.sizes.size c.sizes.count c.sizes.table (map (λ s. c.args.unit * s) (sizes_from c.args.page c.args.first c.args.page))
    (c.sizes.auto.table ∙ c.requires.room) c.sizes.invariant.some c.sizes.invariant.made c.requires.few in
    let k = c.sizes.invariant in
    record {
      some = (let some = k.some in grind arith);
      made = filled_next c.args.unit c.args.page c.sizes.size c.sizes.count c.sizes.table (map (λ s. c.args.unit * s) (sizes_from c.args.page c.args.first c.args.page))
          (c.sizes.auto.table ∙ c.requires.room) c.sizes.invariant.some c.sizes.invariant.made
          lt c.div_ceil-size.result c.sizes-test.true (grind arith);
    }

pub returns-clause-sizes : goal.returns-clause-sizes
returns-clause-sizes c =
    let lt = filled_room c.args.unit c.args.page c.sizes.size c.sizes.count c.sizes.table (map (λ s. c.args.unit * s) (sizes_from c.args.page c.args.first c.args.page))
    (c.sizes.auto.table ∙ c.requires.room) c.sizes.invariant.some c.sizes.invariant.made c.requires.few in
    filled_last c.args.unit c.args.page c.sizes.size c.sizes.count c.sizes.table (map (λ s. c.args.unit * s) (sizes_from c.args.page c.args.first c.args.page))
    (c.sizes.auto.table ∙ c.requires.room) c.sizes.invariant.some c.sizes.invariant.made lt c.sizes-test.false
