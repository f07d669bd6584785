use Rattle.std.proofs.Common.{◌<◌, ◌≤◌, ◌∙◌, ap, arith, length}
use Rattle.type_table.specs.TypeRelations.Methods.{method_row}
use Rattle.method_types.specs.MethodSets.Steps.{put_method}
use Rattle.method_types.proofs.MethodSets.SetLemmas.{on_ok, row_gone, row_put}
use Rattle.method_types.proofs.method_sets.sets.put_on.Goals as goal

pub returns-then-t-len : goal.returns-then-t-len
returns-then-t-len c =
    let ss = c.args.sets.now.items in
    let t = c.args.t.0 in
    let row = method_row c.args.name.now c.args.method in
    let old = c.index_mut.result.now in
    let size = c.len.ensures in
    let l : t < length ss = omega (arith, size, c.if-t-len.true) in
    on_ok c.put_method.result
    (λ e. row_put ss t row c.put_method.new.set old l (e ∙ ap (put_method row) c.index_mut.ensures.value))
    c.put_method.ensures

pub returns-else-t-len : goal.returns-else-t-len
returns-else-t-len c =
    let size = c.len.ensures in
    let l : length c.args.sets.now.items ≤ c.args.t.0 = omega (arith, size, c.if-t-len.false) in
    row_gone c.args.sets.now.items c.args.t.0 (method_row c.args.name.now c.args.method) l
