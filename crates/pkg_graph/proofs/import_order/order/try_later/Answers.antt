use Rattle.std.proofs.Common.{◌≡◌, ◌∙◌, rules}
use Rattle.pkg_graph.specs.ModuleFiles.PathLists.{has_path, path_at}
use Rattle.pkg_graph.proofs.ImportOrder.NumberLaws.{added_here}
use Rattle.pkg_graph.proofs.import_order.order.try_later.Goals as goal

pub returns-in_ok-add-clause-added : goal.returns-in_ok-add-clause-added
returns-in_ok-add-clause-added c = λ _.
    let copied : c.in_ok-to_vec.field-0.items ≡ c.path.result.now = search rules in
    let path = path_at c.args.paths.now c.args.k in
    c.in_ok-add.ensures path ∙ added_here c.in_ok-to_vec.field-0.items path (has_path c.args.tried.now path) (copied ∙ c.path.ensures)
