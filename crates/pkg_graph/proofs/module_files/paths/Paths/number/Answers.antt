use Rattle.std.proofs.Common.{◌∙◌}
use Rattle.pkg_graph.proofs.ModuleFiles.PathLaws.{number_view}
use Rattle.pkg_graph.proofs.module_files.paths.Paths.number.Goals as goal

pub returns : goal.returns
returns c = rw (← c.self.view_is) (c.get_index_of.ensures.index ∙ number_view (λ k. k.items) c.args.path.now c.self.inside.keys.keys)
