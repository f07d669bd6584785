use Rattle.std.proofs.Common.{◌∙◌, bytes_eq, sym}
use Rattle.pkg_graph.proofs.ModuleFiles.PathLaws.{any_view}
use Rattle.pkg_graph.proofs.module_files.paths.Paths.has.Goals as goal

pub returns : goal.returns
returns c = rw (← c.self.view_is) (c.contains.ensures ∙ sym (any_view (λ k. k.items) (bytes_eq c.args.path.now) c.self.inside.keys.keys))
