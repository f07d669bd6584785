use Rattle.std.proofs.lemmas.Option.{IfSome_then}
use Rattle.pkg_graph.proofs.ModuleFiles.PathLaws.{all_after_view}
use Rattle.pkg_graph.proofs.module_files.paths.PathSet.take_first.Goals as goal

pub returns-clause-least : goal.returns-clause-least
returns-clause-least c = IfSome_then c.pop_first.result c.pop_first.ensures.all_above (λ k h. all_after_view (λ k. k.items) k c.pop_first.new.self.keys h)
