use Rattle.std.proofs.Common.{◌∙◌, ap, map}
use Rattle.std.specs.List.{list_any}
use Rattle.std.specs.Prelude.{bytes_eq}
use Rattle.pkg_graph.proofs.ModuleFiles.PathLaws.{inserted_view}
use Rattle.pkg_graph.proofs.module_files.paths.PathSet.add.Goals as goal

pub returns : goal.returns
returns c = λ q. rw (← c.self.view_is) (ap (λ ks. list_any (bytes_eq q) (map (λ k. k.items) ks)) c.in_ok-insert.ensures.keys ∙ inserted_view (λ k. k.items) q c.self.inside.keys.keys c.args.path)
