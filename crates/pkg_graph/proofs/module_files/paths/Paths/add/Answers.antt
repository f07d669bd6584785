use Rattle.std.proofs.Common.{◌∙◌, ap, map, sym}
use Rattle.std.proofs.Common.{Some}
use Rattle.pkg_graph.proofs.ModuleFiles.PathLaws.{added_view, number_added, any_view}
use Rattle.std.proofs.Common.{not, bytes_eq}
use Rattle.pkg_graph.specs.ModuleFiles.PathLists.{number_of}
use Rattle.pkg_graph.proofs.module_files.paths.Paths.add.Goals as goal

pub returns-clause-added : goal.returns-clause-added
returns-clause-added c = rw (← c.self.view_is) (ap (map (λ k. k.items)) c.in_ok-number.ensures.keys ∙ added_view (λ k. k.items) c.self.inside.keys.keys c.args.path)

pub returns-clause-number : goal.returns-clause-number
returns-clause-number c = ap (λ ks. number_of (map (λ k. k.items) ks) c.args.path.items) c.in_ok-number.ensures.keys ∙ number_added (λ k. k.items) c.self.inside.keys.keys c.args.path ∙ ap Some (sym c.in_ok-number.ensures.index)

pub returns-clause-is_new : goal.returns-clause-is_new
returns-clause-is_new c = rw (← c.self.view_is) (c.in_ok-number.ensures.added ∙ ap not (sym (any_view (λ k. k.items) (bytes_eq c.args.path.items) c.self.inside.keys.keys)))
