use Rattle.std.proofs.Common.{codes}
use Rattle.std.proofs.lemmas.Bool.Decides.{Decides-eqb}
use Rattle.std.proofs.lemmas.Slice.Eq.{strip_suffix_is}
use Rattle.pkg_graph.proofs.module_files.selection.module_folder.Goals as goal

pub returns : goal.returns
returns c = strip_suffix_is Decides-eqb c.args.path.now (codes "/go.mod") c.strip_suffix.result c.strip_suffix.ensures.cases
