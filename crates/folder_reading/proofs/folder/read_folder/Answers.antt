use Rattle.std.proofs.Common.{◌≡◌, ◌∙◌, ◌<◌, ap, length, subst, sym, All}
use Rattle.pkg_graph.specs.ModuleFiles.Selected.{selected}
use Rattle.folder_reading.proofs.SelectedLemmas.{selected_below}
use Rattle.folder_reading.proofs.folder.read_folder.Goals as goal

pub read_files-requires : goal.read_files-requires
read_files-requires g c =
    let listed = g.T.Tree.listed c.args.tree.now in
    let same : c.deref-2.result.now ≡ selected listed =
    c.deref-2.ensures.value ∙ c.in_ok-numbers.ensures ∙ ap selected (c.deref.ensures.value ∙ c.in_ok-paths.ensures.listed) in
    subst (All (λ i. i < length listed)) (sym same) (selected_below listed)
