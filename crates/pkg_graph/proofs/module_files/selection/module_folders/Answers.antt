use Rattle.std.proofs.Common.{◌≡◌, ◌∙◌, ◌+◌, ◌++◌, ◌∷◌, [], ap, sym, take}
use Rattle.std.proofs.lemmas.List.{take_more}
use Rattle.pkg_graph.specs.ModuleFiles.PathLists.{with_path}
use Rattle.pkg_graph.proofs.ModuleFiles.SelectionLaws.{folder_more, folder_same}
use Rattle.pkg_graph.proofs.module_files.selection.module_folders.Goals.{in-Some+in_ok-to_vec+in_ok-add, in_default}
use Rattle.pkg_graph.proofs.module_files.selection.module_folders.Goals as goal

pub loop-path-preserved : goal.loop-path-preserved
loop-path-preserved c =
    let paths = c.args.paths.now in
    let i = c.loop-path.path-index in
    let p = c.path-item.result in
    let is : take (i + 1) paths ≡ take i paths ++ p ∷ [] = take_more paths i p c.loop-path-test.true ∙ ap (λ r. take i paths ++ r ∷ []) (sym c.path-item.is) in
    elim c.match-module_folder.branch [
      | in-Some+in_ok-to_vec+in_ok-add w ↦ rw (w.folders-is) (folder_more (take i paths) (take (i + 1) paths) c.loop-path.folders p is w.in-Some.folder.now w.add.new.self (sym c.items.ensures ∙ w.in-Some.ensures) c.loop-path.invariant (w.in_ok-add.ensures.added ∙ ap (with_path c.loop-path.folders) (w.in_ok-to_vec.ensures.items_if_clones_equal (λ x y e. e))))
      | in_default w ↦ rw (w.folders-is) (folder_same (take i paths) (take (i + 1) paths) c.loop-path.folders p is (λ front e. w.in_default.ensures front (c.items.ensures ∙ e)) c.loop-path.invariant)
    ]
