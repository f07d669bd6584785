use Rattle.std.proofs.Common.{◌≡◌, ◌∙◌, ◌+◌, ap, sym, take, ◌++◌, ◌∷◌, []}
use Rattle.std.proofs.lemmas.List.{map_more}
use Rattle.pkg_graph.specs.ModuleFiles.Pieces.{folder_of}
use Rattle.pkg_graph.specs.Package.{import_path}
use Rattle.pkg_graph.specs.Views.{sources_of, source_of}
use Rattle.pkg_graph.proofs.PackageLaws.{homes_next}
use Rattle.pkg_graph.proofs.homes.find_homes.Goals as goal

pub loop-file-preserved : goal.loop-file-preserved
loop-file-preserved c =
    let home = c.args.module_path.now in
    let files = c.args.files.now in
    let i = c.loop-file.file-index in
    let item = c.file-item.result in
    let so_far = sources_of (take i files) in
    let more : sources_of (take (i + 1) files) ≡ so_far ++ source_of item ∷ [] = map_more source_of files i item c.loop-file-test.true ∙ ap (λ f. so_far ++ source_of f ∷ []) (sym c.file-item.is) in
    homes_next home so_far (sources_of (take (i + 1) files)) (source_of item) c.loop-file.homes.paths c.add.new.self.paths c.loop-file.homes.names.items c.add.new.self.names.items
    c.loop-file.homes.numbers.items c.add.new.self.numbers.items c.in_ok-home.home.items c.items-in-loop-file.result.now
    more c.loop-file.invariant (c.in_ok-home.ensures ∙ ap (λ p. import_path home (folder_of p)) c.items.ensures) c.items-in-loop-file.ensures
    c.in_ok-add.ensures.paths c.in_ok-add.ensures.names c.in_ok-add.ensures.numbers
