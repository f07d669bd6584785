use Rattle.std.proofs.Common.{◌≡◌, ◌∙◌, ◌<◌, refl, ap, map, length, List, arith}
use Rattle.go_tree.specs.FileView.{file_of}
use Rattle.pkg_graph.specs.Views.{source_of}
use Rattle.pkg_graph.specs.declared.packages.SourceTree.{SourceTree}
use Rattle.run_rules.specs.Steps.{change_nth}
use Rattle.file_tables.specs.ReplacedFiles.Replaced.{with_tree}
use Rattle.file_tables.proofs.ReplacedFiles.Changed.{put_changed}
use Rattle.file_tables.proofs.replaced_files.replaced.replace_tree.Goals as goal

pub returns : goal.returns
returns c =
    let x = c.index_mut.result.now in
    let items : c.into_items-sources.result.items ≡ c.args.home.now.files = c.into_items-sources.ensures ∙ c.replace-files.ensures.value in
    let h : c.args.file < length c.into_items-sources.result.items = omega (arith, c.requires, ap length items) in
    let y : SourceTree = record { path = x.path; tree = c.args.tree } in
    let files : map source_of c.of-2.result ≡ change_nth c.args.file (with_tree (file_of c.args.tree)) (map source_of c.args.home.now.files) =
    ap (map source_of) c.of-2.ensures
    ∙ put_changed source_of (with_tree (file_of c.args.tree)) c.into_items-sources.result.items c.args.file x y h c.index_mut.ensures.value refl
    ∙ ap (λ (ss : List SourceTree). change_nth c.args.file (with_tree (file_of c.args.tree)) (map source_of ss)) items in
    λ v. record { path = c.args.home.now.path; name = c.args.home.now.name; files = files v }
