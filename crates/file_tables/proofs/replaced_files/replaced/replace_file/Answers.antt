use Rattle.std.proofs.Common.{◌∙◌, ap, sym}
use Rattle.go_tree.specs.FileView.{file_of}
use Rattle.pkg_graph.specs.Views.{package_view}
use Rattle.pkg_graph.specs.declared.packages.Package.{Package}
use Rattle.file_tables.specs.ReplacedFiles.Replaced.{with_tree_of}
use Rattle.file_tables.proofs.ReplacedFiles.Changed.{put_changed}
use Rattle.file_tables.proofs.replaced_files.replaced.replace_file.Goals as goal

pub returns : goal.returns
returns c =
    put_changed package_view (with_tree_of c.args.file (file_of c.args.tree)) c.args.packages.now c.args.number c.index-packages-number.result
    c.replace_tree.new.home c.requires.package c.index-packages-number.is
    (c.replace_tree.ensures ∙ ap (λ (p : Package). with_tree_of c.args.file (file_of c.args.tree) (package_view p)) (sym c.index-packages-number.is))
