use Rattle.std.proofs.Common.{◌≡◌, ◌∙◌, [], List, ap, map, subst, sym, refl}
use Rattle.std.proofs.lemmas.Result.{IfOk-weaker}
use Rattle.go_tree.specs.declared.spans.Span.{Span}
use Rattle.go_tree.specs.FileView.{file_of}
use Rattle.pkg_graph.specs.Package as pure
use Rattle.pkg_graph.specs.Package.{import_specs}
use Rattle.run_rules.specs.Programs.{linked_imports}
use Rattle.package_blocks.specs.Imports.{views}
use Rattle.header_order.specs.RefusedImports.First.{AreImports}
use Rattle.header_order.specs.FirstImports.Firsts.{IsFirst}
use Rattle.header_order.proofs.FirstImports.Converted.{names_of_imports}
use Rattle.header_order.proofs.first_imports.firsts.first_in_file.Goals as goal

abbrev no_files : pure.Package Span
no_files = record { path = []; name = []; files = [] }

pub returns : goal.returns
returns c =
    let ps : List (pure.Package Span) = views c.args.packages.now in
    let file = file_of c.args.tree.now in
    IfOk-weaker c.first_refused_import.result _ (IsFirst c.args.packages.now c.args.blocks.now c.args.home c.args.tree.now c.args.used.now)
    (λ o found w hs number members h u.
    found w hs number members (linked_imports ps file) h u
    (subst (λ xs. AreImports xs (linked_imports ps file))
    (sym (c.items.ensures ∙ ap (λ n. n.imports) (c.in_ok-names.ensures.names no_files (c.of-none.ensures ∙ c.new.ensures.items))))
    (names_of_imports ps (import_specs file))))
    c.first_refused_import.ensures
