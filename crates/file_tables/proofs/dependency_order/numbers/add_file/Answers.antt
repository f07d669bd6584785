use Rattle.std.proofs.Common.{◌∙◌, ◌++◌, ap, map, refl, List}
use Rattle.go_tree.specs.declared.files.ImportDecl.{ImportDecl}
use Rattle.go_tree.specs.declared.files.ImportSpec.{ImportSpec}
use Rattle.go_tree.specs.FileView.{import_spec_of, import_decl_of}
use Rattle.pkg_graph.specs.Package.{specs_in}
use Rattle.file_names.proofs.Walks.{one_listed, all_listed}
use Rattle.file_tables.specs.DependencyOrder.Links.{numbers_of, spec_paths}
use Rattle.file_tables.proofs.DependencyOrder.Counted.{next_decl}
use Rattle.file_tables.proofs.dependency_order.numbers.add_file.Goals as goal

pub loop-decl-init : goal.loop-decl-init
loop-decl-init c =
    ap (λ (ds : List ImportDecl). c.args.numbers.now.items ++ numbers_of c.args.paths.now (spec_paths (specs_in (map import_decl_of ds)))) c.items-decl-items.ensures

pub loop-decl-preserved : goal.loop-decl-preserved
loop-decl-preserved c =
    one_listed (λ i xs. numbers_of c.args.paths.now (spec_paths (specs_in (map import_decl_of xs)))) (λ i x. numbers_of c.args.paths.now (spec_paths (map import_spec_of x.specs)))
    (λ i x xs. next_decl c.args.paths.now (import_decl_of x) (map import_decl_of xs))
    c.items-decl-items.result.now c.loop-decl.decl-index c.decl-item.result c.loop-decl.numbers.items c.add_specs.new.numbers.items _
    c.loop-decl-test.true c.decl-item.is
    (c.in_ok-add_specs.ensures ∙ ap (λ (ss : List ImportSpec). c.loop-decl.numbers.items ++ numbers_of c.args.paths.now (spec_paths (map import_spec_of ss))) c.items.ensures)
    c.loop-decl.invariant

pub returns : goal.returns
returns c =
    all_listed (λ i xs. numbers_of c.args.paths.now (spec_paths (specs_in (map import_decl_of xs)))) (λ i. refl) c.items-decl-items.result.now c.loop-decl.decl-index
    c.loop-decl.numbers.items _ c.loop-decl-test.false c.loop-decl.invariant
