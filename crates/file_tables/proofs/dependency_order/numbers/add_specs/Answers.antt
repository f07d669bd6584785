use Rattle.std.proofs.Common.{◌∙◌, ◌++◌, ap, map, refl, List, ℕ}
use Rattle.std.specs.Option.{option_to_list}
use Rattle.go_tree.specs.FileView.{import_spec_of}
use Rattle.pkg_graph.specs.ModuleFiles.PathLists.{number_of}
use Rattle.file_names.proofs.Walks.{one_listed, all_listed}
use Rattle.file_tables.specs.DependencyOrder.Links.{numbers_of, spec_paths}
use Rattle.file_tables.proofs.dependency_order.numbers.add_specs.Goals as goal

pub loop-spec-preserved : goal.loop-spec-preserved
loop-spec-preserved c =
    one_listed (λ i xs. numbers_of c.args.paths.now (spec_paths (map import_spec_of xs))) (λ i x. option_to_list (number_of c.args.paths.now (import_spec_of x).path)) (λ i x xs. refl)
    c.args.specs.now c.loop-spec.spec-index c.spec-item.result c.loop-spec.numbers.items c.add_number.new.numbers.items _
    c.loop-spec-test.true c.spec-item.is
    (c.in_ok-add_number.ensures ∙ ap (λ (q : List ℕ). c.loop-spec.numbers.items ++ option_to_list (number_of c.args.paths.now q)) c.items.ensures)
    c.loop-spec.invariant

pub returns : goal.returns
returns c =
    all_listed (λ i xs. numbers_of c.args.paths.now (spec_paths (map import_spec_of xs))) (λ i. refl) c.args.specs.now c.loop-spec.spec-index
    c.loop-spec.numbers.items _ c.loop-spec-test.false c.loop-spec.invariant
