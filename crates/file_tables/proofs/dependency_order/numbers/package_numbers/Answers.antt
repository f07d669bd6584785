use Rattle.std.proofs.Common.{map, refl}
use Rattle.go_tree.specs.FileView.{file_of}
use Rattle.pkg_graph.specs.Package.{import_specs}
use Rattle.pkg_graph.specs.Graph.{files_import}
use Rattle.pkg_graph.specs.Views.{source_of}
use Rattle.file_names.proofs.Walks.{one_listed, all_listed}
use Rattle.file_tables.specs.DependencyOrder.Links.{numbers_of, spec_paths}
use Rattle.file_tables.proofs.DependencyOrder.Counted.{next_file}
use Rattle.file_tables.proofs.dependency_order.numbers.package_numbers.Goals as goal

pub loop-source-preserved : goal.loop-source-preserved
loop-source-preserved c =
    one_listed (λ i xs. numbers_of c.args.paths.now (files_import (map source_of xs))) (λ i x. numbers_of c.args.paths.now (spec_paths (import_specs (file_of x.tree))))
    (λ i x xs. next_file c.args.paths.now (source_of x) (map source_of xs))
    c.items-source-items.result.now c.loop-source.source-index c.source-item.result c.loop-source.numbers.items c.add_file.new.numbers.items _
    c.loop-source-test.true c.source-item.is c.in_ok-add_file.ensures c.loop-source.invariant

pub returns : goal.returns
returns c =
    all_listed (λ i xs. numbers_of c.args.paths.now (files_import (map source_of xs))) (λ i. refl) c.items-source-items.result.now c.loop-source.source-index
    c.loop-source.numbers.items _ c.loop-source-test.false c.loop-source.invariant
