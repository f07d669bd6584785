use Rattle.std.proofs.Common.{◌≡◌, ◌++◌, drop, map}
use Rattle.go_tree.specs.Lists.{specs_from}
use Rattle.go_tree.specs.View.{const_spec_of}
use Rattle.pkg_graph.specs.Members.{specs_names}
use Rattle.file_names.specs.DeclaredNames.{name_of}
use Rattle.file_names.proofs.declared.add_constant_specs.Given as goal

abbrev pub invariant-loop-spec : goal.invariant-loop-spec
invariant-loop-spec l =
    map name_of l.names.items ++ specs_names (specs_from (map const_spec_of (drop l.spec-index l.specs)))
    ≡ map name_of l.initial.names.items ++ specs_names (specs_from (map const_spec_of l.specs))
