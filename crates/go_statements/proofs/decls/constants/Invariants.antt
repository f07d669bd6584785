use Rattle.std.proofs.Common.{◌≡◌, map}
use Rattle.go_tree.specs.View.{const_spec_of, var_spec_of}
use Rattle.go_statements.proofs.decls.constants.Given as goal

abbrev pub invariant-loop-spec : goal.invariant-loop-spec
invariant-loop-spec l = map const_spec_of l.items.items ≡ map var_spec_of l.yielded
