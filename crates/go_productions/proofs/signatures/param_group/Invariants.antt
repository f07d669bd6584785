use Rattle.std.proofs.Common.{◌≡◌, ◌++◌, map}
use Rattle.go_tree.specs.View.{field_of, param_of}
use Rattle.go_productions.specs.Parts.{param_from}
use Rattle.go_productions.proofs.signatures.param_group.Given as goal

abbrev pub invariant-loop-field : goal.invariant-loop-field
invariant-loop-field l = map param_of l.params.items ≡ map param_of l.fn.params.items ++ map param_from (map field_of l.yielded)
