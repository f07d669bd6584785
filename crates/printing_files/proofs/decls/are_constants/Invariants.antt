use Rattle.std.proofs.Common.{◌≡◌, drop, map}
use Rattle.go_tree.specs.Lists.{specs_from}
use Rattle.go_tree.specs.View.{const_spec_of}
use Rattle.printing_files.specs.Decls.{are_constants}
use Rattle.printing_files.proofs.decls.are_constants.Given as goal

abbrev pub invariant-loop-spec : goal.invariant-loop-spec
invariant-loop-spec l =
    are_constants (specs_from (map const_spec_of (drop l.spec-index l.specs)))
    ≡ are_constants (specs_from (map const_spec_of l.specs))
