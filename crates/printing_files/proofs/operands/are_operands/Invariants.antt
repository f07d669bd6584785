use Rattle.std.proofs.Common.{◌≡◌, drop, map}
use Rattle.go_tree.specs.Lists.{exprs_from}
use Rattle.go_tree.specs.View.{expr_of}
use Rattle.printing_files.specs.Operands.{are_operands}
use Rattle.printing_files.proofs.operands.are_operands.Given as goal

abbrev pub invariant-loop-e : goal.invariant-loop-e
invariant-loop-e l =
    are_operands (exprs_from (map expr_of (drop l.e-index l.exprs))) ≡ are_operands (exprs_from (map expr_of l.exprs))
