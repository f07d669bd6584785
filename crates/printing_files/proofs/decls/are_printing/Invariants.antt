use Rattle.std.proofs.Common.{◌≡◌, drop, map}
use Rattle.go_tree.specs.Lists.{stmts_from}
use Rattle.go_tree.specs.View.{stmt_of}
use Rattle.printing_files.specs.Decls.{are_printing}
use Rattle.printing_files.proofs.decls.are_printing.Given as goal

abbrev pub invariant-loop-stmt : goal.invariant-loop-stmt
invariant-loop-stmt l =
    are_printing (stmts_from (map stmt_of (drop l.stmt-index l.stmts))) ≡ are_printing (stmts_from (map stmt_of l.stmts))
