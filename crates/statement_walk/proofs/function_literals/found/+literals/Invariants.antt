use Rattle.std.proofs.Common.{◌≡◌, ◌++◌, drop, map}
use Rattle.go_tree.specs.Lists.{elems_from, exprs_from}
use Rattle.go_tree.specs.View.{elem_of, expr_of}
use Rattle.statement_walk.specs.FunctionLiterals.Found.{literals_in_all, literals_in_elems, seen}
use Rattle.statement_walk.proofs.function_literals.found.+literals.Given as goal

abbrev pub invariant-find_in_all-loop-e : goal.invariant-find_in_all-loop-e
invariant-find_in_all-loop-e l =
    seen l.found.items ++ literals_in_all (exprs_from (map expr_of (drop l.e-index l.e-items)))
    ≡ seen l.initial.found.items ++ literals_in_all (exprs_from (map expr_of l.e-items))

abbrev pub invariant-find_in_elems-loop-x : goal.invariant-find_in_elems-loop-x
invariant-find_in_elems-loop-x l =
    seen l.found.items ++ literals_in_elems (elems_from (map elem_of (drop l.x-index l.x-items)))
    ≡ seen l.initial.found.items ++ literals_in_elems (elems_from (map elem_of l.x-items))
