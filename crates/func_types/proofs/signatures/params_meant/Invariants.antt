use Rattle.std.proofs.Common.{drop, map}
use Rattle.go_tree.specs.View.{param_of}
use Rattle.func_types.specs.Params.{ParamsRead}
use Rattle.func_types.proofs.signatures.params_meant.Given as goal

abbrev pub invariant-loop-param : goal.invariant-loop-param
invariant-loop-param l =
    ParamsRead l.initial.types l.types l.flags l.blocks l.scope (map param_of l.param-items)
    (map param_of (drop l.param-index l.param-items)) l.meant.items
