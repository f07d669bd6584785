use Rattle.package_blocks.specs.FuncHeaders.Steps.{FunctionsPassed}
use Rattle.package_blocks.proofs.func_headers.headers.declare_functions.Given as goal

abbrev pub invariant-loop-number : goal.invariant-loop-number
invariant-loop-number l =
    FunctionsPassed l.packages l.files l.headers l.number l.initial.types l.types l.initial.blocks l.blocks l.flags
    l.refused.items
