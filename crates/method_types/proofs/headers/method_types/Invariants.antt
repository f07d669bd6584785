use Rattle.method_types.specs.Steps.{TypesPassed}
use Rattle.method_types.proofs.headers.method_types.Given as goal

abbrev pub invariant-loop-number : goal.invariant-loop-number
invariant-loop-number l =
    TypesPassed l.initial.types l.types l.blocks l.files l.headers l.attached l.number l.flags l.methods.items
    l.refused.items
