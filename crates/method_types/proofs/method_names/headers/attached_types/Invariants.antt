use Rattle.method_types.specs.MethodNames.Known.{MethodsPassed}
use Rattle.method_types.proofs.method_names.headers.attached_types.Given as goal

abbrev pub invariant-loop-header : goal.invariant-loop-header
invariant-loop-header l =
    MethodsPassed l.types l.blocks l.files l.headers l.header-index l.names.fields.items l.names.methods.items
    l.attached.items
