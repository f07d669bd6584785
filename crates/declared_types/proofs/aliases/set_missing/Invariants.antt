use Rattle.std.proofs.Common.{drop}
use Rattle.declared_types.specs.Steps.{HeadersPassed}
use Rattle.declared_types.proofs.aliases.set_missing.Given as goal

abbrev pub invariant-loop-header : goal.invariant-loop-header
invariant-loop-header l =
    HeadersPassed l.files l.headers (drop l.header-index l.headers) l.initial.types l.initial.blocks l.types l.blocks
    l.changed
