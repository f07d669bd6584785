use Rattle.std.proofs.Common.{drop}
use Rattle.defined_types.specs.DeclaredTypes.{TypesRead}
use Rattle.defined_types.proofs.declared.types_declared.Given as goal

abbrev pub invariant-loop-header : goal.invariant-loop-header
invariant-loop-header l =
    TypesRead l.initial.types l.types l.blocks l.files l.headers (drop l.header-index l.headers) l.declared.items
