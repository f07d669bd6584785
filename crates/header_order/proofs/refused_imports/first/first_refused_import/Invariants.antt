use Rattle.std.proofs.Common.{drop}
use Rattle.header_order.specs.RefusedImports.First.{ImportsPassed}
use Rattle.header_order.proofs.refused_imports.first.first_refused_import.Given as goal

abbrev pub invariant-loop-import : goal.invariant-loop-import
invariant-loop-import l = ImportsPassed l.blocks l.home l.used l.imports (drop l.import-index l.imports) l.before
