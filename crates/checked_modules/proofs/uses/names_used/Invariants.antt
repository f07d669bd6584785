use Rattle.operand_modes.specs.CheckerTables.Ready.{AreReady}
use Rattle.checked_modules.proofs.UseLemmas.{UsesPassed}
use Rattle.checked_modules.proofs.uses.names_used.Given as goal

abbrev pub invariant-loop-file : goal.invariant-loop-file
invariant-loop-file l = record {
  ready : AreReady l.grown;
  passed : UsesPassed l.fn.tables.env l.grown.env l.blocks l.places l.files l.file-index l.used.items;
}
