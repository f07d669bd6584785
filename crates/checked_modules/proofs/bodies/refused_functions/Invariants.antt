use Rattle.checked_modules.proofs.BodyLemmas.{FilesPassed}
use Rattle.checked_modules.proofs.bodies.refused_functions.Given as goal

abbrev pub invariant-loop-file : goal.invariant-loop-file
invariant-loop-file l =
    FilesPassed l.packages l.initial.tables l.tables l.blocks l.places l.files l.file-index l.bodies.items
