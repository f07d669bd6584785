use Rattle.checked_modules.proofs.FilePlaces.PlaceLemmas.{Placing}
use Rattle.checked_modules.proofs.file_places.files.with_places.Given as goal

abbrev pub invariant-loop-number : goal.invariant-loop-number
invariant-loop-number l = Placing l.headers l.trees l.firsts l.number l.files.items
