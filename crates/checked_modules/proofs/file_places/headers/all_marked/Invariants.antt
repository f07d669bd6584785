use Rattle.std.proofs.Common.{◌≡◌, true, replicate}
use Rattle.checked_modules.proofs.file_places.headers.all_marked.Given as goal

abbrev pub invariant-loop : goal.invariant-loop
invariant-loop l = l.marks.items ≡ replicate l.counter true
