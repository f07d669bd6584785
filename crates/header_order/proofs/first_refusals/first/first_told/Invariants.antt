use Rattle.std.proofs.Common.{◌≡◌, drop}
use Rattle.header_order.specs.FirstRefusals.Files.{first_there, told}
use Rattle.header_order.proofs.first_refusals.first.first_told.Given as goal

abbrev pub invariant-loop-file : goal.invariant-loop-file
invariant-loop-file l =
    first_there 0 (told l.headers l.imports l.firsts)
    ≡ first_there l.file (told l.headers (drop l.file l.imports) (drop l.file l.firsts))
