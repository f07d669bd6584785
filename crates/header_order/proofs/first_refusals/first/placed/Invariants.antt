use Rattle.std.proofs.Common.{◌≡◌, drop}
use Rattle.std.specs.Prelude.{slice_get}
use Rattle.header_order.specs.FirstRefusals.Files.{files_of}
use Rattle.header_order.proofs.first_refusals.first.placed.Given as goal

abbrev pub invariant-loop-number : goal.invariant-loop-number
invariant-loop-number l =
    slice_get (files_of l.packages l.order) l.file
    ≡ slice_get (files_of l.packages (drop l.number-index l.order)) l.left
