use Rattle.std.proofs.Common.{◌≡◌, ◌+◌, drop}
use Rattle.import_edit.specs.Order.{imports_of, place_of}
use Rattle.import_edit.proofs.order.place_of.Given as goal

abbrev pub invariant-loop-i : goal.invariant-loop-i
invariant-loop-i l = place_of l.import (imports_of l.list) ≡ l.i + place_of l.import (imports_of (drop l.i l.list))
