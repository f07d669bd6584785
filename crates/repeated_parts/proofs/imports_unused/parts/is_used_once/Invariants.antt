use Rattle.std.proofs.Common.{◌≡◌, ◌+◌, drop, map}
use Rattle.scope_tables.specs.Table.{table_of}
use Rattle.member_uses.specs.PossibleUses.Views.{part_of}
use Rattle.repeated_parts.specs.ImportsUnused.Uses.{one_if, uses_among}
use Rattle.repeated_parts.proofs.imports_unused.parts.is_used_once.Given as goal

abbrev pub invariant-loop-part : goal.invariant-loop-part
invariant-loop-part l =
    uses_among (table_of l.scopes) (λ s. s) l.number (map part_of l.parts)
    ≡ one_if l.once + uses_among (table_of l.scopes) (λ s. s) l.number (map part_of (drop l.part-index l.parts))
