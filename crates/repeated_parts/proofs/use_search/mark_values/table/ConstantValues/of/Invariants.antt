use Rattle.std.proofs.Common.{map, take}
use Rattle.module_marks.specs.Views.{mark_ref_of}
use Rattle.repeated_parts.specs.UseSearch.MarkValues.Tables.{key_of, AreKnown}
use Rattle.repeated_parts.proofs.use_search.mark_values.table.ConstantValues.of.Given as goal

abbrev pub invariant-loop-mark : goal.invariant-loop-mark
invariant-loop-mark l = AreKnown l.packages l.scopes (map (λ m. key_of (mark_ref_of m)) (take l.mark-index l.marks)) l.table
