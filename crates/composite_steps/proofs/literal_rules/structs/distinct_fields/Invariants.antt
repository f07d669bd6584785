use Rattle.std.specs.Prelude.{bytes_eq}
use Rattle.std.proofs.Common.{drop}
use Rattle.composite_steps.specs.LiteralRules.Elements.{names_in}
use Rattle.composite_steps.specs.LiteralRules.Sets.{SeenOnce}
use Rattle.composite_steps.proofs.literal_rules.structs.distinct_fields.Given as goal

abbrev pub invariant-loop-x : goal.invariant-loop-x
invariant-loop-x l = SeenOnce bytes_eq (names_in l.elements) (names_in (drop l.x-index l.elements)) l.seen
