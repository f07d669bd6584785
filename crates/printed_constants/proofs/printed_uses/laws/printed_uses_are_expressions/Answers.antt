use Rattle.printed_constants.proofs.PrintedUses.Expressions.{uses_expressions}
use Rattle.printed_constants.proofs.printed_uses.laws.printed_uses_are_expressions.Goals as goal

pub returns : goal.returns
returns c = uses_expressions
