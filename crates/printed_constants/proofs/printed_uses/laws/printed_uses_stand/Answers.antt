use Rattle.printed_constants.proofs.PrintedUses.Added.{uses_stand}
use Rattle.printed_constants.proofs.printed_uses.laws.printed_uses_stand.Goals as goal

pub returns : goal.returns
returns c = uses_stand c.constants_settle.ensures.writes c.printed_imports_are_used.ensures.stay
