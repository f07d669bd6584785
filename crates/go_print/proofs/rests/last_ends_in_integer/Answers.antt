use Rattle.go_print.proofs.Lasts.{last_bare, last_within}
use Rattle.go_print.proofs.rests.last_ends_in_integer.Goals as goal

pub returns-then-not-needs_parens : goal.returns-then-not-needs_parens
returns-then-not-needs_parens c =
    last_bare _ _ _ _ _ _ c.items-items.ensures.seen c.is_empty.ensures c.if-is_empty.false c.index-items-items.is c.needs_parens.ensures c.if-not-needs_parens.true c.ends_in_integer.ensures

pub returns-else-not-needs_parens : goal.returns-else-not-needs_parens
returns-else-not-needs_parens c =
    last_within _ _ _ _ _ c.items-items.ensures.seen c.is_empty.ensures c.if-is_empty.false c.index-items-items.is c.needs_parens.ensures c.if-not-needs_parens.false
