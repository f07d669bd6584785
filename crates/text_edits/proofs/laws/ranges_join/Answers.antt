use Rattle.text_edits.proofs.Apart.{joined_apart}
use Rattle.text_edits.proofs.Covering.{joined_covers, joined_is_least, joined_stands}
use Rattle.text_edits.proofs.laws.ranges_join.Goals as goal

pub returns-clause-covers : goal.returns-clause-covers
returns-clause-covers c = joined_covers

pub returns-clause-least : goal.returns-clause-least
returns-clause-least c = joined_is_least

pub returns-clause-stands : goal.returns-clause-stands
returns-clause-stands c = joined_stands

pub returns-clause-apart : goal.returns-clause-apart
returns-clause-apart c = joined_apart
