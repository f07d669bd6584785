use Rattle.repeated_parts.proofs.UseSearch.UsesOfMarks.Placed.{uses_placed}
use Rattle.repeated_parts.proofs.use_search.uses_of_marks.laws.uses_are_placed.Goals as goal

pub returns : goal.returns
returns c = uses_placed c.repeated_uses_are_sites.ensures.standing
