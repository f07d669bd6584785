use Rattle.repeated_parts.proofs.UseSearch.UsesOfMarks.Placed.{uses_are_sites}
use Rattle.repeated_parts.proofs.use_search.uses_of_marks.laws.marked_uses_are_sites.Goals as goal

pub returns : goal.returns
returns c = uses_are_sites c.repeated_uses_are_sites.ensures.standing
