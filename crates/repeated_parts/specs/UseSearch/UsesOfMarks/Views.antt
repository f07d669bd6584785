-- Uses of marked constants as values without places in memory.
use Rattle.module_marks.specs.Views.{mark_ref_of}
use Rattle.repeated_parts.specs.declared.use_search.uses_of_marks.uses.MarkedUse.{MarkedUse}
use Rattle.repeated_parts.specs.UseSearch.UsesOfMarks.Uses.{PlacedMark}

-- a use by where it stands, with its mark and its flag
abbrev pub placed_of : MarkedUse → PlacedMark
placed_of u = (u.decl, ((u.span, mark_ref_of u.mark), u.repeated))
