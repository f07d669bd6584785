use Rattle.repeated_parts.proofs.UseSearch.Searching.{Goes}
use Rattle.repeated_parts.proofs.use_search.search.search_uses.Given as goal

abbrev pub invariant-loop-use_ : goal.invariant-loop-use_
invariant-loop-use_ l = Goes l.program l.file l.uses l.use_-index l.kept.items
