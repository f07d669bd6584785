use Rattle.std.proofs.Common.{◌≡◌, ◌++◌, List, drop, map}
use Rattle.go_tree.specs.declared.spans.Span.{Span}
use Rattle.pkg_graph.specs.Package.{Package}
use Rattle.run_rules.specs.Sites.{MarkRef}
use Rattle.module_marks.specs.Tables.{IsTableOf}
use Rattle.repeated_parts.specs.UsesRepeated.Views.{flagged_of}
use Rattle.repeated_parts.specs.UseSearch.UsesOfMarks.Uses.{placed_in}
use Rattle.repeated_parts.specs.UseSearch.UsesOfMarks.Views.{placed_of}
use Rattle.repeated_parts.proofs.use_search.uses_of_marks.uses.add_uses.Given as goal

abbrev pub invariant-loop-use_ : goal.invariant-loop-use_
invariant-loop-use_ l =
    (ps : List (Package Span)) (marks : List MarkRef) → IsTableOf ps marks l.table
    → map placed_of l.uses.items ++ placed_in ps marks l.decl (map flagged_of (drop l.use_-index l.found))
    ≡ map placed_of l.initial.uses.items ++ placed_in ps marks l.decl (map flagged_of l.found)
