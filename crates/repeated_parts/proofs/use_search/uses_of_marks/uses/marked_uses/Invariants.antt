use Rattle.std.proofs.Common.{◌≡◌, ◌++◌, List, drop, map}
use Rattle.go_tree.specs.declared.spans.Span.{Span}
use Rattle.go_tree.specs.FileView.{decl_of}
use Rattle.pkg_graph.specs.Package.{Package}
use Rattle.run_rules.specs.Programs.{numbered, numbered_from}
use Rattle.run_rules.specs.Sites.{MarkRef}
use Rattle.member_uses.specs.Views.{names_in}
use Rattle.module_marks.specs.Tables.{IsTableOf}
use Rattle.repeated_parts.specs.UseSearch.UsesOfMarks.Uses.{decls_uses}
use Rattle.repeated_parts.specs.UseSearch.UsesOfMarks.Views.{placed_of}
use Rattle.repeated_parts.proofs.use_search.uses_of_marks.uses.marked_uses.Given as goal

abbrev pub invariant-loop-number : goal.invariant-loop-number
invariant-loop-number l =
    (ps : List (Package Span)) (marks : List MarkRef) → IsTableOf ps marks l.table
    → map placed_of l.uses.items ++ decls_uses (λ s. s) ps marks (names_in l.scopes.file) l.scopes.types.now (numbered_from l.number (map decl_of (drop l.number l.decls)))
    ≡ decls_uses (λ s. s) ps marks (names_in l.scopes.file) l.scopes.types.now (numbered (map decl_of l.decls))
