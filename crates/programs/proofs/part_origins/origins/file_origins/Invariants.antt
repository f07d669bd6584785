use Rattle.std.proofs.Common.{◌≡◌, ◌++◌, drop, map}
use Rattle.go_tree.specs.FileView.{decl_of}
use Rattle.programs.specs.PartOrigins.Spans.{decls_spans}
use Rattle.programs.proofs.part_origins.origins.file_origins.Given as goal

abbrev pub invariant-loop-decl : goal.invariant-loop-decl
invariant-loop-decl l =
    map (λ d. d.items) l.origins.items ++ decls_spans (map decl_of (drop l.decl-index l.decls))
    ≡ decls_spans (map decl_of l.decls)
