-- The law of where parts come from (Go specification, Source file organization; golang.org/x/tools,
-- internal/refactor/inline, for what a run reports).
use Rattle.std.specs.Prelude.{◌≡◌, List, map}
use Rattle.go_tree.specs.declared.spans.Span.{Span}
use Rattle.go_tree.specs.File.{Decl}
use Rattle.run_rules.specs.Respanned.{decls_with}
use Rattle.run_rules.specs.Steps.{At}
use Rattle.run_rules.specs.Run.{as_read, origin_of}
use Rattle.programs.specs.PartOrigins.Spans.{part_spans, decls_spans}

-- where the parts of declarations come from
abbrev pub decls_origins : List (Decl At) → List (List Span)
decls_origins ds = map (λ d. map origin_of (part_spans d)) ds

-- In a file as read each part comes from where it stands.
abbrev pub PartsComeFromThemselves : Type 0
PartsComeFromThemselves = (ds : List (Decl Span)) → decls_origins (decls_with as_read ds) ≡ decls_spans ds
