-- Origins as values without places in memory.
use Rattle.std.specs.Prelude.{List, map}
use Rattle.go_tree.specs.declared.spans.Span.{Span}
use Rattle.programs.specs.declared.part_origins.origins.Origins.{Origins}
use Rattle.programs.specs.declared.part_origins.origins.PackageOrigins.{PackageOrigins}

-- the spans of each declaration of a file
abbrev pub origins_of : Origins → List (List Span)
origins_of o = map (λ d. d.items) o.decls.items

-- of each file of a package
abbrev pub files_origins : PackageOrigins → List (List (List Span))
files_origins o = map origins_of o.files.items

-- of each package
abbrev pub packages_origins : List PackageOrigins → List (List (List (List Span)))
packages_origins os = map files_origins os
