-- Names where they are declared, as values without places in memory.
use Rattle.go_tree.specs.declared.spans.Span.{Span}
use Rattle.go_tree.specs.Tree.{NameAt}
use Rattle.go_tree.specs.View.{name_at_of}
use Rattle.file_names.specs.declared.declared.DeclaredName.{DeclaredName}

-- the name with its place
abbrev pub name_of : DeclaredName → NameAt Span
name_of d = name_at_of d.name.now
