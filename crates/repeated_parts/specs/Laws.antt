-- The law of parts in members of groups that are repeated (Go specification, Constant declarations; Composite
-- literals).
use Rattle.std.specs.Prelude.{ℕ, List, []}
use Rattle.go_tree.specs.File.{Decl, File}
use Rattle.pkg_graph.specs.Package.{Package}
use Rattle.run_rules.specs.Programs.{decl_seen}
use Rattle.member_uses.specs.PossibleUses.Parts.{parts_of}
use Rattle.member_uses.specs.PossibleUses.Among.{Keyed}
use Rattle.repeated_parts.specs.Flags.{flags_of}
use Rattle.repeated_parts.specs.Along.{FlagsAlong}
use Rattle.repeated_parts.specs.LiteralTypes.Tables.{TypeNumbers}
use Rattle.repeated_parts.specs.LiteralTypes.Told.{FieldsTold}

-- The flags of a declaration's parts are those of their places, where keys of struct literals are names, and a table
-- tells which keys that are names name fields.
abbrev pub FlagsAreThoseOfPlaces : Type 0 → Type 0
FlagsAreThoseOfPlaces S =
    (ps : List (Package S)) (ts : TypeNumbers S) (k : ℕ) (p : Package S) (file : File S) (d : Decl S)
    → Keyed (decl_seen ps k p file d) → FieldsTold ts (decl_seen ps k p file d)
    → FlagsAlong [] [] (decl_seen ps k p file d) (parts_of d) (flags_of ts d)
