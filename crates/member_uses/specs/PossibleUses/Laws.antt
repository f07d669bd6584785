-- The law of the parts that may be uses (Go specification, Declarations and scope; Calls; Composite literals).
use Rattle.std.specs.Prelude.{ℕ, List, []}
use Rattle.go_tree.specs.File.{Decl, File}
use Rattle.pkg_graph.specs.Package.{Package}
use Rattle.run_rules.specs.Programs.{decl_seen}
use Rattle.member_uses.specs.PossibleUses.Parts.{parts_of}
use Rattle.member_uses.specs.PossibleUses.Among.{Follows, Keyed}

-- The parts of a declaration that may be uses are those among all its parts, where keys of struct literals are names.
abbrev pub PartsAreAmongAll : Type 0 → Type 0
PartsAreAmongAll S =
    (ps : List (Package S)) (k : ℕ) (p : Package S) (file : File S) (d : Decl S) → Keyed (decl_seen ps k p file d) →
    Follows [] (decl_seen ps k p file d) (parts_of d)
