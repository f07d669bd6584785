-- The law of names of declarations. It is the contract of a function of this crate (Go specification, Source file
-- organization; Composite literals).
use Rattle.std.specs.Prelude.{◌≡◌, ℕ, List, Some, slice_get}
use Rattle.go_tree.specs.File.{Decl}
use Rattle.pkg_graph.specs.Package.{Package}
use Rattle.run_rules.specs.Inlining.{ReadsAs}
use Rattle.run_rules.specs.Programs.{decl_seen}
use Rattle.run_rules.specs.Respanned.{file_with}
use Rattle.run_rules.specs.Run.{here_of}
use Rattle.run_rules.specs.Sites.{Where}
use Rattle.run_rules.specs.Steps.{At}
use Rattle.run_rules.specs.Texts.{FileText}
use Rattle.name_places.specs.NamesThere.{StandApart}

-- In a declaration of a file that reads from its text, names that stand at one place are written alike, and none stands
-- where the key of a field does.
abbrev pub NamesStandApart : Type 0
NamesStandApart =
    (ps : List (Package At)) (w : Where At) (text : FileText) (i : ℕ) (d : Decl At)
    → ReadsAs text (file_with here_of w.source.tree) → slice_get w.source.tree.decls i ≡ Some d
    → StandApart here_of (decl_seen ps w.number w.of w.source.tree d)
