-- Declarations of functions and methods whose bodies are walked, and that those of files that read are (Go specification,
-- Function declarations; Method declarations; Blocks).
use Rattle.std.specs.Prelude.{ℕ, List, [], ◌∷◌}
use Rattle.go_tree.specs.declared.spans.Span.{Span}
use Rattle.go_tree.specs.File.{Decl, values, types, func, File}
use Rattle.pkg_graph.specs.Package.{Package, SourceTree, packages_of}
use Rattle.pkg_graph.specs.Reads.{AreTrees, Source}
use Rattle.run_rules.specs.Texts.{FileText}
use Rattle.run_rules.specs.Inlining.{IsSourceFile, ReadsAs}
use Rattle.block_walk.specs.Walked.{AreWalkedStmts}
use Rattle.collected.specs.ValueHeaders.SpelledDecls.{PackagesHave}

-- the body of a declared function or method is walked
abbrev pub IsWalkedDecl : Decl Span → Type 0
IsWalkedDecl (values x) = Unit {0}
IsWalkedDecl (types s grouped ts) = Unit {0}
IsWalkedDecl (func f) = AreWalkedStmts f.body

-- so is that of each of these declarations
abbrev pub AreWalkedDecls : List (Decl Span) → Type 0
AreWalkedDecls [] = Unit {0}
AreWalkedDecls (d ∷ ds) = IsWalkedDecl d × AreWalkedDecls ds

-- so in all files of packages
abbrev pub PackagesAreWalked : List (Package Span) → Type 0
PackagesAreWalked ps = PackagesHave AreWalkedDecls ps

-- so in each file that reads from a text
abbrev pub ReadBodiesAreWalked : Type 0
ReadBodiesAreWalked = (t : FileText) (tree : File Span) → ReadsAs t tree → AreWalkedDecls tree.decls

-- so in packages of such files
abbrev pub PackagesReadAreWalked : Type 0
PackagesReadAreWalked =
    (home : List ℕ) (files : List Source) (trees : List (SourceTree Span)) → AreTrees IsSourceFile files trees →
    PackagesAreWalked (packages_of home trees)
