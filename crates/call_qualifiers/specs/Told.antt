-- What the code is told of a declaration of a program as it stands, and of another place in which it is written (Go
-- specification, Qualified identifiers; Import declarations; Composite literals).
use Rattle.std.specs.Prelude.{◌≡◌, ℕ, List, Some, slice_get}
use Rattle.go_tree.specs.File.{Decl}
use Rattle.pkg_graph.specs.Package.{Package}
use Rattle.run_rules.specs.Naming as naming
use Rattle.run_rules.specs.Programs.{decl_seen}
use Rattle.run_rules.specs.Respanned.{file_with}
use Rattle.run_rules.specs.Run.{here_of}
use Rattle.run_rules.specs.Sites.{Where}
use Rattle.run_rules.specs.Steps.{At}
use Rattle.constant_steps.specs.FormImports.ImportLaws.Steps.{names_standing}
use Rattle.member_uses.specs.Laws.{Knows}
use Rattle.member_uses.specs.Parts.{AllScoped}
use Rattle.member_uses.specs.PossibleUses.Among.{Keyed}
use Rattle.member_uses.specs.Views.{names_in}
use Rattle.repeated_parts.specs.declared.literal_types.table.TypeScopes.{TypeScopes}
use Rattle.repeated_parts.specs.LiteralTypes.Tables.{numbers_in}
use Rattle.repeated_parts.specs.LiteralTypes.Told.{FieldsTold}

module _ (ps : List (Package At)) (w : Where At) (names : naming.Names) (scopes : TypeScopes)
    (packages : List (List ℕ)) where
  -- The declaration with this number of the file `w`, whose names the code is told: it is as typing asks, and the table
  -- of declared types tells which keys name fields. Each package that it may name has its name there by its number; the
  -- file doesn't import its own package.
  pub record IsToldOf (i : ℕ) (d : Decl At) : Type 0 where
    pub knows : Knows here_of (file_with here_of) ps w (names_in scopes.file)
    pub named : knows.names ≡ names_standing ps w
    pub nth : slice_get w.source.tree.decls i ≡ Some d
    pub scoped : AllScoped (decl_seen ps w.number w.of w.source.tree d)
    pub keyed : Keyed (decl_seen ps w.number w.of w.source.tree d)
    pub fields :
        FieldsTold (numbers_in here_of (names_in scopes.file) scopes.types.now)
        (decl_seen ps w.number w.of w.source.tree d)
    pub home_named : slice_get packages w.number ≡ Some (names w.number)
    pub imports_named :
        (j k : ℕ) → slice_get (names_in scopes.file).imports j ≡ Some k → slice_get packages k ≡ Some (names k)
    pub imports_others : (j : ℕ) → slice_get (names_in scopes.file).imports j ≡ Some w.number → ⊥
