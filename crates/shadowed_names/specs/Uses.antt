-- A declaration of a program as it stands and a place at which it is used, and what the code is told of both (Go
-- specification, Declarations and scope; Composite literals).
use Rattle.std.specs.Prelude.{◌≡◌, ℕ, List, Some, slice_get}
use Rattle.go_tree.specs.File.{Decl}
use Rattle.pkg_graph.specs.Package.{Package}
use Rattle.run_rules.specs.Programs.{decl_seen}
use Rattle.run_rules.specs.Respanned.{file_with}
use Rattle.run_rules.specs.Run.{here_of}
use Rattle.run_rules.specs.Sites.{Where}
use Rattle.run_rules.specs.Steps.{At}
use Rattle.run_rules.specs.Surroundings.{Place}
use Rattle.constant_steps.specs.FormImports.ImportLaws.Steps.{names_standing}
use Rattle.member_uses.specs.Agreement.{AgreesAt}
use Rattle.member_uses.specs.Laws.{Knows}
use Rattle.member_uses.specs.Parts.{AllScoped}
use Rattle.member_uses.specs.PossibleUses.Among.{Keyed}
use Rattle.member_uses.specs.Views.{names_in}
use Rattle.repeated_parts.specs.declared.literal_types.table.TypeScopes.{TypeScopes}
use Rattle.repeated_parts.specs.LiteralTypes.Tables.{numbers_in}
use Rattle.repeated_parts.specs.LiteralTypes.Told.{FieldsTold}
use Rattle.shadowed_names.specs.declared.places.UsePlace.{UsePlace}

module _ (ps : List (Package At)) (w there : Where At) (p : Place At) (scopes : TypeScopes) (use_ : UsePlace) where
  -- The declaration with this number of the file `w`, whose names the code is told, is as typing asks, and the table of
  -- declared types tells which keys name fields. It is used at the place `p` of the file `there`, whose names the code
  -- is told too, and whose table agrees with the place at the byte.
  pub record IsToldUse (i : ℕ) (d : Decl At) : Type 0 where
    pub knows : Knows here_of (file_with here_of) ps w (names_in scopes.file)
    pub named : knows.names ≡ names_standing ps w
    pub nth : slice_get w.source.tree.decls i ≡ Some d
    pub scoped : AllScoped (decl_seen ps w.number w.of w.source.tree d)
    pub keyed : Keyed (decl_seen ps w.number w.of w.source.tree d)
    pub fields :
        FieldsTold (numbers_in here_of (names_in scopes.file) scopes.types.now)
        (decl_seen ps w.number w.of w.source.tree d)
    pub knows_there : Knows here_of (file_with here_of) ps there (names_in use_.file)
    pub named_there : knows_there.names ≡ names_standing ps there
    pub agrees : AgreesAt ps there (names_in use_.file).table p use_.at
