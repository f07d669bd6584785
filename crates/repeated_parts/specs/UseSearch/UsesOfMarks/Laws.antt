-- The uses of marked constants in a file of a program as it stands are its sites (Go specification, Constant
-- declarations; Declarations and scope; Composite literals).
use Rattle.std.specs.Prelude.{◌≡◌, true, List, [], ◌∷◌, map}
use Rattle.go_tree.specs.File.{Decl}
use Rattle.pkg_graph.specs.Package.{Package}
use Rattle.run_rules.specs.Programs.{numbered, decl_seen}
use Rattle.run_rules.specs.Sites.{MarkRef, Where, Site, part_span, is_among_marks, decls_sites}
use Rattle.run_rules.specs.Respanned.{file_with, decls_with, packages_with}
use Rattle.run_rules.specs.Steps.{At}
use Rattle.run_rules.specs.Run.{here_of}
use Rattle.member_uses.specs.Agreement.{AgreesAt}
use Rattle.member_uses.specs.Parts.{AllScoped}
use Rattle.member_uses.specs.PossibleUses.Among.{Keyed}
use Rattle.member_uses.specs.Uses.{Names}
use Rattle.member_uses.specs.Laws.{AllConstants, Knows}
use Rattle.repeated_parts.specs.declared.literal_types.table.LiteralTypes.{LiteralTypes}
use Rattle.repeated_parts.specs.LiteralTypes.Tables.{numbers_in}
use Rattle.repeated_parts.specs.LiteralTypes.Told.{FieldsTold}
use Rattle.repeated_parts.specs.Along.{is_again}
use Rattle.repeated_parts.specs.UseSearch.UsesOfMarks.Uses.{PlacedMark, decls_uses}

module _ (ps : List (Package At)) (w : Where At) where
  -- In the declaration literals of functions have types and no `for` declares a variable behind its test, and keys of
  -- struct literals are names.
  pub record IsSound (d : Decl At) : Type 0 where
    pub scoped : AllScoped (decl_seen ps w.number w.of w.source.tree d)
    pub keyed : Keyed (decl_seen ps w.number w.of w.source.tree d)

  -- each declaration is such
  abbrev pub EachSound : List (Decl At) → Type 0
  EachSound [] = Unit {0}
  EachSound (d ∷ ds) = IsSound d × EachSound ds

  -- the table tells of each declaration which keys that are names name fields
  abbrev pub EachTold : Names → LiteralTypes → List (Decl At) → Type 0
  EachTold f t [] = Unit {0}
  EachTold f t (d ∷ ds) =
      FieldsTold (numbers_in here_of f t) (decl_seen ps w.number w.of w.source.tree d) × EachTold f t ds

-- a site by its declaration, where it stands, its mark, and whether a later member of a group repeats it
abbrev pub placed_site : Site At → PlacedMark
placed_site x = (x.decl, ((here_of (part_span x.part), x.mark), is_again x.place))

-- each site
abbrev pub placed_sites : List (Site At) → List PlacedMark
placed_sites xs = map placed_site xs

-- it holds for each site
abbrev pub EachSite : (Site At → Type 0) → List (Site At) → Type 0
EachSite P [] = Unit {0}
EachSite P (x ∷ xs) = P x × EachSite P xs

-- In a program as it stands whose marks are all of constants, the uses of marked constants in a file are its sites.
abbrev pub MarkedUsesAreSites : Type 0
MarkedUsesAreSites =
    (ps : List (Package At)) (marks : List MarkRef) (w : Where At) (f : Names) (t : LiteralTypes)
    → Knows here_of (file_with here_of) ps w f → AllConstants ps marks → EachSound ps w w.source.tree.decls
    → EachTold ps w f t w.source.tree.decls
    → decls_uses (λ s. s) (packages_with here_of ps) marks f t (numbered (decls_with here_of w.source.tree.decls))
    ≡ placed_sites (decls_sites ps marks w (numbered w.source.tree.decls))

-- A site stands in the file, whose table answers at the site's first byte what names mean at its place, and uses a
-- marked declaration.
pub record IsPlaced (ps : List (Package At)) (marks : List MarkRef) (w : Where At) (f : Names) (x : Site At) : Type 0
  where
    pub there : x.at ≡ w
    pub agrees : AgreesAt ps w f.table x.place (here_of (part_span x.part)).start
    pub is_marked : is_among_marks marks x.mark ≡ true

-- So does each site of such a file.
abbrev pub UsesArePlaced : Type 0
UsesArePlaced =
    (ps : List (Package At)) (marks : List MarkRef) (w : Where At) (f : Names) (t : LiteralTypes)
    → Knows here_of (file_with here_of) ps w f → AllConstants ps marks → EachSound ps w w.source.tree.decls
    → EachTold ps w f t w.source.tree.decls
    → EachSite (IsPlaced ps marks w f) (decls_sites ps marks w (numbered w.source.tree.decls))
