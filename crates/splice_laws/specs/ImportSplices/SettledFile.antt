-- A file whose imports are settled (Go specification, Import declarations).
use Rattle.std.specs.Prelude.{ℕ, true, false, if◌then◌else◌, List, [], ◌∷◌, ◌++◌, map}
use Rattle.go_tree.specs.declared.spans.Span.{Span}
use Rattle.go_tree.specs.declared.tokens.Token.{Token}
use Rattle.go_tree.specs.declared.tokens.Comment.{Comment}
use Rattle.go_tree.specs.File.{ImportSpec, ImportDecl, File}
use Rattle.go_tree.specs.FileBare.{bare_import_spec, bare_file}
use Rattle.run_rules.specs.declared.import_rules.new_import.NewImport.{NewImport}
use Rattle.run_rules.specs.ImportRules.SpecText.{in_order}
use Rattle.run_rules.specs.ImportRules.Removed.{goes, goes_whole}
use Rattle.run_rules.specs.ImportRules.Added.{adds_to_group}
use Rattle.splice_laws.specs.ImportSplices.AddedFile.{added_spec, added_decls}

module _ (text : List ℕ) (tokens : List Token) (comments : List Comment) (unused : List Span) where
  -- the specs that stay
  abbrev pub left_specs : List (ImportSpec Span) → List (ImportSpec (Unit {0}))
  left_specs [] = []
  left_specs (s ∷ ss) =
      if goes text tokens comments unused s then left_specs ss else bare_import_spec s ∷ left_specs ss

  -- a declaration of one spec, where one is left
  abbrev pub left_single : List (ImportSpec (Unit {0})) → List (ImportDecl (Unit {0}))
  left_single [] = []
  left_single (s ∷ ss) = record { span = tt; grouped = false; specs = s ∷ ss } ∷ []

  -- what is left of a declaration; a group that isn't removed as a whole stays, also without specs
  abbrev pub left_decl : ImportDecl Span → List (ImportDecl (Unit {0}))
  left_decl d =
      if goes_whole text tokens comments unused false d then []
      else (if d.grouped then record { span = tt; grouped = true; specs = left_specs d.specs } ∷ []
      else left_single (left_specs d.specs))

  -- what is left of the declarations
  abbrev pub left_decls : List (ImportDecl Span) → List (ImportDecl (Unit {0}))
  left_decls [] = []
  left_decls (d ∷ ds) = left_decl d ++ left_decls ds

  -- the last declaration is a group, which stays, with a spec for each of these imports behind its others
  abbrev pub grown_decls : List NewImport → List (ImportDecl Span) → List (ImportDecl (Unit {0}))
  grown_decls added [] = []
  grown_decls added (d ∷ []) =
      record { span = tt; grouped = true; specs = left_specs d.specs ++ map added_spec added } ∷ []
  grown_decls added (d ∷ e ∷ ds) = left_decl d ++ grown_decls added (e ∷ ds)

  -- these imports go to the last declaration, where that is a group that takes them, else before the first
  abbrev pub with_added : List NewImport → List (ImportDecl Span) → List (ImportDecl (Unit {0}))
  with_added added ds =
      if adds_to_group text ds then grown_decls added ds else added_decls added ++ left_decls ds

  -- what is left of the declarations, and the added imports, by path and then name
  abbrev pub settled_decls : List NewImport → List (ImportDecl Span) → List (ImportDecl (Unit {0}))
  settled_decls [] ds = left_decls ds
  settled_decls (i ∷ is) ds = with_added (in_order (i ∷ is)) ds

  -- the file without the specs at the unused spans
  abbrev pub without_unused : File Span → File (Unit {0})
  without_unused file = record (bare_file file) { imports = left_decls file.imports }

  -- the file without the specs at the unused spans, and with the added ones
  abbrev pub with_settled : List NewImport → File Span → File (Unit {0})
  with_settled added file = record (bare_file file) { imports = settled_decls added file.imports }
