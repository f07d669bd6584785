-- Whether keys of composite literals that are predeclared as values are apart from the imports of their file, file by
-- file (Go specification, Composite literals; Import declarations; Predeclared identifiers).
use Rattle.std.specs.Prelude.{◌≡◌, ℕ, Bool, true, false, not, ◌&&◌, ◌||◌, List, Some, slice_get}
use Rattle.std.specs.List.{list_all}
use Rattle.go_tree.specs.File.{ImportSpec, Decl, File}
use Rattle.go_tree.specs.GoTypes.Agreement.{In}
use Rattle.go_tree.specs.GoTypes.Answers.{is_among}
use Rattle.go_tree.specs.GoTypes.Entities.{universe}
use Rattle.go_tree.specs.ScopeNames.Means.{means, is_blank}
use Rattle.pkg_graph.specs.Package.{Package, import_specs}
use Rattle.pkg_graph.specs.Members.{import_name}
use Rattle.run_rules.specs.Sites.{Where}
use Rattle.run_rules.specs.Steps.{At}
use Rattle.constant_modules.specs.ApartKeys.Keys.{decl_keys}
use Rattle.constant_modules.specs.CountedUses.Typed.{IsFileOf}
use Rattle.constant_modules.specs.KeyedImports.Keyed.{means_value}
use Rattle.constant_modules.specs.LookUps.Beside.{names_over}

-- an identifier that is predeclared as a value: `true`, `false`, `nil` or `iota`
abbrev pub is_value_name : List ℕ → Bool
is_value_name n = means_value (means universe n)

module _ {S : Type 0} (ps : List (Package S)) where
  -- the import is `_`, or its name isn't both predeclared as a value and that of a key in a declaration of the file
  abbrev pub import_apart : File S → ImportSpec S → Bool
  import_apart f s =
      is_blank (import_name ps s)
      || not (is_value_name (import_name ps s) && is_among (import_name ps s) (names_over decl_keys f.decls))

  -- each import of the file is so
  abbrev pub file_apart : File S → Bool
  file_apart f = list_all (import_apart f) (import_specs f)

  -- each file of the packages is
  abbrev pub keys_are_apart : Bool
  keys_are_apart = list_all (λ p. list_all (λ f. file_apart f.tree) p.files) ps

-- No import but `_` of a file whose name is predeclared as a value has that of a key in a declaration of the file.
abbrev pub KeysApart : List (Package At) → Type 0
KeysApart ps =
    (w : Where At) → IsFileOf ps w → (k : ℕ) (s : ImportSpec At) → slice_get (import_specs w.source.tree) k ≡ Some s
    → is_blank (import_name ps s) ≡ false → is_value_name (import_name ps s) ≡ true → (i : ℕ) (d : Decl At)
    → slice_get w.source.tree.decls i ≡ Some d → In (import_name ps s) (decl_keys d) → ⊥
