-- Packages of the same declarations under other imports of their files, where a key of a composite literal may be the
-- name of an import in one and of none in the other (Go specification, Import declarations; Composite literals;
-- Declarations and scope).
use Rattle.std.specs.Prelude.{◌≡◌, ◌⊎◌, ℕ, Bool, true, false, List, [], ◌++◌, map, Option, Some, None, slice_get}
use Rattle.go_tree.specs.Tree.{const_decl, var_decl, ValueSpecs, no_specs, spec}
use Rattle.go_tree.specs.File.{Decl, values, types, func}
use Rattle.go_tree.specs.ScopeNames.FreeNames.{free_type_option, free_params}
use Rattle.go_tree.specs.ScopeNames.Means.{means}
use Rattle.go_tree.specs.GoTypes.Answers.{is_among}
use Rattle.go_tree.specs.GoTypes.Entities.{Entity, type_name, package_name, builtin, refused, universe}
use Rattle.go_tree.specs.GoTypes.Programs.{SourceFile, block_names}
use Rattle.go_translation.specs.Packages.{Package}
use Rattle.order_runs.specs.CycleRuns.ImportCycles.LookedUp.{types_looked_up, receiver_looked_up, names_around}
use Rattle.order_runs.specs.ImportCodes.PackagesMoved.{imported_as}
use Rattle.typed_in_place.specs.ProgramsAlike.{OneByOne}
use Rattle.constant_modules.specs.NamesAndKeys.Marked.{Marked, used_name, key_name, Within, marked_exprs, marked_stmts}

-- each of these names is used
abbrev pub all_used : List (List ℕ) → List Marked
all_used ns = map (λ n. used_name n) ns

-- a variable, a constant, `nil`, `iota` or a function that is declared
abbrev pub means_value : Option Entity → Bool
means_value None = false
means_value (Some (package_name p)) = false
means_value (Some (type_name t)) = false
means_value (Some (builtin b)) = false
means_value (Some refused) = false
means_value (Some e) = true

-- A name that no declaration of the package block has, and that isn't predeclared as `true`, `false`, `nil` or `iota`:
-- without an import it means no value at the top of a file.
abbrev pub IsFree : List (List ℕ) → List ℕ → Type 0
IsFree members n = (is_among n members ≡ false) × (means_value (means universe n) ≡ false)

module _ {S : Type 0} where
  -- the names that constants or variables look up at the top of their file, with keys told apart
  abbrev pub specs_marked : ValueSpecs S → List Marked
  specs_marked no_specs = []
  specs_marked (spec _ ns t es ss) = all_used (free_type_option [] t) ++ marked_exprs [] es ++ specs_marked ss

  -- those that a declaration looks up there
  abbrev pub decl_marked : Decl S → List Marked
  decl_marked (values (const_decl _ _ ss)) = specs_marked ss
  decl_marked (values (var_decl _ _ ss)) = specs_marked ss
  decl_marked (values s) = []
  decl_marked (types _ _ ts) = all_used (types_looked_up ts)
  decl_marked (func f) =
      all_used (receiver_looked_up f.receiver ++ free_params [] f.sig.params ++ free_params [] f.sig.results)
      ++ marked_stmts (names_around f) f.body

  -- Two files of a package that declares these names hold the same declarations. Each name that these use is that of
  -- the same package, or of none; so is each key that is declared elsewhere, or may mean a value without an import.
  pub record FileKeyed (members : List (List ℕ)) (f g : SourceFile S) : Type 0 where
    pub decls : g.decls ≡ f.decls
    pub used :
        (k : ℕ) (d : Decl S) → slice_get f.decls k ≡ Some d → (n : List ℕ) → Within (used_name n) (decl_marked d)
        → imported_as g.imports n ≡ imported_as f.imports n
    pub keys :
        (k : ℕ) (d : Decl S) → slice_get f.decls k ≡ Some d → (n : List ℕ) → Within (key_name n) (decl_marked d)
        → (imported_as g.imports n ≡ imported_as f.imports n) ⊎ IsFree members n

  -- Two packages have the same path, number and name, and such files.
  pub record PackageKeyed (p q : Package S) : Type 0 where
    pub path : q.path ≡ p.path
    pub number : q.source.number ≡ p.source.number
    pub name : q.source.name ≡ p.source.name
    pub files : OneByOne (FileKeyed (block_names p.source.files)) p.source.files q.source.files

  -- such packages one by one
  abbrev pub PackagesKeyed : List (Package S) → List (Package S) → Type 0
  PackagesKeyed ps qs = OneByOne PackageKeyed ps qs
