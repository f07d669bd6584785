-- What a step is asked that adds imports to the file of its use, puts its form there and removes imports, where keys of
-- composite literals are told apart from names (Go specification, Import declarations; Composite literals; Declarations
-- and scope).
use Rattle.std.specs.Prelude.{◌≡◌, ◌⊎◌, ℕ, true, false, List, map, None, Some, slice_get}
use Rattle.std.specs.List.{list_any}
use Rattle.go_tree.specs.File.{ImportSpec, Decl}
use Rattle.go_tree.specs.ScopeNames.Means.{means, is_blank}
use Rattle.go_tree.specs.GoTypes.Entities.{universe}
use Rattle.go_tree.specs.GoTypes.Programs.{block_names}
use Rattle.go_tree.specs.Tree.{Expr}
use Rattle.pkg_graph.specs.Package.{SourceTree, Package, import_specs}
use Rattle.pkg_graph.specs.Members.{import_name}
use Rattle.constant_steps.specs.FormImports.ImportLaws.Steps.{removed_specs}
use Rattle.order_runs.specs.CycleRuns.ImportCycles.ImportSteps.{file_added, packages_added, where_added}
use Rattle.order_runs.specs.CycleRuns.ImportCycles.ImportSteps.{AddsNewNames}
use Rattle.order_runs.specs.CycleRuns.ImportCycles.OtherImports.{import_path}
use Rattle.order_runs.specs.CycleRuns.OrderCycles.NewNames.{AvoidsFew}
use Rattle.order_runs.specs.CycleRuns.OrderCycles.Orders.{AllOrdered}
use Rattle.run_rules.specs.ImportRules.Removed.{same_span}
use Rattle.run_rules.specs.Naming.{names_by}
use Rattle.run_rules.specs.Programs.{linked_file}
use Rattle.run_rules.specs.Run.{Standing, Logged, Next, here_of}
use Rattle.run_rules.specs.Sites.{MarkRef, an_expr}
use Rattle.run_rules.specs.Steps.{At, Found}
use Rattle.typed_in_place.specs.ProgramsAlike.{OneByOne}
use Rattle.constant_modules.specs.KeyedImports.Keyed.{decl_marked, means_value, IsFree}
use Rattle.constant_modules.specs.NamesAndKeys.Marked.{used_name, key_name, Within}

module _ {S : Type 0} where
  -- Two files of a package that declares these names hold the same declarations. Each name that these use is that of
  -- the same import, or of none; so is each key that is declared elsewhere.
  pub record FileUnderKeyed (ps qs : List (Package S)) (members : List (List ℕ)) (f g : SourceTree S) : Type 0 where
    pub decls : g.tree.decls ≡ f.tree.decls
    pub used :
        (k : ℕ) (d : Decl S) → slice_get f.tree.decls k ≡ Some d → (n : List ℕ) → Within (used_name n) (decl_marked d)
        → import_path qs (import_specs g.tree) n ≡ import_path ps (import_specs f.tree) n
    pub keys :
        (k : ℕ) (d : Decl S) → slice_get f.tree.decls k ≡ Some d → (n : List ℕ) → Within (key_name n) (decl_marked d)
        → (import_path qs (import_specs g.tree) n ≡ import_path ps (import_specs f.tree) n) ⊎ IsFree members n

  -- two packages with the same path and name, and such files
  pub record PathKeyed (ps qs : List (Package S)) (p q : Package S) : Type 0 where
    pub path : q.path ≡ p.path
    pub name : q.name ≡ p.name
    pub files : OneByOne (FileUnderKeyed ps qs (block_names (map (linked_file ps) p.files))) p.files q.files

  -- such packages one by one
  abbrev pub PathsKeyed : List (Package S) → List (Package S) → Type 0
  PathsKeyed ps qs = OneByOne (PathKeyed ps qs) ps qs

-- One of these declarations uses the name at the top of its file, keys aside.
pub record UsesName {S : Type 0} (m : List ℕ) (ds : List (Decl S)) : Type 0 where
  pub nth : ℕ
  pub decl : Decl S
  pub there : slice_get ds nth ≡ Some decl
  pub used : Within (used_name m) (decl_marked decl)

-- the names that the package of a step's use declares
abbrev pub members_added : List (Package At) → Found At → List (List ℕ)
members_added ps f = block_names (map (linked_file (packages_added ps f)) (where_added f).of.files)

-- Each name that a declaration of the file as it is read again uses is that of the same import as it was with the
-- imports added, or of none; so is each key that is declared elsewhere.
pub record KeepsUses {marks : List MarkRef} {st : Standing} {l : Logged} {after : Standing}
    (n : Next marks st l after) : Type 0 where
  pub used :
      (k : ℕ) (d : Decl At) → slice_get n.tree.decls k ≡ Some d → (m : List ℕ) → Within (used_name m) (decl_marked d)
      → import_path (packages_added st.packages n.found) (import_specs n.tree) m
      ≡ import_path (packages_added st.packages n.found) (import_specs (file_added n.found)) m
  pub keys :
      (k : ℕ) (d : Decl At) → slice_get n.tree.decls k ≡ Some d → (m : List ℕ) → Within (key_name m) (decl_marked d)
      → (import_path (packages_added st.packages n.found) (import_specs n.tree) m
      ≡ import_path (packages_added st.packages n.found) (import_specs (file_added n.found)) m)
      ⊎ IsFree (members_added st.packages n.found) m

-- The imports that the step adds have new names, it keeps what names and keys mean so, and no imports lead to a cycle
-- of packages, before, with these added and after: order_cycles' `KeepsImportLookUps`, with keys told apart.
pub record KeepsImportUses {marks : List MarkRef} {st : Standing} {l : Logged} {after : Standing}
    (n : Next marks st l after) : Type 0 where
  pub new_names : AddsNewNames st.packages n.found
  pub kept : KeepsUses n
  pub ordered : AllOrdered st.packages
  pub ordered_added : AllOrdered (packages_added st.packages n.found)
  pub ordered_after : AllOrdered after.packages

-- No import that the step removes has the name of a key in the file as it is read again that is predeclared as a value:
-- as `true`, `false`, `nil` or `iota`.
abbrev pub RemovesNoValueKey : {marks : List MarkRef} {st : Standing} {l : Logged} {after : Standing}
    → Next marks st l after → Type 0
RemovesNoValueKey {marks = marks} {st = st} n =
    (i : ℕ) (s : ImportSpec At) → slice_get (import_specs n.found.site.at.source.tree) i ≡ Some s
    → list_any (same_span (here_of s.span)) (removed_specs marks st n.found) ≡ true
    → (k : ℕ) (d : Decl At) → slice_get n.tree.decls k ≡ Some d
    → Within (key_name (import_name st.packages s)) (decl_marked d)
    → means_value (means universe (import_name st.packages s)) ≡ false

-- The use is an expression. The names to avoid are fewer than 2^64, what names and keys mean is kept, and no package is
-- named `_` in the form: kept_marks' `IsOverName`, with keys told apart.
pub record IsOverNameKeyed {marks : List MarkRef} {st : Standing} {l : Logged} {after : Standing}
    (n : Next marks st l after) : Type 0 where
  pub old : Expr At
  pub part : n.found.site.part ≡ an_expr old
  pub few : AvoidsFew st.packages n.found
  pub kept : KeepsUses n
  pub spelled : (k : ℕ) → is_blank (names_by n.found.named k) ≡ false
