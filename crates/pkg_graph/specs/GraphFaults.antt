-- Why files aren't the packages of a module.
use Rattle.std.specs.Prelude.{◌≡◌, ◌<◌, ⊤, ℕ, length, map, find, Bool, true, false, not, List, Option}
use Rattle.std.specs.Prelude.{Some, None, bytes_eq, codes, slice_index_or, []}
use Rattle.go_tree.specs.declared.spans.Span.{Span}
use Rattle.pkg_graph.specs.Package.{SourceTree}
use Rattle.pkg_graph.specs.Graph.{ImportAt, numbered_files, IsFault, mixed_package, no_package, cycle, internal_package}
use Rattle.pkg_graph.specs.ModuleFiles.Internal.{may_import}
use Rattle.pkg_graph.specs.Views.{sources_of}
use Rattle.pkg_graph.specs.ImportViews.{import_view}
use Rattle.pkg_graph.specs.declared.packages.SourceTree as code
use Rattle.pkg_graph.specs.declared.homes.Homes.{Homes}
use Rattle.pkg_graph.specs.declared.imports.Import.{Import}
use Rattle.pkg_graph.specs.ModuleFiles.Pieces.{comes_before}
use Rattle.pkg_graph.specs.ModuleFiles.PathLists.{number_of, path_at}
use Rattle.pkg_graph.specs.ImportOrder.Numbers.{Reaches}
use Rattle.pkg_graph.specs.declared.module_files.faults.GraphError.{GraphError}
use Rattle.pkg_graph.specs.declared.module_files.faults.GraphError.TheVariants.{MixedPackage, NoPackage, Cycle, Internal}
use Rattle.pkg_graph.specs.declared.module_files.faults.GraphError.TheVariants.{NoMemory}

-- The error names the fault of the files. Want of memory says nothing of them.
abbrev pub IsGraphFault : List ℕ → List (SourceTree Span) → GraphError → Type 0
IsGraphFault home files (MixedPackage file at) = IsFault home files (mixed_package file at)
IsGraphFault home files (NoPackage file at path) = IsFault home files (no_package file at path)
IsGraphFault home files (Cycle path) = IsFault home files (cycle path)
IsGraphFault home files (Internal file at path) = IsFault home files (internal_package file at path)
IsGraphFault home files NoMemory = ⊤
IsGraphFault home files _ = ⊥

-- ---- each check by itself, by what it finds first

-- the package with this number has another name than `main`
abbrev pub number_named : List (List ℕ) → Option ℕ → Bool
number_named names None = false
number_named names (Some k) = not (bytes_eq (slice_index_or names k []) (codes "main"))

-- of packages with these paths and names, one other than `main` has the path
abbrev pub named_by : List (List ℕ) → List (List ℕ) → List ℕ → Bool
named_by paths names path = number_named names (number_of paths path)

-- the first import of a path that names no package
abbrev pub unnamed_in : Homes → List Import → Option (ImportAt Span)
unnamed_in homes imports =
    find (λ i. not (named_by homes.paths homes.names.items i.spec.path)) (map import_view imports)

-- the first import that isn't allowed where it stands
abbrev pub internal_in : List Import → Option (ImportAt Span)
internal_in imports = find (λ i. not (may_import i.from i.spec.path)) (map import_view imports)

-- the import at which the error stands
pub record StandsAt (found : Option (ImportAt Span)) (file at : ℕ) (path : List ℕ) : Type 0 where
  pub «import» : ImportAt Span
  pub is : found ≡ Some «import»
  pub file_is : file ≡ «import».file
  pub at_is : at ≡ «import».spec.span.start
  pub path_is : path ≡ «import».spec.path

-- the error is that the import found names no package
abbrev pub IsNamedError : Option (ImportAt Span) → GraphError → Type 0
IsNamedError found (NoPackage file at path) = StandsAt found file at path
IsNamedError found NoMemory = ⊤
IsNamedError found _ = ⊥

-- the error is that the import found isn't allowed where it stands
abbrev pub IsInternalError : Option (ImportAt Span) → GraphError → Type 0
IsInternalError found (Internal file at path) = StandsAt found file at path
IsInternalError found NoMemory = ⊤
IsInternalError found _ = ⊥

-- the file at which the error stands
pub record StandsIn (found : Option (ℕ × SourceTree Span)) (file at : ℕ) : Type 0 where
  pub of : SourceTree Span
  pub is : found ≡ Some (file, of)
  pub at_is : at ≡ of.tree.package_name.span.start

-- the error is that the file found has another package name
abbrev pub IsMixedError : Option (ℕ × SourceTree Span) → GraphError → Type 0
IsMixedError found (MixedPackage file at) = StandsIn found file at
IsMixedError found _ = ⊥

-- the file doesn't say the name of its package
abbrev pub is_mixed_at : List (List ℕ) → List ℕ → ℕ × SourceTree Span → Bool
is_mixed_at names numbers x =
    not (bytes_eq x.1.tree.package_name.name (slice_index_or names (slice_index_or numbers x.0 0) []))

-- the first file that doesn't say the name of its package
abbrev pub mixed_in : Homes → List code.SourceTree → Option (ℕ × SourceTree Span)
mixed_in homes files = find (is_mixed_at homes.names.items homes.numbers.items) (numbered_files 0 (sources_of files))

-- the path is that of the least package that imports lead back to
pub record IsLeastNumber (paths links : List (List ℕ)) (path : List ℕ) : Type 0 where
  pub number : ℕ
  pub path_is : path ≡ path_at paths number
  pub within : number < length paths
  pub lies : Reaches links number number
  pub least : (j : ℕ) → Reaches links j j → comes_before (path_at paths j) (path_at paths number) ≡ true → ⊥

-- the error names the least package on a cycle
abbrev pub IsCycleError : List (List ℕ) → List (List ℕ) → GraphError → Type 0
IsCycleError paths links (Cycle path) = IsLeastNumber paths links path
IsCycleError paths links NoMemory = ⊤
IsCycleError paths links _ = ⊥
