-- Packages with the same paths and names, one by one, whose files differ: an import spec names the same of them.
use Rattle.std.proofs.Common.{◌≡◌, refl, ℕ, zero, suc, List, [], ◌∷◌, Some, if◌then◌else◌}
use Rattle.std.specs.Prelude.{bytes_eq}
use Rattle.go_tree.specs.File.{ImportSpec}
use Rattle.pkg_graph.specs.Package.{SourceTree, Package}
use Rattle.pkg_graph.specs.Members.{package_name, name_or}
use Rattle.run_rules.specs.Programs.{number_from, package_number}
use Rattle.run_rules.specs.Steps.{change_nth}
use Rattle.typed_in_place.specs.ProgramsAlike.{OneByOne, no_more, and_more}
use Rattle.order_runs.specs.CycleRuns.ImportCycles.OtherImports.{import_path}

-- two packages with the same path and name
pub record SamePath {S : Type 0} (p q : Package S) : Type 0 where
  pub path : q.path ≡ p.path
  pub name : q.name ≡ p.name

module _ {S : Type 0} where
  pub names-alike : {ps qs : List (Package S)} → OneByOne SamePath ps qs → (path : List ℕ) → package_name qs path ≡ package_name ps path
  names-alike no_more path = refl
  names-alike (and_more r rs) path = λ v. if bytes_eq path (r.path v) then r.name v else names-alike rs path v

  numbers-from : {ps qs : List (Package S)} → OneByOne SamePath ps qs → (k : ℕ) (path : List ℕ) → number_from k qs path ≡ number_from k ps path
  numbers-from no_more k path = refl
  numbers-from (and_more r rs) k path = λ v. if bytes_eq path (r.path v) then k else numbers-from rs (suc k) path v

  pub numbers-alike : {ps qs : List (Package S)} → OneByOne SamePath ps qs → (path : List ℕ) → package_number qs path ≡ package_number ps path
  numbers-alike h path = numbers-from h 0 path

  -- the path of the first import with a name
  pub paths-alike : {ps qs : List (Package S)} → OneByOne SamePath ps qs → (ss : List (ImportSpec S)) (n : List ℕ) → import_path qs ss n ≡ import_path ps ss n
  paths-alike h [] n = refl
  paths-alike h (s ∷ ss) n = λ v. if bytes_eq (name_or s.name (names-alike h s.path v)) n then Some s.path else paths-alike h ss n v

  itself : (p : Package S) → SamePath p p
  itself p = record { path = refl; name = refl }

  all-themselves : (ps : List (Package S)) → OneByOne SamePath ps ps
  all-themselves [] = no_more
  all-themselves (p ∷ ps) = and_more (itself p) (all-themselves ps)

  -- where the files of one of them change in two ways
  pub files-change : (f g : List (SourceTree S) → List (SourceTree S)) (k : ℕ) (ps : List (Package S)) → OneByOne SamePath (change_nth k (λ p. record p { files = f p.files }) ps) (change_nth k (λ p. record p { files = g p.files }) ps)
  files-change f g k [] = no_more
  files-change f g zero (p ∷ ps) = and_more (record { path = refl; name = refl }) (all-themselves ps)
  files-change f g (suc k) (p ∷ ps) = and_more (itself p) (files-change f g k ps)
