-- Whether keys are apart from imports needs no spans, so it is of a module as read what it is of its files.
use Rattle.std.proofs.Common.{◌≡◌, ◌∙◌, refl, sym, ℕ, not, ◌&&◌, ◌||◌, if◌then◌else◌, bytes_eq, List, [], ◌∷◌, ◌++◌, map, Option, Some, None}
use Rattle.std.specs.List.{list_all}
use Rattle.std.specs.Option.{option_map}
use Rattle.go_tree.specs.Tree.{NameAt}
use Rattle.go_tree.specs.File.{ImportSpec, ImportDecl, Decl, File}
use Rattle.go_tree.specs.GoTypes.Answers.{is_among}
use Rattle.go_tree.specs.ScopeNames.Means.{is_blank}
use Rattle.pkg_graph.specs.Package.{SourceTree, Package, specs_in, import_specs}
use Rattle.pkg_graph.specs.Members.{package_name, name_or, import_name}
use Rattle.run_rules.specs.Respanned.{name_with, import_spec_with, import_decl_with, decls_with, file_with, source_with, package_with, packages_with}
use Rattle.run_rules.specs.Run.{as_read}
use Rattle.constant_modules.specs.ApartKeys.Files.{is_value_name, import_apart, file_apart}
use Rattle.constant_modules.specs.ApartKeys.Keys.{decl_keys}
use Rattle.constant_modules.specs.ApartKeys.Laws.{FilesKeepKeysApart}
use Rattle.constant_modules.specs.LookUps.Beside.{names_over}
use Rattle.constant_modules.proofs.ApartKeys.Found.{found_apart}
use Rattle.constant_modules.proofs.ApartKeys.Spans.{decl-with}

module _ {S T : Type 0} (to : S → T) where
  package_same : (qs : List (Package S)) (x : List ℕ) → package_name (packages_with to qs) x ≡ package_name qs x
  package_same [] x = refl
  package_same (q ∷ qs) x = λ v. if bytes_eq x q.path then q.name else package_same qs x v

  keys_same : (ds : List (Decl S)) → names_over decl_keys (decls_with to ds) ≡ names_over decl_keys ds
  keys_same [] = refl
  keys_same (d ∷ ds) = λ v. decl-with to d v ++ keys_same ds v

  specs_map : (ds : List (ImportDecl S)) → specs_in (map (import_decl_with to) ds) ≡ map (import_spec_with to) (specs_in ds)
  specs_map [] = refl
  specs_map (d ∷ ds) = (λ z. map (import_spec_with to) d.specs ++ specs_map ds z) ∙ sym (map_both d.specs (specs_in ds))
    where
      map_both : (xs ys : List (ImportSpec S)) → map (import_spec_with to) (xs ++ ys) ≡ map (import_spec_with to) xs ++ map (import_spec_with to) ys
      map_both [] ys = refl
      map_both (x ∷ xs) ys = λ z. import_spec_with to x ∷ map_both xs ys z

  module _ (ps : List (Package S)) where
    name_same : (s : ImportSpec S) → import_name (packages_with to ps) (import_spec_with to s) ≡ import_name ps s
    name_same s = by s.name
      where
        by : (o : Option (NameAt S)) → name_or (option_map (name_with to) o) (package_name (packages_with to ps) s.path) ≡ name_or o (package_name ps s.path)
        by None = package_same ps s.path
        by (Some n) = refl

    file_same : (f : File S) → file_apart (packages_with to ps) (file_with to f) ≡ file_apart ps f
    file_same f = (λ z. list_all (import_apart (packages_with to ps) (file_with to f)) (specs_map f.imports z)) ∙ each (import_specs f)
      where
        each : (ss : List (ImportSpec S)) → list_all (import_apart (packages_with to ps) (file_with to f)) (map (import_spec_with to) ss) ≡ list_all (import_apart ps f) ss
        each [] = refl
        each (s ∷ ss) = λ z. (is_blank (name_same s z) || not (is_value_name (name_same s z) && is_among (name_same s z) (keys_same f.decls z))) && each ss z

    files_same : (fs : List (SourceTree S)) → list_all (λ (f : SourceTree T). file_apart (packages_with to ps) f.tree) (map (source_with to) fs) ≡ list_all (λ (f : SourceTree S). file_apart ps f.tree) fs
    files_same [] = refl
    files_same (f ∷ fs) = λ z. file_same f.tree z && files_same fs z

    packages_same : (qs : List (Package S)) → list_all (λ (q : Package T). list_all (λ (f : SourceTree T). file_apart (packages_with to ps) f.tree) q.files) (map (package_with to) qs) ≡ list_all (λ (q : Package S). list_all (λ (f : SourceTree S). file_apart ps f.tree) q.files) qs
    packages_same [] = refl
    packages_same (q ∷ qs) = λ z. files_same q.files z && packages_same qs z

pub as_read_apart : FilesKeepKeysApart
as_read_apart ps texts h = found_apart (packages_with as_read ps) (packages_same as_read ps ps ∙ h)
