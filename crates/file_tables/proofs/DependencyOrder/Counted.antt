-- The numbers of paths, one after another.
use Rattle.std.proofs.Common.{◌≡◌, ◌∙◌, refl, sym, ap, ℕ, List, [], ◌∷◌, ◌++◌, append_assoc}
use Rattle.std.specs.Option.{option_to_list}
use Rattle.std.proofs.lemmas.List.{map-append}
use Rattle.go_tree.specs.declared.spans.Span.{Span}
use Rattle.go_tree.specs.File.{ImportSpec, ImportDecl}
use Rattle.pkg_graph.specs.ModuleFiles.PathLists.{number_of}
use Rattle.pkg_graph.specs.Package.{SourceTree, specs_in, import_specs}
use Rattle.pkg_graph.specs.Graph.{files_import}
use Rattle.file_tables.specs.DependencyOrder.Links.{numbers_of, spec_paths}

numbers_append : (paths qs rs : List (List ℕ)) → numbers_of paths (qs ++ rs) ≡ numbers_of paths qs ++ numbers_of paths rs
numbers_append paths [] rs = refl
numbers_append paths (q ∷ qs) rs =
    ap (λ (ns : List ℕ). option_to_list (number_of paths q) ++ ns) (numbers_append paths qs rs)
    ∙ sym (append_assoc (option_to_list (number_of paths q)) (numbers_of paths qs) (numbers_of paths rs))

-- of a declaration before others
pub next_decl : (paths : List (List ℕ)) (d : ImportDecl Span) (ds : List (ImportDecl Span))
    → numbers_of paths (spec_paths (specs_in (d ∷ ds))) ≡ numbers_of paths (spec_paths d.specs) ++ numbers_of paths (spec_paths (specs_in ds))
next_decl paths d ds =
    ap (numbers_of paths) (map-append (λ (s : ImportSpec Span). s.path) d.specs (specs_in ds))
    ∙ numbers_append paths (spec_paths d.specs) (spec_paths (specs_in ds))

-- of a file before others
pub next_file : (paths : List (List ℕ)) (f : SourceTree Span) (fs : List (SourceTree Span))
    → numbers_of paths (files_import (f ∷ fs)) ≡ numbers_of paths (spec_paths (import_specs f.tree)) ++ numbers_of paths (files_import fs)
next_file paths f fs = numbers_append paths (spec_paths (import_specs f.tree)) (files_import fs)
