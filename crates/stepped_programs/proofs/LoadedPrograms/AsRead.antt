-- A program as it is read: each node comes from where it stands.
use Rattle.std.proofs.Common.{◌≡◌, ◌∙◌, refl, sym, ap, subst, ℕ, zero, suc, ◌==◌, Bool, true, false, not, ◌&&◌, ◌||◌, List, [], ◌∷◌, ◌++◌, map, length, Option, Some, None, if◌then◌else◌}
use Rattle.std.specs.Prelude.{slice_get}
use Rattle.std.specs.List.{list_all, list_any}
use Rattle.std.specs.Option.{option_map}
use Rattle.std.proofs.lemmas.List.{map-append}
use Rattle.go_tree.specs.declared.spans.Span.{Span}
use Rattle.go_tree.specs.File.{ImportSpec, ImportDecl}
use Rattle.pkg_graph.specs.ModuleFiles.Pieces.{comes_before}
use Rattle.pkg_graph.specs.Package.{SourceTree, Package, specs_in, import_specs}
use Rattle.pkg_graph.specs.Graph.{files_import, imports_of}
use Rattle.pkg_graph.specs.Order.{has_path, is_placed}
use Rattle.run_rules.specs.Programs.{numbered, numbered_from, is_ready, lesser, least_ready, ordered_after, in_dependency_order, numbers_of, dependency_order}
use Rattle.run_rules.specs.Respanned.{import_spec_with, import_decl_with, source_with, package_with, packages_with}
use Rattle.run_rules.specs.Steps.{At}
use Rattle.run_rules.specs.Run.{as_read, here_of}
use Rattle.splice_laws.specs.RunLaws.Reading.{FileAt, OnePathEach}
use Rattle.splice_laws.proofs.RunLaws.Reread.{file-reread}
use Rattle.programs.specs.PartOrigins.Spans.{decls_spans, files_spans, packages_spans}
use Rattle.programs.specs.PartOrigins.Views.{origins_of, files_origins, packages_origins}
use Rattle.programs.specs.PartOrigins.Laws.{decls_origins}
use Rattle.programs.specs.declared.part_origins.origins.PackageOrigins.{PackageOrigins}
use Rattle.programs.proofs.PartOrigins.Themselves.{come_from_themselves}
use Rattle.programs.specs.Kept.{AreKeptOrigins}
use Rattle.stepped_programs.proofs.LoadedPrograms.Images.{image_at, at_image}

-- ---- each node stands where it stood

sources_reread : (fs : List (SourceTree Span)) → map (source_with here_of) (map (source_with as_read) fs) ≡ fs
sources_reread [] = refl
sources_reread (f ∷ fs) = λ v. record { path = f.path; tree = file-reread f.tree v } ∷ sources_reread fs v

pub packages_reread : (ps : List (Package Span)) → packages_with here_of (packages_with as_read ps) ≡ ps
packages_reread [] = refl
packages_reread (p ∷ ps) = λ v. record { path = p.path; name = p.name; files = sources_reread p.files v } ∷ packages_reread ps v

-- ---- files by their numbers

pub file_was_read : (ps : List (Package Span)) (k i : ℕ) (f : SourceTree At) → FileAt (packages_with as_read ps) k i f → (x : SourceTree Span) × FileAt ps k i x × (source_with as_read x ≡ f)
file_was_read ps k i f at =
    let p = image_at (package_with as_read) ps k at.of at.package_is in
    let x = image_at (source_with as_read) p.0.files i f (subst (λ (q : Package At). slice_get q.files i ≡ Some f) (sym p.2) at.file_is) in
    (x.0, record { of = p.0; package_is = p.1; file_is = x.1 }, x.2)

pub paths_as_read : (ps : List (Package Span)) → OnePathEach ps → OnePathEach (packages_with as_read ps)
paths_as_read ps one k i l j f g a b e =
    let x = file_was_read ps k i f a in
    let y = file_was_read ps l j g b in
    one k i l j x.0 y.0 x.1 y.1 (ap (λ (s : SourceTree At). s.path) x.2 ∙ e ∙ ap (λ (s : SourceTree At). s.path) (sym y.2))

-- each part comes from where it stands
pub origins_as_read : (ps : List (Package Span)) (os : List PackageOrigins) → packages_origins os ≡ packages_spans ps
    → (k i : ℕ) (h : Package At) (f : SourceTree At) → slice_get (packages_with as_read ps) k ≡ Some h → slice_get h.files i ≡ Some f
    → (o : PackageOrigins) × (slice_get os k ≡ Some o) × AreKeptOrigins o i f
origins_as_read ps os e k i h f package_is file_is =
    let x = file_was_read ps k i f (record { of = h; package_is = package_is; file_is = file_is }) in
    let o = image_at files_origins os k (files_spans x.1.of.files) (ap (λ (l : List (List (List (List Span)))). slice_get l k) e ∙ at_image (λ p. files_spans p.files) ps k x.1.of x.1.package_is) in
    let own = image_at origins_of o.0.files.items i (decls_spans x.0.tree.decls) (ap (λ (l : List (List (List Span))). slice_get l i) o.2 ∙ at_image (λ s. decls_spans s.tree.decls) x.1.of.files i x.0 x.1.file_is) in (
      o.0,
      o.1,
      record {
        origins = own.0;
        there = own.1;
        are = own.2 ∙ sym (come_from_themselves x.0.tree.decls) ∙ ap (λ (s : SourceTree At). decls_origins s.tree.decls) x.2;
      },
    )

-- ---- the order of packages, by their paths and imports

module _ {S T : Type 0} (to : S → T) where
  abbrev row : ℕ × Package S → ℕ × Package T
  row q = (q.0, package_with to q.1)

  pub specs_with : (ds : List (ImportDecl S)) → specs_in (map (import_decl_with to) ds) ≡ map (import_spec_with to) (specs_in ds)
  specs_with [] = refl
  specs_with (d ∷ ds) =
      ap (λ (ss : List (ImportSpec T)). map (import_spec_with to) d.specs ++ ss) (specs_with ds)
      ∙ sym (map-append (import_spec_with to) d.specs (specs_in ds))

  spec_paths_with : (ss : List (ImportSpec S)) → map (λ s. s.path) (map (import_spec_with to) ss) ≡ map (λ s. s.path) ss
  spec_paths_with [] = refl
  spec_paths_with (s ∷ ss) = λ v. s.path ∷ spec_paths_with ss v

  files_with : (fs : List (SourceTree S)) → files_import (map (source_with to) fs) ≡ files_import fs
  files_with [] = refl
  files_with (f ∷ fs) = λ v. ((λ u. map (λ s. s.path) (specs_with f.tree.imports u)) ∙ spec_paths_with (import_specs f.tree)) v ++ files_with fs v

  rows_with : (k : ℕ) (ps : List (Package S)) → numbered_from k (packages_with to ps) ≡ map row (numbered_from k ps)
  rows_with k [] = refl
  rows_with k (p ∷ ps) = λ v. (k, package_with to p) ∷ rows_with (suc k) ps v

  pub length_with : (ps : List (Package S)) → length (packages_with to ps) ≡ length ps
  length_with [] = refl
  length_with (p ∷ ps) = ap suc (length_with ps)

  numbers_with : (qs : List (ℕ × Package S)) → numbers_of (map row qs) ≡ numbers_of qs
  numbers_with [] = refl
  numbers_with (q ∷ qs) = ap (λ (ns : List ℕ). q.0 ∷ ns) (numbers_with qs)

  module _ (ps : List (Package S)) where
    path_with : (path : List ℕ) (k : ℕ) (qs : List (Package S)) → has_path (packages_with to ps) path (slice_get (packages_with to qs) k) ≡ has_path ps path (slice_get qs k)
    path_with path k [] = refl
    path_with path zero (q ∷ qs) = refl
    path_with path (suc k) (q ∷ qs) = path_with path k qs

    placed_with : (placed : List ℕ) (path : List ℕ) → is_placed (packages_with to ps) placed path ≡ is_placed ps placed path
    placed_with [] path = refl
    placed_with (k ∷ ks) path = λ v. path_with path k ps v || placed_with ks path v

    all_placed : (placed : List ℕ) (paths : List (List ℕ)) → list_all (is_placed (packages_with to ps) placed) paths ≡ list_all (is_placed ps placed) paths
    all_placed placed [] = refl
    all_placed placed (x ∷ xs) = λ v. placed_with placed x v && all_placed placed xs v

    ready_with : (placed : List ℕ) (q : ℕ × Package S) → is_ready (packages_with to ps) placed (row q) ≡ is_ready ps placed q
    ready_with placed q = λ v. not (list_any (λ j. j == q.0) placed) && ((λ u. list_all (is_placed (packages_with to ps) placed) (files_with q.1.files u)) ∙ all_placed placed (imports_of q.1)) v

    lesser_with : (q : ℕ × Package S) (o : Option (ℕ × Package S)) → lesser (row q) (option_map row o) ≡ option_map row (lesser q o)
    lesser_with q None = refl
    lesser_with q (Some r) = by (comes_before r.1.path q.1.path)
      where
        by : (b : Bool) → (if b then Some (row r) else Some (row q)) ≡ option_map row (if b then Some r else Some q)
        by true = refl
        by false = refl

    least_with : (placed : List ℕ) (qs : List (ℕ × Package S)) → least_ready (packages_with to ps) placed (map row qs) ≡ option_map row (least_ready ps placed qs)
    least_with placed [] = refl
    least_with placed (q ∷ qs) =
        (λ v. if ready_with placed q v then lesser (row q) (least_with placed qs v) else least_with placed qs v) ∙ by (is_ready ps placed q) (least_ready ps placed qs)
      where
        by : (b : Bool) (o : Option (ℕ × Package S)) → (if b then lesser (row q) (option_map row o) else option_map row o) ≡ option_map row (if b then lesser q o else o)
        by true o = lesser_with q o
        by false o = refl

    ordered_with : (n : ℕ) (placed : List ℕ) → ordered_after (packages_with to ps) n placed ≡ map row (ordered_after ps n placed)
    ordered_with zero placed = refl
    ordered_with (suc n) placed =
        (λ v. elim (((λ u. least_ready (packages_with to ps) placed (rows_with 0 ps u)) ∙ least_with placed (numbered ps)) v) [ None ↦ [] | Some q ↦ q ∷ ordered_after (packages_with to ps) n (placed ++ q.0 ∷ []) ])
        ∙ by (least_ready ps placed (numbered ps)) (λ k. ordered_with n (placed ++ k ∷ []))
      where
        by : (o : Option (ℕ × Package S)) → ((k : ℕ) → ordered_after (packages_with to ps) n (placed ++ k ∷ []) ≡ map row (ordered_after ps n (placed ++ k ∷ [])))
            → (elim (option_map row o) [ None ↦ [] | Some q ↦ q ∷ ordered_after (packages_with to ps) n (placed ++ q.0 ∷ []) ]) ≡ map row (elim o [ None ↦ [] | Some q ↦ q ∷ ordered_after ps n (placed ++ q.0 ∷ []) ])
        by None f = refl
        by (Some q) f = λ v. row q ∷ f q.0 v

    pub order_with : dependency_order (packages_with to ps) ≡ dependency_order ps
    order_with =
        ap numbers_of ((λ v. ordered_after (packages_with to ps) (length_with ps v) []) ∙ ordered_with (length ps) [])
        ∙ numbers_with (in_dependency_order ps)
