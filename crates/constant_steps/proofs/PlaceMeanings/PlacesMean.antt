-- The laws of places and tables.
use Rattle.std.proofs.Common.{List, sym, subst}
use Rattle.go_tree.specs.declared.spans.Span.{Span}
use Rattle.go_tree.specs.File.{File}
use Rattle.scope_tables.specs.Table.{IsTableOf}
use Rattle.pkg_graph.specs.Package.{Package}
use Rattle.pkg_graph.specs.Members.{names_of_file}
use Rattle.run_rules.specs.Run.{here_of}
use Rattle.run_rules.specs.Inlining.{ReadsAs}
use Rattle.run_rules.specs.Respanned.{file_with, package_with, packages_with}
use Rattle.constant_steps.specs.PlaceMeanings.Agreement.{BlockIsLocal, AgreesAt}
use Rattle.constant_steps.specs.PlaceMeanings.Laws.{AreNamesOf, BlocksAreLocal, PlacesMeanAsTablesSay, ReadFilesHaveTheirNames, StandingFilesHaveTheirNames}
use Rattle.constant_steps.proofs.PlaceMeanings.FilesNest.{FileNests, file_nests}
use Rattle.constant_steps.proofs.PlaceMeanings.Declared.{decl_parts}
use Rattle.constant_steps.proofs.PlaceMeanings.Agreed.{agrees}
use Rattle.constant_steps.proofs.PlaceMeanings.Told.{told}
use Rattle.constant_steps.proofs.PlaceMeanings.Same.{keep, file-same, package-same, packages-same}

pub places_mean : (S : Type 0) (to : S → Span) → PlacesMeanAsTablesSay S to (file_with to)
places_mean S to ps w text names t i d reads tells table there scoped =
    let n : FileNests (file_with to w.source.tree) = file_nests text (file_with to w.source.tree) reads in
    decl_parts to (AgreesAt ps w t) ps w.number w.of w.source.tree i d 0 n.end n.nests there
    (λ q at i h. agrees w ps names tells t (file_with to w.source.tree) table q at h) scoped

-- a file as read
pub read_places_mean : PlacesMeanAsTablesSay Span keep (λ f. f)
read_places_mean ps w text names t i d reads tells table there scoped =
    places_mean Span keep ps w text names t i d (subst (λ (f : File Span). ReadsAs text f) (sym (file-same w.source.tree)) reads) tells
    (subst (λ (f : File Span). IsTableOf names f t) (sym (file-same w.source.tree)) table) there scoped

pub blocks_local : (S : Type 0) (to : S → Span) → BlocksAreLocal S to (file_with to)
blocks_local S to ps w text i d reads there scoped =
    let n : FileNests (file_with to w.source.tree) = file_nests text (file_with to w.source.tree) reads in
    decl_parts to (λ p at. BlockIsLocal p) ps w.number w.of w.source.tree i d 0 n.end n.nests there (λ q at i h. i) scoped

pub read_blocks_local : BlocksAreLocal Span keep (λ f. f)
read_blocks_local ps w text i d reads there scoped =
    blocks_local Span keep ps w text i d (subst (λ (f : File Span). ReadsAs text f) (sym (file-same w.source.tree)) reads) there scoped

pub files_named : StandingFilesHaveTheirNames
files_named ps w = told here_of ps w

pub read_files_named : ReadFilesHaveTheirNames
read_files_named ps w =
    subst (λ (qs : List (Package Span)). AreNamesOf ps w (names_of_file qs w.of w.source.tree)) (packages-same ps)
    (subst (λ (q : Package Span). AreNamesOf ps w (names_of_file (packages_with keep ps) q w.source.tree)) (package-same w.of)
    (subst (λ (f : File Span). AreNamesOf ps w (names_of_file (packages_with keep ps) (package_with keep w.of) f)) (file-same w.source.tree) (told keep ps w)))
