-- Whether a module is well typed, as it is told.
use Rattle.std.proofs.Common.{◌≡◌, ◌∙◌, refl, sym, ap, subst, ℕ, zero, suc, true, List, [], ◌∷◌, map, Option, Some, None, is_none}
use Rattle.std.specs.Prelude.{slice_get}
use Rattle.std.proofs.lemmas.Option.{same_Some}
use Rattle.checked_modules.specs.SpelledDecls.{PackagesAreSpelled, PackagesReadAreSpelled}
use Rattle.go_tree.specs.declared.spans.Span.{Span}
use Rattle.go_tree.specs.GoTypes.Answers.{given}
use Rattle.go_tree.specs.GoTypes.WellTyped.{NotTyped, refused_place, well_typed}
use Rattle.checked_modules.specs.Declarations.{refusal_of}
use Rattle.checked_modules.specs.RefusedPlace.{RefusedPlace}
use Rattle.module_texts.specs.Files.{sources_of}
use Rattle.module_texts.specs.Modules.{IsReadFrom, go_sources}
use Rattle.module_texts.specs.declared.modules.ReadModule.{ReadModule}
use Rattle.module_refusals.specs.Told.{told_at}
use Rattle.package_blocks.specs.Collected.{AreOrdered}
use Rattle.package_blocks.specs.FuncHeaders.Functions.{program_of}
use Rattle.package_blocks.specs.Imports.{views}
use Rattle.pkg_graph.specs.Views.{package_view, source_of}
use Rattle.pkg_graph.specs.declared.packages.Package.{Package}
use Rattle.pkg_graph.specs.declared.packages.SourceTree.{SourceTree}
use Rattle.run_plans.specs.PlannedFiles.Limits.{file_with_path, path_in}
use Rattle.read_modules.specs.Modules.{packages_in}
use Rattle.refusals.specs.declared.refusal.Detail.TheVariants as detail
use Rattle.refusals.specs.declared.refusal.Refusal.{Refusal}
use Rattle.checked_modules.specs.FunctionBodies.Walked.{PackagesAreWalked, PackagesReadAreWalked}
use Rattle.run_rules.specs.Programs.{linked}
use Rattle.run_rules.specs.Respanned.{source_with}
use Rattle.run_rules.specs.Run.{as_read}
use Rattle.source_files.specs.declared.files.SourceFile.{SourceFile}
use Rattle.run_plans.specs.PlannedModules.Places.{IsTypingOf, TellsPlace}

-- ---- the path of a file by its numbers

file_as : (fs : List SourceTree) (i : ℕ) → given (slice_get (map (source_with as_read) (map source_of fs)) i) (λ s. Some s.path) ≡ given (slice_get fs i) (λ s. Some s.path)
file_as [] i = refl
file_as (f ∷ fs) zero = refl
file_as (f ∷ fs) (suc i) = file_as fs i

path_as : (ps : List Package) (k i : ℕ) → path_in ps k i ≡ given (slice_get ps k) (λ p. given (slice_get p.files i) (λ s. Some s.path))
path_as [] k i = refl
path_as (p ∷ ps) zero i = file_as p.files i
path_as (p ∷ ps) (suc k) i = path_as ps k i

-- the place is told of the file that is found by its path
pub tells_place : (files : List SourceFile) (packages : List Package) (refused : RefusedPlace) (path : List ℕ) (file : SourceFile) (r : Refusal)
    → Some path ≡ given (slice_get packages refused.«package») (λ p. given (slice_get p.files refused.file) (λ s. Some s.path)) → Some file ≡ file_with_path files path → r ≡ told_at file refused.at.start detail.NotTyped
    → (place : NotTyped Span) → refusal_of (Some refused) ≡ Some place → TellsPlace files (map package_view packages) place r
tells_place files packages refused path file r p f told place e =
    let own : NotTyped Span = record { home = refused.«package»; file = refused.file; at = refused.at } in
    subst (λ (x : NotTyped Span). TellsPlace files (map package_view packages) x r) (same_Some own place e)
    (record { path = path; path_is = path_as packages refused.«package» refused.file ∙ sym p; read = file; there = sym f; told = told })

-- ---- what is asked of a module that was read

pub are_ordered : (files : List SourceFile) (m : ReadModule) → IsReadFrom files m → (packages : List Package) (order : List ℕ) → packages ≡ m.graph.packages.items → order ≡ m.graph.order.items → AreOrdered packages order
are_ordered files m r packages order e f =
    subst (λ (ps : List Package). AreOrdered ps order) (sym e)
    (subst (λ (o : List ℕ). AreOrdered m.graph.packages.items o) (sym f)
    (record { home = m.home.path; trees = r.trees; packages_are = r.packages_are; order_is = r.order_is }))

pub are_spelled : PackagesReadAreSpelled → (files : List SourceFile) (m : ReadModule) → IsReadFrom files m → (packages : List Package) → packages ≡ m.graph.packages.items → PackagesAreSpelled (views packages)
are_spelled law files m r packages e =
    subst (λ (ps : List Package). PackagesAreSpelled (views ps)) (sym e)
    (subst PackagesAreSpelled (sym r.packages_are) (law m.home.path (go_sources (sources_of files)) r.trees r.trees_are))

pub are_walked : PackagesReadAreWalked → (files : List SourceFile) (m : ReadModule) → IsReadFrom files m → (packages : List Package) → packages ≡ m.graph.packages.items → PackagesAreWalked (views packages)
are_walked law files m r packages e =
    subst (λ (ps : List Package). PackagesAreWalked (views ps)) (sym e)
    (subst PackagesAreWalked (sym r.packages_are) (law m.home.path (go_sources (sources_of files)) r.trees r.trees_are))

-- ---- what is told

pub typed_none : (m : ReadModule) (packages : List Package) → packages ≡ m.graph.packages.items → refusal_of None ≡ refused_place (program_of packages) → well_typed (linked (packages_in m)) ≡ true
typed_none m packages e h =
    subst (λ (ps : List Package). well_typed (program_of ps) ≡ true) e (ap (λ (o : Option (NotTyped Span)). is_none o) (sym h))

pub typed_some : (files : List SourceFile) (m : ReadModule) (packages : List Package) (refused : RefusedPlace) (r : Refusal) → packages ≡ m.graph.packages.items
    → refusal_of (Some refused) ≡ refused_place (program_of packages)
    → ((place : NotTyped Span) → refusal_of (Some refused) ≡ Some place → TellsPlace files (map package_view packages) place r)
    → IsTypingOf files (packages_in m) (Some r)
typed_some files m packages refused r e h tells =
    let own : NotTyped Span = record { home = refused.«package»; file = refused.file; at = refused.at } in
    let told : IsTypingOf files (map package_view packages) (Some r) = (own, sym h, tells own refl) in
    subst (λ (ps : List Package). IsTypingOf files (map package_view ps) (Some r)) e told
