-- A module that reads is ready.
use Rattle.std.proofs.Common.{◌≡◌, refl, sym, ◌∙◌, ap, subst, ℕ, zero, suc, true, List, [], ◌∷◌, map, Some}
use Rattle.std.specs.Prelude.{slice_get}
use Rattle.std.specs.List.{list_all}
use Rattle.std.proofs.lemmas.Option.{same_Some}
use Rattle.go_tree.specs.declared.spans.Span.{Span}
use Rattle.go_tree.specs.GoWords.Tokens.Characters.{each}
use Rattle.splice_laws.specs.ImportSplices.AddedFile.{is_byte}
use Rattle.pkg_graph.specs.Package.{SourceTree, Package}
use Rattle.pkg_graph.specs.Reads.{Source}
use Rattle.go_translation.specs.Packages.{are_well_typed}
use Rattle.run_rules.specs.Respanned.{source_with, packages_with}
use Rattle.run_rules.specs.Texts.{FileText}
use Rattle.run_rules.specs.Steps.{At}
use Rattle.run_rules.specs.Run.{as_read}
use Rattle.run_rules.specs.Inlining.{ModuleReads, standing_as_read}
use Rattle.splice_laws.specs.RunLaws.Reading.{FileAt, OnePathEach}
use Rattle.splice_laws.proofs.RunLaws.RunsRead.{modules_read}
use Rattle.splice_laws.proofs.RunLaws.PathsOwn.{paths_own}
use Rattle.order_runs.specs.RunSteps.RunPackages.{members_of}
use Rattle.order_runs.specs.CycleRuns.OrderedSteps.Laws.{ReadModulesAreOrdered}
use Rattle.order_runs.proofs.CycleRuns.OrderedSteps.Modules.{package-at}
use Rattle.order_runs.proofs.CycleRuns.Runs.{module-linked}
use Rattle.run_by_steps.specs.WrittenImports.Laws.{AreNamed}
use Rattle.run_by_steps.proofs.WrittenImports.ReadNames.{read_packages_are_named}
use Rattle.put_names.specs.WrittenNames.NamedPackages.{PathsAreOctets}
use Rattle.put_names.proofs.WrittenNames.ReadNames.{modules_named}
use Rattle.constant_steps.specs.WrittenLiteral.UnspreadForms.UnspreadForms.{UnspreadFiles, UnspreadPackages}
use Rattle.constant_steps.proofs.WrittenLiteral.UnspreadForms.Spans.{decls-spanned}
use Rattle.printed_constants.specs.TypedParts.MarkedRuns.SettledConstants.Programs.{IsReady}
use Rattle.printed_constants.proofs.TypedParts.MarkedRuns.ReadyModules.Typed.{linked_typed, typed_as_read}

-- ---- files by their numbers

file_was_read : (fs : List (SourceTree Span)) (i : ℕ) (f : SourceTree At) → slice_get (map (source_with as_read) fs) i ≡ Some f → (x : SourceTree Span) × (slice_get fs i ≡ Some x) × (f ≡ source_with as_read x)
file_was_read [] i f h = absurd cc
file_was_read (x ∷ fs) zero f h = (x, refl, sym (same_Some (source_with as_read x) f h))
file_was_read (x ∷ fs) (suc i) f h = file_was_read fs i f h

was_at : (ps : List (Package Span)) (k i : ℕ) (f : SourceTree At) → FileAt (packages_with as_read ps) k i f → (x : SourceTree Span) × FileAt ps k i x × (f ≡ source_with as_read x)
was_at ps k i f at =
    let p = package-at as_read ps k at.of at.package_is in
    let x = file_was_read p.0.files i f (subst (λ (q : Package At). slice_get q.files i ≡ Some f) p.2 at.file_is) in
    (x.0, record { of = p.0; package_is = p.1; file_is = x.1 }, x.2)

paths_as_read : (ps : List (Package Span)) → OnePathEach ps → OnePathEach (packages_with as_read ps)
paths_as_read ps one k i l j f g a b e =
    let x = was_at ps k i f a in
    let y = was_at ps l j g b in
    one k i l j x.0 y.0 x.1 y.1 (sym (ap (λ (s : SourceTree At). s.path) x.2) ∙ e ∙ ap (λ (s : SourceTree At). s.path) y.2)

-- ---- calls, and paths

unspread_files : (fs : List (SourceTree Span)) → UnspreadFiles fs → UnspreadFiles (map (source_with as_read) fs)
unspread_files [] h = tt
unspread_files (f ∷ fs) h = (decls-spanned as_read f.tree.decls h.0, unspread_files fs h.1)

unspread_as_read : (ps : List (Package Span)) → UnspreadPackages ps → UnspreadPackages (packages_with as_read ps)
unspread_as_read [] h = tt
unspread_as_read (p ∷ ps) h = (unspread_files p.files h.0, unspread_as_read ps h.1)

octets_of : (ps : List (Package At)) → AreNamed ps → PathsAreOctets ps
octets_of [] h k p e = absurd cc
octets_of (x ∷ xs) h zero p e = subst (λ (y : Package At). each is_byte y.path ≡ true) (same_Some x p e) h.1
octets_of (x ∷ xs) h (suc k) p e = octets_of xs h.2 k p e

-- ---- the module

pub read_ready : ReadModulesAreOrdered → (files : List Source) (ps : List (Package Span)) (texts : List (List ℕ × FileText)) → ModuleReads files ps texts → list_all (λ f. each is_byte f.path) files ≡ true
    → are_well_typed (members_of ps) ≡ true → UnspreadPackages ps → IsReady (standing_as_read ps texts)
read_ready ordered files ps texts r octets typed unspread = record {
  reads = modules_read files ps texts r;
  paths = paths_as_read ps (paths_own files ps texts r).0;
  links = module-linked ordered files ps texts r;
  named = modules_named files ps texts r;
  octets = octets_of (packages_with as_read ps) (read_packages_are_named files ps texts r octets);
  typed = linked_typed (packages_with as_read ps) (typed_as_read ps typed);
  unspread = unspread_as_read ps unspread;
}
