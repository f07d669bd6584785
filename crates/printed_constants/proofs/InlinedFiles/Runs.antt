-- Runs whose steps write their files leave files that read as a module.
use Rattle.std.proofs.Common.{◌≡◌, sym, refl, subst, List, [], ◌∷◌, map}
use Rattle.go_tree.specs.declared.spans.Span.{Span}
use Rattle.pkg_graph.specs.Package.{SourceTree, Package}
use Rattle.pkg_graph.specs.Reads.{Source}
use Rattle.run_rules.specs.Inlining.{ModuleReads, standing_as_read}
use Rattle.run_rules.specs.Respanned.{source_with, packages_with}
use Rattle.run_rules.specs.Run.{Standing, Logged, Run, ends, goes_on, here_of, as_read}
use Rattle.run_rules.specs.Sites.{MarkRef}
use Rattle.splice_laws.proofs.RunLaws.Reread.{file-reread}
use Rattle.printed_constants.specs.InlinedFiles.Files.{files_after, StandsAsModule, AllWrite}
use Rattle.printed_constants.specs.InlinedFiles.Laws.{ReadFilesStay, ReadModulesStand, RunsLeaveModules}
use Rattle.printed_constants.proofs.InlinedFiles.Steps.{step_leaves}
use Rattle.printed_constants.proofs.InlinedFiles.Texts.{files_stay}

files_reread : (fs : List (SourceTree Span)) → map (source_with here_of) (map (source_with as_read) fs) ≡ fs
files_reread [] = refl
files_reread (f ∷ fs) = λ z. record { path = f.path; tree = file-reread f.tree z } ∷ files_reread fs z

packages_reread : (ps : List (Package Span)) → packages_with here_of (packages_with as_read ps) ≡ ps
packages_reread [] = refl
packages_reread (p ∷ ps) = λ z. record { path = p.path; name = p.name; files = files_reread p.files z } ∷ packages_reread ps z

pub read_files_stay : ReadFilesStay
read_files_stay files ps texts r = files_stay files ps texts r

pub modules_stand : ReadModulesStand
modules_stand files ps texts r =
    subst (λ (qs : List (Package Span)). ModuleReads (files_after files texts) qs texts) (sym (packages_reread ps))
    (subst (λ (fs : List Source). ModuleReads fs ps texts) (sym (files_stay files ps texts r)) r)

run_leaves : (files : List Source) (marks : List MarkRef) (st last : Standing) (log : List Logged) (run : Run marks st log last) → AllWrite run → StandsAsModule files st → StandsAsModule files last
run_leaves files marks _ _ _ (ends st over) h m = m
run_leaves files marks _ _ _ (goes_on st next last l log n run) h m = run_leaves files marks next last log run h.1 (step_leaves marks st l next n h.0 files m)

pub runs_leave : RunsLeaveModules
runs_leave files ps texts marks last log r run h = run_leaves files marks (standing_as_read ps texts) last log run h (modules_stand files ps texts r)
