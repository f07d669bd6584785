-- No dot stands behind the use of a constant that a step finds.
use Rattle.std.proofs.Common.{inr}
use Rattle.go_tree.specs.declared.spans.Span.{Span}
use Rattle.run_rules.specs.Forms.{is_at}
use Rattle.run_rules.specs.Programs.{decl_seen}
use Rattle.run_rules.specs.Run.{here_of}
use Rattle.run_rules.specs.Sites.{Where, part_span}
use Rattle.run_rules.specs.Steps.{At, same_here}
use Rattle.splice_laws.proofs.RunLaws.FoundSpans.{Placed}
use Rattle.order_runs.proofs.CycleRuns.ImportCycles.ImportStep.{placed}
use Rattle.printed_constants.specs.TypedParts.StandingUses.Laws.{IsNamedOnce, ConstantUsesStandOnce}
use Rattle.printed_constants.specs.TypedParts.DottedImports.Laws.{WellTypedFilesAreDotted}
use Rattle.printed_constants.specs.QualifiedDots.Laws.{PrintedDotsAreQualified, PrintedUsesAreUndotted}
use Rattle.printed_constants.proofs.QualifiedDots.Undotted.{undotted}

pub uses_undotted : ConstantUsesStandOnce → WellTypedFilesAreDotted → PrintedDotsAreQualified → PrintedUsesAreUndotted
uses_undotted stand dotted qualified marks st l after n ready printed c v e declared part d de =
    let w : Where At = n.found.site.at in
    let here : Placed here_of (λ (s : Span). Unit {0}) st.packages marks n.found.site = placed marks st l after n in
    let one : IsNamedOnce st n.found e d = stand marks st l after n ready.reads c v e declared part d de in
    undotted st.packages w (is_at same_here (part_span n.found.site.part)) n.found.site.place e one.use_no_import
    (decl_seen st.packages w.number w.of w.source.tree d)
    (dotted st.packages ready.links.ordered ready.typed w here.package_is here.file_is n.found.site.decl d de)
    (qualified st.packages ready.links.ordered ready.typed printed w here.package_is here.file_is n.found.site.decl d de) (inr one.once)
