-- Of what typing gives of the file of a use all but what is asked with the form in its place.
use Rattle.std.specs.Option.{option_map}
use Rattle.go_tree.specs.declared.spans.Span.{Span}
use Rattle.constant_edits.specs.NamedPackage.{NamedPackage}
use Rattle.constant_edits.specs.Views.{name_expr}
use Rattle.printed_constants.specs.StandingForms.Laws.{FormsNameNoImport}
use Rattle.printed_constants.specs.TypedParts.DottedImports.Laws.{WellTypedFilesStand}
use Rattle.printed_constants.proofs.TypedParts.MarkedRuns.PutForms.FirstUses.{placed, file_reads}
use Rattle.run_rules.specs.Inlining.{ReadsAs}
use Rattle.run_rules.specs.Laws.{file_found}
use Rattle.run_rules.specs.Run.{here_of}
use Rattle.splice_laws.proofs.RunLaws.FoundSpans.{Placed}
use Rattle.constant_modules.specs.TypedUses.Laws.{FirstUsesAreTypedBefore}

pub typed_before : FormsNameNoImport → WellTypedFilesStand → FirstUsesAreTypedBefore
typed_before none stand marks st f old form ready typed is c becomes after =
    let here : Placed here_of (λ (s : Span). Unit {0}) st.packages marks f.site = placed marks st f old is.is_first is.there in
    let reads : ReadsAs old (file_found f) = file_reads marks st f old is.is_first is.there ready.reads in
    let none_there = none marks st f old ready typed is c (name_expr f.range (option_map (λ (q : NamedPackage). q.name) form.package) form.name) becomes.form_is in
    record { form_no_import = none_there; before = stand st.packages ready.links.ordered ready.typed f.site.at old here.package_is here.file_is reads; after = after }
