-- What is known of the first use of a program that becomes a form.
use Rattle.std.proofs.Common.{◌≡◌, ◌∙◌, sym, subst, List, Some}
use Rattle.std.specs.Prelude.{slice_get}
use Rattle.std.proofs.lemmas.Option.{same_Some}
use Rattle.go_tree.specs.declared.spans.Span.{Span}
use Rattle.go_tree.specs.File.{Decl}
use Rattle.run_rules.specs.Inlining.{ReadsAs}
use Rattle.run_rules.specs.Laws.{file_found}
use Rattle.run_rules.specs.Marks.{text_at}
use Rattle.run_rules.specs.Programs.{decl_seen}
use Rattle.run_rules.specs.Respanned.{decls_with}
use Rattle.run_rules.specs.Run.{Standing, here_of, is_commented, step_in}
use Rattle.run_rules.specs.Sites.{MarkRef, sites}
use Rattle.run_rules.specs.Steps.{At, same_here, Found}
use Rattle.run_rules.specs.Texts.{FileText}
use Rattle.splice_laws.specs.RunLaws.Reading.{FileReads, FileAt, ProgramReads}
use Rattle.splice_laws.proofs.RunLaws.FoundSpans.{Placed, FoundIn, found_in}
use Rattle.splice_laws.specs.ImportSplices.FormSplices.Laws.{MakesForm}
use Rattle.splice_laws.proofs.ImportSplices.FormSplices.FormsFound.{IsForm, first-form}
use Rattle.order_runs.proofs.RunSteps.SeatedUses.{Seated, sites-seated}
use Rattle.order_runs.proofs.RunSteps.TokenPlaces.{tokens-rise}
use Rattle.order_runs.proofs.RunSteps.SpanPlaces.{DeclsIn}
use Rattle.order_runs.proofs.RunSteps.SpelledPlaces.{front_in}
use Rattle.order_runs.proofs.RunSteps.SpreadParts.{Apart}
use Rattle.order_runs.proofs.RunSteps.SeenSpread.{decl-apart}
use Rattle.printed_constants.proofs.TypedParts.StandingUses.Once.{nth_in}

module _ (marks : List MarkRef) (st : Standing) (u : Found At) (old : FileText) (first : step_in marks st ≡ Some u) (there : text_at u.site.at.source.path st.texts ≡ Some old) where
  abbrev pub Any : Span → Type 0
  Any s = Unit {0}

  pub placed : Placed here_of Any st.packages marks u.site
  placed = let f : FoundIn here_of Any st.packages marks same_here (is_commented st) u = found_in here_of Any st.packages marks same_here (is_commented st) u first in f.placed

  pub makes : MakesForm marks st u
  makes =
      let i : IsForm same_here (is_commented st) st.packages marks (sites st.packages marks) u = first-form same_here (is_commented st) st.packages marks u first in
      record { is_use = i.among; form_is = i.form_is }

  pub seated : Seated st.packages marks u.site
  seated = let m : MakesForm marks st u = makes in sites-seated st.packages marks u.site m.is_use

  module _ (reads : ProgramReads st) where
    pub file_reads : ReadsAs old (file_found u)
    file_reads =
        let at : FileAt st.packages u.site.at.number u.site.at.file_number u.site.at.source = record { of = u.site.at.of; package_is = placed.package_is; file_is = placed.file_is } in
        let r : FileReads st.texts u.site.at.source = reads u.site.at.number u.site.at.file_number u.site.at.source at in
        subst (λ (t : FileText). ReadsAs t (file_found u)) (same_Some r.text old (sym r.there ∙ there)) r.reads

    decls : DeclsIn (decls_with here_of u.site.at.source.tree.decls)
    decls = front_in file_reads.spells (tokens-rise old.text old.tokens old.comments file_reads.scans)

    -- no two expressions of its declaration have one span
    pub apart : (d : Decl At) → slice_get u.site.at.source.tree.decls u.site.decl ≡ Some d → Apart here_of (decl_seen st.packages u.site.at.number u.site.at.of u.site.at.source.tree d)
    apart d h =
        let k = nth_in u.site.at.source.tree.decls u.site.decl d h decls in
        decl-apart here_of st.packages k.0 k.1 u.site.at.number u.site.at.of u.site.at.source.tree d k.2
