-- What the code that makes the edits of a step asks.
use Rattle.std.proofs.Common.{◌≡◌, ◌∙◌, refl, sym, subst, List, Some}
use Rattle.std.proofs.lemmas.Option.{same_Some}
use Rattle.go_tree.specs.declared.spans.Span.{Span}
use Rattle.splice_laws.proofs.ImportSplices.ImportPlaces.CommentsStand.{comments_ascend}
use Rattle.run_rules.specs.Inlining.{ReadsAs}
use Rattle.run_rules.specs.Laws.{LiesBehindImports, file_found}
use Rattle.run_rules.specs.Marks.{text_at}
use Rattle.run_rules.specs.Run.{Standing, here_of, is_commented, step_in}
use Rattle.run_rules.specs.Sites.{MarkRef}
use Rattle.run_rules.specs.Steps.{At, same_here, Found}
use Rattle.run_rules.specs.Texts.{FileText}
use Rattle.splice_laws.specs.RunLaws.Reading.{FileReads, FileAt, ProgramReads}
use Rattle.splice_laws.proofs.RunLaws.FilesStand.{file_laid}
use Rattle.splice_laws.proofs.RunLaws.FoundSpans.{Placed, FoundIn, found_in}
use Rattle.printed_constants.specs.TypedParts.StandingUses.UsePlaces.Laws.{FoundUsesTakeNames, UsesLieBehindImports}
use Rattle.printed_constants.specs.TypedParts.StandingUses.ToldSteps.Laws.{StepsMayBeEdited}

-- the file of the first use reads from its text
reads_so : (marks : List MarkRef) (st : Standing) (f : Found At) (old : FileText) → ProgramReads st → step_in marks st ≡ Some f → text_at f.site.at.source.path st.texts ≡ Some old → ReadsAs old (file_found f)
reads_so marks st f old reads first there =
    let g : FoundIn here_of (λ (s : Span). Unit {0}) st.packages marks same_here (is_commented st) f = found_in here_of (λ (s : Span). Unit {0}) st.packages marks same_here (is_commented st) f first in
    let p : Placed here_of (λ (s : Span). Unit {0}) st.packages marks f.site = g.placed in
    let at : FileAt st.packages f.site.at.number f.site.at.file_number f.site.at.source = record { of = f.site.at.of; package_is = p.package_is; file_is = p.file_is } in
    let r : FileReads st.texts f.site.at.source = reads f.site.at.number f.site.at.file_number f.site.at.source at in
    subst (λ (t : FileText). ReadsAs t (file_found f)) (same_Some r.text old (sym r.there ∙ there)) r.reads

pub may_be_edited : FoundUsesTakeNames → UsesLieBehindImports → StepsMayBeEdited
may_be_edited take_names lie_behind marks st f old form unused reads first there becomes unused_is =
    let r : ReadsAs old (file_found f) = reads_so marks st f old reads first there in
    record {
      laid = file_laid old.text old.tokens old.comments (file_found f) r.scans r.spells;
      ascend = comments_ascend old.text old.tokens old.comments r.scans;
      behind = subst (LiesBehindImports old.text old.tokens (file_found f)) becomes.range_is (lie_behind marks st f old first r);
      is_step = record {
        text_is = refl;
        file_is = refl;
        range_is = becomes.range_is;
        form_is = becomes.form_is;
        named_is = becomes.named_is;
        level_fits = take_names marks st f first;
        unused_is = unused_is;
      };
    }
