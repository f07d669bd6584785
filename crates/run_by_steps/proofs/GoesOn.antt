-- What is answered of the next step of a run, and what it makes of the run.
use Rattle.std.proofs.Common.{◌≡◌, ◌∙◌, sym, ap, subst, ℕ, List, [], Some, None}
use Rattle.std.proofs.lemmas.Option.{same_Some}
use Rattle.go_tree.specs.declared.spans.Span.{Span}
use Rattle.go_tree.specs.File.{File}
use Rattle.go_tree.specs.FileView.{file_of}
use Rattle.go_tree.specs.GoWords.Tokens.{TokensOf}
use Rattle.go_nesting.specs.Sources.{IsSupported}
use Rattle.splice_laws.specs.ImportSplices.AddedFile.{AreWritable}
use Rattle.pkg_graph.specs.Reads.{Source}
use Rattle.run_rules.specs.Sites.{MarkRef}
use Rattle.run_rules.specs.Naming.{imports_added}
use Rattle.run_rules.specs.Marks.{text_at, marks_of}
use Rattle.run_rules.specs.Texts.{FileText}
use Rattle.run_rules.specs.Steps.{At, Found}
use Rattle.run_rules.specs.Run.{Standing, Logged, passed, the_limits}
use Rattle.run_rules.specs.Inlining.{standing_as_read}
use Rattle.splice_laws.proofs.RunLaws.FilesKept.{runs_are_inlinings}
use Rattle.step_files.specs.declared.limits.Progress.{Progress}
use Rattle.step_files.specs.Limits.{ComesNext, told}
use Rattle.step_files.specs.Files.{text_of}
use Rattle.run_by_steps.specs.NextPrograms.Made.{MakesFile, NextWith}
use Rattle.run_by_steps.proofs.NextPrograms.TextsRead.{texts_read}
use Rattle.run_by_steps.proofs.NextPrograms.NextMade.{made_are_next}
use Rattle.run_by_steps.proofs.NextPrograms.Reached.{reached_on, reached_runs}
use Rattle.run_by_steps.proofs.WrittenImports.StepImports.{imports_are_written}
use Rattle.run_by_steps.specs.RunProgress.Laws.{HasCome}
use Rattle.run_by_steps.proofs.RunProgress.Counts.{steps_come_next}
use Rattle.run_by_steps.specs.Reached.{IsNextUse, row_of}
use Rattle.run_by_steps.specs.Laws.{StepGoesOn, StepPassesLimit, StepIsRead, RunEnds}
use Rattle.run_by_steps.proofs.Kept.{Kept, new_supported}
use Rattle.run_by_steps.proofs.Kept as keep

module _ (files : List Source) (marks : List MarkRef) (done : List Logged) (st : Standing) (kept : Kept st) (f : Found At) (old : FileText) (u : IsNextUse marks st f old) where
  abbrev row : Logged
  row = row_of marks st f old

  writable : AreWritable (imports_added f.named)
  writable = imports_are_written marks st f u.is_first kept.named u.in_program

  made_with : (new : FileText) (tree : File Span) → MakesFile marks st f old new tree → NextWith marks st f old new tree
  made_with new tree m = made_are_next marks st f old new tree u.is_first u.there u.put writable m

  module _ (new : FileText) (tree : File Span) (n : NextWith marks st f old new tree) where
    same_found : n.next.found ≡ f
    same_found = same_Some n.next.found f (sym n.next.is_first ∙ u.is_first)

    same_old : n.next.old ≡ old
    same_old = same_Some n.next.old old (sym n.next.stands ∙ ap (λ (g : Found At). text_at g.site.at.source.path st.texts) same_found ∙ u.there)

    comes : (p : Progress) → HasCome p files done row st old → ComesNext p files done row new n.after.texts
    comes p h =
        subst (λ (t : FileText). ComesNext p files done row t n.after.texts) n.text_is
        (steps_come_next marks files done st row n.after n.next p kept.texts_apart (subst (λ (t : FileText). HasCome p files done row st t) (sym same_old) h))

    its_words : IsSupported new.text new.tokens new.comments
    its_words = subst (λ (t : FileText). IsSupported t.text t.tokens t.comments) n.text_is (new_supported marks st row n.after n.next kept)

pub step_goes_on : StepGoesOn
step_goes_on files ps texts only done st f old p new r u h is fits =
    let marks = marks_of ps texts only in
    let kept = keep.kept_here files ps texts only done st r in
    let n : NextWith marks st f old (text_of new) (file_of new.tree) =
    made_with files marks done st kept f old u (text_of new) (file_of new.tree) (record { text_is = is.text_is; scans = is.reads.0; spells = is.reads.1.2 }) in
    let within : passed the_limits files done (row_of marks st f old) n.next.new n.after.texts ≡ None =
    subst (λ (t : FileText). passed the_limits files done (row_of marks st f old) t n.after.texts ≡ None) (sym n.text_is)
    (fits files done (row_of marks st f old) n.after.texts (comes files marks done st kept f old u (text_of new) (file_of new.tree) n p h)) in (
      n,
      record {
        read = r.read;
        octets = r.octets;
        supported = r.supported;
        steps = reached_on marks the_limits files [] done (row_of marks st f old) (standing_as_read ps texts) st n.after r.steps n.next within;
      },
    )

pub step_passes_limit : StepPassesLimit
step_passes_limit files ps texts only done st f old p x r u h fault =
    let marks = marks_of ps texts only in
    let kept = keep.kept_here files ps texts only done st r in
    let e = texts_read marks st f old u.put (writable files marks done st kept f old u) in
    let n : NextWith marks st f old e.0 e.1 = made_with files marks done st kept f old u e.0 e.1 e.2 in
    record {
      before = st;
      after = n.after;
      log = done;
      last = row_of marks st f old;
      read = r.read;
      reached = r.steps;
      next = n.next;
      passes = subst (λ (t : FileText). passed the_limits files done (row_of marks st f old) t n.after.texts ≡ Some (told x)) (sym n.text_is)
          (fault e.0 e.2.text_is e.2.scans files done (row_of marks st f old) n.after.texts (comes files marks done st kept f old u e.0 e.1 n p h));
    }

pub step_is_read : StepIsRead
step_is_read files ps texts only done st f old p r u fault =
    let marks = marks_of ps texts only in
    let kept = keep.kept_here files ps texts only done st r in
    let e = texts_read marks st f old u.put (writable files marks done st kept f old u) in
    let n : NextWith marks st f old e.0 e.1 = made_with files marks done st kept f old u e.0 e.1 e.2 in
    fault e.0.tokens e.0.comments e.1
    (subst (λ (t : List ℕ). TokensOf t e.0.tokens e.0.comments) e.2.text_is e.2.scans)
    (subst (λ (t : List ℕ). IsSupported t e.0.tokens e.0.comments) e.2.text_is (its_words files marks done st kept f old u e.0 e.1 n))
    e.2.spells

pub run_is_at_end : RunEnds
run_is_at_end files ps texts only done last r over =
    runs_are_inlinings the_limits files ps texts only last done r.read
    (reached_runs (marks_of ps texts only) the_limits files [] done (standing_as_read ps texts) last r.steps over) r.steps
