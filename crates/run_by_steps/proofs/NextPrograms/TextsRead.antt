-- The new text of a step's file is read, as a tree with the form in place.
use Rattle.std.proofs.Common.{◌≡◌, ◌∙◌, refl, sym, subst, ℕ, List, [], ◌∷◌, ◌++◌, map}
use Rattle.go_tree.specs.declared.spans.Span.{Span}
use Rattle.go_tree.specs.File.{File}
use Rattle.go_tree.specs.FileBare.{bare_decl}
use Rattle.text_edits.specs.Applied.{applied}
use Rattle.run_rules.specs.ImportRules.Settled.{settled}
use Rattle.splice_laws.specs.ImportSplices.AddedFile.{AreWritable}
use Rattle.splice_laws.specs.ImportSplices.SettledFile.{with_settled}
use Rattle.splice_laws.proofs.ImportSplices.FormsToo.{form_settled_go}
use Rattle.splice_laws.specs.Fits.{swap_mark}
use Rattle.splice_laws.specs.Forms.{new_layout}
use Rattle.splice_laws.specs.Splice.{splice, ReadsAs}
use Rattle.run_rules.specs.Sites.{MarkRef}
use Rattle.run_rules.specs.Naming.{imports_added}
use Rattle.run_rules.specs.Texts.{FileText}
use Rattle.run_rules.specs.Steps.{At, same_here, Found, new_decls, unused_specs}
use Rattle.run_rules.specs.Run.{Standing, here_of, is_commented, edits_in}
use Rattle.run_rules.specs.Laws.{file_found}
use Rattle.run_by_steps.specs.NextPrograms.Made.{PutsForm, MakesFile}
use Rattle.run_by_steps.specs.NextPrograms.Laws.{HasFormInPlace, StepTextsAreRead}

module _ (marks : List MarkRef) (st : Standing) (f : Found At) (old : FileText) (h : PutsForm st f old) (writable : AreWritable (imports_added f.named)) where
  abbrev unused : List Span
  unused = map (λ s. here_of s.span) (unused_specs same_here (is_commented st) st.packages marks f)

  abbrev pub new_text : List ℕ
  new_text = applied old.text (edits_in marks st old f)

  abbrev new_file : File (Unit {0})
  new_file = with_settled old.text old.tokens old.comments unused (imports_added f.named) h.put

  texts : new_text ≡ applied old.text (settled old.text old.tokens old.comments (file_found f) (imports_added f.named) unused ++ splice (swap_mark h.swap) h.blank (new_layout h.indent h.dotted h.wrapped h.swap) ∷ [])
  texts = λ v. applied old.text (settled old.text old.tokens old.comments (file_found f) (imports_added f.named) unused ++ h.edit_is v ∷ [])

  pub read : ReadsAs new_text new_file
  read =
      subst (λ (t : List ℕ). ReadsAs t new_file) (sym texts)
      (form_settled_go old.text old.tokens old.comments (file_found f) h.put h.swap h.indent h.dotted h.wrapped h.blank (imports_added f.named) unused h.in_text writable)

  pub has_form : map bare_decl read.file.decls ≡ map bare_decl (new_decls same_here st.packages f.site f.form)
  has_form = (λ v. (read.same v).decls) ∙ h.decls_are

  pub text_read : (new : FileText) × (tree : File Span) × MakesFile marks st f old new tree × HasFormInPlace st f tree
  text_read = (
    record { text = new_text; tokens = read.tokens; comments = read.comments },
    read.file,
    record { text_is = refl; scans = read.of_text; spells = read.spelled },
    has_form,
  )

pub texts_read : StepTextsAreRead
texts_read marks st f old h writable = text_read marks st f old h writable
