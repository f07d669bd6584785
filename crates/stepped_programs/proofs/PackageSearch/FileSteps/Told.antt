-- What constant_edits is told of a step.
use Rattle.std.proofs.Common.{◌≡◌, ◌∙◌, sym, ap, subst, ℕ, List, map, Some}
use Rattle.std.proofs.lemmas.Option.{same_Some}
use Rattle.go_tree.specs.declared.spans.Span.{Span}
use Rattle.go_tree.specs.declared.tokens.Token.{Token}
use Rattle.go_tree.specs.declared.tokens.Comment.{Comment}
use Rattle.go_tree.specs.Tree.{Expr}
use Rattle.go_tree.specs.FileView.{file_of}
use Rattle.go_scan.specs.TokenLists.{TokenLists}
use Rattle.scope_tables.specs.Table.{table_of}
use Rattle.text_edits.specs.Applied.{applied}
use Rattle.text_edits.specs.declared.edit.Edit.{Edit}
use Rattle.member_uses.specs.PossibleUses.Candidates.{Candidate}
use Rattle.run_rules.specs.Sites.{MarkRef}
use Rattle.run_rules.specs.Texts.{FileText}
use Rattle.run_rules.specs.Steps.{At, Found, same_here, unused_specs}
use Rattle.run_rules.specs.Run.{Standing, here_of, is_commented}
use Rattle.constant_forms.specs.declared.reduced.ConstantForm.{ConstantForm}
use Rattle.printed_constants.specs.Edits.{IsStep}
use Rattle.repeated_parts.specs.ImportsUnused.Uses.{all_parts}
use Rattle.repeated_parts.specs.ImportsUnused.Told.{IsTold}
use Rattle.step_files.specs.declared.file.FileFault.{FileFault}
use Rattle.step_files.specs.declared.file.FileFault.TheVariants.{TooLarge, NotRead, NoMemory}
use Rattle.step_files.specs.declared.limits.Progress.{Progress}
use Rattle.step_files.specs.Files.{IsFault}
use Rattle.repeated_parts.specs.declared.use_search.views.FileView.{FileView}
use Rattle.stepped_programs.specs.PackageSearch.FileSteps.Used.{first_at}
use Rattle.stepped_programs.specs.PackageSearch.FileSteps.Steps.{MakesUnused, IsStepOf, MakesEdits, IsStepFault}

-- the use among the parts is the one that is told
pub unused_told : (v : FileView) (parts : List (Candidate Span)) (form : ConstantForm) (specs : List Span) (y : Expr Span) → Some y ≡ first_at form.span parts
    → ((marks : List MarkRef) (st : Standing) (f : Found At) → IsTold marks st f v.names.now (table_of v.scopes.now) parts y form
    → specs ≡ map (λ s. here_of s.span) (unused_specs same_here (is_commented st) st.packages marks f))
    → MakesUnused v parts form specs
unused_told v parts form specs y n m = λ marks st f e h t.
    m marks st f (subst (λ (z : Expr Span). IsTold marks st f v.names.now (table_of v.scopes.now) parts z form) (same_Some e y (sym h ∙ sym n)) t)

module _ (v : FileView) (text : List ℕ) (tokens : TokenLists) (form : ConstantForm) where
  -- the step with the specs that it leaves unused
  pub told : (marks : List MarkRef) (st : Standing) (t : FileText) (f : Found At) (items : List Token) (comments : List Comment) (parts : List (Candidate Span)) (unused specs : List Span)
      → items ≡ tokens.items → comments ≡ tokens.comments → parts ≡ all_parts (file_of v.tree.now).decls → unused ≡ specs → MakesUnused v parts form specs
      → IsStepOf marks st t f v text tokens form → IsStep marks st t f text items comments (file_of v.tree.now) form unused
  told marks st t f items comments parts unused specs i k p u m s =
      record {
        text_is = s.text_is ∙ (λ w. record { text = text; tokens = sym i w; comments = sym k w });
        file_is = s.file_is;
        range_is = s.range_is;
        form_is = s.form_is;
        named_is = s.named_is;
        level_fits = s.level_fits;
        unused_is =
            u
            ∙ m marks st f s.use_ (ap (first_at form.span) p ∙ s.use_is)
            (subst (λ (xs : List (Candidate Span)). IsTold marks st f v.names.now (table_of v.scopes.now) xs s.use_ form) (sym p) s.told);
      }

  -- why there is no file
  pub fault_told : (progress : Progress) (es : List Edit) → MakesEdits v text tokens form es → (fault : FileFault) → IsFault progress (applied text es) fault → IsStepFault v text tokens form progress fault
  fault_told progress es m (TooLarge p) h = (es, (m, h))
  fault_told progress es m NotRead h = (es, (m, h))
  fault_told progress es m NoMemory h = tt
