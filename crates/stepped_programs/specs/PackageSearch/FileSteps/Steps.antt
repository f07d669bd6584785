-- The edits of a step over a use of a constant and the file that they make, by what the code is told of the step (Go
-- specification, Constant declarations; Import declarations; Source file organization).
use Rattle.std.specs.Prelude.{◌≡◌, ⊤, ℕ, ◌≤◌, List, map, Some}
use Rattle.std.specs.Option.{option_map, option_to_list}
use Rattle.go_tree.specs.declared.spans.Span.{Span}
use Rattle.go_tree.specs.Tree.{Expr}
use Rattle.go_tree.specs.FileView.{file_of}
use Rattle.go_scan.specs.TokenLists.{TokenLists}
use Rattle.scope_tables.specs.Table.{table_of}
use Rattle.text_edits.specs.declared.edit.Edit.{Edit}
use Rattle.text_edits.specs.Applied.{applied}
use Rattle.member_uses.specs.PossibleUses.Candidates.{Candidate}
use Rattle.run_rules.specs.Sites.{MarkRef}
use Rattle.run_rules.specs.Texts.{FileText}
use Rattle.run_rules.specs.Steps.{At, Found, same_here, unused_specs}
use Rattle.run_rules.specs.Run.{Standing, edits_in, here_of, is_commented}
use Rattle.run_rules.specs.Laws.{file_found}
use Rattle.constant_forms.specs.declared.reduced.ConstantForm.{ConstantForm}
use Rattle.constant_forms.specs.Views.{named_of, form_of}
use Rattle.repeated_parts.specs.ImportsUnused.Uses.{all_parts}
use Rattle.repeated_parts.specs.ImportsUnused.Told.{IsTold}
use Rattle.step_files.specs.declared.file.FileFault.{FileFault}
use Rattle.step_files.specs.declared.file.FileFault.TheVariants.{NoMemory}
use Rattle.step_files.specs.declared.limits.Progress.{Progress}
use Rattle.step_files.specs.Files.{IsFault}
use Rattle.repeated_parts.specs.declared.use_search.views.FileView.{FileView}
use Rattle.stepped_programs.specs.PackageSearch.FileSteps.Used.{first_at}

-- These are the specs that the step leaves unused, where the use is one of the parts and the code is told what they
-- use.
abbrev pub MakesUnused : FileView → List (Candidate Span) → ConstantForm → List Span → Type 0
MakesUnused v parts form specs =
    (marks : List MarkRef) (st : Standing) (f : Found At) (e : Expr Span) → first_at form.span parts ≡ Some e
    → IsTold marks st f v.names.now (table_of v.scopes.now) parts e form
    → specs ≡ map (λ s. here_of s.span) (unused_specs same_here (is_commented st) st.packages marks f)

-- The code is told of this step: the file of the use with its text, the form that the use becomes where it stands, with
-- the names of packages, which of its parts the use is, and what the parts use of imports. (No place asks for
-- parentheses around a name.)
pub record IsStepOf
    (marks : List MarkRef) (st : Standing) (t : FileText) (f : Found At) (v : FileView) (text : List ℕ)
    (tokens : TokenLists) (form : ConstantForm) : Type 0 where
  pub text_is : t ≡ record { text = text; tokens = tokens.items; comments = tokens.comments }
  pub file_is : file_of v.tree.now ≡ file_found f
  pub range_is : here_of f.range ≡ form.span
  pub form_is : f.form ≡ form_of f.range form
  pub named_is : f.named ≡ option_to_list (option_map named_of form.package)
  pub level_fits : f.site.place.slot.level ≤ 7
  pub use_ : Expr Span
  pub use_is : first_at form.span (all_parts (file_of v.tree.now).decls) ≡ Some use_
  pub told : IsTold marks st f v.names.now (table_of v.scopes.now) (all_parts (file_of v.tree.now).decls) use_ form

-- These are the edits of the step.
abbrev pub MakesEdits : FileView → List ℕ → TokenLists → ConstantForm → List Edit → Type 0
MakesEdits v text tokens form es =
    (marks : List MarkRef) (st : Standing) (t : FileText) (f : Found At)
    → IsStepOf marks st t f v text tokens form → es ≡ edits_in marks st t f

-- Why a step of a run that has come so far leaves no file: its new text passes a limit, or isn't read. Want of memory
-- says nothing of it.
abbrev pub IsStepFault : FileView → List ℕ → TokenLists → ConstantForm → Progress → FileFault → Type 0
IsStepFault v text tokens form progress NoMemory = ⊤
IsStepFault v text tokens form progress fault =
    (es : List Edit) × (MakesEdits v text tokens form es × IsFault progress (applied text es) fault)
