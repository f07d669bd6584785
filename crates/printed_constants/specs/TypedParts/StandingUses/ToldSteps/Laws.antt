-- The laws of what code is told of a step over a constant. Each is the contract of a function of this crate (Go
-- specification, Constant declarations; Import declarations; Qualified identifiers).
use Rattle.std.specs.Prelude.{◌≡◌, List, Some, map}
use Rattle.std.specs.Option.{option_map, option_to_list}
use Rattle.go_tree.specs.declared.spans.Span.{Span}
use Rattle.go_tree.specs.Tree.{NameAt, Expr}
use Rattle.go_tree.specs.FileView.{file_of}
use Rattle.scope_tables.specs.Table.{table_of}
use Rattle.run_rules.specs.ImportRules.Laid.{CommentsAscend, Laid}
use Rattle.run_rules.specs.Laws.{LiesBehindImports, file_found}
use Rattle.run_rules.specs.Marks.{text_at}
use Rattle.run_rules.specs.Respanned.{decls_with, expr_with}
use Rattle.run_rules.specs.Run.{Standing, here_of, is_commented, step_in}
use Rattle.run_rules.specs.Sites.{MarkRef, Where, an_expr}
use Rattle.run_rules.specs.Steps.{At, same_here, Found, unused_specs}
use Rattle.run_rules.specs.Texts.{FileText}
use Rattle.splice_laws.specs.RunLaws.Reading.{ProgramReads}
use Rattle.constant_edits.specs.Edits.{IsStep}
use Rattle.constant_edits.specs.ConstantUse.{ConstantUse}
use Rattle.constant_edits.specs.ConstantForm.{ConstantForm}
use Rattle.constant_edits.specs.ReducedConstant.TheVariants.{Becomes}
use Rattle.constant_edits.specs.Uses.{IsUse, IsReducedTo}
use Rattle.constant_edits.specs.Views.{named_of, form_of}
use Rattle.printed_constants.specs.TypedParts.StandingUses.Laws.{AreTyped}
use Rattle.repeated_parts.specs.ImportsUnused.Told.{IsTold}
use Rattle.repeated_parts.specs.ImportsUnused.Uses.{all_parts}

-- The first use of a constant that becomes a form, of which the code is told (constant_forms' `IsUse`) and which
-- becomes this form, is told to `unused_imports`, by the file of the use as it stands, if that is typed.
abbrev pub FirstUsesAreTold : Type 0
FirstUsesAreTold =
    (marks : List MarkRef) (st : Standing) (f : Found At) → step_in marks st ≡ Some f → ProgramReads st
    → (home : Where At) (c : NameAt At) (v e : Expr At) (u : ConstantUse) (form : ConstantForm)
    → IsUse st.packages (is_commented st) f.site home c v u
    → IsReducedTo st.packages (is_commented st) marks f.site (Becomes form) → f.site.part ≡ an_expr e
    → file_of u.file.now ≡ file_found f → AreTyped marks st f form
    → IsTold marks st f u.names.now (table_of u.scopes.now) (all_parts (decls_with here_of f.site.at.source.tree.decls))
    (expr_with here_of e) form

-- The use becomes this form, in its place, with these names of packages.
pub record BecomesForm (f : Found At) (form : ConstantForm) : Type 0 where
  pub range_is : here_of f.range ≡ form.span
  pub form_is : f.form ≡ form_of f.range form
  pub named_is : f.named ≡ option_to_list (option_map named_of form.package)

-- The file's imports lie in its text as their spans say, its comments start in their order, and the use stands behind
-- the imports; so constant_edits is told of the step.
pub record MayBeEdited
    (marks : List MarkRef) (st : Standing) (f : Found At) (old : FileText) (form : ConstantForm) (unused : List Span)
    : Type 0 where
  pub laid : Laid old.text old.tokens (file_found f)
  pub ascend : CommentsAscend 0 old.comments
  pub behind : LiesBehindImports old.text old.tokens (file_found f) form.span
  pub is_step : IsStep marks st old f old.text old.tokens old.comments (file_found f) form unused

-- So it is of the first use that becomes a form, with the specs of the imports that the step leaves unused.
abbrev pub StepsMayBeEdited : Type 0
StepsMayBeEdited =
    (marks : List MarkRef) (st : Standing) (f : Found At) (old : FileText) (form : ConstantForm) (unused : List Span)
    → ProgramReads st → step_in marks st ≡ Some f → text_at f.site.at.source.path st.texts ≡ Some old
    → BecomesForm f form
    → unused ≡ map (λ s. here_of s.span) (unused_specs same_here (is_commented st) st.packages marks f)
    → MayBeEdited marks st f old form unused
