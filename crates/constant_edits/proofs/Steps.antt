-- The edits of a step stand in order, and are those that the rules say.
use Rattle.std.proofs.Common.{◌≡◌, ◌∙◌, refl, sym, ap, ℕ, ◌≤◌, ◌<◌, List, [], ◌∷◌, ◌++◌, length, Option, Some, None, arith}
use Rattle.std.specs.Option.{option_map, option_to_list}
use Rattle.go_tree.specs.declared.spans.Span.{Span}
use Rattle.go_tree.specs.declared.tokens.Token.{Token}
use Rattle.go_tree.specs.declared.tokens.Comment.{Comment}
use Rattle.go_tree.specs.File.{File}
use Rattle.text_edits.specs.declared.edit.Edit.{Edit}
use Rattle.text_edits.specs.Applied.{Ascend, Within}
use Rattle.text_edits.specs.Order.{InOrder, PrecedesEach}
use Rattle.run_rules.specs.declared.import_rules.new_import.NewImport.{NewImport}
use Rattle.run_rules.specs.ImportRules.Laid.{Laid}
use Rattle.run_rules.specs.ImportRules.Settled.{settled}
use Rattle.run_rules.proofs.ImportRules.SettledOrder.{settled_in_order}
use Rattle.run_rules.specs.Sites.{MarkRef}
use Rattle.run_rules.specs.Naming.{imports_added}
use Rattle.run_rules.specs.Texts.{FileText, form_edit}
use Rattle.run_rules.specs.Steps.{At, Found}
use Rattle.run_rules.specs.Run.{Standing, edits_in, here_of}
use Rattle.run_rules.specs.Laws.{LiesBehindImports}
use Rattle.run_rules.proofs.EditsApart.{settled_then_one}
use Rattle.constant_forms.specs.declared.packages.NamedPackage.{NamedPackage}
use Rattle.constant_forms.specs.declared.reduced.ConstantForm.{ConstantForm}
use Rattle.constant_forms.specs.Views.{named_of}
use Rattle.constant_edits.specs.Edits.{added_by, edit_told, IsStep}
use Rattle.constant_edits.proofs.Forms.{edited}

-- ---- edits, and one behind them

reaches : (from size : ℕ) (es : List Edit) (e : Edit) → Ascend from size (es ++ e ∷ []) → from ≤ e.span.start
reaches from size [] e a = a.0
reaches from size (f ∷ es) e a = let k : f.span.end ≤ e.span.start = reaches f.span.end size es e a.3 in omega (arith, k, a.0, a.1)

precedes : (f e : Edit) (es : List Edit) → PrecedesEach f.span es → f.span.end ≤ e.span.start → f.span.start < e.span.end → PrecedesEach f.span (es ++ e ∷ [])
precedes f e [] p a b = ((a, b), tt)
precedes f e (g ∷ es) p a b = (p.0, precedes f e es p.1 a b)

then_one : (from size : ℕ) (es : List Edit) (e : Edit) → InOrder es → Ascend from size (es ++ e ∷ []) → e.span.start < e.span.end → InOrder (es ++ e ∷ [])
then_one from size [] e o a s = (a.1, tt, tt)
then_one from size (f ∷ es) e o a s =
    let k : f.span.end ≤ e.span.start = reaches f.span.end size es e a.3 in
    (a.1, precedes f e es o.1 k (omega (arith, k, a.1, s)), then_one f.span.end size es e o.2 a.3 s)

pub step_in_order : (text : List ℕ) (tokens : List Token) (comments : List Comment) (file : File Span) (added : List NewImport) (unused : List Span) (e : Edit)
    → Laid text tokens file → LiesBehindImports text tokens file e.span → e.span.start < e.span.end → InOrder (settled text tokens comments file added unused ++ e ∷ [])
step_in_order text tokens comments file added unused e laid lies s =
    then_one 0 (length text) (settled text tokens comments file added unused) e (settled_in_order text tokens comments file added unused laid)
    (settled_then_one text tokens comments file added unused e laid lies) s

step_ends : (from size : ℕ) (es : List Edit) → Ascend from size es → Within size es
step_ends from size [] a = tt
step_ends from size (e ∷ es) a = (a.2, step_ends e.span.end size es a.3)

pub step_within : (text : List ℕ) (tokens : List Token) (comments : List Comment) (file : File Span) (added : List NewImport) (unused : List Span) (e : Edit)
    → Laid text tokens file → LiesBehindImports text tokens file e.span → Within (length text) (settled text tokens comments file added unused ++ e ∷ [])
step_within text tokens comments file added unused e laid lies =
    step_ends 0 (length text) (settled text tokens comments file added unused ++ e ∷ []) (settled_then_one text tokens comments file added unused e laid lies)

-- ---- those of the step

added_is : (p : Option NamedPackage) → elim p [ None ↦ [] | Some p ↦ option_to_list p.added ] ≡ imports_added (option_to_list (option_map named_of p))
added_is None = refl
added_is (Some p) = by p.added
  where
    by : (o : Option NewImport) → option_to_list o ≡ elim o [ None ↦ [] | Some i ↦ i ∷ [] ]
    by None = refl
    by (Some i) = refl

pub step_is : (text : List ℕ) (tokens : List Token) (comments : List Comment) (file : File Span) (form : ConstantForm) (unused : List Span) (marks : List MarkRef) (st : Standing) (t : FileText) (f : Found At)
    → IsStep marks st t f text tokens comments file form unused → settled text tokens comments file (added_by form) unused ++ edit_told tokens form ∷ [] ≡ edits_in marks st t f
step_is text tokens comments file form unused marks st t f h =
    λ w. settled (sym h.text_is w).text (sym h.text_is w).tokens (sym h.text_is w).comments (h.file_is w) (added w) (h.unused_is w) ++ edit w ∷ []
  where
    added : added_by form ≡ imports_added f.named
    added = added_is form.package ∙ ap imports_added (sym h.named_is)

    edit : edit_told tokens form ≡ form_edit t f.range (here_of f.range) f.site.place.slot f.form
    edit =
        edited t f.range f.site.place.slot form h.level_fits tokens (ap (λ (x : FileText). x.tokens) h.text_is)
        ∙ (λ w. form_edit t f.range (sym h.range_is w) f.site.place.slot (sym h.form_is w))
