-- The edits of a step over a use of a constant, by what the code is told of it (Go specification, Tokens; Import
-- declarations; Qualified identifiers).
use Rattle.std.specs.Prelude.{◌≡◌, ℕ, ◌≤◌, List, [], ◌++◌, map, Some, None, if◌then◌else◌}
use Rattle.std.specs.Prelude.{codes}
use Rattle.std.specs.Option.{option_map, option_to_list}
use Rattle.go_tree.specs.declared.spans.Span.{Span}
use Rattle.go_tree.specs.declared.tokens.Token.{Token}
use Rattle.go_tree.specs.declared.tokens.Comment.{Comment}
use Rattle.go_tree.specs.File.{File}
use Rattle.text_edits.specs.declared.edit.Edit.{Edit}
use Rattle.run_rules.specs.declared.import_rules.new_import.NewImport.{NewImport}
use Rattle.run_rules.specs.Surroundings.{Slot}
use Rattle.run_rules.specs.Sites.{MarkRef}
use Rattle.run_rules.specs.Texts.{FileText, needs_blank, spelling_before, form_edit}
use Rattle.run_rules.specs.Steps.{At, same_here, Found, unused_specs}
use Rattle.run_rules.specs.Run.{Standing, here_of, is_commented}
use Rattle.run_rules.specs.Laws.{file_found}
use Rattle.constant_forms.specs.declared.reduced.ConstantForm.{ConstantForm}
use Rattle.constant_forms.specs.Views.{named_of, form_of}

-- the first word of a form
abbrev pub first_word : ConstantForm → List ℕ
first_word f = elim f.package [ None ↦ f.name | Some p ↦ p.name ]

-- its text
abbrev pub name_text : ConstantForm → List ℕ
name_text f = elim f.package [ None ↦ f.name | Some p ↦ p.name ++ (codes "." ++ f.name) ]

-- the blank before it, in a text with these tokens
abbrev pub blank_told : List Token → ConstantForm → List ℕ
blank_told tokens f =
    if needs_blank (spelling_before f.span.start tokens) (Some (first_word f)) then codes " " else []

-- the edit that writes it there
abbrev pub edit_told : List Token → ConstantForm → Edit
edit_told tokens f =
    record {
      span = f.span;
      text = blank_told tokens f ++ name_text f;
    }

-- the import that it adds
abbrev pub added_by : ConstantForm → List NewImport
added_by f = elim f.package [ None ↦ [] | Some p ↦ option_to_list p.added ]

-- It is the edit of the form in a slot of a file with this text.
abbrev pub IsFormEdit : FileText → At → Slot → ConstantForm → Edit → Type 0
IsFormEdit t z slot f e = e ≡ form_edit t z f.span slot (form_of z f)

-- The code is told of this step: the text of the file, the form that the use becomes where it stands, with the names of
-- packages, and the specs that aren't used any more. (No place asks for parentheses around a name.)
pub record IsStep
    (marks : List MarkRef) (st : Standing) (t : FileText) (f : Found At) (text : List ℕ) (tokens : List Token)
    (comments : List Comment) (file : File Span) (form : ConstantForm) (unused : List Span) : Type 0 where
  pub text_is : t ≡ record { text = text; tokens = tokens; comments = comments }
  pub file_is : file ≡ file_found f
  pub range_is : here_of f.range ≡ form.span
  pub form_is : f.form ≡ form_of f.range form
  pub named_is : f.named ≡ option_to_list (option_map named_of form.package)
  pub level_fits : f.site.place.slot.level ≤ 7
  pub unused_is : unused ≡ map (λ s. here_of s.span) (unused_specs same_here (is_commented st) st.packages marks f)
