use Rattle.std.proofs.Common.{◌≡◌, ◌∙◌, sym, ap, subst, List, [], ◌∷◌, ◌++◌, length}
use Rattle.go_tree.specs.FileView.{file_of}
use Rattle.text_edits.specs.declared.edit.Edit.{Edit}
use Rattle.text_edits.specs.Applied.{Within}
use Rattle.text_edits.specs.Order.{InOrder}
use Rattle.run_rules.specs.declared.import_rules.new_import.NewImport.{NewImport}
use Rattle.run_rules.specs.ImportRules.Settled.{settled}
use Rattle.constant_edits.specs.Edits.{added_by, edit_told}
use Rattle.constant_edits.proofs.Steps.{step_in_order, step_within, step_is}
use Rattle.constant_edits.proofs.edits.step_edits.Goals as goal

pub push-requires : goal.push-requires
push-requires c =
    let a = c.args in
    let file = file_of a.file.now in
    let added = added_by a.form.now in
    let edit = edit_told a.tokens.now a.form.now in
    let settling = λ (l : List NewImport). settled a.text.now a.tokens.now a.comments.now file l a.unused.now in
    let es : c.in_ok-edits.edits ≡ settling added = c.in_ok-edits.ensures ∙ ap settling (c.deref.ensures.value ∙ c.in_ok-added.ensures) in
    subst (λ (l : List Edit). InOrder l) (sym (λ w. es w ++ c.in_ok-edit.ensures w ∷ []))
    (step_in_order a.text.now a.tokens.now a.comments.now file added a.unused.now edit c.requires.laid c.requires.behind c.requires.some)

pub returns-clause-edits : goal.returns-clause-edits
returns-clause-edits c =
    let a = c.args in
    let file = file_of a.file.now in
    let added = added_by a.form.now in
    let settling = λ (l : List NewImport). settled a.text.now a.tokens.now a.comments.now file l a.unused.now in
    let es : c.in_ok-edits.edits ≡ settling added = c.in_ok-edits.ensures ∙ ap settling (c.deref.ensures.value ∙ c.in_ok-added.ensures) in
    λ marks st t f h.
    c.in_ok-push.ensures.added ∙ (λ w. es w ++ c.in_ok-edit.ensures w ∷ [])
    ∙ step_is a.text.now a.tokens.now a.comments.now file a.form.now a.unused.now marks st t f h

pub returns-clause-within : goal.returns-clause-within
returns-clause-within c =
    let a = c.args in
    let file = file_of a.file.now in
    let added = added_by a.form.now in
    let edit = edit_told a.tokens.now a.form.now in
    let settling = λ (l : List NewImport). settled a.text.now a.tokens.now a.comments.now file l a.unused.now in
    let es : c.in_ok-edits.edits ≡ settling added = c.in_ok-edits.ensures ∙ ap settling (c.deref.ensures.value ∙ c.in_ok-added.ensures) in
    subst (λ (l : List Edit). Within (length a.text.now) l) (sym (c.in_ok-push.ensures.added ∙ (λ w. es w ++ c.in_ok-edit.ensures w ∷ [])))
    (step_within a.text.now a.tokens.now a.comments.now file added a.unused.now edit c.requires.laid c.requires.behind)
