use Rattle.std.proofs.Common.{◌∙◌, ap}
use Rattle.go_tree.specs.FileView.{file_of}
use Rattle.scope_tables.specs.Table.{table_of}
use Rattle.import_edit.specs.Serving.{serving_at}
use Rattle.import_edit.proofs.NeedSteps.{is_there, is_added}
use Rattle.import_edit.proofs.needs.need.Goals as goal

pub returns-in_ok-copied-in-Some : goal.returns-in_ok-copied-in-Some
returns-in_ok-copied-in-Some c =
    let a = c.args in
    let t = table_of a.scopes.now in
    is_there a.names.now (file_of a.file.now) t a.at a.bound.now a.path.now a.base.now c.in-Some.name.now c.requires c.in_ok-copied-in-Some.field-0
    (c.in_ok-copied-in-Some.ensures ∙ c.items-in-Some.ensures)
    (c.in-Some.ensures ∙ ap (λ l. serving_at t a.at a.bound.now c.items-2.result.now 0 l) c.items.ensures ∙ ap (λ p. serving_at t a.at a.bound.now p 0 a.names.now.imports) c.items-2.ensures)

pub returns-in_ok-fresh-in-None : goal.returns-in_ok-fresh-in-None
returns-in_ok-fresh-in-None c =
    let a = c.args in
    let t = table_of a.scopes.now in
    is_added a.names.now (file_of a.file.now) t a.at a.bound.now a.path.now a.base.now c.in_ok-fresh-in-None.field-0 c.requires c.in_ok-avoided-in-None.field-0
    (c.in-None.ensures ∙ ap (λ l. serving_at t a.at a.bound.now c.items-2.result.now 0 l) c.items.ensures ∙ ap (λ p. serving_at t a.at a.bound.now p 0 a.names.now.imports) c.items-2.ensures)
    c.in_ok-avoided-in-None.ensures c.in_ok-fresh-in-None.ensures
