use Rattle.std.proofs.Common.{Bool, cond, Some, None, sym, ap, ◌∙◌}
use Rattle.go_tree.specs.GoWords.Codes.{spelled}
use Rattle.go_tree.proofs.GoWords.RowLemmas.{row_some, row_none}
use Rattle.go_tree.proofs.go_words.terminals.row_at.Goals as goal

pub returns-then-eq : goal.returns-then-eq
returns-then-eq c =
    let word = c.args.word.now in let row = c.in-Some.field-0.now in
    sym (row_some (λ x. (x.0.now, spelled x.1 word)) word c.args.table.now c.args.at _ row c.in-Some.ensures.lookup.0 c.in-Some.ensures.lookup.1
    ∙ ap (λ (b : Bool). cond b (Some (spelled row.1 word)) None) (sym c.eq.ensures ∙ c.if-eq.true))

pub returns-else-eq : goal.returns-else-eq
returns-else-eq c =
    let word = c.args.word.now in let row = c.in-Some.field-0.now in
    sym (row_some (λ x. (x.0.now, spelled x.1 word)) word c.args.table.now c.args.at _ row c.in-Some.ensures.lookup.0 c.in-Some.ensures.lookup.1
    ∙ ap (λ (b : Bool). cond b (Some (spelled row.1 word)) None) (sym c.eq.ensures ∙ c.if-eq.false))

pub returns-in-None : goal.returns-in-None
returns-in-None c =
    let word = c.args.word.now in
    sym (row_none (λ x. (x.0.now, spelled x.1 word)) word c.args.table.now c.args.at c.in-None.ensures.lookup.0)
