use Rattle.std.proofs.Common.{◌∙◌, ◌+◌, ap, arith}
use Rattle.std.proofs.lemmas.List.{take_rest}
use Rattle.run_rules.specs.ImportRules.Removed.{through_semicolon}
use Rattle.import_edit.specs.Cursors.{TokensServe}
use Rattle.import_edit.proofs.CursorLaws.{tokens_serve}
use Rattle.import_edit.proofs.cursors.next_semicolon.Goals as goal

pub returns-clause-serve : goal.returns-clause-serve
returns-clause-serve c =
    tokens_serve c.args.tokens.now c.args.cursor.now c.args.at c.tokens_before-passed.result c.requires c.tokens_before-passed.ensures.count c.tokens_before-passed.ensures.within

pub returns-clause-end : goal.returns-clause-end
returns-clause-end c =
    let next = c.args.cursor.now + c.tokens_before-passed.result in
    let h : TokensServe c.args.tokens.now next c.args.at =
    tokens_serve c.args.tokens.now c.args.cursor.now c.args.at c.tokens_before-passed.result c.requires c.tokens_before-passed.ensures.count c.tokens_before-passed.ensures.within in
    c.through_semicolon.ensures ∙ ap (λ r. through_semicolon r c.args.at) (take_rest c.args.tokens.now next) ∙ h.alike c.args.at (omega arith)
