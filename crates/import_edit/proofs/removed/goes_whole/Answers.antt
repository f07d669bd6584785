use Rattle.std.proofs.Common.{◌≡◌, ◌∙◌, true, false, not, ◌&&◌, sym, ap}
use Rattle.std.specs.List.{list_all}
use Rattle.go_tree.specs.FileView.{import_decl_of}
use Rattle.run_rules.specs.ImportRules.Removed.{goes, has_specs, comment_within}
use Rattle.import_edit.specs.Walks.{is_unused}
use Rattle.import_edit.proofs.WalkLaws.{and_behind}
use Rattle.import_edit.proofs.removed.goes_whole.Goals as goal

pub returns-then-is_unused-clause-is : goal.returns-then-is_unused-clause-is
returns-then-is_unused-clause-is c =
    let source = c.args.source.now in
    let d = import_decl_of c.args.decl.now in
    let here : is_unused source d c.args.grows ≡ true = sym c.is_unused.ensures ∙ c.if-is_unused.true in
    ap not c.next_comment_within.ensures.is ∙ ap (λ b. b && not (comment_within source.comments.now d.span)) (sym here)
    ∙ and_behind d.grouped (not c.args.grows) (has_specs source.text.now source.tokens.now source.comments.now source.unused.now d.specs)
    (list_all (goes source.text.now source.tokens.now source.comments.now source.unused.now) d.specs) (not (comment_within source.comments.now d.span))

pub returns-else-is_unused-clause-is : goal.returns-else-is_unused-clause-is
returns-else-is_unused-clause-is c =
    let source = c.args.source.now in
    let d = import_decl_of c.args.decl.now in
    let here : is_unused source d c.args.grows ≡ false = sym c.is_unused.ensures ∙ c.if-is_unused.false in
    ap (λ b. b && not (comment_within source.comments.now d.span)) (sym here)
    ∙ and_behind d.grouped (not c.args.grows) (has_specs source.text.now source.tokens.now source.comments.now source.unused.now d.specs)
    (list_all (goes source.text.now source.tokens.now source.comments.now source.unused.now) d.specs) (not (comment_within source.comments.now d.span))
