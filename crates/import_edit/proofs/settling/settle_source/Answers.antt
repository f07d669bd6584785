use Rattle.std.proofs.Common.{◌≡◌, false, ◌∙◌, List, map, sym, ap, subst, arith, length}
use Rattle.go_tree.specs.declared.files.ImportDecl as tree
use Rattle.go_tree.specs.FileView.{import_decl_of, file_of}
use Rattle.text_edits.specs.declared.edit.Edit.{Edit}
use Rattle.text_edits.specs.Order.{InOrder}
use Rattle.run_rules.specs.ImportRules.Removed.{ranges}
use Rattle.run_rules.specs.ImportRules.Settled.{removal, settled}
use Rattle.run_rules.proofs.ImportRules.SettledOrder.{settled_in_order}
use Rattle.import_edit.specs.Walks.{DeclsFit}
use Rattle.import_edit.proofs.WalkLaws.{decls_fit}
use Rattle.import_edit.proofs.SettleLaws.{none_made}
use Rattle.std.proofs.lemmas.Bool.Decides.{nat_tests}
use Rattle.import_edit.proofs.settling.settle_source.Goals as goal

pub removed_ranges-requires-clause-fit : goal.removed_ranges-requires-clause-fit
removed_ranges-requires-clause-fit c =
    let s = c.args.source.now in
    let file = file_of c.args.file.now in
    subst (λ (ds : List tree.ImportDecl). DeclsFit s 0 (map import_decl_of ds)) (sym c.items.ensures)
    (decls_fit s 0 file.package_name.span.end file.imports c.requires.laid.order (omega arith) c.requires.laid.imports)

pub removals-requires : goal.removals-requires
removals-requires c =
    let s = c.args.source.now in
    let file = file_of c.args.file.now in
    let none : length c.args.added.now ≡ 0 = grind (arith, nat_tests, c.is_empty.ensures, c.if-is_empty.true) in
    let made : map removal c.deref.result.now ≡ settled s.text.now s.tokens.now s.comments.now file c.args.added.now s.unused.now =
    none_made s.text.now s.tokens.now s.comments.now file c.args.added.now s.unused.now c.requires.laid c.deref.result.now none
    (c.deref.ensures.value ∙ c.in_ok-ranges.ensures ∙ ap (ranges s.text.now s.tokens.now s.comments.now s.unused.now false) (ap (map import_decl_of) c.items.ensures)) in
    subst (λ (es : List Edit). InOrder es) (sym made) (settled_in_order s.text.now s.tokens.now s.comments.now file c.args.added.now s.unused.now c.requires.laid)
