use Rattle.std.proofs.Common.{◌≡◌, ◌∙◌, ◌++◌, [], ◌∷◌, List, map, sym, ap, subst, arith, length}
use Rattle.go_tree.specs.declared.files.ImportDecl as tree
use Rattle.go_tree.specs.FileView.{import_decl_of, file_of}
use Rattle.text_edits.specs.declared.edit.Edit.{Edit}
use Rattle.text_edits.specs.Order.{InOrder}
use Rattle.run_rules.specs.ImportRules.Removed.{ranges}
use Rattle.run_rules.specs.ImportRules.Added.{adds_to_group, last_closing}
use Rattle.run_rules.specs.ImportRules.Settled.{removal, settled, insertion}
use Rattle.run_rules.proofs.ImportRules.SettledOrder.{settled_in_order}
use Rattle.import_edit.specs.Fronts.{LastFits, addition_before}
use Rattle.import_edit.specs.Order.{imports_of}
use Rattle.import_edit.specs.Walks.{DeclsFit}
use Rattle.import_edit.proofs.WalkLaws.{decls_fit}
use Rattle.import_edit.proofs.SettleLaws.{grown_made, fronted_made, lasts_fit}
use Rattle.import_edit.proofs.settling.settle_added.Goals as goal

pub adds_to_group-grows-requires : goal.adds_to_group-grows-requires
adds_to_group-grows-requires c =
    let s = c.args.source.now in
    let file = file_of c.args.file.now in
    subst (λ (ds : List tree.ImportDecl). LastFits (length s.text.now) (map import_decl_of ds)) (sym c.items-decls.ensures)
    (lasts_fit s.text.now s.tokens.now file.package_name.span.end file.imports c.requires.laid.imports)

pub removed_ranges-requires-clause-fit : goal.removed_ranges-requires-clause-fit
removed_ranges-requires-clause-fit c =
    let s = c.args.source.now in
    let file = file_of c.args.file.now in
    subst (λ (ds : List tree.ImportDecl). DeclsFit s 0 (map import_decl_of ds)) (sym c.items-decls.ensures)
    (decls_fit s 0 file.package_name.span.end file.imports c.requires.laid.order (omega arith) c.requires.laid.imports)

pub last_closing-requires : goal.last_closing-requires
last_closing-requires c =
    let s = c.args.source.now in
    let file = file_of c.args.file.now in
    subst (λ (ds : List tree.ImportDecl). LastFits (length s.text.now) (map import_decl_of ds)) (sym c.items-decls.ensures)
    (lasts_fit s.text.now s.tokens.now file.package_name.span.end file.imports c.requires.laid.imports)

pub removals_and_one-requires : goal.removals_and_one-requires
removals_and_one-requires c =
    let s = c.args.source.now in
    let file = file_of c.args.file.now in
    let decls : map import_decl_of c.items-decls.result.now ≡ file.imports = ap (map import_decl_of) c.items-decls.ensures in
    let made : map removal c.deref-then-grows.result.now ++ c.in_ok-last.last ∷ [] ≡ settled s.text.now s.tokens.now s.comments.now file c.args.added.now s.unused.now =
    grown_made s.text.now s.tokens.now s.comments.now file c.args.added.now s.unused.now c.requires.laid c.deref-then-grows.result.now c.in_ok-last.last c.last_closing.result
    (imports_of c.deref.result.now) c.adds_to_group-grows.result c.requires.some (c.adds_to_group-grows.ensures ∙ ap (adds_to_group s.text.now) decls) c.if-grows.true
    (c.deref-then-grows.ensures.value ∙ c.in_ok-ranges.ensures ∙ ap (ranges s.text.now s.tokens.now s.comments.now s.unused.now c.adds_to_group-grows.result) decls)
    (c.last_closing.ensures ∙ ap last_closing decls) (ap imports_of c.deref.ensures.value ∙ c.in_ok-added.ensures) c.in_ok-last.ensures in
    subst (λ (es : List Edit). InOrder es) (sym made) (settled_in_order s.text.now s.tokens.now s.comments.now file c.args.added.now s.unused.now c.requires.laid)

pub returns-then-grows : goal.returns-then-grows
returns-then-grows c =
    let s = c.args.source.now in
    let file = file_of c.args.file.now in
    let decls : map import_decl_of c.items-decls.result.now ≡ file.imports = ap (map import_decl_of) c.items-decls.ensures in
    let made : map removal c.deref-then-grows.result.now ++ c.in_ok-last.last ∷ [] ≡ settled s.text.now s.tokens.now s.comments.now file c.args.added.now s.unused.now =
    grown_made s.text.now s.tokens.now s.comments.now file c.args.added.now s.unused.now c.requires.laid c.deref-then-grows.result.now c.in_ok-last.last c.last_closing.result
    (imports_of c.deref.result.now) c.adds_to_group-grows.result c.requires.some (c.adds_to_group-grows.ensures ∙ ap (adds_to_group s.text.now) decls) c.if-grows.true
    (c.deref-then-grows.ensures.value ∙ c.in_ok-ranges.ensures ∙ ap (ranges s.text.now s.tokens.now s.comments.now s.unused.now c.adds_to_group-grows.result) decls)
    (c.last_closing.ensures ∙ ap last_closing decls) (ap imports_of c.deref.ensures.value ∙ c.in_ok-added.ensures) c.in_ok-last.ensures in
    c.in_ok-edits.ensures ∙ made

pub one_and_removals-requires : goal.one_and_removals-requires
one_and_removals-requires c =
    let s = c.args.source.now in
    let file = file_of c.args.file.now in
    let decls : map import_decl_of c.items-decls.result.now ≡ file.imports = ap (map import_decl_of) c.items-decls.ensures in
    let rs : c.deref-else-grows.result.now ≡ c.deref-else-grows-3.result.now = c.deref-else-grows.ensures.value ∙ sym c.deref-else-grows-3.ensures.value in
    let made : c.in_ok-first.first ∷ map removal c.deref-else-grows-3.result.now ≡ settled s.text.now s.tokens.now s.comments.now file c.args.added.now s.unused.now =
    fronted_made s.text.now s.tokens.now s.comments.now file c.args.added.now s.unused.now c.requires.laid c.deref-else-grows-3.result.now c.in_ok-first.first
    (imports_of c.deref-else-grows-2.result.now) c.adds_to_group-grows.result c.requires.some (c.adds_to_group-grows.ensures ∙ ap (adds_to_group s.text.now) decls) c.if-grows.false
    (c.deref-else-grows-3.ensures.value ∙ c.in_ok-ranges.ensures ∙ ap (ranges s.text.now s.tokens.now s.comments.now s.unused.now c.adds_to_group-grows.result) decls)
    (ap imports_of c.deref-else-grows-2.ensures.value ∙ c.in_ok-added.ensures)
    (c.in_ok-first.ensures ∙ ap (λ r. insertion (addition_before file.package_name.span.end file.imports r (imports_of c.deref-else-grows-2.result.now))) rs) in
    subst (λ (es : List Edit). InOrder es) (sym made) (settled_in_order s.text.now s.tokens.now s.comments.now file c.args.added.now s.unused.now c.requires.laid)

pub returns : goal.returns
returns c =
    let s = c.args.source.now in
    let file = file_of c.args.file.now in
    let decls : map import_decl_of c.items-decls.result.now ≡ file.imports = ap (map import_decl_of) c.items-decls.ensures in
    let rs : c.deref-else-grows.result.now ≡ c.deref-else-grows-3.result.now = c.deref-else-grows.ensures.value ∙ sym c.deref-else-grows-3.ensures.value in
    let made : c.in_ok-first.first ∷ map removal c.deref-else-grows-3.result.now ≡ settled s.text.now s.tokens.now s.comments.now file c.args.added.now s.unused.now =
    fronted_made s.text.now s.tokens.now s.comments.now file c.args.added.now s.unused.now c.requires.laid c.deref-else-grows-3.result.now c.in_ok-first.first
    (imports_of c.deref-else-grows-2.result.now) c.adds_to_group-grows.result c.requires.some (c.adds_to_group-grows.ensures ∙ ap (adds_to_group s.text.now) decls) c.if-grows.false
    (c.deref-else-grows-3.ensures.value ∙ c.in_ok-ranges.ensures ∙ ap (ranges s.text.now s.tokens.now s.comments.now s.unused.now c.adds_to_group-grows.result) decls)
    (ap imports_of c.deref-else-grows-2.ensures.value ∙ c.in_ok-added.ensures)
    (c.in_ok-first.ensures ∙ ap (λ r. insertion (addition_before file.package_name.span.end file.imports r (imports_of c.deref-else-grows-2.result.now))) rs) in
    c.in_ok-edits-2.ensures ∙ made
