use Rattle.std.proofs.Common.{◌∙◌, ◌≤◌, ◌<◌, length, sym, ap, subst, arith}
use Rattle.go_tree.specs.declared.files.ImportDecl.{ImportDecl}
use Rattle.go_tree.specs.FileView.{import_decl_of}
use Rattle.run_rules.specs.ImportRules.Added.{is_open_group}
use Rattle.std.proofs.lemmas.Bool.Decides.{nat_tests}
use Rattle.import_edit.proofs.SettleLaws.{last_adds, last_fits}
use Rattle.import_edit.proofs.added.adds_to_group.Goals as goal

pub is_open_group-requires-clause-some : goal.is_open_group-requires-clause-some
is_open_group-requires-clause-some c =
    let ds = c.args.decls.now in
    let d = c.index-decls-decls.result in
    let lt : 0 < length ds = grind (arith, nat_tests, c.is_empty.ensures, c.if-not-is_empty.true) in
    subst (λ (x : ImportDecl). 0 < x.span.end) (sym c.index-decls-decls.is) (last_fits (length c.args.text.now) ds d lt c.requires).0

pub is_open_group-requires-clause-within : goal.is_open_group-requires-clause-within
is_open_group-requires-clause-within c =
    let ds = c.args.decls.now in
    let d = c.index-decls-decls.result in
    let lt : 0 < length ds = grind (arith, nat_tests, c.is_empty.ensures, c.if-not-is_empty.true) in
    subst (λ (x : ImportDecl). x.span.end ≤ length c.args.text.now) (sym c.index-decls-decls.is) (last_fits (length c.args.text.now) ds d lt c.requires).1

pub returns-then-not-is_empty : goal.returns-then-not-is_empty
returns-then-not-is_empty c =
    let ds = c.args.decls.now in
    let d = c.index-decls-decls.result in
    let lt : 0 < length ds = grind (arith, nat_tests, c.is_empty.ensures, c.if-not-is_empty.true) in
    c.is_open_group.ensures ∙ ap (λ x. is_open_group c.args.text.now (import_decl_of x)) c.index-decls-decls.is ∙ last_adds c.args.text.now ds d lt
