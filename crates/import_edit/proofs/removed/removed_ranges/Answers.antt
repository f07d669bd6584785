use Rattle.std.proofs.Common.{◌≡◌, ◌∙◌, ◌<◌, ◌+◌, ◌∷◌, ◌++◌, ◌&&◌, List, length, drop, map, sym, ap, subst, arith}
use Rattle.std.proofs.lemmas.List.{drop_more}
use Rattle.go_tree.specs.declared.files.ImportDecl.{ImportDecl}
use Rattle.go_tree.specs.FileView.{import_decl_of}
use Rattle.run_rules.specs.ImportRules.Removed.{ranges}
use Rattle.import_edit.specs.Walks.{DeclsLeft}
use Rattle.import_edit.proofs.WalkLaws.{decl_serves, decls_next, decl_added, last_is}
use Rattle.import_edit.proofs.removed.removed_ranges.Goals as goal

pub loop-i-preserved : goal.loop-i-preserved
loop-i-preserved c =
    let source = c.args.source.now in
    let items = c.args.decls.now in
    let i = c.loop-i.i in
    let d = c.index-decls-i.result in
    let grows = c.args.grows in
    let rest = map import_decl_of (drop (i + 1) items) in
    let lt : i < length items = omega arith in
    let split : drop i items ≡ d ∷ drop (i + 1) items = drop_more items i d lt ∙ ap (λ x. x ∷ drop (i + 1) items) (sym c.index-decls-i.is) in
    record {
      left =
          decls_next source c.loop-i.cursor c.add_decl_ranges.new.cursor (import_decl_of d) rest
          (subst (λ (r : List ImportDecl). DeclsLeft source c.loop-i.cursor (map import_decl_of r)) split c.loop-i.invariant.left)
          c.in_ok-add_decl_ranges.ensures.serve;
      ranges =
          ap (λ rs. rs ++ ranges source.text.now source.tokens.now source.comments.now source.unused.now grows rest) c.in_ok-add_decl_ranges.ensures.ranges
          ∙ decl_added source grows c.adds_at-adds.result c.loop-i.list.items (import_decl_of d) rest (c.adds_at-adds.ensures ∙ ap (λ b. grows && b) (last_is i items lt))
          ∙ ap (λ r. c.loop-i.list.items ++ ranges source.text.now source.tokens.now source.comments.now source.unused.now grows (map import_decl_of r)) (sym split)
          ∙ c.loop-i.invariant.ranges;
    }

pub add_decl_ranges-requires-clause-serve : goal.add_decl_ranges-requires-clause-serve
add_decl_ranges-requires-clause-serve c =
    let source = c.args.source.now in
    let items = c.args.decls.now in
    let i = c.loop-i.i in
    let d = c.index-decls-i.result in
    let rest = map import_decl_of (drop (i + 1) items) in
    let lt : i < length items = omega arith in
    let split : drop i items ≡ d ∷ drop (i + 1) items = drop_more items i d lt ∙ ap (λ x. x ∷ drop (i + 1) items) (sym c.index-decls-i.is) in
    decl_serves source c.loop-i.cursor (import_decl_of d) rest (subst (λ (r : List ImportDecl). DeclsLeft source c.loop-i.cursor (map import_decl_of r)) split c.loop-i.invariant.left)
