use Rattle.std.proofs.Common.{map, refl}
use Rattle.go_tree.specs.FileView.{decl_of}
use Rattle.run_rules.specs.Programs.{numbered_from}
use Rattle.member_uses.specs.Views.{names_in}
use Rattle.file_names.proofs.Walks.{one_listed, all_listed}
use Rattle.repeated_parts.specs.UseSearch.UsesOfMarks.Uses.{decl_uses, decls_uses}
use Rattle.repeated_parts.specs.UseSearch.UsesOfMarks.Views.{placed_of}
use Rattle.repeated_parts.proofs.use_search.uses_of_marks.uses.marked_uses.Goals as goal

pub loop-number-preserved : goal.loop-number-preserved
loop-number-preserved c = λ ps marks h.
    let f = names_in c.args.scopes.now.file in
    let t = c.args.scopes.now.types.now in
    one_listed (λ i xs. decls_uses (λ s. s) ps marks f t (numbered_from i (map decl_of xs))) (λ i x. decl_uses (λ s. s) ps marks f t (i, decl_of x)) (λ i x xs. refl)
    c.args.decls.now c.loop-number.number c.index-decls-number.result (map placed_of c.loop-number.uses.items) (map placed_of c.add_decl.new.uses.items) _
    c.loop-number-test.true c.index-decls-number.is (c.in_ok-add_decl.ensures ps marks h) (c.loop-number.invariant ps marks h)

pub returns : goal.returns
returns c = λ ps marks h.
    all_listed (λ i xs. decls_uses (λ s. s) ps marks (names_in c.args.scopes.now.file) c.args.scopes.now.types.now (numbered_from i (map decl_of xs))) (λ i. refl) c.args.decls.now
    c.loop-number.number (map placed_of c.loop-number.uses.items) _ c.loop-number-test.false (c.loop-number.invariant ps marks h)
