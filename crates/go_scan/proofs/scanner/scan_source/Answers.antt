use Rattle.std.proofs.Common.{◌≡◌, length, sym, subst, List, arith}
use Rattle.std.proofs.lemmas.Bool.Decides.{nat_tests}
use Rattle.go_tree.specs.declared.tokens.Comment.{Comment}
use Rattle.go_tree.specs.GoWords.Tokens.{TokensOf}
use Rattle.go_scan.specs.Pieces.{kind_of}
use Rattle.go_scan.proofs.ScanLemmas.{read_start, read_stuck, read_boundary, read_smaller, read_on, read_all}
use Rattle.go_scan.proofs.scanner.scan_source.Goals as goal

pub loop-rest-init : goal.loop-rest-init
loop-rest-init c = (
  c.after_mark-rest.utf8,
  read_start c.args.source.now c.after_mark-rest.result.now c.new.result.items c.new-2.result.items c.new-3.result.items c.utf8.source c.after_mark-rest.utf8
      c.after_mark-rest.ensures.value c.after_mark-rest.ensures.size c.new.ensures.items c.new-2.ensures.items c.new-3.ensures.items,
)

pub returns-in_default-clause-refused : goal.returns-in_default-clause-refused
returns-in_default-clause-refused c =
    let more : length c.loop-rest.rest.now ≡ 0 → ⊥ = λ z. absurd (grind (arith, nat_tests, c.is_empty.ensures, c.loop-rest-test.true, z)) in
    read_stuck c.args.source.now c.loop-rest.lists.due c.loop-rest.lists.tokens.items c.loop-rest.lists.terminals.items c.loop-rest.lists.comments.items c.loop-rest.rest.now c.loop-rest.invariant.1 more c.utf8.source c.in_default.ensures

pub split_at-requires : goal.split_at-requires
split_at-requires c = read_boundary c.args.source.now c.loop-rest.lists.due c.loop-rest.lists.tokens.items c.loop-rest.lists.terminals.items c.loop-rest.lists.comments.items c.loop-rest.rest.now c.loop-rest.invariant.1 (kind_of c.in-Some.kind) c.in-Some.size c.in-Some.ensures

pub loop-rest-smaller : goal.loop-rest-smaller
loop-rest-smaller c = read_smaller c.args.source.now c.loop-rest.lists.due c.loop-rest.lists.tokens.items c.loop-rest.lists.terminals.items c.loop-rest.lists.comments.items c.loop-rest.rest.now c.loop-rest.invariant.1 (kind_of c.in-Some.kind) c.in-Some.size c.in-Some.ensures c.split_at.result.0.now c.split_at.result.1.now c.split_at.ensures.front c.split_at.ensures.back

pub loop-rest-preserved : goal.loop-rest-preserved
loop-rest-preserved c =
    let on = read_on c.args.source.now c.loop-rest.lists.due c.loop-rest.lists.tokens.items c.loop-rest.lists.terminals.items c.loop-rest.lists.comments.items c.loop-rest.rest.now c.loop-rest.invariant.1 (kind_of c.in-Some.kind) c.in-Some.size c.in-Some.ensures c.split_at.result.0.now c.split_at.result.1.now c.split_at.ensures.front c.split_at.ensures.back
    c.add.new.lists.due c.add.new.lists.tokens.items c.add.new.lists.terminals.items c.add.new.lists.comments.items
    c.in_ok-add.ensures.due c.in_ok-add.ensures.tokens c.in_ok-add.ensures.terminals c.in_ok-add.ensures.comments in
    (on.utf8, on)

pub returns-clause-found : goal.returns-clause-found
returns-clause-found c =
    let none : length c.loop-rest.rest.now ≡ 0 = grind (arith, nat_tests, c.is_empty.ensures, c.loop-rest-test.false) in
    let whole = read_all c.args.source.now c.loop-rest.lists.due c.loop-rest.lists.tokens.items c.loop-rest.lists.terminals.items c.loop-rest.lists.comments.items c.loop-rest.rest.now c.loop-rest.invariant.1 none c.utf8.source c.insert_due.new.lists.tokens.items c.in_ok-insert_due.ensures.tokens in
    subst (λ (comments : List Comment). TokensOf c.args.source.now c.insert_due.new.lists.tokens.items comments) (sym c.in_ok-insert_due.ensures.comments) whole
