use Rattle.std.proofs.Common.{map, refl}
use Rattle.member_uses.specs.Laws.{mark_used}
use Rattle.repeated_parts.specs.UsesRepeated.Views.{flagged_of}
use Rattle.file_names.proofs.Walks.{one_listed, all_listed}
use Rattle.repeated_parts.specs.UseSearch.UsesOfMarks.Uses.{placed_if, placed_in}
use Rattle.repeated_parts.specs.UseSearch.UsesOfMarks.Views.{placed_of}
use Rattle.repeated_parts.proofs.UseSearch.UsesOfMarks.Marked.{next_in}
use Rattle.repeated_parts.proofs.use_search.uses_of_marks.uses.add_uses.Goals as goal

pub loop-use_-preserved : goal.loop-use_-preserved
loop-use_-preserved c = λ ps marks h.
    one_listed (λ i xs. placed_in ps marks c.args.decl (map flagged_of xs)) (λ i x. placed_if c.args.decl (flagged_of x) (mark_used ps marks (flagged_of x).0))
    (λ i x xs. next_in ps marks c.args.decl (flagged_of x) (map flagged_of xs))
    c.args.found.now c.loop-use_.use_-index c.use_-item.result (map placed_of c.loop-use_.uses.items) (map placed_of c.add_use.new.uses.items) _
    c.loop-use_-test.true c.use_-item.is (c.in_ok-add_use.ensures ps marks h) (c.loop-use_.invariant ps marks h)

pub returns : goal.returns
returns c = λ ps marks h.
    all_listed (λ i xs. placed_in ps marks c.args.decl (map flagged_of xs)) (λ i. refl) c.args.found.now c.loop-use_.use_-index
    (map placed_of c.loop-use_.uses.items) _ c.loop-use_-test.false (c.loop-use_.invariant ps marks h)
