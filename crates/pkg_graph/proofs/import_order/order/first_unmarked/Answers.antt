use Rattle.pkg_graph.proofs.ImportOrder.NumberLaws.{among_at}
use Rattle.pkg_graph.proofs.import_order.order.first_unmarked.Goals as goal

pub bounds-marks-numbers : goal.bounds-marks-numbers
bounds-marks-numbers c = c.requires.within _ (among_at c.args.numbers.now c.loop-place.place 0 c.loop-place-test.true)

pub returns-then-not-marks-numbers-clause-before : goal.returns-then-not-marks-numbers-clause-before
returns-then-not-marks-numbers-clause-before c = c.loop-place.invariant
