use Rattle.go_tree.specs.View.{expr_of}
use Rattle.stepped_programs.proofs.PackageSearch.FileSteps.Found.{passed, met, no_more}
use Rattle.stepped_programs.proofs.package_search.file_steps.used.used_expr.Goals as goal

pub loop-part-preserved : goal.loop-part-preserved
loop-part-preserved c =
    passed c.args.at c.args.parts.now c.loop-part.part-index c.part-item.result _ c.loop-part-test.true c.part-item.is c.in_default.ensures c.loop-part.invariant

pub returns-in-Some : goal.returns-in-Some
returns-in-Some c =
    met c.args.at c.args.parts.now c.loop-part.part-index c.part-item.result (expr_of c.in-Some.e.now) _ c.loop-part-test.true c.part-item.is c.in-Some.ensures c.loop-part.invariant

pub returns : goal.returns
returns c = no_more c.args.at c.args.parts.now c.loop-part.part-index _ c.loop-part-test.false c.loop-part.invariant
