use Rattle.std.proofs.Common.{arith}
use Rattle.std.proofs.lemmas.Option.{slice_get_within}
use Rattle.programs.proofs.FileValues.Filled.{got, one_package}
use Rattle.programs.proofs.file_values.packages.program_values.Goals as goal

pub loop-number-init : goal.loop-number-init
loop-number-init c = λ k i home source l e f. absurd (omega (arith, l))

pub loop-number-preserved : goal.loop-number-preserved
loop-number-preserved c =
    one_package c.args.packages.now c.loop-number.number c.index-packages-number.result c.loop-number.values c.fill_package.new.values
    (got c.args.packages.now c.loop-number.number c.index-packages-number.result c.loop-number-test.true c.index-packages-number.is)
    c.in_ok-fill_package.ensures.here c.in_ok-fill_package.ensures.others c.loop-number.invariant

pub returns : goal.returns
returns c = λ k i home source e f.
    c.loop-number.invariant k i home source
    (let h = slice_get_within c.args.packages.now k home e in omega (arith, h, c.loop-number-test.false)) e f
