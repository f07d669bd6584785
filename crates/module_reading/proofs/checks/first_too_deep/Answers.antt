use Rattle.std.proofs.Common.{All, subst}
use Rattle.std.proofs.lemmas.List.{take_all}
use Rattle.module_texts.specs.Refusals.{IsDeepAt, IsShallow}
use Rattle.module_texts.proofs.Lemmas.{fails_at}
use Rattle.module_reading.proofs.checks.first_too_deep.Goals as goal

pub returns-in-Some : goal.returns-in-Some
returns-in-Some c = fails_at IsShallow (IsDeepAt c.in-Some.at) c.args.files.now c.loop-number.number c.index-files-number.result c.loop-number-test.true c.index-files-number.is c.loop-number.invariant c.in-Some.ensures

pub returns : goal.returns
returns c = subst (All IsShallow) (take_all c.loop-number.number c.args.files.now c.loop-number-test.false) c.loop-number.invariant
