use Rattle.std.proofs.Common.{All, subst}
use Rattle.std.proofs.lemmas.List.{take_all}
use Rattle.std.proofs.lemmas.List.Elements.{All-more}
use Rattle.module_texts.specs.Refusals.{HasFirstWord, HasWords}
use Rattle.module_texts.proofs.Lemmas.{fails_at}
use Rattle.module_reading.proofs.checks.first_unsupported.Goals as goal

pub returns-in-Some : goal.returns-in-Some
returns-in-Some c = fails_at HasWords (HasFirstWord c.in-Some.span) c.args.files.now c.loop-number.number c.index-files-number.result c.loop-number-test.true c.index-files-number.is c.loop-number.invariant (rw c.items.ensures at c.in-Some.ensures)

pub loop-number-preserved : goal.loop-number-preserved
loop-number-preserved c = All-more HasWords c.args.files.now c.loop-number.number c.index-files-number.result c.loop-number-test.true c.loop-number.invariant (rw (c.items.ensures, c.index-files-number.is) at c.in_default.ensures)

pub returns : goal.returns
returns c = subst (All HasWords) (take_all c.loop-number.number c.args.files.now c.loop-number-test.false) c.loop-number.invariant
