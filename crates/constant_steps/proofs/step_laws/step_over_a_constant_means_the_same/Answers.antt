use Rattle.constant_steps.proofs.StepLaws.ConstantStepLaw.{constant-step}
use Rattle.constant_steps.proofs.StepLaws.SwapProgram.{constant-codes}
use Rattle.constant_steps.proofs.StepLaws.StepMeaning.{constant-step-means-the-same}
use Rattle.constant_steps.proofs.StepLaws.StepsCompose.{in-place-then}
use Rattle.constant_steps.proofs.StepLaws.ConstantRuns.{run-means-the-same}
use Rattle.constant_steps.proofs.StepLaws.StepSwaps.{known-constant-means-the-same}
use Rattle.constant_steps.proofs.StepLaws.StepUses.{step-with-uses}
use Rattle.constant_steps.proofs.step_laws.step_over_a_constant_means_the_same.Goals as goal

pub returns-clause-in_place : goal.returns-clause-in_place
returns-clause-in_place c = λ same rs z e number pk tree more k m n ps s a. constant-step same rs z e number pk tree more k m n ps s a

pub returns-clause-code : goal.returns-clause-code
returns-clause-code c = λ same rs z e number pk tree k m n ps more s d h. constant-codes same rs z e number pk tree k m n ps more s d h

pub returns-clause-meaning : goal.returns-clause-meaning
returns-clause-meaning c = λ same rs z e number pk tree k m n P s i w. constant-step-means-the-same same rs z e number pk tree k m n P s i w

pub returns-clause-composed : goal.returns-clause-composed
returns-clause-composed c = λ more ps qs rs d e. in-place-then more ps qs rs d e

pub returns-clause-steps : goal.returns-clause-steps
returns-clause-steps c = λ same rs z e number pk tree more k m n ps u. step-with-uses same rs z e number pk tree more k m n ps u

pub returns-clause-uses : goal.returns-clause-uses
returns-clause-uses c = λ same rs z e number pk tree k m n P s i. known-constant-means-the-same same rs z e number pk tree k m n P s i

pub returns-clause-runs : goal.returns-clause-runs
returns-clause-runs c = λ same P P' r. run-means-the-same same P P' r
