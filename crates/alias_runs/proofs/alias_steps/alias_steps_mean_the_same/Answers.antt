use Rattle.alias_runs.proofs.AliasSteps.AliasStepLaw.{alias-program, alias-step-means-the-same}
use Rattle.alias_runs.proofs.AliasSteps.NamesRuns.{names-run-means-the-same}
use Rattle.alias_runs.proofs.AliasSteps.RetypedInPlace.{retyped-in-place}
use Rattle.alias_runs.proofs.AliasSteps.RetypedMeaning.{codes-same, retyped-packages-mean-the-same}
use Rattle.alias_runs.proofs.alias_steps.alias_steps_mean_the_same.Goals as goal

pub returns-clause-steps : goal.returns-clause-steps
returns-clause-steps c = λ same rs z form number pk tree more k m n ps s. alias-program same rs z form number pk tree more k m n ps s

pub returns-clause-in_place : goal.returns-clause-in_place
returns-clause-in_place c = λ more ps qs s others. retyped-in-place more ps qs s others

pub returns-clause-code : goal.returns-clause-code
returns-clause-code c = λ ps qs more e s d. codes-same ps qs more e s d

pub returns-clause-packages : goal.returns-clause-packages
returns-clause-packages c = λ P P' s. retyped-packages-mean-the-same P P' s

pub returns-clause-meaning : goal.returns-clause-meaning
returns-clause-meaning c = λ same rs z form number pk tree k m n P swaps right. alias-step-means-the-same same rs z form number pk tree k m n P swaps right

pub returns-clause-runs : goal.returns-clause-runs
returns-clause-runs c = λ same P P' r. names-run-means-the-same same P P' r
