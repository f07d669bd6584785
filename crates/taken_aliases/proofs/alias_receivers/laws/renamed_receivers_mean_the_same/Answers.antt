use Rattle.taken_aliases.proofs.AliasReceivers.InPlace.{renamed-in-place}
use Rattle.taken_aliases.proofs.AliasReceivers.Meaning.{renamed-packages-mean-the-same}
use Rattle.taken_aliases.proofs.alias_receivers.laws.renamed_receivers_mean_the_same.Goals as goal

pub returns-clause-in_place : goal.returns-clause-in_place
returns-clause-in_place c = λ more ps qs s others. renamed-in-place more ps qs s others

pub returns-clause-packages : goal.returns-clause-packages
returns-clause-packages c = λ P P' s. renamed-packages-mean-the-same P P' s
