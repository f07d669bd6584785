use Rattle.kept_findings.proofs.Facts.{kept-are-facts, places-are-kept}
use Rattle.kept_findings.proofs.laws.kept_findings_are_facts.Goals as goal

pub returns-clause-found : goal.returns-clause-found
returns-clause-found c = λ rows fs s. kept-are-facts rows fs s

pub returns-clause-places : goal.returns-clause-places
returns-clause-places c = λ rows fs. places-are-kept rows fs
