use Rattle.checked_findings.proofs.LookUps.{each_found}
use Rattle.checked_findings.proofs.laws.each_is_found_at_its_place.Goals as goal

pub returns : goal.returns
returns c = λ fs f d i. each_found f i d
