use Rattle.go_tree.specs.declared.spans.Span.{Span}
use Rattle.run_rules.specs.Respanned.{file_with}
use Rattle.run_rules.specs.Run.{here_of}
use Rattle.run_rules.specs.Steps.{At}
use Rattle.member_uses.proofs.PlacesMean.{places_mean, read_places_mean}
use Rattle.member_uses.proofs.PossibleUses.Following.{parts_follow}
use Rattle.call_uses.proofs.Led.{calls_lead}
use Rattle.call_uses.proofs.laws.calls_lead_to_functions.Goals as goal

pub returns-clause-read : goal.returns-clause-read
returns-clause-read c = calls_lead Span (λ s. s) (λ f. f) parts_follow read_places_mean

pub returns-clause-standing : goal.returns-clause-standing
returns-clause-standing c = calls_lead At here_of (file_with here_of) parts_follow (places_mean At here_of)
