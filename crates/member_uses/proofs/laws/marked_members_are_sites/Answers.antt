use Rattle.run_rules.specs.Run.{here_of}
use Rattle.run_rules.specs.Steps.{At}
use Rattle.run_rules.specs.Respanned.{file_with}
use Rattle.go_tree.specs.declared.spans.Span.{Span}
use Rattle.constant_steps.proofs.PlaceMeanings.PlacesMean.{places_mean, read_places_mean, blocks_local, read_blocks_local}
use Rattle.member_uses.proofs.Sited.{sites_left}
use Rattle.member_uses.proofs.laws.marked_members_are_sites.Goals as goal

pub returns-clause-read : goal.returns-clause-read
returns-clause-read c = λ ps marks w f i d k a there scoped keyed. sites_left Span (λ s. s) (λ f. f) c.parts_are_among_all.ensures.read read_places_mean read_blocks_local ps marks w f i d k a there scoped keyed

pub returns-clause-standing : goal.returns-clause-standing
returns-clause-standing c = λ ps marks w f i d k a there scoped keyed. sites_left At here_of (file_with here_of) c.parts_are_among_all.ensures.standing (places_mean At here_of) (blocks_local At here_of) ps marks w f i d k a there scoped keyed
