use Rattle.go_tree.specs.declared.spans.Span.{Span}
use Rattle.run_rules.specs.Respanned.{file_with}
use Rattle.run_rules.specs.Run.{here_of}
use Rattle.run_rules.specs.Steps.{At}
use Rattle.member_uses.proofs.PlacesMean.{places_mean, read_places_mean, blocks_local, read_blocks_local}
use Rattle.repeated_parts.proofs.Walked.{flags_follow}
use Rattle.repeated_parts.proofs.UsesRepeated.Kept.{flags_kept}
use Rattle.repeated_parts.proofs.uses_repeated.laws.repeated_uses_are_sites.Goals as goal

pub returns-clause-read : goal.returns-clause-read
returns-clause-read c = λ ps marks w f t i d k a there scoped keyed told. flags_kept Span (λ s. s) (λ f. f) flags_follow read_places_mean read_blocks_local ps marks w f t i d k a there scoped keyed told

pub returns-clause-standing : goal.returns-clause-standing
returns-clause-standing c = λ ps marks w f t i d k a there scoped keyed told. flags_kept At here_of (file_with here_of) flags_follow (places_mean At here_of) (blocks_local At here_of) ps marks w f t i d k a there scoped keyed told
