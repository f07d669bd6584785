use Rattle.control_steps.proofs.LocalBlocks.PlaceLemmas.{blocks_begin, expressions_see_names, places_are_environments}
use Rattle.control_steps.proofs.local_blocks.laws.blocks_are_seen_alike.Goals as goal

pub returns : goal.returns
returns c = record { expressions = expressions_see_names; places = places_are_environments; begin = blocks_begin }
