use Rattle.literal_cycles.proofs.BodyForms.BoundBlocks.{block_through}
use Rattle.literal_cycles.proofs.body_forms.laws.bound_blocks_call_through.Goals as goal

pub returns : goal.returns
returns c = λ commented rs marks x k u b q z s h at. block_through commented rs marks x k u b q z s h at
