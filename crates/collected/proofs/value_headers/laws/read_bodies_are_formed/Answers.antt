use Rattle.collected.proofs.ValueHeaders.FormedBodies as files
use Rattle.collected.proofs.value_headers.laws.read_bodies_are_formed.Goals as goal

pub returns : goal.returns
returns c = files.read_bodies_are_formed
