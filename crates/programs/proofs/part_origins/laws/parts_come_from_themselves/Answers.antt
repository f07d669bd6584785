use Rattle.programs.proofs.PartOrigins.Themselves.{come_from_themselves}
use Rattle.programs.proofs.part_origins.laws.parts_come_from_themselves.Goals as goal

pub returns : goal.returns
returns c = come_from_themselves
