use Rattle.std.proofs.Common.{sym}
use Rattle.run_plans.proofs.PlannedModules.Named.{found_small}
use Rattle.run_plans.proofs.PlannedModules.TypingFaults.{tells_place}
use Rattle.run_plans.proofs.planned_modules.places.tell_place.Goals as goal

pub at_byte-requires : goal.at_byte-requires
at_byte-requires c =
    found_small c.args.files.now c.in-Some.path.now c.in-Some-read_file.file.now c.requires (sym c.in-Some-read_file.ensures)

pub returns : goal.returns
returns c =
    tells_place c.args.files.now c.args.packages.now c.args.refused c.in-Some.path.now c.in-Some-read_file.file.now c.at_byte.result c.in-Some.ensures c.in-Some-read_file.ensures c.at_byte.ensures
