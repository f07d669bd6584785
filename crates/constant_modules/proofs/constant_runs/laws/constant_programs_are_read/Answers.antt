use Rattle.constant_modules.proofs.ConstantRuns.Read.{read_programs}
use Rattle.constant_modules.proofs.constant_runs.laws.constant_programs_are_read.Goals as goal

pub returns : goal.returns
returns c =
    read_programs c.read_modules_are_ready.ensures.ready c.read_modules_are_ready.ensures.typed c.read_marks_are_named.ensures c.packages_have_own_names.ensures.read c.members_are_linked.ensures.read
    c.marked_constants_name_constants.ensures.read c.constants_are_untyped.ensures c.keys_apart_are_found.ensures.read
