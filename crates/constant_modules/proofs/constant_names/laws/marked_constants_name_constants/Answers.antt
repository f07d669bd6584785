use Rattle.constant_modules.proofs.ConstantNames.Named.{names_constants}
use Rattle.constant_modules.proofs.ConstantNames.Read.{read_names}
use Rattle.constant_modules.proofs.ConstantNames.Unmarked.{none_predeclared}
use Rattle.constant_modules.proofs.constant_names.laws.marked_constants_name_constants.Goals as goal

pub returns-clause-named : goal.returns-clause-named
returns-clause-named c = names_constants c.constants_name_members.ensures

pub returns-clause-none : goal.returns-clause-none
returns-clause-none c = none_predeclared c.files_have_their_names.ensures.standing

pub returns-clause-read : goal.returns-clause-read
returns-clause-read c =
    read_names c.constants_name_members.ensures c.read_modules_are_ready.ensures.ready c.read_modules_are_ready.ensures.typed c.read_marks_are_named.ensures (returns-clause-none c)
