use Rattle.printed_constants.proofs.DeclaredConstants.Named.{names_constants}
use Rattle.printed_constants.proofs.DeclaredConstants.Read.{are_declared, read_names}
use Rattle.printed_constants.proofs.DeclaredConstants.Unmarked.{none_predeclared}
use Rattle.printed_constants.proofs.declared_constants.laws.declared_constants_name_constants.Goals as goal

pub returns-clause-members : goal.returns-clause-members
returns-clause-members c = are_declared

pub returns-clause-named : goal.returns-clause-named
returns-clause-named c = names_constants c.constants_name_members.ensures

pub returns-clause-none : goal.returns-clause-none
returns-clause-none c = none_predeclared c.files_have_their_names.ensures.standing

pub returns-clause-read : goal.returns-clause-read
returns-clause-read c =
    read_names c.constants_name_members.ensures c.read_modules_are_ready.ensures.ready c.read_modules_are_ready.ensures.typed c.printed_packages_are_plain.ensures.unspread c.steps_stay_printed.ensures.read c.read_marks_are_named.ensures
    (returns-clause-none c)
