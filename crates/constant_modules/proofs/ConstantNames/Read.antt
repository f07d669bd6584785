-- What marked constants are declared as in a module as read.
use Rattle.printed_constants.specs.TypedParts.MarkedRuns.NamedMarks.Laws.{ReadMarksAreNamed}
use Rattle.printed_constants.specs.TypedParts.MarkedRuns.ReadyModules.Laws.{ReadModulesAreReady, ReadModulesAreTyped}
use Rattle.printed_constants.proofs.TypedParts.MarkedRuns.LinkedMembers.Files.{read-have}
use Rattle.printed_constants.specs.DeclaredMembers.Laws.{ConstantsNameMembers}
use Rattle.run_rules.specs.Inlining.{standing_as_read}
use Rattle.run_rules.specs.Marks.{marks_of}
use Rattle.constant_modules.specs.ConstantNames.Laws.{ReadConstantsAreNotPredeclared, ReadConstantsNameConstants}
use Rattle.constant_modules.proofs.ConstantNames.Named.{names_constants}

pub read_names : ConstantsNameMembers → ReadModulesAreReady → ReadModulesAreTyped → ReadMarksAreNamed → ReadConstantsAreNotPredeclared → ReadConstantsNameConstants
read_names members ready typed named none files ps texts only r octets well unspread constants =
    names_constants members (standing_as_read ps texts).packages (marks_of ps texts only) (ready files ps texts r octets well unspread).links.ordered (read-have files ps texts r) (typed ps texts well)
    (named files ps texts only r constants) (none files ps texts only r)
