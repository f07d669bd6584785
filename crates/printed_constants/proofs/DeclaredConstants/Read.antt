-- What constants are declared as, in a program and in a module as read.
use Rattle.printed_constants.specs.TypedParts.MarkedRuns.NamedMarks.Laws.{ReadMarksAreNamed}
use Rattle.printed_constants.specs.TypedParts.MarkedRuns.ReadyModules.Laws.{ReadModulesAreReady, ReadModulesAreTyped}
use Rattle.printed_constants.proofs.TypedParts.MarkedRuns.LinkedMembers.Files.{read-have}
use Rattle.printed_constants.specs.DeclaredMembers.Laws.{ConstantsNameMembers}
use Rattle.printed_constants.specs.Laws.{PrintedPackagesAreUnspread, ReadModulesArePrinted}
use Rattle.run_rules.specs.Inlining.{standing_as_read}
use Rattle.run_rules.specs.Marks.{marks_of}
use Rattle.printed_constants.specs.DeclaredConstants.Laws.{ConstantsAreDeclared, ReadConstantsAreNotPredeclared, ReadConstantsNameConstants}
use Rattle.printed_constants.proofs.DeclaredConstants.Named.{by_constant, names_constants}

pub are_declared : ConstantsAreDeclared
are_declared ps ordered have typed printed k p pe n spelled t c m = by_constant ps ordered have typed printed k p pe n spelled t c m

pub read_names : ConstantsNameMembers → ReadModulesAreReady → ReadModulesAreTyped → PrintedPackagesAreUnspread → ReadModulesArePrinted → ReadMarksAreNamed → ReadConstantsAreNotPredeclared → ReadConstantsNameConstants
read_names members ready typed unspread printed named none files ps texts only r octets well all constants =
    names_constants members (standing_as_read ps texts).packages (marks_of ps texts only) (ready files ps texts r octets well (unspread ps all)).links.ordered (read-have files ps texts r) (typed ps texts well) (printed ps texts all)
    (named files ps texts only r constants) (none files ps texts only r all)
