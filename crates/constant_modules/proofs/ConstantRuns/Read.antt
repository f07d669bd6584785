-- A module that reads is a program of constants, where all its marks are of constants.
use Rattle.constant_steps.specs.FormImports.OwnNames.{ReadPackagesAreNamed}
use Rattle.printed_constants.specs.TypedParts.MarkedRuns.LinkedMembers.Laws.{ReadPackagesHaveFiles}
use Rattle.printed_constants.specs.TypedParts.MarkedRuns.NamedMarks.Laws.{ReadMarksAreNamed}
use Rattle.printed_constants.specs.TypedParts.MarkedRuns.ReadyModules.Laws.{ReadModulesAreReady, ReadModulesAreTyped}
use Rattle.constant_modules.specs.ApartKeys.Laws.{FilesKeepKeysApart}
use Rattle.constant_modules.specs.ConstantNames.Laws.{ReadConstantsNameConstants}
use Rattle.constant_modules.specs.ConstantRuns.Laws.{ReadConstantsHaveNoTypes, ReadModulesAreOfConstants}

pub read_programs : ReadModulesAreReady → ReadModulesAreTyped → ReadMarksAreNamed → ReadPackagesAreNamed → ReadPackagesHaveFiles → ReadConstantsNameConstants → ReadConstantsHaveNoTypes → FilesKeepKeysApart → ReadModulesAreOfConstants
read_programs ready typed named own have names none found files ps texts only r octets well unspread apart constants small =
    record {
      ready = ready files ps texts r octets well unspread;
      files = have files ps texts r;
      typed = typed ps texts well;
      own = own files ps texts r;
      named = named files ps texts only r constants;
      constants = names files ps texts only r octets well unspread constants;
      untyped = none files ps texts only r;
      apart = found ps texts apart;
      small = small;
    }
