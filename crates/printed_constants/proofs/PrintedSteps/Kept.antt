-- Programs of constants and of functions that print them, as read and after a step.
use Rattle.std.proofs.Common.{◌+◌, ◌≤◌, List, arith}
use Rattle.pkg_graph.specs.Reads.{Source}
use Rattle.constant_steps.specs.FormImports.OwnNames.{ReadPackagesAreNamed}
use Rattle.order_runs.proofs.CycleRuns.Runs.{linked-names}
use Rattle.printed_constants.specs.TypedParts.MarkedRuns.KeptMarks.Laws.{StepsKeepNamed}
use Rattle.printed_constants.specs.TypedParts.MarkedRuns.KeptMarks.Over.{IsOverName}
use Rattle.printed_constants.specs.TypedParts.MarkedRuns.LinkedMembers.Laws.{ReadPackagesHaveFiles, StepsKeepFiles}
use Rattle.printed_constants.specs.TypedParts.MarkedRuns.Marked.{StandsAdded}
use Rattle.printed_constants.specs.TypedParts.MarkedRuns.NamedMarks.Laws.{ReadMarksAreNamed}
use Rattle.printed_constants.specs.TypedParts.MarkedRuns.PutForms.Uses.{UsesNamedConstant}
use Rattle.printed_constants.specs.TypedParts.MarkedRuns.ReadyModules.Laws.{ReadModulesAreReady, ReadModulesAreTyped}
use Rattle.printed_constants.specs.TypedParts.MarkedRuns.SettledConstants.Laws.{ConstantsWrite}
use Rattle.printed_constants.specs.TypedParts.MarkedRuns.SoundImports.Laws.{AddedImportsMayBeDeclared}
use Rattle.printed_constants.specs.TypedParts.MarkedRuns.TakenNames.Laws.{StepsStayReady}
use Rattle.printed_constants.specs.TypedParts.MarkedRuns.TakenNames.Taken.{TakesName}
use Rattle.printed_constants.proofs.TypedParts.MarkedRuns.KeptMarks.Kept.{writes, look-ups}
use Rattle.printed_constants.proofs.TypedParts.MarkedRuns.NamedMarks.Used.{named-used}
use Rattle.printed_constants.proofs.TypedParts.MarkedRuns.Runs.{takes-name}
use Rattle.run_by_steps.specs.RunProgress.Laws.{ReadPathsAreApart, StepsKeepPathsApart}
use Rattle.run_rules.specs.Run.{Standing, module_file_size, texts_size, the_limits}
use Rattle.run_rules.specs.Sites.{MarkRef}
use Rattle.printed_constants.specs.Laws.{PrintedPackagesAreUnspread, ReadModulesArePrinted}
use Rattle.printed_constants.specs.CountedNames.Laws.{StepsStayWithinTotal, FirstUsesAreNamed}
use Rattle.printed_constants.specs.NamedUses.Laws.{ConstantsNamesStand, StepsKeepConstantsNames}
use Rattle.printed_constants.specs.PrintedUses.Added.{IsNamedThere}
use Rattle.printed_constants.specs.PrintedUses.Laws.{PrintedStepsAreOver, PrintedUsesStand}
use Rattle.printed_constants.specs.StandingForms.Laws.{FirstUsesAreTyped}
use Rattle.printed_constants.specs.PrintedSteps.Programs.{IsPrintedProgram}
use Rattle.printed_constants.proofs.PrintedRuns.Runs.{own_after, printed_after}
use Rattle.printed_constants.specs.PrintedSteps.Laws.{ReadModulesArePrintedPrograms, FirstUsesAreRight, StepsAreOverNames, PrintedStepsKeep}

pub read_programs : ReadModulesAreReady → ReadModulesAreTyped → PrintedPackagesAreUnspread → ReadModulesArePrinted → ReadMarksAreNamed → ReadPackagesAreNamed → ReadPackagesHaveFiles → ReadPathsAreApart → ReadModulesArePrintedPrograms
read_programs ready typed unspread printed named own have apart files ps texts only r octets well all constants names small =
    record {
      ready = ready files ps texts r octets well (unspread ps all);
      typed = typed ps texts well;
      printed = printed ps texts all;
      named = named files ps texts only r constants;
      constants = names;
      own = own files ps texts r;
      have_files = have files ps texts r;
      apart = apart files ps texts r;
      small = small;
    }

texts_small : (files : List Source) (marks : List MarkRef) (st : Standing) → IsPrintedProgram files marks st → texts_size st.texts ≤ the_limits.total
texts_small files marks st p = let h : module_file_size files + texts_size st.texts ≤ 16777216 = p.small in omega (arith, h)

pub first_right : FirstUsesAreNamed → FirstUsesAreTyped → FirstUsesAreRight
first_right named typed files marks st f old form p is becomes =
    let c : UsesNamedConstant st f old = named marks st f old is p.ready.reads p.ready.paths p.printed p.named (texts_small files marks st p) in
    (c, typed marks st f old form p.ready p.typed p.printed is c becomes)

pub steps_over_names : PrintedStepsAreOver → StepsAreOverNames
steps_over_names over files marks st l after n p = over marks st l after n p.ready p.printed p.own p.named (texts_small files marks st p)

pub steps_keep :
    AddedImportsMayBeDeclared → ConstantsWrite → StepsStayReady → StepsKeepNamed → StepsKeepFiles → StepsKeepPathsApart → StepsStayWithinTotal → PrintedStepsAreOver → PrintedUsesStand → ConstantsNamesStand → StepsKeepConstantsNames → PrintedStepsKeep
steps_keep sound write ready_after keep have apart within over_law stand names constants files marks done st l after n p fits =
    let small : texts_size st.texts ≤ the_limits.total = texts_small files marks st p in
    let over : IsOverName n = over_law marks st l after n p.ready p.printed p.own p.named small in
    let named : IsNamedThere n = names marks st l after n p.ready p.typed p.printed p.own p.named p.constants small in
    let stands : StandsAdded n = stand marks st l after n p.ready p.typed p.printed p.have_files p.own p.named small named in
    let takes : TakesName n = takes-name sound marks st l after n p.ready.reads stands (look-ups marks st l after n over write p.ready p.named) (linked-names st.packages p.ready.links) p.typed over.few in
    let r = ready_after marks st l after n p.ready p.typed (writes marks st l after n over write p.ready p.named) takes in
    record {
      ready = r.0;
      typed = r.1;
      printed = printed_after marks st l after n (named-used marks st l after n over.old over.part p.named) p.printed;
      named = keep marks st l after n p.ready p.named over;
      constants = constants marks st l after n p.ready p.typed p.printed p.own p.named p.constants small;
      own = own_after marks st l after n p.own;
      have_files = have marks st l after n p.have_files;
      apart = apart marks st l after n p.apart;
      small = (within files done l n.new after.texts fits).1;
    }
