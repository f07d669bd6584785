-- What is loaded of a module begins a run.
use Rattle.stepped_programs.specs.ProgramsOnTheWay.Laws.{RunsBegin}
use Rattle.run_plans.specs.InlinedPrograms.Laws.{LoadedProgramsBeginRuns}
use Rattle.run_plans.proofs.InlinedPrograms.Sources.{as_sources, are_sources}

pub programs_begin : RunsBegin → LoadedProgramsBeginRuns
programs_begin begin files m only p reads octets words typed form constants small loaded types c steps origins =
    record {
      sources = as_sources p;
      on_the_way = begin files m only p (as_sources p) c reads octets words typed form constants small loaded (are_sources p) types steps origins;
    }
