-- A first use has a next program.
use Rattle.run_by_steps.specs.NextPrograms.Laws.{StepTextsAreRead}
use Rattle.printed_constants.specs.TypedParts.MarkedRuns.PutForms.Laws.{ConstantFormsArePut, ConstantNamesAreInProgram, MadeConstantsAreNext}
use Rattle.printed_constants.specs.StandingForms.Laws.{FirstUsesHaveNext}

pub next_there : StepTextsAreRead → ConstantFormsArePut → ConstantNamesAreInProgram → MadeConstantsAreNext → FirstUsesHaveNext
next_there read put named made marks st f old ready is c =
    let r = read marks st f old (put marks st f old ready is c) (named marks st f old ready is c).1 in
    (r.0, r.1, made marks st f old r.0 r.1 ready is c r.2)
