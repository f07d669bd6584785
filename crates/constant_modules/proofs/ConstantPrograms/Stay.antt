-- Programs of constants, as read and after a step.
use Rattle.std.proofs.Common.{◌≡◌, ℕ, ◌+◌, ◌≤◌, List, arith}
use Rattle.pkg_graph.specs.Reads.{Source}
use Rattle.printed_constants.specs.CountedNames.Laws.{StepsStayWithinTotal}
use Rattle.run_by_steps.specs.RunProgress.Laws.{ReadPathsAreApart, StepsKeepPathsApart}
use Rattle.run_rules.specs.Run.{Standing, module_file_size, texts_size, the_limits}
use Rattle.run_rules.specs.Sites.{MarkRef}
use Rattle.constant_modules.specs.ConstantPrograms.Laws.{ReadModulesAreConstantPrograms, FirstUsesAreRight, StepsAreOverNames, ConstantProgramsStay, FormedModulesAreInlined}
use Rattle.constant_modules.specs.ConstantPrograms.Programs.{IsConstantProgram}
use Rattle.constant_modules.specs.ConstantRuns.FirstUses.{FirstUsesAreOfConstants, FirstUsesOfConstantsAreTyped}
use Rattle.constant_modules.specs.ConstantRuns.Laws.{ReadModulesAreOfConstants, StepsStayOfConstants}
use Rattle.constant_modules.specs.ConstantRuns.Runs.{ConstantModulesAreInlined}
use Rattle.constant_modules.specs.NamedThere.Steps.{ConstantStepsTakeNames}

texts_small : (n m : ℕ) → n + m ≤ the_limits.total → m ≤ the_limits.total
texts_small n m h = let k : n + m ≤ 16777216 = h in omega (arith, k)

pub read_programs : ReadModulesAreOfConstants → ReadPathsAreApart → ReadModulesAreConstantPrograms
read_programs of apart files ps texts only r octets typed form constants small =
    record {
      constants = of files ps texts only r octets typed form.unspread form.keys constants (texts_small (module_file_size files) (texts_size texts) small);
      apart = apart files ps texts r;
      small = small;
    }

pub first_right : FirstUsesAreOfConstants → FirstUsesOfConstantsAreTyped → FirstUsesAreRight
first_right uses typed files marks st f old form p is becomes = (uses marks st f old p.constants is, typed marks st f old form p.constants is becomes)

pub steps_over_names : ConstantStepsTakeNames → StepsAreOverNames
steps_over_names take files marks st l after n p = (take marks st l after n p.constants).1.0

pub programs_stay : StepsStayOfConstants → StepsKeepPathsApart → StepsStayWithinTotal → ConstantProgramsStay
programs_stay stay apart within files marks done st l after n p fits =
    let small : module_file_size files + texts_size after.texts ≤ the_limits.total = (within files done l n.new after.texts fits).1 in
    record {
      constants = stay marks st l after n p.constants (texts_small (module_file_size files) (texts_size after.texts) small);
      apart = apart marks st l after n p.apart;
      small = small;
    }

pub modules_inlined : ConstantModulesAreInlined → FormedModulesAreInlined
modules_inlined inline files ps texts only after report i octets typed form constants small =
    inline files ps texts only after report i octets typed form.unspread form.keys constants small
