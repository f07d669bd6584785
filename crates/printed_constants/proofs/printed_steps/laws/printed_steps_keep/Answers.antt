use Rattle.printed_constants.proofs.PrintedSteps.Kept.{read_programs, first_right, steps_over_names, steps_keep}
use Rattle.printed_constants.proofs.printed_steps.laws.printed_steps_keep.Goals as goal

pub returns-clause-read : goal.returns-clause-read
returns-clause-read c =
    read_programs c.read_modules_are_ready.ensures.ready c.read_modules_are_ready.ensures.typed c.printed_packages_are_plain.ensures.unspread c.steps_stay_printed.ensures.read c.read_marks_are_named.ensures
    c.packages_have_own_names.ensures.read c.members_are_linked.ensures.read c.paths_stay_apart.ensures.read

pub returns-clause-first : goal.returns-clause-first
returns-clause-first c = first_right c.printed_steps_avoid_few_names.ensures.first c.first_uses_are_typed.ensures

pub returns-clause-over : goal.returns-clause-over
returns-clause-over c = steps_over_names c.printed_steps_are_over.ensures

pub returns-clause-kept : goal.returns-clause-kept
returns-clause-kept c =
    steps_keep c.added_imports_may_be_declared.ensures c.constants_settle.ensures.writes c.runs_over_constants_keep.ensures.step c.marks_stay_named.ensures.stay c.members_are_linked.ensures.stay
    c.paths_stay_apart.ensures.kept c.printed_steps_avoid_few_names.ensures.total c.printed_steps_are_over.ensures c.printed_uses_stand.ensures c.constants_names_stand.ensures.stand c.constants_names_stand.ensures.stay
