use Rattle.printed_constants.proofs.InlinedFiles.InlinedModules.Printed.{printed_runs_inline, printed_inlined}
use Rattle.printed_constants.proofs.inlined_files.inlined_modules.laws.printed_modules_are_inlined.Goals as goal

pub returns-clause-runs : goal.returns-clause-runs
returns-clause-runs c =
    printed_runs_inline c.added_imports_may_be_declared.ensures c.constants_settle.ensures.writes c.runs_over_constants_keep.ensures.step c.marks_stay_named.ensures.stay c.printed_imports_are_used.ensures.stay
    c.constants_names_stand.ensures.stand c.constants_names_stand.ensures.stay c.read_modules_are_ready.ensures.ready c.read_marks_are_named.ensures c.packages_have_own_names.ensures.read
    c.declared_constants_name_constants.ensures.read c.runs_over_marks_inline.ensures.modules

pub returns-clause-inlinings : goal.returns-clause-inlinings
returns-clause-inlinings c = printed_inlined (returns-clause-runs c)
