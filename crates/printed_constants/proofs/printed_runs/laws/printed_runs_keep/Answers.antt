use Rattle.std.proofs.Common.{[]}
use Rattle.run_rules.specs.Inlining.{standing_as_read}
use Rattle.run_rules.specs.Marks.{marks_of}
use Rattle.printed_constants.proofs.TypedParts.MarkedRuns.ReadyModules.Typed.{typed_as_read}
use Rattle.printed_constants.proofs.TypedParts.MarkedRuns.LinkedMembers.Files.{read-have}
use Rattle.printed_constants.proofs.Plain.{all_unspread}
use Rattle.printed_constants.proofs.PrintedRuns.Runs.{all_over, runs_within}
use Rattle.printed_constants.proofs.Steps.{read_printed}
use Rattle.printed_constants.proofs.printed_runs.laws.printed_runs_keep.Goals as goal

pub returns-clause-within : goal.returns-clause-within
returns-clause-within c = λ files marks st last done log run r. runs_within files marks st last done log run r

pub returns-clause-runs : goal.returns-clause-runs
returns-clause-runs c = λ files ps texts only last log r octets typed printed constants names small run fits.
    c.runs_over_marks_keep.ensures.runs files ps texts only last log r octets typed (all_unspread ps printed) constants run
    (all_over c.added_imports_may_be_declared.ensures c.constants_settle.ensures.writes c.runs_over_constants_keep.ensures.step c.marks_stay_named.ensures.stay c.printed_imports_are_used.ensures.stay c.constants_names_stand.ensures.stand c.constants_names_stand.ensures.stay
    (marks_of ps texts only) (standing_as_read ps texts) last log run fits (c.read_modules_are_ready.ensures.ready files ps texts r octets typed (all_unspread ps printed)) (typed_as_read ps typed)
    (c.read_marks_are_named.ensures files ps texts only r constants) names (read_printed ps texts printed) (c.packages_have_own_names.ensures.read files ps texts r) (read-have files ps texts r) small)

pub returns-clause-inlinings : goal.returns-clause-inlinings
returns-clause-inlinings c = λ files ps texts only after report i octets typed printed constants names small.
    returns-clause-runs c files ps texts only i.last i.log i.read octets typed printed constants names small i.run
    (runs_within files (marks_of ps texts only) (standing_as_read ps texts) i.last [] i.log i.run i.within)
