use Rattle.printed_constants.proofs.TypedParts.MarkedRuns.SettledConstants.Ready.{uses_scoped, uses_undotted, linked_writable}
use Rattle.printed_constants.proofs.typed_parts.marked_runs.settled_constants.programs_are_ready.Goals as goal

pub returns-clause-scoped : goal.returns-clause-scoped
returns-clause-scoped c = λ marks st l after n reads ordered typed. uses_scoped marks st l after n c.well_typed_files_are_scoped.ensures.scoped reads ordered typed

pub returns-clause-undotted : goal.returns-clause-undotted
returns-clause-undotted c = λ marks st l after n typed unspread. uses_undotted marks st l after n typed unspread

pub returns-clause-writable : goal.returns-clause-writable
returns-clause-writable c = λ ps links named octets. linked_writable ps links named octets
