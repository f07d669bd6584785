use Rattle.std.proofs.Common.{refl}
use Rattle.run_plans.proofs.inlined_programs.taken.made_step.Goals as goal

pub returns-in-Err-TooLarge-clause-refused : goal.returns-in-Err-TooLarge-clause-refused
returns-in-Err-TooLarge-clause-refused c =
    record { home_is = refl; file_is = refl; is_fault = rw c.in-Err-TooLarge.field-0-is at c.in-Err-TooLarge.ensures.refused }

pub unreachable-requires : goal.unreachable-requires
unreachable-requires c = c.requires.read (rw c.in-Err-NotRead.field-0-is at c.in-Err-NotRead.ensures.refused)
