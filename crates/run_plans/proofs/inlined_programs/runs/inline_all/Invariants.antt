use Rattle.std.proofs.Common.{◌-◌}
use Rattle.stepped_programs.specs.HeldBlocks.{IsHeldIn}
use Rattle.run_plans.proofs.InlinedPrograms.WholeRuns.{GoesSoFar}
use Rattle.run_plans.proofs.inlined_programs.runs.inline_all.Given as goal

abbrev pub invariant-steps : goal.invariant-steps
invariant-steps l = record {
  goes : GoesSoFar l.files l.initial.program l.program l.counts l.rows.items;
  held : IsHeldIn l.program.packages.items l.held;
}

abbrev pub decreases-steps : goal.decreases-steps
decreases-steps l = 65536 - l.counts.steps
