use Rattle.stepped_programs.specs.HeldBlocks.{IsHeldIn}
use Rattle.stepped_programs.proofs.FirstUses.Searched.{SoFar}
use Rattle.stepped_programs.proofs.first_uses.first.first_use.Given as goal

abbrev pub invariant-loop-at : goal.invariant-loop-at
invariant-loop-at l = record {
  so_far : SoFar l.initial.program l.program l.at;
  held : IsHeldIn l.initial.program.packages.items l.held;
}
