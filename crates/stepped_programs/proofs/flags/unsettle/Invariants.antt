use Rattle.stepped_programs.proofs.Unsettling.{SoMany}
use Rattle.stepped_programs.proofs.flags.unsettle.Given as goal

abbrev pub invariant-loop-home : goal.invariant-loop-home
invariant-loop-home l = SoMany l.users l.decl l.initial.files l.home l.files
