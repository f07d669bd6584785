use Rattle.stepped_programs.proofs.Unsettling.{SoFar}
use Rattle.stepped_programs.proofs.flags.unsettle_files.Given as goal

abbrev pub invariant-loop-file : goal.invariant-loop-file
invariant-loop-file l = SoFar l.users l.decl l.home l.initial.settled l.file l.settled
