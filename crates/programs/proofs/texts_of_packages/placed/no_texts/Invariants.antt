use Rattle.programs.specs.TextsOfPackages.Given.{HaveNone}
use Rattle.programs.proofs.texts_of_packages.placed.no_texts.Given as goal

abbrev pub invariant-loop-number : goal.invariant-loop-number
invariant-loop-number l = HaveNone l.number l.kept.items
