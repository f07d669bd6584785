use Rattle.std.specs.Vec.Iter.{into_iter_items}
use Rattle.programs.proofs.TextsOfPackages.Placing.{Places}
use Rattle.programs.proofs.texts_of_packages.placed.place_texts.Given as goal

abbrev pub invariant-loop-number : goal.invariant-loop-number
invariant-loop-number l = Places l.numbers l.fn.files.items l.initial.kept.items l.kept.items l.number-index (into_iter_items l.rest)
