use Rattle.std.proofs.Common.{◌≡◌, ◌++◌, drop, map, Some}
use Rattle.name_walks.specs.Around.{place_in}
use Rattle.programs.specs.TextsOfPackages.Given.{home_path}
use Rattle.programs.proofs.texts_of_packages.numbers.file_numbers.Given as goal

abbrev pub invariant-loop-scanned : goal.invariant-loop-scanned
invariant-loop-scanned l =
    map (λ n. Some n) l.numbers.items ++ map (λ s. place_in l.places (home_path l.module_path s)) (drop l.scanned-index l.files)
    ≡ map (λ s. place_in l.places (home_path l.module_path s)) l.files
