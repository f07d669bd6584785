-- The packages of a module and the texts of its files, each found by its path.
use Rattle.std.specs.Prelude.{map}
use Rattle.file_names.specs.Places.{Finds}
use Rattle.file_names.specs.Imports.{FindsPackages}
use Rattle.module_marks.specs.declared.sources.Sources.{Sources}

-- each package and each file has its place
pub record FindsSources (s : Sources) : Type 0 where
  pub packages : FindsPackages s.places s.packages.now
  pub texts : Finds s.texts (map (λ f. f.file.now.path) s.files.now)
