-- Where names stand first in a list.
use Rattle.std.specs.Prelude.{◌≡◌, ℕ, List}
use Rattle.pkg_graph.specs.ModuleFiles.PathLists.{number_of}
use Rattle.name_walks.specs.Around.{place_in}

-- Each name has the place at which it stands first, and a name that isn't among them has none.
pub record Finds (places : List (List ℕ × ℕ)) (names : List (List ℕ)) : Type 0 where
  pub found : (q : List ℕ) → place_in places q ≡ number_of names q
