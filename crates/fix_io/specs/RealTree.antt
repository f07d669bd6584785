-- What is known of the working directory.
use Rattle.std.specs.Prelude.{ℕ, List, Option}
use Rattle.fix_io.specs.declared.tree.Call.{Call}

-- the paths that the walk found, how many calls have failed, and which one last
pub record RealState : Type 0 where
  pub listed : List (List ℕ)
  pub faults : ℕ
  pub failed : Option Call
