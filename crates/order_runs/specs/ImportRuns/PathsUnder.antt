-- Packages of a run with the same declarations under other imports (Go specification, Packages; Import declarations;
-- Declarations and scope).
use Rattle.std.specs.Prelude.{◌≡◌, List}
use Rattle.pkg_graph.specs.Package.{Package}
use Rattle.typed_in_place.specs.ProgramsAlike.{OneByOne}
use Rattle.order_runs.specs.CycleRuns.ImportCycles.OtherImports.{FileUnder}

module _ {S : Type 0} where
  -- two packages with the same path and name, in whose files the same declarations stand, and each name that these look
  -- up is that of the same import, or of none
  pub record PathUnder (ps qs : List (Package S)) (p q : Package S) : Type 0 where
    pub path : q.path ≡ p.path
    pub name : q.name ≡ p.name
    pub files : OneByOne (FileUnder ps qs) p.files q.files

  -- such packages one by one
  abbrev pub PathsUnder : List (Package S) → List (Package S) → Type 0
  PathsUnder ps qs = OneByOne (PathUnder ps qs) ps qs
