-- Marked functions by numbers: their places in a list, and links from each to those that its body uses (Go
-- specification, Calls).
use Rattle.std.specs.Prelude.{◌≡◌, ℕ, true, List, length, Some, slice_get}
use Rattle.pkg_graph.specs.Package.{Package}
use Rattle.pkg_graph.specs.ImportOrder.Numbers.{AreLinks, is_among, row}
use Rattle.run_rules.specs.Cycles.{leads_to}
use Rattle.run_rules.specs.Sites.{MarkRef, is_among_marks}

module _ {S : Type 0} (ps : List (Package S)) (marks : List MarkRef) where
  -- All that a listed function leads to is listed, and the links are those between the listed ones, by their numbers.
  pub record AreLinksOf (functions : List MarkRef) (links : List (List ℕ)) : Type 0 where
    pub size : length links ≡ length functions
    pub within : AreLinks links
    pub listed :
        (k : ℕ) (m n : MarkRef) → slice_get functions k ≡ Some m → is_among_marks (leads_to ps marks m) n ≡ true
        → (j : ℕ) × (slice_get functions j ≡ Some n)
    pub linked :
        (k j : ℕ) (m n : MarkRef) → slice_get functions k ≡ Some m → slice_get functions j ≡ Some n
        → is_among (row links k) j ≡ is_among_marks (leads_to ps marks m) n
