-- The law of packages that print only. It is the contract of a function of this crate (Go specification, Constant
-- declarations; Function declarations).
use Rattle.std.specs.Prelude.{◌≡◌, true, List}
use Rattle.pkg_graph.specs.Package.{Package}
use Rattle.run_rules.specs.Printed.{ArePrinted}
use Rattle.checked_modules.specs.RefusedBodies.PrintedPackages.Packages.{print_only}

-- Packages that print only are packages of constants and of functions that print them, whatever their spans.
abbrev pub PrintOnlyIsPrinted : Type 0 → Type 0
PrintOnlyIsPrinted S = (ps : List (Package S)) → print_only ps ≡ true → ArePrinted ps
