-- The law of what constants are declared as. It is the contract of a function of this crate (Go specification, Constant
-- declarations; Declarations and scope).
use Rattle.std.specs.Prelude.{◌≡◌, List, [], Some}
use Rattle.go_translation.specs.SameMeaning.{WellTyped}
use Rattle.go_tree.specs.Tree.{NameAt, Expr}
use Rattle.order_runs.specs.CycleRuns.OrderCycles.Orders.{AllOrdered}
use Rattle.pkg_graph.specs.Package.{Package}
use Rattle.run_rules.specs.Sites.{MarkRef, Where, a_constant, where_is, inlinable}
use Rattle.run_rules.specs.Steps.{At}
use Rattle.order_runs.specs.RunSteps.RunPackages.{packages_of}
use Rattle.printed_constants.specs.DeclaredMembers.Members.{IsMember}

-- In a well-typed program each of whose packages stands in the dependency order, what a constant is declared as, where
-- that is a name alone, is a member of the package block, or predeclared.
abbrev pub ConstantsNameMembers : Type 0
ConstantsNameMembers =
    (ps : List (Package At)) → AllOrdered ps → WellTyped (packages_of ps []) → (m : MarkRef) (home : Where At)
    (c : NameAt At) (e : Expr At) → where_is ps m ≡ Some home → inlinable ps m ≡ Some (a_constant c e)
    → IsMember ps home e
