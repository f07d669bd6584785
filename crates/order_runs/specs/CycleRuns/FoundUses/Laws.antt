-- The laws of the use that a step replaces. Each is the contract of a function of this crate (Go specification, Calls).
use Rattle.std.specs.Prelude.{◌≡◌, true, List}
use Rattle.run_rules.specs.Sites.{MarkRef}
use Rattle.run_rules.specs.Cycles.{is_recursive}
use Rattle.run_rules.specs.Run.{Standing, Logged, Next}

-- What a step uses lies on no cycle of marked functions.
abbrev pub StepsUseNoRecursive : Type 0
StepsUseNoRecursive =
    (marks : List MarkRef) (st : Standing) (l : Logged) (after : Standing) (n : Next marks st l after)
    → is_recursive st.packages marks n.found.site.mark ≡ true → ⊥
