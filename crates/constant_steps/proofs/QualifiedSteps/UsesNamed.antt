-- What a run finds as a use of a marked constant is a name of it.
use Rattle.std.specs.Prelude.{◌≡◌, List, Some}
use Rattle.go_tree.specs.Tree.{Expr}
use Rattle.pkg_graph.specs.Package.{Package}
use Rattle.run_rules.specs.Surroundings.{Place}
use Rattle.run_rules.specs.Sites.{MarkRef, Where, not_function, expr_mark, name_mark, qualified_mark}
use Rattle.constant_steps.proofs.MarksFound.{marked_so}
use Rattle.constant_steps.specs.QualifiedSteps.MemberNames.{IsMemberName, a_plain_name, an_exported_name, NamesMember, own_member, imported_member}

pub uses_named : {S : Type 0} (rs : List (Package S)) (marks : List MarkRef) (w : Where S) (p : Place S) (e : Expr S) (m : MarkRef) → IsMemberName e → expr_mark rs marks w p e ≡ Some m → NamesMember rs w p e m
uses_named rs marks w p _ m (a_plain_name {n = n}) q = own_member (marked_so rs marks not_function (name_mark rs w p n) m q)
uses_named rs marks w p _ m (an_exported_name {q = a} {n = n} x) q = imported_member (marked_so rs marks not_function (qualified_mark rs w p a n.name) m q) x
