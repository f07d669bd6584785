-- A use of an alias in its own package, which is declared as a name of its package or of the universe block, and in
-- whose way nothing stands (Go specification, Alias declarations; Declarations and scope).
use Rattle.std.specs.Prelude.{◌≡◌, ℕ, Bool, true, List, None, Some}
use Rattle.go_tree.specs.Tree.{NameAt, named, ident}
use Rattle.pkg_graph.specs.Package.{Package}
use Rattle.pkg_graph.specs.Members.{Target}
use Rattle.run_rules.specs.Obstacles.{is_taken_plainly}
use Rattle.run_rules.specs.Sites.{MarkRef, Where, Part, an_expr, a_type_part, Site, an_alias, where_is, inlinable}
use Rattle.run_rules.specs.Sites.{outer_meaning}
use Rattle.run_rules.specs.Naming.{Named}
use Rattle.run_rules.specs.FormTrees.{FormKind, Form, as_expr, as_type}
use Rattle.run_rules.specs.Reduced.{becomes, home_place, reduced}

-- the name of a type, as what a use becomes: an expression where the use is one
abbrev pub name_form : {S : Type 0} → S → Part S → List ℕ → Form S
name_form z (an_expr e) n = as_expr (ident z n)
name_form z (a_type_part t) n = as_type (named z None (record { span = z; name = n }))

module _ {S : Type 0} (same : S → S → Bool) (commented : ℕ → ℕ → S → Bool) (rs : List (Package S))
    (marks : List MarkRef) (x : Site S) where
  -- The mark holds for an alias of the package in which the use stands, and the alias is declared as a name of the
  -- package or of the universe block. Nothing is in the way: the use becomes a form.
  pub record PlainAliasUse : Type 0 where
    pub home : Where S
    pub stands : where_is rs x.mark ≡ Some home
    pub alias : NameAt S
    pub at : S
    pub new : NameAt S
    pub declared : inlinable rs x.mark ≡ Some (an_alias alias (named at None new))
    pub same_package : home.number ≡ x.at.number
    pub kind : FormKind
    pub form : Form S
    pub range : S
    pub packages : List Named
    pub reduces : reduced same commented rs marks x ≡ Some (becomes kind form range packages)
    pub target : Target
    pub names : outer_meaning rs home (home_place same commented rs marks home) new.name ≡ Some target
    pub plainly : is_taken_plainly rs home x.at x.place target ≡ true
