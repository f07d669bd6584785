-- A use of an alias as an expression: as what is called in a conversion, or as the type that `make` or `new` is given
-- (Go specification, Conversions; Making slices, maps and channels; Allocation; Alias declarations).
use Rattle.std.specs.Prelude.{◌≡◌, ℕ, Bool, true, false, List}
use Rattle.go_tree.specs.Tree.{TypeExpr, pointer, Expr}
use Rattle.pkg_graph.specs.Package.{Package}
use Rattle.run_rules.specs.Programs.{decl_seen}
use Rattle.run_rules.specs.Sites.{MarkRef, Site, an_expr}
use Rattle.constant_steps.specs.PlainUse.{AllTheUse}
use Rattle.alias_runs.specs.AliasSteps.Retypable.{IsCalleePlace}
use Rattle.alias_runs.specs.QualifiedAliases.AliasUse.{AliasUse, AliasUseStands, IsTypeUse}

-- `*` before a type
abbrev pub is_pointer : {S : Type 0} → TypeExpr S → Bool
is_pointer (pointer s t) = true
is_pointer t = false

module _ {S : Type 0} (same : S → S → Bool) (commented : ℕ → ℕ → S → Bool) (rs : List (Package S))
    (marks : List MarkRef) (x : Site S) (u : AliasUse same commented rs marks x)
    (v : AliasUseStands same commented rs marks x u) where
  -- The use is an expression; where the alias is declared as `*` before a type, it is what is called. Nothing else
  -- stands at its span in its declaration.
  pub record IsCalledUse : Type 0 where
    pub use_ : Expr S
    pub part : x.part ≡ an_expr use_
    pub called : is_pointer u.text ≡ true → IsCalleePlace x.place
    pub alone : AllTheUse same x use_ (decl_seen rs x.at.number x.at.of x.at.source.tree v.decl)

  -- the use is a written type, or such an expression
  pub data IsPlaced : Type 0 where
    as_written : IsTypeUse same commented rs marks x u v → IsPlaced
    as_called : IsCalledUse → IsPlaced
