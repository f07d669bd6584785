-- Steps over a use that is a name and becomes a name (Go specification, Constant declarations; Qualified identifiers;
-- Declarations and scope).
use Rattle.std.specs.Prelude.{◌≡◌, ℕ, List, Option, Some, slice_get}
use Rattle.go_tree.specs.Tree.{NameAt, named, Expr, ident, selector}
use Rattle.go_tree.specs.File.{Decl}
use Rattle.pkg_graph.specs.Package.{Package}
use Rattle.run_rules.specs.FormTrees.{as_expr}
use Rattle.run_rules.specs.Programs.{top_place, decl_seen}
use Rattle.run_rules.specs.Run.{Standing, Logged, Next}
use Rattle.run_rules.specs.Sites.{MarkRef, Where, an_expr, a_constant, an_alias, part_span, where_is, inlinable}
use Rattle.run_rules.specs.Sites.{qualifier}
use Rattle.run_rules.specs.Steps.{At}
use Rattle.constant_steps.specs.PlaceMeanings.Parts.{AllScoped}
use Rattle.put_nodes.specs.SpelledNames.{IsNameExpr}
use Rattle.put_nodes.specs.Put.{IsSomeName}

-- the constant is declared as a name, or as one with the name of a package before it that the file imports
pub data IsDeclaredAsName (ps : List (Package At)) (home : Where At) : Expr At → Type 0 where
  as_name : {s : At} {n : List ℕ} → IsDeclaredAsName ps home (ident s n)
  as_member : {s z : At} {q : List ℕ} {n : NameAt At} (k : ℕ) (p : Package At)
      → qualifier ps home (top_place ps home.number home.of home.source.tree) q ≡ Some k → slice_get ps k ≡ Some p
      → IsDeclaredAsName ps home (selector s (ident z q) n)

module _ {marks : List MarkRef} {st : Standing} {l : Logged} {after : Standing} (n : Next marks st l after) where
  -- Of the declaration around the use: each literal of a function has a type, and no `for` declares behind its test.
  abbrev pub IsScopedAround : Type 0
  IsScopedAround =
      (d : Decl At) → slice_get n.found.site.at.source.tree.decls n.found.site.decl ≡ Some d
      → AllScoped (decl_seen st.packages n.found.site.at.number n.found.site.at.of n.found.site.at.source.tree d)

  -- The use is a name.
  pub record IsUsedByName : Type 0 where
    pub old : Expr At
    pub part : n.found.site.part ≡ an_expr old
    pub is_name : IsSomeName old

  -- It becomes a name.
  pub record BecomesName : Type 0 where
    pub new : Expr At
    pub form_is : n.found.form ≡ as_expr new
    pub range_is : n.found.range ≡ part_span n.found.site.part
    pub is_name : IsNameExpr new

  -- What is used is a constant that is declared as a name.
  pub record UsesConstant : Type 0 where
    pub home : Where At
    pub home_is : where_is st.packages n.found.site.mark ≡ Some home
    pub name : NameAt At
    pub value : Expr At
    pub declared : inlinable st.packages n.found.site.mark ≡ Some (a_constant name value)
    pub as_name : IsDeclaredAsName st.packages home value

  -- What is used is an alias of a type's name. Where the name of an import stands before it, that leads to a package.
  pub record UsesAlias : Type 0 where
    pub home : Where At
    pub home_is : where_is st.packages n.found.site.mark ≡ Some home
    pub name : NameAt At
    pub span : At
    pub before : Option (NameAt At)
    pub type : NameAt At
    pub declared : inlinable st.packages n.found.site.mark ≡ Some (an_alias name (named span before type))
    pub leads :
        (q : NameAt At) (k : ℕ) → before ≡ Some q
        → qualifier st.packages home (top_place st.packages home.number home.of home.source.tree) q.name ≡ Some k
        → (p : Package At) × (slice_get st.packages k ≡ Some p)
