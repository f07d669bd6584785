-- What is answered of a use of a marked constant, by what the code is told of the program and of its file (Go
-- specification, Constant declarations; Qualified identifiers).
use Rattle.std.specs.Prelude.{◌≡◌, ℕ, ◌<◌, ◌^◌, Bool, List, Option, Some, None}
use Rattle.go_tree.specs.Tree.{NameAt, Expr}
use Rattle.go_tree.specs.FileView.{file_of}
use Rattle.scope_tables.specs.Table.{table_of}
use Rattle.pkg_graph.specs.Package.{Package}
use Rattle.run_rules.specs.Sites.{MarkRef, Where, Site}
use Rattle.run_rules.specs.Steps.{At}
use Rattle.module_marks.specs.Views.{mark_ref_of}
use Rattle.member_uses.specs.Uses.{Names}
use Rattle.constant_forms.specs.declared.uses.ConstantUse.{ConstantUse}
use Rattle.constant_forms.specs.declared.reduced.ReducedConstant.{ReducedConstant}
use Rattle.constant_forms.specs.Told.{AreInPackages}
use Rattle.constant_forms.specs.Uses.{IsUse, IsReducedTo}
use Rattle.repeated_parts.specs.declared.use_search.mark_values.values.DeclaredValue.{DeclaredValue}
use Rattle.repeated_parts.specs.UseSearch.MarkValues.Values.{value_of}
use Rattle.repeated_parts.specs.UseSearch.MarkValues.Tables.{value_in}
use Rattle.repeated_parts.specs.declared.use_search.uses_of_marks.uses.MarkedUse.{MarkedUse}
use Rattle.repeated_parts.specs.declared.use_search.views.FileView.{FileView}
use Rattle.repeated_parts.specs.declared.use_search.views.ProgramView.{ProgramView}

-- what the names of a file mean, as member_uses asks it
abbrev pub names_of : FileView → Names
names_of f = record { table = table_of f.scopes.now; home = f.home; imports = f.imports.now }

module _ (p : ProgramView) (f : FileView) (u : MarkedUse) where
  -- constant_forms is told this of the use
  pub record IsTold (c : ConstantUse) : Type 0 where
    pub value_is : value_in p.values.now (mark_ref_of u.mark) ≡ Some (value_of c.value)
    pub home_is : u.mark.«package» ≡ c.home
    pub packages_are : c.packages.now ≡ p.packages.now
    pub there_is : f.home ≡ c.there
    pub file_is : file_of c.file.now ≡ file_of f.tree.now
    pub names_are : c.names.now ≡ f.names.now
    pub table_is : table_of c.scopes.now ≡ table_of f.scopes.now
    pub begins : c.at ≡ u.span.start
    pub stands : c.span ≡ u.span
    pub comments_are : c.comments.now ≡ f.comments.now
    pub repeats : c.repeated ≡ u.repeated

  -- It can't be told of it: the constant is declared as neither a name nor a name of another package, or a package has
  -- a large number.
  abbrev pub CantBeTold : Type 0
  CantBeTold =
      (v : DeclaredValue) → value_in p.values.now (mark_ref_of u.mark) ≡ Some v → f.home < 2 ^ 32
      → u.mark.«package» < 2 ^ 32 → ⊥

-- A use of which constant_forms is told this becomes this form, or is kept by this obstacle, wherever it stands.
abbrev pub IsReduction : ConstantUse → ReducedConstant → Type 0
IsReduction c r =
    (ps : List (Package At)) (commented : ℕ → ℕ → At → Bool) (marks : List MarkRef) (x : Site At) (home : Where At)
    (n : NameAt At) (e : Expr At) → IsUse ps commented x home n e c → IsReducedTo ps commented marks x r

-- It is what the use becomes, or what keeps it. Nothing is answered where constant_forms can't be told of the use, or
-- is told of packages that aren't there.
abbrev pub IsAnswer : ProgramView → FileView → MarkedUse → Option ReducedConstant → Type 0
IsAnswer p f u (Some r) = (c : ConstantUse) × (IsTold p f u c × IsReduction c r)
IsAnswer p f u None =
    (v : DeclaredValue) → value_in p.values.now (mark_ref_of u.mark) ≡ Some v → f.home < 2 ^ 32
    → u.mark.«package» < 2 ^ 32 → (c : ConstantUse) × (IsTold p f u c × (AreInPackages c → ⊥))
