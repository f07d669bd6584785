-- Uses of functions in the bodies of functions of well-typed packages (Go specification, Calls; Function declarations;
-- Method declarations; Variable declarations; Packages).
use Rattle.std.specs.Prelude.{◌≡◌, ℕ, Bool, true, List, [], ◌∷◌, length, Some, slice_get}
use Rattle.go_tree.specs.declared.spans.Span.{Span}
use Rattle.go_tree.specs.File.{Func, func}
use Rattle.go_tree.specs.Tree.{Expr, var_decl}
use Rattle.pkg_graph.specs.Package.{Package}
use Rattle.go_kernel.specs.Kernel.{FuncName}
use Rattle.go_translation.specs.Packages as translated
use Rattle.go_translation.specs.Packages.{paths_in}
use Rattle.run_rules.specs.FormTrees.{as_expr}
use Rattle.run_rules.specs.Places.{stmts_seen, variables_seen}
use Rattle.run_rules.specs.Programs.{body_place}
use Rattle.run_rules.specs.Sites.{MarkRef, Site, part_span}
use Rattle.run_rules.specs.Surroundings.{Seen, seen_stmt, plain_slot}
use Rattle.constant_steps.specs.PlainUse.{linked_at}
use Rattle.constant_steps.specs.StepLaws.Kept.{NoneAt}
use Rattle.constant_steps.specs.StepLaws.SwapPrograms.{members_put}
use Rattle.literal_steps.specs.CalledAt.{Linked}
use Rattle.literal_steps.specs.LiteralUse.{LiteralUse, PlainCall}
use Rattle.literal_steps.specs.RankedMarks.Free.{is_free, Translated, NoConstantGroups}
use Rattle.literal_steps.specs.RankedMarks.Ranks.{marked_functions}
use Rattle.literal_steps.specs.ServedPackages.ServedFunctions.{NeedsNoImport}
use Rattle.literals_in_place.specs.StepsInBodies.Functions.{ImportStaysUsed}
use Rattle.literals_in_place.specs.StepsInBodies.Once.{StandsOnce, is_group}

module _ {S : Type 0} (same : S → S → Bool) (x : Site S) where
  -- in a group that declares variables one by one the use doesn't stand
  abbrev pub OutsideGroup : Seen S → Type 0
  OutsideGroup (seen_stmt p (var_decl s g ss)) =
      is_group ss ≡ true → NoneAt same (part_span x.part) (variables_seen (plain_slot p) ss)
  OutsideGroup y = Unit {0}

  -- so in no part of a list
  abbrev pub OutsideGroups : List (Seen S) → Type 0
  OutsideGroups [] = Unit {0}
  OutsideGroups (y ∷ ys) = OutsideGroup y × OutsideGroups ys

  -- The declaration around the use is a function or method, in the package with this number among those of the program.
  -- In its body the use stands once, and in no group of variables.
  pub record StandsInBody (rs : List (Package S)) (tree : Expr S) (ms : List (translated.Package S)) : Type 0 where
    pub nth : ℕ
    pub of : translated.Package S
    pub is_nth : slice_get ms nth ≡ Some of
    pub named_at : S
    pub source_is : of.source ≡ linked_at rs x.at named_at
    pub file_there : slice_get x.at.of.files x.at.file_number ≡ Some x.at.source
    pub function : Func S
    pub decl_there : slice_get x.at.source.tree.decls x.decl ≡ Some (func function)
    pub once :
        StandsOnce same x tree
        (stmts_seen (body_place rs x.at.number x.at.of x.at.source.tree function) function.body)
    pub outside :
        OutsideGroups (stmts_seen (body_place rs x.at.number x.at.of x.at.source.tree function) function.body)

-- In the body of a function or method of well-typed packages, the call of a function that becomes its literal; the
-- literal needs no import that isn't there. The places of the sources are told apart.
pub record UseInBody (S : Type 0) : Type 0 where
  pub packages : List (Package S)
  pub marks : List MarkRef
  pub same : S → S → Bool
  pub itself : (s : S) → same s s ≡ true
  pub commented : ℕ → ℕ → S → Bool
  pub site : Site S
  pub becomes : LiteralUse same commented packages marks site
  pub by_name : PlainCall same commented packages marks site becomes
  pub members : List (translated.Package S)
  pub linked_so : Linked packages members site same commented marks becomes
  pub no_import : NeedsNoImport same commented packages marks site becomes
  pub stands : StandsInBody same site packages becomes.tree members

-- the packages with a form in the call's place
abbrev pub with_literal : {S : Type 0} → UseInBody S → Expr S → List (translated.Package S)
with_literal x e =
    members_put x.same x.packages (part_span x.site.part) e x.site.at.number x.site.at.of x.site.at.source.tree
    x.stands.nth x.site.at.file_number x.site.decl x.members

-- the functions whose calls are free: the marked ones that lie on no cycle of marked functions
abbrev pub free_in : {S : Type 0} → UseInBody S → FuncName → Bool
free_in x = is_free x.packages x.marks (paths_in x.members)

-- how many functions are marked
abbrev pub marked_in : {S : Type 0} → UseInBody S → ℕ
marked_in x = length (marked_functions x.packages x.marks)

-- A step of a run that puts the literal in the place of its call, which has no obstacle: the packages are those of a
-- translated program, whose marked functions declare no constants. Where the call names its function by an import, the
-- file uses that import after the step.
pub record LiteralStep (x : UseInBody Span) (e : Expr Span) : Type 0 where
  pub form_is : x.becomes.form ≡ as_expr e
  pub translated : Translated x.packages x.marks x.members
  pub no_constants : NoConstantGroups x.packages x.marks
  pub import_used : ImportStaysUsed x.site x.by_name.called (with_literal x e)
