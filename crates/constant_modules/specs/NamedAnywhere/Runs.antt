-- Steps over uses of constants that are declared as names, of any packages, in declarations of any form, one after the
-- other (Go specification, Constant declarations; Qualified identifiers; Program execution).
use Rattle.std.specs.Prelude.{◌≡◌, ℕ, Bool, List}
use Rattle.pkg_graph.specs.Package as run
use Rattle.go_translation.specs.Packages.{Package, sources}
use Rattle.go_translation.specs.SameMeaning.{Packages, WellTyped, with_further}
use Rattle.run_rules.specs.FormTrees.{as_expr}
use Rattle.run_rules.specs.Programs.{linked}
use Rattle.run_rules.specs.Sites.{MarkRef, Site, part_span}
use Rattle.run_rules.specs.Steps.{Found}
use Rattle.constant_steps.specs.StepLaws.SwapPrograms.{members_put}
use Rattle.constant_modules.specs.NamedAnywhere.Use.{ConstantUse, NamedUseAnywhere, PackagesStandAnywhere}
use Rattle.constant_modules.specs.NamedAnywhere.Use.{ImportsStayAnywhere}

module _ {S : Type 0} (same : S → S → Bool) (commented : ℕ → ℕ → S → Bool) (rs : List (run.Package S))
    (marks : List MarkRef) (x : Site S) (u : ConstantUse same commented rs marks x) where
  -- the use with its form, its place and the names that the form has for packages
  abbrev pub found_anywhere : Found S
  found_anywhere = record { site = x; kind = u.kind; form = as_expr u.new; range = u.range; named = u.packages }

  -- the packages after the step, of which the k-th changes
  abbrev pub members_anywhere : ℕ → List (Package S) → List (Package S)
  members_anywhere k ms =
      members_put same rs (part_span x.part) u.new x.at.number x.at.of x.at.source.tree k x.at.file_number x.decl ms

module _ {S : Type 0} (same : S → S → Bool) where
  -- A step in these packages, which are what the packages of a run are linked to, over a use of a constant that is
  -- declared as a name.
  pub record NamedStepAnywhere (P : Packages S) : Type 0 where
    pub commented : ℕ → ℕ → S → Bool
    pub packages : List (run.Package S)
    pub marks : List MarkRef
    pub site : Site S
    pub use_ : ConstantUse same commented packages marks site
    pub stands : NamedUseAnywhere same commented packages marks site use_
    pub linked_there : sources P.members ≡ linked packages
    pub there : PackagesStandAnywhere same commented packages marks site use_ (sources P.members)
    pub imports :
        (Q : List (Package S)) → WellTyped (with_further P Q) →
        ImportsStayAnywhere same commented packages marks site use_ there.use_.nth (sources P.members) (sources Q)

  -- the packages after it
  abbrev pub after_named : (P : Packages S) → NamedStepAnywhere P → Packages S
  after_named P t =
      record P {
        members = members_anywhere same t.commented t.packages t.marks t.site t.use_ t.there.use_.nth P.members;
      }

  -- any number of such steps, one after the other
  pub data NamedRunAnywhere : Packages S → Packages S → Type 0 where
    no_step : {P : Packages S} → NamedRunAnywhere P P
    and_step : {P P' : Packages S} (t : NamedStepAnywhere P) → NamedRunAnywhere (after_named P t) P' →
        NamedRunAnywhere P P'
