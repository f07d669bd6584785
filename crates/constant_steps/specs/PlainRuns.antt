-- A run of steps over plain uses of constants, each in the packages that the steps before it leave (Go specification,
-- Constant declarations; Program execution).
use Rattle.std.specs.Prelude.{ℕ, Bool, List}
use Rattle.go_tree.specs.Tree.{ident}
use Rattle.pkg_graph.specs.Package as run
use Rattle.go_translation.specs.Packages.{sources}
use Rattle.go_translation.specs.SameMeaning.{Packages}
use Rattle.run_rules.specs.Sites.{MarkRef, Site, part_span}
use Rattle.constant_steps.specs.StepLaws.SwapPrograms.{members_put}
use Rattle.constant_steps.specs.Alone.{PackageAt}
use Rattle.constant_steps.specs.PlainUse.{linked_at, PlainUse, UseStands}

module _ {S : Type 0} (same : S → S → Bool) where
  -- A step in these packages, over a plain use among the packages of a run; the package of the use stands among these.
  pub record PlainStep (P : Packages S) : Type 0 where
    pub commented : ℕ → ℕ → S → Bool
    pub packages : List (run.Package S)
    pub marks : List MarkRef
    pub site : Site S
    pub use_ : PlainUse same commented packages marks site
    pub stands : UseStands same commented packages marks site use_
    pub named_at : S
    pub nth : ℕ
    pub there : PackageAt (linked_at packages site.at named_at) nth (sources P.members)

  -- the packages after it
  abbrev pub after_plain : (P : Packages S) → PlainStep P → Packages S
  after_plain P t =
      record P {
        members = members_put same t.packages (part_span t.site.part) (ident (part_span t.site.part) t.use_.new)
            t.site.at.number t.site.at.of t.site.at.source.tree t.nth t.site.at.file_number t.site.decl P.members;
      }

  -- any number of such steps, one after the other
  pub data PlainRun : Packages S → Packages S → Type 0 where
    no_step : {P : Packages S} → PlainRun P P
    and_step : {P P' : Packages S} (t : PlainStep P) → PlainRun (after_plain P t) P' → PlainRun P P'
