-- A use that becomes a literal in well-typed packages is linked, and the packages are translated.
use Rattle.std.proofs.Common.{ap, ◌∙◌, List}
use Rattle.std.specs.Prelude.{slice_get}
use Rattle.go_tree.specs.declared.spans.Span.{Span}
use Rattle.go_translation.specs.Packages as translated
use Rattle.pkg_graph.specs.Package.{Package}
use Rattle.run_rules.specs.Programs.{linked}
use Rattle.run_rules.specs.Sites.{MarkRef}
use Rattle.constant_steps.proofs.MarksFound.{StandsThere, stands_there}
use Rattle.order_runs.proofs.RunSteps.PackageStands.{StandsAt}
use Rattle.literal_steps.specs.CalledAt.{Linked}
use Rattle.literal_steps.specs.RankedMarks.Free.{Translated}
use Rattle.standing_files.specs.TypedUses.{TypedPackages, TypedUse}
use Rattle.standing_files.proofs.FilesStand.{stands-at, file-stands, mark-stands}

pub packages-translated :
    (ps : List (Package Span)) (marks : List MarkRef) (ms : List (translated.Package Span)) → TypedPackages ps ms →
    Translated ps marks ms
packages-translated ps marks ms t =
    record {
      sources_are = t.sources_are;
      distinct = t.distinct;
      typed = t.typed;
      stand = λ m w marked inlined e. mark-stands ps t.ordered t.typed m w e;
    }

pub use-linked : (x : TypedUse Span) → Linked x.packages x.members x.site x.same x.commented x.marks x.becomes
use-linked x =
    let ps : List (Package Span) = x.packages in
    let there : StandsThere ps x.site.mark x.becomes.home = stands_there ps x.site.mark x.becomes.home x.becomes.stands in
    let at : StandsAt ps x.becomes.home (linked ps) =
    stands-at ps x.typed.ordered x.typed.typed x.becomes.home x.site.mark.file
    (ap (slice_get ps) there.number ∙ there.package_there) there.file_there in
    record {
      sources_are = x.typed.sources_are;
      distinct = x.typed.distinct;
      typed = x.typed.typed;
      package_there = x.file.package_there;
      named_at = at.at;
      nth = at.nth;
      stands = at.there;
      home_stands = mark-stands ps x.typed.ordered x.typed.typed x.site.mark x.becomes.home x.becomes.stands;
      there_stands = file-stands ps x.typed.ordered x.typed.typed x.site.at x.file;
    }
