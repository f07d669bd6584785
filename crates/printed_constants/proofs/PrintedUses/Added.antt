-- What marked_runs asks of the declarations around such a use.
use Rattle.std.proofs.Common.{◌≡◌, ◌∙◌, ap, true, List, map, Some}
use Rattle.std.specs.Prelude.{slice_get}
use Rattle.go_tree.specs.declared.spans.Span.{Span}
use Rattle.go_tree.specs.File.{Decl}
use Rattle.pkg_graph.specs.Package.{SourceTree, Package}
use Rattle.constant_steps.proofs.AfterStep.{nth_changed}
use Rattle.constant_steps.proofs.MarksFound.{StandsThere, stands_there}
use Rattle.constant_steps.specs.Alone.{PlainFiles}
use Rattle.constant_steps.specs.PlainUse.{AllSimple}
use Rattle.order_runs.specs.CycleRuns.ImportCycles.ImportSteps.{file_added, packages_added, where_added}
use Rattle.order_runs.proofs.CycleRuns.ImportCycles.ImportStep.{placed}
use Rattle.order_runs.specs.CycleRuns.Linked.{WritesFile}
use Rattle.order_runs.specs.CycleRuns.OrderCycles.NewNames.{AvoidsFew}
use Rattle.printed_constants.specs.TypedParts.MarkedRuns.KeptMarks.Over.{IsOverName}
use Rattle.printed_constants.specs.TypedParts.MarkedRuns.Marked.{StandsAdded, decl_there}
use Rattle.printed_constants.specs.TypedParts.MarkedRuns.LinkedMembers.Laws.{HaveFiles, ImportsUsed}
use Rattle.printed_constants.specs.TypedParts.MarkedRuns.SettledConstants.Laws.{ConstantsWrite}
use Rattle.printed_constants.specs.TypedParts.MarkedRuns.SettledConstants.Programs.{IsReady}
use Rattle.order_runs.specs.RunSteps.RunPackages.{members_of}
use Rattle.go_translation.specs.Packages as translated
use Rattle.go_translation.specs.Packages.{are_well_typed}
use Rattle.printed_constants.proofs.TypedParts.MarkedRuns.KeptMarks.Kept.{writes}
use Rattle.printed_constants.proofs.TypedParts.MarkedRuns.LinkedMembers.Stand.{imports-stand}
use Rattle.splice_laws.proofs.RunLaws.FoundSpans.{Placed}
use Rattle.run_rules.specs.Programs.{linked_file}
use Rattle.run_rules.specs.Run.{Standing, Logged, Next, here_of}
use Rattle.run_rules.specs.Sites.{MarkRef, Where, where_is}
use Rattle.run_rules.specs.Steps.{At, change_nth}
use Rattle.run_rules.specs.Printed.{ArePrinted}
use Rattle.printed_constants.proofs.Parts.{decl_parts, parts_simple}
use Rattle.printed_constants.proofs.Plain.{packages_plain}
use Rattle.printed_constants.proofs.Steps.{added_printed}
use Rattle.printed_constants.specs.PrintedUses.Added.{IsNamedThere}
use Rattle.printed_constants.specs.PrintedUses.Laws.{PrintedUsesStand}
use Rattle.printed_constants.specs.UsedImports.Laws.{StepsLeaveImportsUsed}
use Rattle.printed_constants.proofs.PrintedUses.Over.{steps_over}

module _ (marks : List MarkRef) (st : Standing) (l : Logged) (after : Standing) (n : Next marks st l after) (printed : ArePrinted st.packages) where
  abbrev rs : List (Package At)
  rs = packages_added st.packages n.found

  all : ArePrinted rs
  all = added_printed marks st l after n printed

  here : Placed here_of (λ (s : Span). Unit {0}) st.packages marks n.found.site
  here = placed marks st l after n

  package_there : slice_get rs n.found.site.at.number ≡ Some (where_added n.found).of
  package_there =
      nth_changed (λ (p : Package At). record p { files = change_nth n.found.site.at.file_number (λ (s : SourceTree At). record s { tree = file_added n.found }) p.files }) n.found.site.at.number st.packages n.found.site.at.of here.package_is

  own_plain : PlainFiles (map (linked_file rs) (where_added n.found).of.files)
  own_plain = packages_plain rs rs all (record (where_added n.found) { number = n.found.site.at.number }) package_there

  marked_plain : (m : MarkRef) (home : Where At) → where_is rs m ≡ Some home → PlainFiles (map (linked_file rs) home.of.files)
  marked_plain m home home_is =
      let there : StandsThere rs m home = stands_there rs m home home_is in
      packages_plain rs rs all home (ap (slice_get rs) there.number ∙ there.package_there)

  are_simple : (d : Decl At) → slice_get n.found.site.at.source.tree.decls n.found.site.decl ≡ Some d → AllSimple (decl_there n d)
  are_simple d e =
      parts_simple (decl_there n d)
      (decl_parts rs n.found.site.at.number (where_added n.found).of (file_added n.found) (printed n.found.site.at here.package_is here.file_is n.found.site.decl d e))

  pub stands_added : IsReady st → are_well_typed (members_of st.packages) ≡ true → HaveFiles st.packages → AvoidsFew st.packages n.found → WritesFile n → ((more : List (translated.Package At)) → ImportsUsed more (members_of after.packages)) → IsNamedThere n → StandsAdded n
  stands_added ready typed files few write used named = record {
    place = named.place;
    use_ = named.use_;
    used_as = named.used_as;
    there = named.there;
    plain = own_plain;
    home_plain = marked_plain n.found.site.mark named.use_.home named.use_.home_is;
    new_plain = marked_plain named.use_.new_mark named.use_.new_home named.use_.new_home_is;
    simple = are_simple;
    form = named.form;
    imports = λ marked Q w. imports-stand marks st l after n named.use_.new named.form ready.links files typed few write Q (used Q);
  }

pub uses_stand : ConstantsWrite → StepsLeaveImportsUsed → PrintedUsesStand
uses_stand write used marks st l after n ready typed printed files own all small named =
    let over : IsOverName n = steps_over marks st l after n ready printed own all small in
    stands_added marks st l after n printed ready typed files over.few (writes marks st l after n over write ready all)
    (λ more. used marks st l after n ready typed printed own all small more) named
