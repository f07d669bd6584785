-- A step over a constant or an alias takes what it puts, with the imports of its form added to its file.
use Rattle.std.proofs.Common.{◌≡◌, true, List, Some}
use Rattle.std.specs.Prelude.{slice_get}
use Rattle.go_tree.specs.declared.spans.Span.{Span}
use Rattle.pkg_graph.specs.Package.{SourceTree, Package}
use Rattle.go_translation.specs.Packages.{are_well_typed}
use Rattle.run_rules.specs.Run.{Standing, Logged, Next, here_of, is_commented}
use Rattle.run_rules.specs.Sites.{MarkRef, Where}
use Rattle.run_rules.specs.Steps.{At, same_here, change_nth}
use Rattle.splice_laws.specs.RunLaws.Reading.{ProgramReads}
use Rattle.splice_laws.proofs.RunLaws.FoundSpans.{Placed}
use Rattle.order_runs.specs.RunSteps.RunPackages.{members_of}
use Rattle.order_runs.proofs.CycleLaws.StepsLead.{change-at}
use Rattle.constant_steps.proofs.MarksFound.{StandsThere, stands_there}
use Rattle.order_runs.specs.CycleRuns.ImportCycles.ImportSteps.{file_added, packages_added, where_added}
use Rattle.order_runs.proofs.CycleRuns.ImportCycles.ImportStep.{placed}
use Rattle.order_runs.specs.ImportSteps.ImportingSteps.{MayBeDeclared}
use Rattle.order_runs.specs.CycleRuns.OrderCycles.Steps.{KeepsImportNames}
use Rattle.order_runs.proofs.CycleRuns.Runs.{look-ups-of}
use Rattle.order_runs.specs.CycleRuns.OrderCycles.NewNames.{NamesByPath, AvoidsFew}
use Rattle.printed_constants.specs.TypedParts.MarkedRuns.SoundImports.Laws.{AddedImportsMayBeDeclared}
use Rattle.alias_runs.specs.QualifiedAliases.AliasUse.{AliasUseStands, ImportsHold}
use Rattle.alias_runs.specs.CalledAliases.CalledUse.{IsPlaced, as_written, as_called}
use Rattle.printed_constants.specs.TypedParts.MarkedRuns.TakenNames.Taken.{site_there, TakesName}
use Rattle.taken_aliases.specs.Taken.{in_its_place, TakesAlias}
use Rattle.printed_constants.specs.TypedParts.MarkedRuns.Marked.{StandsAdded}
use Rattle.printed_constants.proofs.TypedParts.MarkedRuns.Alone.{alone-there}
use Rattle.taken_aliases.specs.MixedRuns.Marked.{PlacedThere, written_there, called_there, AliasStandsAdded}

module _ (sound : AddedImportsMayBeDeclared) (marks : List MarkRef) (st : Standing) (l : Logged) (after : Standing) (n : Next marks st l after) (reads : ProgramReads st) (names : KeepsImportNames n) (by_path : NamesByPath st.packages) (typed : are_well_typed (members_of st.packages) ≡ true) (few : AvoidsFew st.packages n.found) where
  abbrev w : Where At
  w = n.found.site.at

  abbrev mid : List (Package At)
  mid = packages_added st.packages n.found

  abbrev with_tree : SourceTree At → SourceTree At
  with_tree s = record s { tree = file_added n.found }

  abbrev in_package : Package At → Package At
  in_package p = record p { files = change_nth w.file_number with_tree p.files }

  here : Placed here_of (λ (s : Span). Unit {0}) st.packages marks n.found.site
  here = placed marks st l after n

  package-there : slice_get mid w.number ≡ Some (where_added n.found).of
  package-there = change-at in_package st.packages w.number w.of here.package_is

  file-there : slice_get (where_added n.found).of.files w.file_number ≡ Some (where_added n.found).source
  file-there = change-at with_tree w.of.files w.file_number w.source here.file_is

  file-sound : MayBeDeclared mid (where_added n.found)
  file-sound = sound marks st l after n names.ordered by_path typed few (where_added n.found) package-there file-there

  module _ (home : Where At) (there : StandsThere mid n.found.site.mark home) where
    home-sound : MayBeDeclared mid home
    home-sound =
        sound marks st l after n names.ordered by_path typed few
        (record { number = n.found.site.mark.«package»; of = home.of; file_number = n.found.site.mark.file; source = home.source }) there.package_there there.file_there

  pub takes-name : StandsAdded n → TakesName n
  takes-name h = record {
    place = h.place;
    use_ = h.use_;
    stands =
        record {
          package_there = package-there;
          file_there = file-there;
          decl = here.decl;
          decl_there = here.decl_is;
          plain = h.plain;
          home_plain = h.home_plain;
          new_plain = h.new_plain;
          simple = h.simple here.decl here.decl_is;
          alone = alone-there marks st l after n reads h.place h.used_as h.use_.use_ h.use_.part here.decl here.decl_is (h.there here.decl here.decl_is);
        };
    form = h.form;
    names = look-ups-of names;
    file_sound = file-sound;
    home_sound = home-sound h.use_.home (stands_there mid n.found.site.mark h.use_.home h.use_.home_is);
    imports = h.imports;
  }

  module _ (h : AliasStandsAdded n) where
    abbrev stands : AliasUseStands same_here (is_commented st) mid marks (site_there n.found h.place) h.use_
    stands = record {
      package_there = package-there;
      file_there = file-there;
      decl = here.decl;
      decl_there = here.decl_is;
      elsewhere = h.elsewhere;
      simple = h.simple here.decl here.decl_is;
    }

    is-placed : PlacedThere n h.place h.use_ → IsPlaced same_here (is_commented st) mid marks (site_there n.found h.place) h.use_ stands
    is-placed (written_there old part receiver alone) =
        as_written (record { use_ = old; part = part; receiver = receiver here.decl here.decl_is; alone = alone here.decl here.decl_is })
    is-placed (called_there old used_as part callee there) =
        as_called (record { use_ = old; part = part; called = callee; alone = alone-there marks st l after n reads h.place used_as old part here.decl here.decl_is (there here.decl here.decl_is) })

    holds : ImportsHold same_here (is_commented st) mid marks (site_there n.found h.place) h.use_
    holds = record { use_ = file-sound; home = home-sound h.use_.home (stands_there mid n.found.site.mark h.use_.home h.use_.home_is) }

    pub takes-alias : TakesAlias n
    takes-alias = record {
      place = h.place;
      use_ = h.use_;
      stands = stands;
      placed = in_its_place (is-placed h.placed);
      form = h.form;
      names = names;
      sound = holds;
      imports = h.imports;
    }
