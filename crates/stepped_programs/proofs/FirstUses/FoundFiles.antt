-- The file of a use that is found, as it stands.
use Rattle.std.proofs.Common.{◌≡◌, ◌∙◌, refl, sym, ap, ℕ, List, length, Some, arith}
use Rattle.std.specs.Prelude.{slice_get}
use Rattle.std.proofs.lemmas.List.{length-map}
use Rattle.std.proofs.lemmas.Option.{same_Some, slice_get_within}
use Rattle.go_tree.specs.declared.spans.Span.{Span}
use Rattle.go_tree.specs.FileView.{file_of}
use Rattle.go_scan.specs.TokenLists.{TokenLists}
use Rattle.pkg_graph.specs.Package as pure
use Rattle.pkg_graph.specs.Reads.{Source}
use Rattle.pkg_graph.specs.Views.{package_view, source_of}
use Rattle.pkg_graph.specs.declared.packages.Package.{Package}
use Rattle.run_rules.specs.Marks.{text_at}
use Rattle.run_rules.specs.Respanned.{source_with, package_with, file_with}
use Rattle.run_rules.specs.Run.{Standing, here_of}
use Rattle.run_rules.specs.Sites.{MarkRef, Site}
use Rattle.run_rules.specs.Steps.{At}
use Rattle.constant_steps.proofs.MarksFound.{nth_mapped}
use Rattle.stepped_programs.specs.declared.package_search.looks.ProgramSources.{ProgramSources}
use Rattle.programs.specs.declared.state.PackageFiles.{PackageFiles}
use Rattle.programs.specs.declared.state.Program.{Program}
use Rattle.programs.specs.Kept.{IsKeptFile, text_with}
use Rattle.programs.specs.Programs.{AreKeptFiles}
use Rattle.stepped_programs.specs.SearchedSites.FoundSteps.Laws.{StepsMayBeMade, FileStepsGoOn, FileStepsPassLimits, FileStepsAreRead}
use Rattle.stepped_programs.specs.SearchedSites.FoundSteps.Uses.{HasFile}
use Rattle.stepped_programs.specs.SearchedSites.OrderedSearches.Found.{IsFoundFirst}
use Rattle.stepped_programs.proofs.SearchedSites.KeptPrograms.Kept.{There, there}
use Rattle.stepped_programs.specs.SteppedValues.Flags.{IsKeptProgram}
use Rattle.repeated_parts.specs.declared.use_search.views.FileView.{FileView}
use Rattle.stepped_programs.specs.declared.first_uses.first.FirstUse.{FirstUse}
use Rattle.stepped_programs.specs.FirstUses.Step.{HasFileOf, IsViewOf, MayStep}
use Rattle.stepped_programs.specs.FirstUses.StepLaws.{FoundFilesStand, FoundUsesMayStep, UseStepsGoOn, UseStepsPassLimits, UseStepsAreRead, IsRightFirst, text_there}

module _ (files : List Source) (marks : List MarkRef) (st : Standing) (p : Program) (s : ProgramSources) (u : FirstUse) (a : IsFoundFirst marks st s u.home u.found) (is : IsKeptProgram files marks st p s) where
  abbrev x : Site At
  x = a.site

  package_there : slice_get st.packages u.home ≡ Some x.at.of
  package_there = ap (slice_get st.packages) (sym a.number_is) ∙ a.is_there.package_is

  file_there : slice_get x.at.of.files u.found.file ≡ Some x.at.source
  file_there = ap (slice_get x.at.of.files) (sym a.file_is) ∙ a.is_there.file_is

  own : (kept : PackageFiles) → slice_get p.files.items u.home ≡ Some kept → AreKeptFiles st x.at.of kept
  own kept e = is.is_program.kept u.home x.at.of kept package_there e

  file_kept : (kept : PackageFiles) → slice_get p.files.items u.home ≡ Some kept → IsKeptFile st kept u.found.file x.at.source
  file_kept kept e = (own kept e).each u.found.file x.at.source file_there

  text_stands : (h : HasFileOf p u) → text_at x.at.source.path st.texts ≡ Some (text_there h)
  text_stands h =
      let k : IsKeptFile st h.kept u.found.file x.at.source = file_kept h.kept h.kept_is in
      let text : k.text ≡ h.text = same_Some k.text h.text (sym k.text_is ∙ h.text_is) in
      let tokens : k.tokens ≡ h.tokens = same_Some k.tokens h.tokens (sym k.tokens_are ∙ h.tokens_are) in
      k.stands ∙ ap (λ (t : List ℕ). Some (text_with t k.tokens)) text ∙ ap (λ (ts : TokenLists). Some (text_with h.text ts)) tokens

  tree_stands : (h : HasFileOf p u) → file_of h.source.tree ≡ file_with here_of x.at.source.tree
  tree_stands h =
      ap (λ (z : pure.SourceTree Span). z.tree)
      (a.source_is h.home h.source (ap (λ (ps : List Package). slice_get ps u.home) is.sources.packages_told ∙ h.home_is) h.source_is)

  stands : (h : HasFileOf p u) (v : FileView) → IsViewOf p u h v → HasFile st x u.found (text_there h) v h.text h.tokens
  stands h v w = record { there = text_stands h; text_is = refl; tree_is = w.tree_is ∙ tree_stands h; tables_are = w.tables_are }

  -- ---- there is such a file

  as_many : length p.packages.items ≡ length st.packages
  as_many = sym (length-map p.packages.items package_view) ∙ ap length is.is_program.packages_are ∙ length-map st.packages (package_with here_of)

  home : There p.packages.items u.home
  home = there p.packages.items u.home (omega (arith, slice_get_within st.packages u.home x.at.of package_there, as_many))

  viewed : package_view home.entry ≡ package_with here_of x.at.of
  viewed =
      same_Some (package_view home.entry) (package_with here_of x.at.of)
      (sym (nth_mapped package_view p.packages.items u.home home.entry home.is)
      ∙ ap (λ (rs : List (pure.Package Span)). slice_get rs u.home) is.is_program.packages_are
      ∙ nth_mapped (package_with here_of) st.packages u.home x.at.of package_there)

  as_many_files : length home.entry.files ≡ length x.at.of.files
  as_many_files =
      sym (length-map home.entry.files source_of) ∙ ap (λ (q : pure.Package Span). length q.files) viewed
      ∙ length-map x.at.of.files (source_with here_of)

  source : There home.entry.files u.found.file
  source = there home.entry.files u.found.file (omega (arith, slice_get_within x.at.of.files u.found.file x.at.source file_there, as_many_files))

  kept : There p.files.items u.home
  kept = there p.files.items u.home (omega (arith, slice_get_within st.packages u.home x.at.of package_there, is.is_program.count))

  its_file : IsKeptFile st kept.entry u.found.file x.at.source
  its_file = file_kept kept.entry kept.is

  held : HasFileOf p u
  held =
      record {
        home = home.entry;
        home_is = home.is;
        source = source.entry;
        source_is = source.is;
        kept = kept.entry;
        kept_is = kept.is;
        text = its_file.text;
        text_is = its_file.text_is;
        tokens = its_file.tokens;
        tokens_are = its_file.tokens_are;
      }

  may : StepsMayBeMade → IsRightFirst p a → MayStep p u
  unfolding held its_file
  may law right =
      record {
        file = held;
        small = its_file.small;
        made = λ v w. law marks st s u.home u.found a (text_there held) v its_file.text its_file.tokens is.ready (stands held v w) (right held);
      }

pub files_stand : FoundFilesStand
files_stand files marks st p s u a h v is w = stands files marks st p s u a is h v w

pub may_step : StepsMayBeMade → FoundUsesMayStep
may_step law files marks st p s u a is right = may files marks st p s u a is law right

-- ---- a run on its way

pub go_on : FoundFilesStand → FileStepsGoOn → UseStepsGoOn
go_on stand law files ps texts only done st p s u a progress step c m =
    let h = m.file in
    law files ps texts only done st s u.home u.found a (text_there h) m.view h.text h.tokens progress step.edits step.file c.reached c.kept.ready
    (stand files _ st p s u a h m.view c.kept m.is_view) (c.right h) (c.come h) m.edits m.read m.within

pub pass_limits : FoundFilesStand → FileStepsPassLimits → UseStepsPassLimits
pass_limits stand law files ps texts only done st p s u a progress limit c m =
    let h = m.file in
    law files ps texts only done st s u.home u.found a (text_there h) m.view h.text h.tokens progress limit c.reached c.kept.ready
    (stand files _ st p s u a h m.view c.kept m.is_view) (c.right h) (c.come h) m.is_fault

pub are_read : FoundFilesStand → FileStepsAreRead → UseStepsAreRead
are_read stand law files ps texts only done st p s u a progress c m =
    let h = m.file in
    law files ps texts only done st s u.home u.found a (text_there h) m.view h.text h.tokens progress c.reached c.kept.ready
    (stand files _ st p s u a h m.view c.kept m.is_view) (c.right h) m.is_fault
