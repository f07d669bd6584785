-- The first free use of a program on its run, and its next program, whatever text that has.
use Rattle.std.proofs.Common.{◌≡◌, ◌∙◌, ◌<◌, refl, sym, ap, subst, ℕ, zero, suc, List, [], ◌∷◌, Option, Some}
use Rattle.std.specs.Prelude.{slice_get, Contains}
use Rattle.std.proofs.lemmas.Option.{same_Some}
use Rattle.go_tree.specs.declared.spans.Span.{Span}
use Rattle.go_tree.specs.File.{Decl, File}
use Rattle.go_tree.specs.GoTypes.Answers.{given}
use Rattle.step_files.specs.Limits.{ComesNext}
use Rattle.step_files.specs.declared.limits.Progress.{Progress}
use Rattle.stepped_programs.specs.declared.package_search.looks.ProgramSources.{ProgramSources}
use Rattle.pkg_graph.specs.Package.{SourceTree, Package}
use Rattle.constant_modules.specs.ConstantPrograms.Laws as constants
use Rattle.printed_constants.specs.StandingForms.Laws.{FirstUsesHaveNext}
use Rattle.programs.specs.declared.state.Program.{Program}
use Rattle.run_by_steps.specs.NextPrograms.Made.{NextWith}
use Rattle.run_by_steps.specs.Reached.{row_of}
use Rattle.run_by_steps.specs.RunProgress.Laws.{HasCome, StepsComeNext}
use Rattle.run_rules.specs.Marks.{text_at}
use Rattle.run_rules.specs.Respanned.{decls_with}
use Rattle.run_rules.specs.Run.{Standing, Logged, here_of, origin_of, path_of_file}
use Rattle.run_rules.specs.Sites.{MarkRef, Where, part_span, sites}
use Rattle.run_rules.specs.Steps.{At, Found}
use Rattle.run_rules.specs.Texts.{FileText}
use Rattle.splice_laws.specs.ImportSplices.FormSplices.Laws.{StepsMakeForms}
use Rattle.run_by_steps.specs.declared.step_counts.counts.StepCounts.{StepCounts}
use Rattle.stepped_programs.specs.FirstUses.Step.{HasFileOf, IsViewOf}
use Rattle.stepped_programs.specs.FirstUses.StepLaws.{FoundFilesStand, text_there}
use Rattle.stepped_programs.specs.Laws.{IsPlaceOf, place_of}
use Rattle.stepped_programs.specs.ProgramsOnTheWay.OnTheWay.{IsOnTheWay}
use Rattle.stepped_programs.specs.SearchedSites.FoundSteps.Laws.{step_of}
use Rattle.stepped_programs.specs.SearchedSites.FoundSteps.Uses.{HasFile}
use Rattle.stepped_programs.specs.SearchedSites.OrderedSearches.Found.{IsFoundFirst}
use Rattle.stepped_programs.specs.SearchedSites.ToldOrigins.Laws.{OriginsAreTold, decls_origins}
use Rattle.stepped_programs.specs.declared.first_uses.first.FirstUse.{FirstUse}
use Rattle.stepped_programs.proofs.FirstUses.MadeSteps.{a_view}
use Rattle.stepped_programs.proofs.SearchedSites.SettledFiles.Packages.{placed}
use Rattle.printed_constants.specs.TypedParts.MarkedRuns.PutForms.Uses.{IsFirstUse, UsesNamedConstant}
use Rattle.programs.specs.OriginsOfUses.Origins.{decls_origin}
use Rattle.repeated_parts.specs.UseSearch.UsesOfMarks.Laws.{IsSound, EachSound}
use Rattle.repeated_parts.specs.UseSearch.UsesOfMarks.Uses.{PlacedMark}
use Rattle.repeated_parts.specs.declared.use_search.views.FileView.{FileView}
use Rattle.run_plans.specs.InlinedPrograms.Beginnings.{Beginning, marks_in}

-- what is asked of each declaration is asked of one
nth_sound : (ps : List (Package At)) (w : Where At) (ds : List (Decl At)) (i : ℕ) (d : Decl At) → slice_get ds i ≡ Some d → EachSound ps w ds → IsSound ps w d
nth_sound ps w [] i d e h = absurd cc
nth_sound ps w (x ∷ ds) zero d e h = subst (λ (y : Decl At). IsSound ps w y) (same_Some x d e) h.0
nth_sound ps w (x ∷ ds) (suc i) d e h = nth_sound ps w ds i d e h.1

-- the file of a use, as it was read
abbrev pub view_of : (p : Program) (u : FirstUse) → HasFileOf p u → FileView
view_of p u h = a_view u h.source h.tokens

pub is_view : (p : Program) (u : FirstUse) (h : HasFileOf p u) → IsViewOf p u h (view_of p u h)
is_view p u h = record { tree_is = refl; tables_are = record { names_are = refl; table_is = refl } }

module _ (b : Beginning) (done : List Logged) (st : Standing) (p : Program) (s : ProgramSources) (c : StepCounts) (u : FirstUse) (a : IsFoundFirst (marks_in b) st s u.home u.found)
    (o : IsOnTheWay b.files b.packages b.texts b.only done st p s c) where
  pub package_there : slice_get st.packages u.home ≡ Some a.site.at.of
  package_there = ap (slice_get st.packages) (sym a.number_is) ∙ a.is_there.package_is

  pub file_there : slice_get a.site.at.of.files u.found.file ≡ Some a.site.at.source
  file_there = ap (slice_get a.site.at.of.files) (sym a.file_is) ∙ a.is_there.file_is

  pub path_there : path_of_file st.packages u.home u.found.file ≡ Some a.site.at.source.path
  path_there =
      ap (λ (x : Option (Package At)). given x (λ q. given (slice_get q.files u.found.file) (λ f. Some f.path))) package_there
      ∙ ap (λ (x : Option (SourceTree At)). given x (λ f. Some f.path)) file_there

  module _ (h : HasFileOf p u) (stand : FoundFilesStand) where
    pub has_file : HasFile st a.site u.found (text_there h) (view_of p u h) h.text h.tokens
    has_file = stand b.files (marks_in b) st p s u a h (view_of p u h) o.kept (is_view p u h)

    is_first : IsFirstUse (marks_in b) st (step_of a) (text_there h)
    is_first = record { is_first = a.is_first; there = has_file.there }

    -- it uses a constant that is declared as a name
    pub uses_name : constants.FirstUsesAreRight → UsesNamedConstant st (step_of a) (text_there h)
    uses_name right =
        (right b.files (marks_in b) st (step_of a) (text_there h) u.found.found.form o.constants is_first (record { range_is = sym a.is_free.there; form_is = refl; named_is = refl })).0

    -- there is a next program
    pub ahead : constants.FirstUsesAreRight → FirstUsesHaveNext → (new : FileText) × (tree : File Span) × NextWith (marks_in b) st (step_of a) (text_there h) new tree
    ahead right have = have (marks_in b) st (step_of a) (text_there h) o.kept.ready is_first (uses_name right)

  module _ (h : HasFileOf p u) (new : FileText) (tree : File Span) (n : NextWith (marks_in b) st (step_of a) (text_there h) new tree) where
    abbrev row : Logged
    row = row_of (marks_in b) st (step_of a) (text_there h)

    pub same_found : n.next.found ≡ step_of a
    same_found = same_Some n.next.found (step_of a) (sym n.next.is_first ∙ a.is_first)

    pub same_old : FoundFilesStand → text_there h ≡ n.next.old
    same_old stand =
        same_Some (text_there h) n.next.old
        (sym (has_file h stand).there ∙ sym (ap (λ (g : Found At). text_at g.site.at.source.path st.texts) same_found) ∙ n.next.stands)

    -- so far the run has come before it
    pub comes_next : FoundFilesStand → StepsComeNext → (progress : Progress) → HasCome progress b.files done row st (text_there h) → ComesNext progress b.files done row n.next.new n.after.texts
    comes_next stand come progress has =
        come (marks_in b) b.files done st row n.after n.next progress o.constants.apart (subst (λ (t : FileText). HasCome progress b.files done row st t) (same_old stand) has)

    pub its_place : IsPlaceOf n.next (place_of u.home u.found)
    its_place =
        record {
          home = sym a.number_is ∙ ap (λ (y : Found At). y.site.at.number) (sym same_found);
          file = sym a.file_is ∙ ap (λ (y : Found At). y.site.at.file_number) (sym same_found);
          decl = ap (λ (y : PlacedMark). y.0) a.is_free.stands_for ∙ ap (λ (y : Found At). y.site.decl) (sym same_found);
        }

    -- ---- its declaration

    abbrev decl : Decl At
    decl = (placed (marks_in b) st row n.after n.next).decl

    decl_there : slice_get a.site.at.source.tree.decls a.site.decl ≡ Some decl
    decl_there = ap (λ (y : Found At). slice_get y.site.at.source.tree.decls y.site.decl) (sym same_found) ∙ (placed (marks_in b) st row n.after n.next).decl_is

    sound : IsSound st.packages a.site.at decl
    sound = nth_sound st.packages a.site.at a.site.at.source.tree.decls a.site.decl decl decl_there a.is_file.sound

    contained : StepsMakeForms → Contains (sites st.packages (marks_in b)) a.site
    contained makes = subst (λ (y : Found At). Contains (sites st.packages (marks_in b)) y.site) same_found (makes (marks_in b) st row n.after n.next).is_use

    -- it is told where the use comes from
    pub origin_told : StepsMakeForms → OriginsAreTold → UsesNamedConstant st (step_of a) (text_there h) → (here_of (part_span a.site.part)).start < (here_of (part_span a.site.part)).end
        → decls_origin (here_of (part_span a.site.part)) (decls_with here_of a.site.at.source.tree.decls) (decls_origins a.site.at.source.tree.decls) ≡ Some (origin_of (part_span a.site.part))
    origin_told makes told uses wide =
        told (marks_in b) st a.site a.is_file.text decl uses.name uses.value uses.expr (contained makes) a.is_file.reads decl_there uses.declared uses.part wide sound.scoped sound.keyed
