-- What a step over the first use that is found puts into a program.
use Rattle.std.proofs.Common.{◌≡◌, ◌∙◌, refl, sym, ap, subst, ℕ, zero, suc, ◌≤◌, Bool, List, [], ◌∷◌, map, length, Option, Some, None, is_some}
use Rattle.std.specs.Prelude.{slice_get}
use Rattle.std.specs.Option.{option_map}
use Rattle.std.proofs.lemmas.Option.{same_Some}
use Rattle.go_tree.specs.declared.limits.TheConstants.{MAX_FILE_BYTES}
use Rattle.go_tree.specs.declared.spans.Span.{Span}
use Rattle.go_tree.specs.Tree.{Expr}
use Rattle.go_tree.specs.File.{Decl}
use Rattle.go_tree.specs.FileView.{file_of}
use Rattle.go_tree.specs.declared.scope_names.names.FileNames.{FileNames}
use Rattle.pkg_graph.specs.Members.{Target, package_block}
use Rattle.pkg_graph.specs.Reads.{Source}
use Rattle.constant_steps.specs.PlaceMeanings.Parts.{AllScoped}
use Rattle.member_uses.specs.PossibleUses.Among.{Keyed}
use Rattle.member_uses.specs.PossibleUses.Laws.{PartsAreAmongAll}
use Rattle.constant_forms.specs.Views.{name_expr}
use Rattle.step_files.specs.declared.file.NewFile.{NewFile}
use Rattle.step_files.specs.Files.{text_of}
use Rattle.stepped_programs.specs.declared.package_search.looks.ProgramSources.{ProgramSources}
use Rattle.stepped_programs.specs.declared.package_search.search.FoundInPackage.{FoundInPackage}
use Rattle.programs.specs.Programs.{IsProgramOf}
use Rattle.programs.specs.declared.state.Program.{Program}
use Rattle.run_by_steps.specs.NextPrograms.Made.{NextWith}
use Rattle.run_rules.specs.FormTrees.{as_expr}
use Rattle.run_rules.specs.Programs.{decl_seen}
use Rattle.run_rules.specs.Run.{Standing, Next, here_of, edits_in, logged}
use Rattle.run_rules.specs.Sites.{MarkRef, Where, an_expr, inlinable, part_span}
use Rattle.run_rules.specs.Steps.{At, Found}
use Rattle.run_rules.specs.Texts.{FileText}
use Rattle.repeated_parts.specs.UseSearch.UsesOfMarks.Laws.{IsSound, EachSound}
use Rattle.repeated_parts.specs.UseSearch.UsesOfMarks.Uses.{PlacedMark}
use Rattle.stepped_programs.specs.SearchedSites.FoundSteps.Laws.{step_of}
use Rattle.stepped_programs.specs.SearchedSites.OrderedSearches.Found.{IsFoundFirst}
use Rattle.stepped_programs.proofs.SearchedSites.SettledFiles.Packages.{placed}
use Rattle.stepped_programs.specs.Steps.{AreSwapped}
use Rattle.stepped_programs.specs.Laws.{IsPlaceOf, PutsName, IsOfStep, place_of, FoundUsesArePut}
use Rattle.stepped_programs.proofs.Held.{origins_of_steps}

-- what is asked of each declaration is asked of one
nth_sound : (st : Standing) (w : Where At) (ds : List (Decl At)) (i : ℕ) (d : Decl At) → slice_get ds i ≡ Some d → EachSound st.packages w ds → IsSound st.packages w d
nth_sound st w [] i d h s = absurd cc
nth_sound st w (y ∷ ds) zero d h s = subst (λ (z : Decl At). IsSound st.packages w z) (same_Some y d h) s.0
nth_sound st w (y ∷ ds) (suc i) d h s = nth_sound st w ds i d h s.1

still_some : {A B : Type 0} (g : A → B) (o : Option A) → is_some o ≡ is_some (option_map g o)
still_some g None = refl
still_some g (Some a) = refl

module _ (marks : List MarkRef) (st : Standing) (s : ProgramSources) (k : ℕ) (r : FoundInPackage) (a : IsFoundFirst marks st s k r) (old : FileText) (f : NewFile) (m : NextWith marks st (step_of a) old (text_of f) (file_of f.tree))
    (e : Expr At) (part : a.site.part ≡ an_expr e) where
  abbrev n : Next marks st (logged marks st (step_of a) (edits_in marks st old (step_of a))) m.after
  n = m.next

  same : n.found ≡ step_of a
  same = same_Some n.found (step_of a) (sym n.is_first ∙ a.is_first)

  place : IsPlaceOf n (place_of k r)
  place =
      record {
        home = sym a.number_is ∙ ap (λ (y : Found At). y.site.at.number) (sym same);
        file = sym a.file_is ∙ ap (λ (y : Found At). y.site.at.file_number) (sym same);
        decl = ap (λ (y : PlacedMark). y.0) a.is_free.stands_for ∙ ap (λ (y : Found At). y.site.decl) (sym same);
      }

  abbrev q : Option (List ℕ)
  q = option_map (λ y. y.name) r.found.form.«package»

  abbrev d : Decl At
  d = (placed marks st (logged marks st (step_of a) (edits_in marks st old (step_of a))) m.after n).decl

  nth : slice_get n.found.site.at.source.tree.decls n.found.site.decl ≡ Some d
  nth = (placed marks st (logged marks st (step_of a) (edits_in marks st old (step_of a))) m.after n).decl_is

  nth_there : slice_get a.site.at.source.tree.decls a.site.decl ≡ Some d
  nth_there = ap (λ (y : Found At). slice_get y.site.at.source.tree.decls y.site.decl) (sym same) ∙ nth

  sound : IsSound st.packages a.site.at d
  sound = nth_sound st a.site.at a.site.at.source.tree.decls a.site.decl d nth_there a.is_file.sound

  puts : PutsName n d q
  puts =
      record {
        old = e;
        part = ap (λ (y : Found At). y.site.part) same ∙ part;
        name = a.name;
        value = a.value;
        declared = ap (λ (y : Found At). inlinable st.packages y.site.mark) same ∙ a.is_use.declared_as;
        decl_is = nth;
        scoped = subst (λ (y : Found At). AllScoped (decl_seen st.packages y.site.at.number y.site.at.of y.site.at.source.tree d)) (sym same) sound.scoped;
        keyed = subst (λ (y : Found At). Keyed (decl_seen st.packages y.site.at.number y.site.at.of y.site.at.source.tree d)) (sym same) sound.keyed;
        word = r.found.form.name;
        form_is =
            ap (λ (y : Found At). y.form) same
            ∙ ap (λ (y : Found At). as_expr (name_expr (part_span y.site.part) q r.found.form.name)) (sym same);
      }

  told : (p : Program) (os : List Span) → AreSwapped p (place_of k r) (is_some r.found.form.«package») r.found.form.span os → AreSwapped p (place_of k r) (is_some q) (here_of (part_span n.found.site.part)) os
  told p os h =
      subst (λ (z : Span). AreSwapped p (place_of k r) (is_some q) z os) (a.is_free.there ∙ ap (λ (y : Found At). here_of (part_span y.site.part)) (sym same))
      (subst (λ (b : Bool). AreSwapped p (place_of k r) b r.found.form.span os) (still_some (λ y. y.name) r.found.form.«package») h)

  of_step : PartsAreAmongAll At → (files : List Source) (p : Program) (os : List Span) → IsProgramOf files marks st p → length f.text ≤ MAX_FILE_BYTES
      → AreSwapped p (place_of k r) (is_some r.found.form.«package») r.found.form.span os → IsOfStep n (place_of k r) os r.tables.names.«package» f
  of_step among files p os is small h =
      record {
        place = place;
        text_is = m.text_is;
        tree_is = sym m.tree_is;
        small = small;
        block_is =
            ap (λ (y : FileNames). y.«package») (sym a.tables_are.names_are ∙ a.is_file.names_are)
            ∙ ap (λ (y : Found At). map (λ (t : List ℕ × Target). t.0) (package_block 0 y.site.at.of)) (sym same);
        origins_are =
            origins_of_steps among files marks st (logged marks st (step_of a) (edits_in marks st old (step_of a))) m.after n (place_of k r) d q p os is place puts (told p os h);
      }

pub found_put : PartsAreAmongAll At → FoundUsesArePut
found_put among files marks st s k r a old f m p os e is part small h = of_step marks st s k r a old f m e part among files p os is small h
