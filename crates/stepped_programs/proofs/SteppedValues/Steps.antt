-- A table tells what marked constants are declared as after a step, where its part of the step's file is found anew.
use Rattle.std.proofs.Common.{◌≡◌, ◌∙◌, refl, sym, ap, subst, ℕ, Bool, true, false, ◌&&◌, nat_eq, List, map, Some, eq-eqb}
use Rattle.std.specs.Prelude.{slice_get}
use Rattle.std.proofs.lemmas.Bool.{eqb-true, true≢false}
use Rattle.std.proofs.lemmas.Option.{same_Some}
use Rattle.go_tree.specs.File.{Decl}
use Rattle.pkg_graph.specs.Package.{SourceTree, Package}
use Rattle.pkg_graph.specs.Views.{package_view}
use Rattle.pkg_graph.specs.declared.packages.Package as code
use Rattle.run_rules.specs.Inlining.{ReadsAs}
use Rattle.run_rules.specs.Respanned.{file_with, packages_with}
use Rattle.run_rules.specs.Run.{Standing, Logged, Next, here_of}
use Rattle.run_rules.specs.Sites.{MarkRef, Where, is_among_marks, where_is}
use Rattle.run_rules.specs.Steps.{At, Found}
use Rattle.constant_steps.proofs.MarksFound.{stands_there}
use Rattle.member_uses.specs.Laws.{AllConstants}
use Rattle.repeated_parts.specs.UseSearch.MarkValues.Tables.{DeclKey, Known, key_of, values_at}
use Rattle.programs.specs.FileValues.Filled.{HasFileValues}
use Rattle.programs.specs.Programs.{HasValues, TellsValues}
use Rattle.stepped_programs.proofs.LoadedPrograms.Images.{both}
use Rattle.stepped_programs.specs.SearchedSites.OrderedSearches.Held.{IsThere}
use Rattle.stepped_programs.specs.SearchedSites.SettledFiles.Left.{IsLeft}
use Rattle.stepped_programs.proofs.SearchedSites.SettledFiles.Left.{source_same, knows_stay, named_stay}
use Rattle.stepped_programs.proofs.SearchedSites.SettledFiles.Packages.{placed, with_tree, in_package}
use Rattle.stepped_programs.proofs.SearchedSites.SettledFiles.Stay.{was_there}
use Rattle.stepped_programs.specs.SteppedValues.OfSteps.{is_of_step}
use Rattle.stepped_programs.specs.SteppedValues.Filled.{IsFilledAnew, ValuesAreToldAfterSteps, FilledValuesStayElsewhere}
use Rattle.stepped_programs.proofs.SteppedValues.Places.{file_number_is, marked_there, there_marked, changed_here}
use Rattle.stepped_programs.proofs.SteppedValues.Constants.{stay_marked}
use Rattle.stepped_programs.proofs.SteppedValues.FileValues.{value_told}

-- ---- declarations of the step's file

its_numbers : (f : Found At) (q : DeclKey) → q.0 ≡ f.site.at.number → q.1.0 ≡ f.site.at.file_number → is_of_step f q ≡ true
its_numbers f q k i =
    (λ v. nat_eq f.site.at.number (k v) && nat_eq f.site.at.file_number (i v))
    ∙ (λ v. eq-eqb f.site.at.number f.site.at.number refl v && eq-eqb f.site.at.file_number f.site.at.file_number refl v)

-- ---- a file that the step leaves

module _ (marks : List MarkRef) (st : Standing) (l : Logged) (after : Standing) (n : Next marks st l after) (w v : Where At) (left : IsLeft n.found st.packages after.packages w v) (old new : Known) (m : MarkRef)
    (d : Decl At) (same : values_at (key_of m) new ≡ values_at (key_of m) old) (h : HasValues st.packages old m w d) where
  its_values : HasValues after.packages new m v d
  its_values =
      record {
        names = h.names;
        knows = knows_stay marks st l after n w v left h.names h.knows;
        named = named_stay marks st l after n w v left h.names h.knows h.named;
        are = same ∙ h.are;
      }

-- ---- all files

module _ (marks : List MarkRef) (st : Standing) (l : Logged) (after : Standing) (n : Next marks st l after) (packages : List code.Package) (old new : Known)
    (same : map package_view packages ≡ packages_with here_of after.packages) (constants : AllConstants st.packages marks) (told : TellsValues marks st.packages old) (filled : IsFilledAnew packages n.found old new) where
  abbrev own : Where At
  own = n.found.site.at

  constants_now : AllConstants after.packages marks
  constants_now = stay_marked marks marks st l after n constants

  own_package : slice_get after.packages own.number ≡ Some (in_package marks st l after n own.of)
  own_package =
      ap (λ (qs : List (Package At)). slice_get qs own.number) n.packages_are
      ∙ changed_here (in_package marks st l after n) own.number st.packages own.of (placed marks st l after n).package_is

  own_file : slice_get (in_package marks st l after n own.of).files own.file_number ≡ Some (with_tree marks st l after n own.source)
  own_file = changed_here (with_tree marks st l after n) own.file_number own.of.files own.source (placed marks st l after n).file_is

  module _ (m : MarkRef) (v : Where At) (d : Decl At) (among : is_among_marks marks m ≡ true) (there : where_is after.packages m ≡ Some v) (nth : slice_get v.source.tree.decls m.decl ≡ Some d) where
    stands : IsThere after.packages v
    stands = marked_there after.packages m v there

    number_is : v.number ≡ m.«package»
    number_is = (stands_there after.packages m v there).number

    file_is : v.file_number ≡ m.file
    file_is = file_number_is after.packages m v there

    elsewhere : is_of_step n.found (key_of m) ≡ false → HasValues after.packages new m v d
    elsewhere e =
        let b = was_there marks st l after n v stands in
        let k : b.file.number ≡ m.«package» = sym b.number_is ∙ number_is in
        let i : b.file.file_number ≡ m.file = sym b.file_is ∙ file_is in
        let left : IsLeft n.found st.packages after.packages b.file v =
        record {
          before = b.there;
          after = stands;
          number_is = b.number_is;
          file_is = b.file_is;
          other = λ o. true≢false (sym (its_numbers n.found (key_of m) (sym k ∙ o.0) (sym i ∙ o.1)) ∙ e);
        } in
        let old_nth : slice_get b.file.source.tree.decls m.decl ≡ Some d =
        ap (λ (s : SourceTree At). slice_get s.tree.decls m.decl) (sym (source_same marks st l after n b.file v left)) ∙ nth in
        its_values marks st l after n b.file v left old new m d (filled.others (key_of m) e)
        (told m b.file d among (there_marked st.packages m b.file b.there k i) old_nth)

    of_step : is_of_step n.found (key_of m) ≡ true → HasValues after.packages new m v d
    of_step e =
        let q = both (nat_eq own.number m.«package») (nat_eq own.file_number m.file) e in
        let k : own.number ≡ m.«package» = eqb-true own.number m.«package» q.0 in
        let i : own.file_number ≡ m.file = eqb-true own.file_number m.file q.1 in
        let of_is : v.of ≡ in_package marks st l after n own.of =
        same_Some v.of (in_package marks st l after n own.of) (sym stands.package_is ∙ ap (slice_get after.packages) (number_is ∙ sym k) ∙ own_package) in
        let source_is : v.source ≡ with_tree marks st l after n own.source =
        same_Some v.source (with_tree marks st l after n own.source)
        (sym stands.file_is ∙ ap (λ (p : Package At). slice_get p.files v.file_number) of_is
        ∙ ap (slice_get (in_package marks st l after n own.of).files) (file_is ∙ sym i) ∙ own_file) in
        let reads : ReadsAs n.new (file_with here_of v.source.tree) =
        subst (λ (s : SourceTree At). ReadsAs n.new (file_with here_of s.tree)) (sym source_is) (record { scans = n.scans; spells = n.spells }) in
        value_told after packages same marks constants_now new m v d among there nth n.new reads filled.home
        (subst (λ (j : ℕ). slice_get packages j ≡ Some filled.home) k filled.home_is) filled.source
        (subst (λ (j : ℕ). slice_get filled.home.files j ≡ Some filled.source) i filled.source_is)
        (subst (λ (j : ℕ). HasFileValues packages m.«package» filled.home j filled.source new) i
        (subst (λ (j : ℕ). HasFileValues packages j filled.home own.file_number filled.source new) k filled.here))

    mark_told : HasValues after.packages new m v d
    mark_told = by (is_of_step n.found (key_of m)) refl
      where
        by : (b : Bool) → is_of_step n.found (key_of m) ≡ b → HasValues after.packages new m v d
        by true e = of_step e
        by false e = elsewhere e

pub told_after : ValuesAreToldAfterSteps
told_after marks st l after n packages old new same constants told filled m v d among there nth = mark_told marks st l after n packages old new same constants told filled m v d among there nth

pub stay_elsewhere : FilledValuesStayElsewhere
stay_elsewhere packages f old new filled q e = filled.others q e
