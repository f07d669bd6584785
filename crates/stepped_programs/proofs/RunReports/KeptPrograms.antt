-- The rows of the uses that a program keeps tell of them.
use Rattle.std.proofs.Common.{◌≡◌, ◌∙◌, ◌+◌, refl, sym, ap, subst, ℕ, suc, List, [], ◌∷◌, ◌++◌, map, Some, arith}
use Rattle.std.specs.Prelude.{slice_get, Contains}
use Rattle.std.proofs.lemmas.List.{map-append}
use Rattle.std.proofs.lemmas.List.Elements.{Contains-append_left, Contains-append_right}
use Rattle.std.proofs.lemmas.Option.{same_Some}
use Rattle.go_tree.specs.declared.spans.Span.{Span}
use Rattle.pkg_graph.specs.Package as pure
use Rattle.pkg_graph.specs.Package.{SourceTree}
use Rattle.pkg_graph.specs.Reads.{Source}
use Rattle.pkg_graph.specs.Views.{package_view, source_of}
use Rattle.pkg_graph.specs.declared.packages.Package.{Package}
use Rattle.pkg_graph.specs.declared.packages.SourceTree as code
use Rattle.constant_modules.specs.ConstantPrograms.Programs.{IsConstantProgram}
use Rattle.constant_modules.specs.TypedUses.Laws.{ConstantUsesAreExpressions}
use Rattle.run_rules.specs.Marks.{marks_of}
use Rattle.run_rules.specs.Programs.{numbered_from, numbered, in_dependency_order}
use Rattle.run_rules.specs.Report.{Entry, kept_entry}
use Rattle.run_rules.specs.Respanned.{source_with, package_with}
use Rattle.run_rules.specs.Run.{Standing, KeptUse, here_of, uses_kept}
use Rattle.run_rules.specs.Sites.{MarkRef, Where, Site, sites}
use Rattle.run_rules.specs.Steps.{At}
use Rattle.file_names.specs.Members.{IsBlockOf}
use Rattle.repeated_parts.specs.UseSearch.UsesOfMarks.Laws.{UsesArePlaced}
use Rattle.stepped_programs.specs.declared.package_search.looks.ProgramSources.{ProgramSources}
use Rattle.programs.specs.declared.state.Program.{Program}
use Rattle.report_order.specs.declared.rows.ReportRow.{ReportRow}
use Rattle.report_order.specs.declared.text.ReportSource.{ReportSource}
use Rattle.stepped_programs.specs.SearchedSites.KeptPlaces.Laws.{KeptUsesAreToldOnce}
use Rattle.stepped_programs.specs.SearchedSites.KeptPlaces.Once.{sites_once, found_once, AreToldOnce, no_file, in_file}
use Rattle.stepped_programs.specs.SearchedSites.Laws.{SitesAreByFile}
use Rattle.stepped_programs.specs.SearchedSites.OrderedSearches.Held.{IsThere}
use Rattle.stepped_programs.specs.SearchedSites.OrderedSearches.Laws.{LooksFindSites}
use Rattle.stepped_programs.specs.SearchedSites.Searched.{kept_told, sites_in_file, sites_in_files, files_there, packages_files, files_in_order}
use Rattle.stepped_programs.specs.SearchedSites.ToldOrigins.Laws.{OriginsAreTold}
use Rattle.stepped_programs.specs.SteppedValues.Flags.{IsKeptProgram}
use Rattle.stepped_programs.specs.SteppedValues.Held.{ProgramsAreHeld}
use Rattle.stepped_programs.proofs.SearchedSites.OrderedSearches.Beside.{EachItem, order_stands, beside_at}
use Rattle.stepped_programs.specs.RunReports.Kept.{IsFileTold, IsPackageTold, IsProgramTold}
use Rattle.stepped_programs.specs.RunReports.Laws.{AddsEntries, KeptRowsTell}
use Rattle.stepped_programs.specs.RunReports.Rows.{FindsFiles, InTurn}
use Rattle.stepped_programs.proofs.RunReports.Entries.{adds_none, adds_both}
use Rattle.stepped_programs.proofs.RunReports.KeptFiles.{searched, file_told}

module _ (folder : List Source) (marks : List MarkRef) (st : Standing) (p : Program) (s : ProgramSources) (kept : IsKeptProgram folder marks st p s) (program : IsConstantProgram folder marks st)
    (files : List ReportSource) (places : List (List ℕ × ℕ)) (finds : FindsFiles places files)
    (held : ProgramsAreHeld) (look : LooksFindSites) (origins : OriginsAreTold) (expressions : ConstantUsesAreExpressions) (placed : UsesArePlaced) where
  abbrev ps : List (pure.Package At)
  ps = st.packages

  -- What is told of files, one after another, and the rows that tell it.
  record Told (ws : List (Where At)) (old new : List ReportRow) : Type 0 where
    uses : List KeptUse
    once : AreToldOnce marks st ws uses
    rows : AddsEntries files (map kept_entry uses) old new

  abbrev InProgram : List (Where At) → Type 0
  InProgram ws = (x : Site At) → Contains (sites_in_files marks st ws) x → Contains (sites ps marks) x

  -- ---- a package

  module _ (k : ℕ) (h : pure.Package At) (there : slice_get ps k ≡ Some h) (home : Package) (home_is : slice_get p.packages.items k ≡ Some home) (block : List (List ℕ)) (block_is : IsBlockOf block (package_view home))
      (rest : List (Where At)) (last : List ReportRow) where
    one_file : (i : ℕ) (f : SourceTree At) (source : code.SourceTree) (ws : List (Where At)) (old between : List ReportRow) → slice_get h.files i ≡ Some f → slice_get home.files i ≡ Some source
        → source_of source ≡ source_with here_of f → InProgram (record { number = k; of = h; file_number = i; source = f } ∷ ws) → IsFileTold p places k block (i, source) old between → Told ws between last
        → Told (record { number = k; of = h; file_number = i; source = f } ∷ ws) old last
    one_file i f source ws old between f_is source_is view within t r =
        let w : Where At = record { number = k; of = h; file_number = i; source = f } in
        let is_there : IsThere ps w = record { package_is = there; file_is = f_is } in
        let own : (x : Site At) → Contains (sites_in_file marks st w) x → Contains (sites ps marks) x =
        λ x c. within x (Contains-append_left (sites_in_file marks st w) (sites_in_files marks st ws) x c) in
        let us : List KeptUse = kept_told marks st (sites_once [] (sites_in_file marks st w)) (found_once [] t.seen.kept.items) in
        let rows : AddsEntries files (map kept_entry us) old between =
        file_told folder marks st p s kept program files places finds held look origins expressions placed w is_there own home home_is source source_is view block block_is old between t in
        record {
          uses = us ++ r.uses;
          once =
              in_file w t.seen.kept.items ws r.uses
              (searched folder marks st p s kept program files places finds held look origins expressions placed w is_there own home home_is source source_is view block block_is old between t) r.once;
          rows =
              subst (λ (es : List Entry). AddsEntries files es old last) (sym (map-append kept_entry us r.uses))
              (adds_both files (map kept_entry us) (map kept_entry r.uses) old between last rows r.rows);
        }

    from_file : (j : ℕ) (fs : List (SourceTree At)) (cs : List code.SourceTree) → map source_of cs ≡ map (source_with here_of) fs
        → ((i n : ℕ) (f : SourceTree At) → slice_get fs i ≡ Some f → n ≡ j + i → slice_get h.files n ≡ Some f)
        → ((i n : ℕ) (c : code.SourceTree) → slice_get cs i ≡ Some c → n ≡ j + i → slice_get home.files n ≡ Some c)
        → InProgram (files_there k h (numbered_from j fs) ++ rest) → (old : List ReportRow)
        → ((b : List ReportRow) → InTurn (IsFileTold p places k block) (numbered_from j cs) old b → Told rest b last → Told (files_there k h (numbered_from j fs) ++ rest) old last)
    from_file j [] [] e a c within old b t r = subst (λ (rows : List ReportRow). Told rest rows last) (sym t) r
    from_file j [] (x ∷ cs) e a c within old b t r = absurd cc
    from_file j (f ∷ fs) [] e a c within old b t r = absurd cc
    from_file j (f ∷ fs) (x ∷ cs) e a c within old b t r =
        let w : Where At = record { number = k; of = h; file_number = j; source = f } in
        one_file j f x (files_there k h (numbered_from (suc j) fs) ++ rest) old t.0 (a 0 j f refl (omega arith)) (c 0 j x refl (omega arith)) (heads e) within t.1
        (from_file (suc j) fs cs (tails e) (λ i n g q m. a (suc i) n g q (omega (arith, m))) (λ i n g q m. c (suc i) n g q (omega (arith, m)))
        (λ y d. within y (Contains-append_right (sites_in_file marks st w) (sites_in_files marks st (files_there k h (numbered_from (suc j) fs) ++ rest)) y d)) t.0 b t.2 r)
      where
        heads : map source_of (x ∷ cs) ≡ map (source_with here_of) (f ∷ fs) → source_of x ≡ source_with here_of f
        heads q = cc

        tails : map source_of (x ∷ cs) ≡ map (source_with here_of) (f ∷ fs) → map source_of cs ≡ map (source_with here_of) fs
        tails q = cc

    from_package : (old b : List ReportRow) → map source_of home.files ≡ map (source_with here_of) h.files → InProgram (files_there k h (numbered h.files) ++ rest)
        → InTurn (IsFileTold p places k block) (numbered home.files) old b → Told rest b last → Told (files_there k h (numbered h.files) ++ rest) old last
    from_package old b e within t r =
        from_file 0 h.files home.files e
        (λ i n f q m. let same : n ≡ i = omega (arith, m) in subst (λ (j : ℕ). slice_get h.files j ≡ Some f) (sym same) q)
        (λ i n c q m. let same : n ≡ i = omega (arith, m) in subst (λ (j : ℕ). slice_get home.files j ≡ Some c) (sym same) q) within old b t r

  -- ---- packages

  files_same : (k : ℕ) (h : pure.Package At) (home : Package) → slice_get ps k ≡ Some h → slice_get p.packages.items k ≡ Some home → map source_of home.files ≡ map (source_with here_of) h.files
  files_same k h home a b =
      let x = beside_at package_view (package_with here_of) p.packages.items ps kept.is_program.packages_are k h a in
      ap (λ (q : Package). map source_of q.files) (same_Some home x.0 (sym b ∙ x.1)) ∙ ap (λ (q : pure.Package Span). q.files) x.2

  from_packages : (qs : List (ℕ × pure.Package At)) → EachItem (λ q. slice_get ps q.0 ≡ Some q.1) qs → InProgram (packages_files qs) → (old new : List ReportRow)
      → InTurn (IsPackageTold p places) (map (λ q. q.0) qs) old new → Told (packages_files qs) old new
  from_packages [] each within old new t = record { uses = []; once = no_file; rows = subst (λ (rows : List ReportRow). AddsEntries files [] old rows) t (adds_none files old) }
  from_packages (q ∷ qs) each within old new t =
      from_package q.0 q.1 each.0 t.1.home t.1.home_is t.1.block t.1.block_is (packages_files qs) new old t.0 (files_same q.0 q.1 t.1.home each.0 t.1.home_is) within t.1.files
      (from_packages qs each.1 (λ x c. within x (past (files_there q.0 q.1 (numbered q.1.files)) (packages_files qs) x c)) t.0 new t.2)
    where
      past : (vs ws : List (Where At)) (x : Site At) → Contains (sites_in_files marks st ws) x → Contains (sites_in_files marks st (vs ++ ws)) x
      past [] ws x c = c
      past (v ∷ vs) ws x c = Contains-append_right (sites_in_file marks st v) (sites_in_files marks st (vs ++ ws)) x (past vs ws x c)

  pub program_told : SitesAreByFile → KeptUsesAreToldOnce → (old new : List ReportRow) → IsProgramTold p places old new
      → AddsEntries files (map kept_entry (uses_kept marks st)) old new
  program_told by_file told_once old new t =
      let r : Told (files_in_order ps) old new =
      from_packages (in_dependency_order ps) (order_stands ps) (λ x c. subst (λ (xs : List (Site At)). Contains xs x) (sym (by_file marks st)) c) old new
      (subst (λ (ks : List ℕ). InTurn (IsPackageTold p places) ks old new) kept.is_program.order_is t) in
      subst (λ (us : List KeptUse). AddsEntries files (map kept_entry us) old new) (sym (told_once marks st r.uses r.once)) r.rows

pub kept_rows_tell : SitesAreByFile → KeptUsesAreToldOnce → ProgramsAreHeld → LooksFindSites → OriginsAreTold → ConstantUsesAreExpressions → UsesArePlaced → KeptRowsTell
kept_rows_tell by_file once held look origins expressions placed folder packages texts only done st p s c files places old new o finds t =
    program_told folder (marks_of packages texts only) st p s o.kept o.constants files places finds held look origins expressions placed by_file once old new t
