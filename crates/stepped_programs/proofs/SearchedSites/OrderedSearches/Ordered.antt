-- Files in dependency order, past those that are settled.
use Rattle.std.proofs.Common.{◌≡◌, ◌∙◌, refl, sym, ap, subst, ℕ, zero, suc, ◌+◌, Bool, List, [], ◌∷◌, ◌++◌, map, Option, Some, None, arith}
use Rattle.std.specs.Prelude.{slice_get}
use Rattle.std.proofs.lemmas.Option.{none-some, same_Some, slice_get_within}
use Rattle.go_tree.specs.declared.spans.Span.{Span}
use Rattle.go_scan.specs.TokenLists.{TokenLists}
use Rattle.scope_tables.specs.Table.{table_of}
use Rattle.pkg_graph.specs.Package as pure
use Rattle.pkg_graph.specs.Package.{SourceTree}
use Rattle.pkg_graph.specs.Views.{source_of}
use Rattle.pkg_graph.specs.declared.packages.Package.{Package}
use Rattle.pkg_graph.specs.declared.packages.SourceTree as code
use Rattle.run_rules.specs.Programs.{numbered_from, numbered, in_dependency_order, dependency_order}
use Rattle.run_rules.specs.Sites.{MarkRef, Where}
use Rattle.run_rules.specs.Respanned.{source_with}
use Rattle.run_rules.specs.Steps.{At}
use Rattle.run_rules.specs.Run.{Standing, here_of}
use Rattle.constant_forms.specs.declared.reduced.ReducedConstant.TheVariants.{Becomes}
use Rattle.file_tables.specs.declared.tables.FileTables.{FileTables}
use Rattle.stepped_programs.specs.SearchedSites.LookedFiles.Laws.{LooksTellFiles}
use Rattle.repeated_parts.specs.declared.use_search.uses_of_marks.uses.MarkedUse.{MarkedUse}
use Rattle.stepped_programs.specs.declared.package_search.looks.ProgramSources.{ProgramSources}
use Rattle.stepped_programs.specs.declared.package_search.search.FoundInPackage.{FoundInPackage}
use Rattle.stepped_programs.specs.PackageSearch.Search.{LookAt, IsFirstIn}
use Rattle.stepped_programs.specs.SearchedSites.Told.{IsProgram, IsFile}
use Rattle.stepped_programs.specs.SearchedSites.Searched.{AreSearched, sites_in_file, FilesSearched, no_file, past_file, in_file, files_there, packages_files, files_in_order}
use Rattle.stepped_programs.specs.SearchedSites.Laws.{SearchesFindSites}
use Rattle.repeated_parts.specs.declared.use_search.search.FoundForm.{FoundForm}
use Rattle.repeated_parts.specs.declared.use_search.search.FoundObstacle.{FoundObstacle}
use Rattle.repeated_parts.specs.declared.use_search.views.FileView.{FileView}
use Rattle.repeated_parts.specs.declared.use_search.views.ProgramView.{ProgramView}
use Rattle.repeated_parts.specs.UseSearch.Answers.{IsAnswer}
use Rattle.repeated_parts.specs.UseSearch.Search.{IsSearched}
use Rattle.repeated_parts.specs.UseSearch.Search as search
use Rattle.stepped_programs.specs.SearchedSites.OrderedSearches.Held.{IsThere, IsHeld, Users, IsSettled, AreAllSettled}
use Rattle.stepped_programs.specs.SearchedSites.OrderedSearches.Search.{EachNumber, IsAllSettled, IsFirstPackage, IsFirstFree}
use Rattle.stepped_programs.specs.SearchedSites.OrderedSearches.Found.{HasTables}
use Rattle.stepped_programs.specs.SearchedSites.OrderedSearches.Laws.{form_in, FilesAreSearched}
use Rattle.stepped_programs.proofs.SearchedSites.OrderedSearches.Beside.{beside_at, EachItem, all_numbered, order_stands}
use Rattle.stepped_programs.proofs.SearchedSites.OrderedSearches.Looked.{package_there, source_there, file_there, look_program, look_search, look_right}

-- what is answered of the use that is free
freed : (p : ProgramView) (f : FileView) (g : FoundForm) (us : List MarkedUse) (ks : List FoundObstacle) (o : Option FoundForm) → IsSearched p f us ks o → o ≡ Some g
    → IsAnswer p f g.use_ (Some (Becomes g.form))
freed p f g _ _ _ search.at_the_end e = absurd (none-some g e)
freed p f g _ _ _ (search.past_kept u x us ks o a s) e = freed p f g us ks o s e
freed p f g _ _ _ (search.past_unanswered u us ks o a s) e = freed p f g us ks o s e
freed p f g _ _ _ (search.at_free h us a) e = subst (λ (x : FoundForm). IsAnswer p f x.use_ (Some (Becomes x.form))) (same_Some h g e) a

-- the first number of two lists that are equal, and those behind it
heads : (a b : ℕ) (xs ys : List ℕ) → a ∷ xs ≡ b ∷ ys → a ≡ b
heads a b xs ys e = cc

tails : (a b : ℕ) (xs ys : List ℕ) → a ∷ xs ≡ b ∷ ys → xs ≡ ys
tails a b xs ys e = cc

module _ (marks : List MarkRef) (st : Standing) (s : ProgramSources) (users : Users) (k : ℕ) (r : FoundInPackage) where
  -- The free use is found in the file, past those that are kept.
  pub record FoundAt (w : Where At) : Type 0 where
    pub there : IsThere st.packages w
    pub number_is : w.number ≡ k
    pub file_is : w.file_number ≡ r.file
    pub source_is :
        (home : Package) (source : code.SourceTree) → slice_get s.packages.now k ≡ Some home → slice_get home.files r.file ≡ Some source
        → source_of source ≡ source_with here_of w.source
    pub program : ProgramView
    pub is_program : IsProgram marks st program
    pub view : FileView
    pub is_file : IsFile marks st w view
    pub tables_are : HasTables r.tables view
    pub kept : List FoundObstacle
    pub searched : AreSearched marks st (sites_in_file marks st w) kept (Some r.found)
    pub answer : IsAnswer program view r.found.use_ (Some (Becomes r.found.form))

  -- Of some files, one after another, this is the first that has it, and those before it are settled.
  pub data FoundAmong : List (Where At) → Type 0 where
    found_here : (w : Where At) (ws : List (Where At)) → FoundAt w → FoundAmong (w ∷ ws)
    found_later : (w : Where At) (ws : List (Where At)) → IsSettled marks st users w → FoundAmong ws → FoundAmong (w ∷ ws)

  pub among_searched : (ws : List (Where At)) → FoundAmong ws → FilesSearched marks st ws (Some r.found)
  among_searched _ (found_here w ws a) = in_file w a.kept r.found ws a.searched
  among_searched _ (found_later w ws a b) = past_file w a.kept ws (Some r.found) a.searched (among_searched ws b)

module _ (marks : List MarkRef) (st : Standing) (s : ProgramSources) (tokens : ℕ → List TokenLists) (held : IsHeld marks st s tokens) (tell : LooksTellFiles) (find : SearchesFindSites)
    (users : Users) (flags : ℕ → List Bool) (settled : AreAllSettled marks st users flags) where
  -- ---- a package

  module _ (n : ℕ) (p : pure.Package At) (there : slice_get st.packages n ≡ Some p) where
    abbrev file_at : ℕ × SourceTree At → Where At
    file_at q = record { number = n; of = p; file_number = q.0; source = q.1 }

    file_stands : (q : ℕ × SourceTree At) → slice_get p.files q.0 ≡ Some q.1 → IsThere st.packages (file_at q)
    file_stands q h = record { package_is = there; file_is = h }

    abbrev FileIsSettled : ℕ × SourceTree At → Type 0
    FileIsSettled q = IsSettled marks st users (file_at q)

    each_settled : (fs : List (ℕ × SourceTree At)) → IsAllSettled s tokens flags n → EachItem (λ q. slice_get p.files q.0 ≡ Some q.1) fs → EachItem FileIsSettled fs
    each_settled [] all h = tt
    each_settled (q ∷ fs) all h =
        let home = package_there marks st s tokens held n p there in
        let x = file_there marks st s tokens held (file_at q) (file_stands q h.0) home.0 home.1 in
        (settled (file_at q) (file_stands q h.0) (all home.0 home.1 q.0 (slice_get_within home.0.files q.0 x.0 x.1)), each_settled fs all h.1)

    -- past files that are settled
    pass_files : (Q : List (Where At) → Type 0) → ((w : Where At) (ws : List (Where At)) → IsSettled marks st users w → Q ws → Q (w ∷ ws)) → (fs : List (ℕ × SourceTree At))
        → EachItem FileIsSettled fs → (rest : List (Where At)) → Q rest → Q (files_there n p fs ++ rest)
    pass_files Q step [] h rest base = base
    pass_files Q step (q ∷ fs) h rest base = step (file_at q) (files_there n p fs ++ rest) h.0 (pass_files Q step fs h.1 rest base)

    pub pass_package : (Q : List (Where At) → Type 0) → ((w : Where At) (ws : List (Where At)) → IsSettled marks st users w → Q ws → Q (w ∷ ws)) → IsAllSettled s tokens flags n
        → (rest : List (Where At)) → Q rest → Q (files_there n p (numbered p.files) ++ rest)
    pass_package Q step all rest base = pass_files Q step (numbered p.files) (each_settled (numbered p.files) all (all_numbered p.files)) rest base

    -- the first file that has a free use
    module _ (k : ℕ) (r : FoundInPackage) (same : n ≡ k) (home : Package) (home_is : slice_get s.packages.now n ≡ Some home) (first : IsFirstIn s n home (tokens n) (flags n) r) where
      found_at : (j : ℕ) (f : SourceTree At) → slice_get p.files j ≡ Some f → j ≡ r.file → LookAt s n home (tokens n) j first.seen → FoundAt marks st s users k r (file_at (j, f))
      found_at j f h e a =
          let w = file_at (j, f) in
          let is_there : IsThere st.packages w = file_stands (j, f) h in
          let q = look_right marks st s tokens held w is_there home home_is first.seen a tell find in
          let found = look_search marks st s tokens held w is_there home home_is first.seen a tell find in
          record {
            there = is_there;
            number_is = same;
            file_is = e;
            source_is = λ x y xe ye.
                source_there marks st s tokens held w is_there x (subst (λ (i : ℕ). slice_get s.packages.now i ≡ Some x) (sym same) xe) y
                (subst (λ (i : ℕ). slice_get x.files i ≡ Some y) (sym e) ye);
            program = a.look.program;
            is_program = look_program marks st s tokens held w is_there home home_is first.seen a tell find;
            view = a.look.view;
            is_file = q.is_file;
            tables_are =
                record {
                  names_are = a.look.names_told ∙ ap (λ (t : FileTables). t.names) (sym first.tables_are);
                  table_is = a.look.table_told ∙ ap (λ (t : FileTables). table_of t.scopes) (sym first.tables_are);
                };
            kept = first.seen.kept.items;
            searched = subst (λ (o : Option FoundForm). AreSearched marks st (sites_in_file marks st w) first.seen.kept.items o) first.is_free q.searched;
            answer = freed a.look.program a.look.view r.found found.uses first.seen.kept.items first.seen.free found.searched first.is_free;
          }

      in_files : (d j : ℕ) (fs : List (SourceTree At)) → j + d ≡ r.file → ((i m : ℕ) (f : SourceTree At) → slice_get fs i ≡ Some f → m ≡ j + i → slice_get p.files m ≡ Some f)
          → (x : SourceTree At) → slice_get fs d ≡ Some x → (rest : List (Where At)) → FoundAmong marks st s users k r (files_there n p (numbered_from j fs) ++ rest)
      in_files d j [] e a x h rest = absurd cc
      in_files zero j (f ∷ fs) e a x h rest =
          let same_file : j ≡ r.file = omega (arith, e) in
          found_here (file_at (j, f)) (files_there n p (numbered_from (suc j) fs) ++ rest)
          (found_at j f (a 0 j f refl (omega arith)) same_file (subst (λ (i : ℕ). LookAt s n home (tokens n) i first.seen) (sym same_file) first.look))
      in_files (suc d) j (f ∷ fs) e a x h rest =
          let is_there : slice_get p.files j ≡ Some f = a 0 j f refl (omega arith) in
          found_later (file_at (j, f)) (files_there n p (numbered_from (suc j) fs) ++ rest)
          (settled (file_at (j, f)) (file_stands (j, f) is_there) (first.before j (omega (arith, e))))
          (in_files d (suc j) fs (omega (arith, e)) (λ i m y g q. a (suc i) m y g (omega (arith, q))) x h rest)

      pub found_in_package : (rest : List (Where At)) → FoundAmong marks st s users k r (files_there n p (numbered p.files) ++ rest)
      found_in_package rest =
          let v = package_there marks st s tokens held n p there in
          let same_home : v.0 ≡ home = same_Some v.0 home (sym v.1 ∙ home_is) in
          let files : map (source_with here_of) p.files ≡ map source_of home.files =
          sym (ap (λ (z : pure.Package Span). z.files) v.2) ∙ ap (λ (z : Package). map source_of z.files) same_home in
          let x = beside_at (source_with here_of) source_of p.files home.files files r.file first.look.source first.look.is_source in
          in_files r.file 0 p.files (omega arith) (λ i m f e q. let h : m ≡ i = omega (arith, q) in subst (λ (j : ℕ). slice_get p.files j ≡ Some f) (sym h) e) x.0 x.1 rest

  -- ---- packages

  abbrev PackageStands : ℕ × pure.Package At → Type 0
  PackageStands q = slice_get st.packages q.0 ≡ Some q.1

  pass_packages : (Q : List (Where At) → Type 0) → ((w : Where At) (ws : List (Where At)) → IsSettled marks st users w → Q ws → Q (w ∷ ws)) → Q [] → (qs : List (ℕ × pure.Package At))
      → EachItem PackageStands qs → EachNumber (IsAllSettled s tokens flags) (map (λ q. q.0) qs) → Q (packages_files qs)
  pass_packages Q step base [] h all = base
  pass_packages Q step base (q ∷ qs) h all = pass_package q.0 q.1 h.0 Q step all.0 (packages_files qs) (pass_packages Q step base qs h.1 all.1)

  module _ (k : ℕ) (r : FoundInPackage) (after : List ℕ) (home : Package) (home_is : slice_get s.packages.now k ≡ Some home) (first : IsFirstIn s k home (tokens k) (flags k) r) where
    in_packages : (before : List ℕ) (qs : List (ℕ × pure.Package At)) → map (λ q. q.0) qs ≡ before ++ k ∷ after → EachNumber (IsAllSettled s tokens flags) before
        → EachItem PackageStands qs → FoundAmong marks st s users k r (packages_files qs)
    in_packages [] [] e all h = absurd cc
    in_packages [] (q ∷ qs) e all h =
        let same : q.0 ≡ k = heads q.0 k (map (λ q. q.0) qs) after e in
        found_in_package q.0 q.1 h.0 k r same home (subst (λ (n : ℕ). slice_get s.packages.now n ≡ Some home) (sym same) home_is)
        (subst (λ (n : ℕ). IsFirstIn s n home (tokens n) (flags n) r) (sym same) first) (packages_files qs)
    in_packages (j ∷ before) [] e all h = absurd cc
    in_packages (j ∷ before) (q ∷ qs) e all h =
        let same : q.0 ≡ j = heads q.0 j (map (λ q. q.0) qs) (before ++ k ∷ after) e in
        pass_package q.0 q.1 h.0 (FoundAmong marks st s users k r) (λ w ws a b. found_later w ws a b) (subst (IsAllSettled s tokens flags) (sym same) all.0) (packages_files qs)
        (in_packages before qs (tails q.0 j (map (λ q. q.0) qs) (before ++ k ∷ after) e) all.1 h.1)

  -- ---- the program

  pub all_passed : (order : List ℕ) → order ≡ dependency_order st.packages → EachNumber (IsAllSettled s tokens flags) order → FilesSearched marks st (files_in_order st.packages) None
  all_passed order e all =
      pass_packages (λ ws. FilesSearched marks st ws None) (λ w ws a b. past_file w a.kept ws None a.searched b) no_file (in_dependency_order st.packages) (order_stands st.packages)
      (subst (EachNumber (IsAllSettled s tokens flags)) e all)

  pub first_found_there : (order : List ℕ) → order ≡ dependency_order st.packages → (k : ℕ) (r : FoundInPackage) → IsFirstPackage s tokens flags order k r
      → FoundAmong marks st s users k r (files_in_order st.packages)
  first_found_there order e k r f = in_packages k r f.after f.home f.there f.first f.before (in_dependency_order st.packages) (sym e ∙ f.order_is) f.settled (order_stands st.packages)

  pub files_searched : (order : List ℕ) → order ≡ dependency_order st.packages → (o : Option (ℕ × FoundInPackage)) → IsFirstFree s tokens flags order o
      → FilesSearched marks st (files_in_order st.packages) (form_in o)
  files_searched order e None f = all_passed order e f
  files_searched order e (Some q) f = among_searched marks st s users q.0 q.1 (files_in_order st.packages) (first_found_there order e q.0 q.1 f)

pub are_searched : LooksTellFiles → SearchesFindSites → FilesAreSearched
are_searched tell find marks st s tokens users flags order r held settled e f = files_searched marks st s tokens held tell find users flags settled order e r f
