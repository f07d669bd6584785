-- Where a declaration of one file changes, the other files of the packages use the names that they used.
use Rattle.std.proofs.Common.{◌≡◌, refl, sym, ap, ◌∙◌, subst, ℕ, zero, suc, ◌+◌, Bool, true, false, ◌&&◌, ◌||◌, List, [], ◌∷◌, ◌++◌, Some, arith}
use Rattle.std.specs.Prelude.{nat_eq, slice_get}
use Rattle.std.proofs.lemmas.List.Folds.{list_any-append}
use Rattle.std.proofs.lemmas.Option.{same_Some}
use Rattle.go_tree.specs.File.{Func, Decl, func}
use Rattle.go_tree.specs.ScopeNames.Means.{Environment}
use Rattle.go_tree.specs.GoTypes.Answers.{is_among}
use Rattle.go_tree.specs.GoTypes.Entities.{Entity, World}
use Rattle.go_tree.specs.GoTypes.Programs.{Header, a_func, SourceFile, SourcePackage, Headed, headed, headed_file, headed_files, headed_package, all_headers, header_names, header_sound, names_in, block_names, file_block, is_main}
use Rattle.go_tree.specs.GoTypes.WellTyped.{header_uses, is_used_in}
use Rattle.go_translation.specs.Packages as translated
use Rattle.go_translation.specs.Packages.{sources}
use Rattle.run_rules.specs.Steps.{change_nth}
use Rattle.constant_steps.specs.StepLaws.DeclStands.{decl_changed, file_changed}
use Rattle.constant_steps.specs.StepLaws.SwapPrograms.{headed_there}
use Rattle.literals_in_place.proofs.StepsInBodies.KeptImports.{decls_names, files_names}

never : (b c : Bool) → (b && (false && c)) ≡ false
never true c = refl
never false c = refl

elsewhere : (home file number k : ℕ) → nat_eq k file ≡ false → (c : Bool) → (nat_eq number home && (nat_eq k file && c)) ≡ false
elsewhere home file number k e c = ap (λ (b : Bool). nat_eq number home && (b && c)) e ∙ never (nat_eq number home) c

module _ {S : Type 0} (w : World) (home file : ℕ) (n : List ℕ) where
  -- a header of the file uses the name
  abbrev Used : List (Headed S) → Bool
  Used hs = is_used_in w home file n hs

  split : (hs ks : List (Headed S)) → Used (hs ++ ks) ≡ (Used hs || Used ks)
  split hs ks = list_any-append (λ (h : Headed S). nat_eq h.home home && (nat_eq h.file file && is_among n (header_uses w h))) hs ks

  -- another file is no matter
  silent : (number : ℕ) (in_main : Bool) (k : ℕ) → nat_eq k file ≡ false → (is : Environment Entity) (before : List (List ℕ)) (hs : List (S × Header S)) → Used (headed_file number in_main k is before hs) ≡ false
  silent number in_main k e is before [] = refl
  silent number in_main k e is before (h ∷ hs) =
      λ i. elsewhere home file number k e (is_among n (header_uses w (headed_there number in_main k is h.0 (header_sound before h.1) h.1))) i || silent number in_main k e is (header_names h.1 ++ before) hs i

  module _ (change : Decl S → Decl S) (f g : Func S) (becomes : change (func f) ≡ func g) (names : header_names (a_func f) ≡ header_names (a_func g)) where
    files_stay : (number : ℕ) (in_main : Bool) (members : List (List ℕ)) (i m k d : ℕ) → k ≡ i + m → nat_eq k file ≡ false → (before : List (List ℕ)) (source : SourceFile S) → slice_get source.decls d ≡ Some (func f)
        → (fs : List (SourceFile S)) → slice_get fs m ≡ Some source → Used (headed_files number in_main members i before fs) ≡ Used (headed_files number in_main members i before (change_nth m (decl_changed change d) fs))
    files_stay number in_main members i m k d q e before source there [] h = refl
    files_stay number in_main members i zero k d q e before source there (v ∷ fs) h =
        let here : i ≡ k = omega (arith, q) in
        let apart : nat_eq i file ≡ false = ap (λ (j : ℕ). nat_eq j file) here ∙ e in
        let is : Environment Entity = file_block members [] v.imports in
        let same : names_in (all_headers v.decls) ≡ names_in (all_headers (change_nth d change v.decls)) = decls_names change f g becomes names d v.decls (ap (λ (c : SourceFile S). slice_get c.decls d) (same_Some v source h) ∙ there) in
        split (headed_file number in_main i is before (all_headers v.decls)) (headed_files number in_main members (suc i) (names_in (all_headers v.decls) ++ before) fs)
        ∙ (λ z. silent number in_main i apart is before (all_headers v.decls) z || Used (headed_files number in_main members (suc i) (same z ++ before) fs))
        ∙ (λ z. sym (silent number in_main i apart is before (all_headers (change_nth d change v.decls))) z || Used (headed_files number in_main members (suc i) (names_in (all_headers (change_nth d change v.decls)) ++ before) fs))
        ∙ sym (split (headed_file number in_main i is before (all_headers (change_nth d change v.decls))) (headed_files number in_main members (suc i) (names_in (all_headers (change_nth d change v.decls)) ++ before) fs))
    files_stay number in_main members i (suc m) k d q e before source there (v ∷ fs) h =
        let first : List (Headed S) = headed_file number in_main i (file_block members [] v.imports) before (all_headers v.decls) in
        let later : List (List ℕ) = names_in (all_headers v.decls) ++ before in
        split first (headed_files number in_main members (suc i) later fs)
        ∙ ap (λ (b : Bool). Used first || b) (files_stay number in_main members (suc i) m k d (omega (arith, q)) e later source there fs h)
        ∙ sym (split first (headed_files number in_main members (suc i) later (change_nth m (decl_changed change d) fs)))

    package_stays : (p : SourcePackage S) (m d : ℕ) → nat_eq m file ≡ false → (source : SourceFile S) → slice_get source.decls d ≡ Some (func f) → slice_get p.files m ≡ Some source → Used (headed_package p) ≡ Used (headed_package (file_changed change m d p))
    package_stays p m d e source there h =
        files_stay p.number (is_main p) (block_names p.files) 0 m m d (omega arith) e [] source there p.files h
        ∙ (λ z. Used (headed_files p.number (is_main p) (files_names change f g becomes names m d source there p.files h z) 0 [] (change_nth m (decl_changed change d) p.files)))

    pub others_stay : (m d : ℕ) → nat_eq m file ≡ false → (source : SourceFile S) → slice_get source.decls d ≡ Some (func f) → (t : ℕ) (ms : List (translated.Package S)) (p : translated.Package S) → slice_get ms t ≡ Some p → slice_get p.source.files m ≡ Some source
        → Used (headed (sources ms)) ≡ Used (headed (sources (change_nth t (λ (y : translated.Package S). record y { source = file_changed change m d y.source }) ms)))
    others_stay m d e source there t [] p h k = refl
    others_stay m d e source there zero (y ∷ ms) p h k =
        split (headed_package y.source) (headed (sources ms))
        ∙ ap (λ (b : Bool). b || Used (headed (sources ms))) (package_stays y.source m d e source there (ap (λ (c : translated.Package S). slice_get c.source.files m) (same_Some y p h) ∙ k))
        ∙ sym (split (headed_package (file_changed change m d y.source)) (headed (sources ms)))
    others_stay m d e source there (suc t) (y ∷ ms) p h k =
        split (headed_package y.source) (headed (sources ms))
        ∙ ap (λ (b : Bool). Used (headed_package y.source) || b) (others_stay m d e source there t ms p h k)
        ∙ sym (split (headed_package y.source) (headed (sources (change_nth t (λ (y : translated.Package S). record y { source = file_changed change m d y.source }) ms))))
