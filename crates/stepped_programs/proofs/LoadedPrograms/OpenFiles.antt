-- Of what is loaded each package may be searched, whatever folder it was read from.
use Rattle.std.proofs.Common.{◌≡◌, ◌∙◌, refl, sym, ap, subst, ℕ, zero, suc, ◌<◌, All, List, [], ◌∷◌, map, length, get_or, Some, arith}
use Rattle.std.specs.Prelude.{slice_get}
use Rattle.std.proofs.lemmas.List.{length-map}
use Rattle.go_scan.specs.TokenLists.{TokenLists}
use Rattle.run_rules.specs.ImportRules.Laid.{CommentsAscend}
use Rattle.splice_laws.proofs.ImportSplices.ImportPlaces.CommentsStand.{comments_ascend}
use Rattle.pkg_graph.specs.Views.{package_view, source_of}
use Rattle.pkg_graph.specs.declared.packages.Package.{Package}
use Rattle.module_texts.specs.Files.{IsScanned}
use Rattle.module_texts.specs.Modules.{IsReadFrom}
use Rattle.module_texts.specs.declared.modules.ReadModule.{ReadModule}
use Rattle.file_names.specs.Imports.{FindsPackages}
use Rattle.source_files.specs.declared.files.SourceFile.{SourceFile}
use Rattle.programs.specs.declared.state.PackageFiles.{PackageFiles}
use Rattle.programs.specs.declared.state.Program.{Program}
use Rattle.programs.specs.TextsOfPackages.Given.{given_to, AreTexts}
use Rattle.stepped_programs.specs.PackageSearch.SearchedPrograms.Programs.{HasPackage}
use Rattle.stepped_programs.specs.LoadedPrograms.Loaded.{AllAreOpen}
use Rattle.stepped_programs.proofs.LoadedPrograms.Images.{image_at, at_image, of_all}
use Rattle.stepped_programs.proofs.LoadedPrograms.GivenFiles.{given_among}
use Rattle.stepped_programs.proofs.LoadedPrograms.KeptFiles.{tokens_kept, counted}

-- an entry of a list
entry : {A : Type 0} (xs : List A) (k : ℕ) → k < length xs → (x : A) × (slice_get xs k ≡ Some x)
entry [] k h = absurd (omega (arith, h))
entry (x ∷ xs) zero h = (x, refl)
entry (x ∷ xs) (suc k) h = entry xs k (omega (arith, h))

got : {A : Type 0} (xs : List A) (i : ℕ) (d : A) → i < length xs → slice_get xs i ≡ Some (get_or xs i d)
got [] i d h = absurd (omega (arith, h))
got (x ∷ xs) zero d h = refl
got (x ∷ xs) (suc i) d h = got xs i d (omega (arith, h))

module _ (files : List SourceFile) (m : ReadModule) (r : IsReadFrom files m) (places : List (List ℕ × ℕ)) (found : FindsPackages places m.graph.packages.items)
    (ks : List PackageFiles) (t : AreTexts m.home.path places (length m.graph.packages.items) m.files.items ks) (k : ℕ) (within : k < length m.graph.packages.items) where
  home : (p : Package) × (slice_get m.graph.packages.items k ≡ Some p)
  home = entry m.graph.packages.items k within

  kept : (f : PackageFiles) × (slice_get ks k ≡ Some f)
  kept = entry ks k (omega (arith, within, t.size))

  viewed : slice_get (map package_view m.graph.packages.items) k ≡ Some (package_view home.0)
  viewed = at_image package_view m.graph.packages.items k home.0 home.1

  as_many : length (package_view home.0).files ≡ length home.0.files
  as_many = length-map home.0.files source_of

  ascend : All (λ (x : TokenLists). CommentsAscend 0 x.comments) kept.0.tokens.items
  ascend i d h =
      let own = tokens_kept files m r places found (length m.graph.packages.items) ks t k (package_view home.0) viewed kept.0 kept.1 in
      let s = image_at (λ s. s.tokens) (given_to k t.numbers m.files.items) i (get_or kept.0.tokens.items i d)
      (ap (λ (xs : List TokenLists). slice_get xs i) (sym own) ∙ got kept.0.tokens.items i d h) in
      let j = given_among k t.numbers m.files.items i s.0 s.1 in
      subst (λ (x : TokenLists). CommentsAscend 0 x.comments) s.2
      (comments_ascend s.0.file.now.bytes s.0.tokens.items s.0.tokens.comments (of_all IsScanned m.files.items j.0 s.0 r.scanned.scans j.1).words)

  has_package : HasPackage m.graph.packages.items ks k
  has_package =
      let c = counted files m r places found (length m.graph.packages.items) ks t k (package_view home.0) viewed kept.0 kept.1 in
      record {
        home = home.0;
        home_is = home.1;
        kept = kept.0;
        kept_is = kept.1;
        tokens = c.tokens ∙ as_many;
        settled = c.flags ∙ as_many;
        ascend = ascend;
      }

-- what is loaded
pub opened : (files : List SourceFile) (m : ReadModule) (p : Program) → IsReadFrom files m → p.packages.items ≡ m.graph.packages.items → FindsPackages p.places m.graph.packages.items
    → AreTexts m.home.path p.places (length m.graph.packages.items) m.files.items p.files.items → AllAreOpen p
opened files m p r packages_are found t k within =
    record {
      places = subst (λ (cs : List Package). FindsPackages p.places cs) (sym packages_are) found;
      there =
          subst (λ (cs : List Package). HasPackage cs p.files.items k) (sym packages_are)
          (has_package files m r p.places found p.files.items t k (subst (λ (cs : List Package). k < length cs) packages_are within));
    }
