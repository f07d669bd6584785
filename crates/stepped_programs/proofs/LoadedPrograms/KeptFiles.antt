-- What is kept of the files of a module that is read are their texts, with the tokens from which they read.
use Rattle.std.proofs.Common.{◌≡◌, ◌∙◌, refl, sym, ap, subst, ℕ, zero, suc, Bool, false, List, [], ◌∷◌, map, length, get_or, Option, Some, None}
use Rattle.std.specs.Prelude.{slice_get}
use Rattle.std.proofs.lemmas.List.{length-map}
use Rattle.std.proofs.lemmas.Option.{same_Some}
use Rattle.go_tree.specs.declared.spans.Span.{Span}
use Rattle.go_scan.specs.TokenLists.{TokenLists}
use Rattle.name_walks.specs.Around.{place_in}
use Rattle.pkg_graph.specs.ModuleFiles.PathLists.{number_of, AreDistinct}
use Rattle.pkg_graph.specs.Package.{SourceTree, Package, first_seen, home_of, package_of}
use Rattle.pkg_graph.specs.Reads.{Source}
use Rattle.pkg_graph.specs.Views.{package_view}
use Rattle.pkg_graph.specs.declared.packages.Package as code
use Rattle.pkg_graph.proofs.PackageLaws.{paths_distinct}
use Rattle.run_rules.specs.Marks.{text_at}
use Rattle.run_rules.specs.Texts.{FileText}
use Rattle.run_rules.specs.Respanned.{file_with, source_with, package_with}
use Rattle.run_rules.specs.Steps.{At}
use Rattle.run_rules.specs.Run.{Standing, as_read, here_of}
use Rattle.run_rules.specs.Inlining.{ReadsAs, standing_as_read}
use Rattle.splice_laws.specs.RunLaws.Reading.{FileReads}
use Rattle.splice_laws.specs.RunLaws.Laws.{OneTextEach}
use Rattle.splice_laws.proofs.RunLaws.PathsOwn.{paths_own}
use Rattle.splice_laws.proofs.RunLaws.RunsRead as runs
use Rattle.module_texts.specs.Files.{IsScanned}
use Rattle.module_texts.specs.Modules.{IsReadFrom}
use Rattle.module_texts.specs.declared.files.ScannedFile.{ScannedFile}
use Rattle.module_texts.specs.declared.modules.ReadModule.{ReadModule}
use Rattle.module_marks.specs.Views.{file_text}
use Rattle.file_names.specs.Imports.{FindsPackages}
use Rattle.source_files.specs.declared.files.SourceFile.{SourceFile}
use Rattle.programs.specs.declared.state.PackageFiles.{PackageFiles}
use Rattle.programs.specs.Kept.{IsKeptFile, AreCounted}
use Rattle.programs.specs.Programs.{AreKeptFiles}
use Rattle.programs.specs.TextsOfPackages.Given.{given_to, kept_at, AreTexts}
use Rattle.read_modules.specs.Modules.{IsReadIn, packages_in, texts_in}
use Rattle.stepped_programs.proofs.LoadedPrograms.Images.{image_at, at_image, same_images, of_all}
use Rattle.stepped_programs.proofs.LoadedPrograms.GivenFiles.{given_among, files_given}
use Rattle.read_modules.proofs.Modules.{module_read, paths_alike}

-- what is kept of a package
kept_of : {A : Type 0} (part : PackageFiles → List A) (ks : List PackageFiles) (k : ℕ) (fs : PackageFiles) → slice_get ks k ≡ Some fs → kept_at part ks k ≡ part fs
kept_of part ks k fs h = ap (λ (o : Option PackageFiles). elim o [ None ↦ [] | Some f ↦ part f ]) h

all_false : {A : Type 0} (xs : List A) (i : ℕ) → get_or (map (λ x. false) xs) i false ≡ false
all_false [] i = refl
all_false (x ∷ xs) zero = refl
all_false (x ∷ xs) (suc i) = all_false xs i

-- the paths of packages
paths_viewed : (cs : List code.Package) → map (λ c. c.path) cs ≡ map (λ p. p.path) (map package_view cs)
paths_viewed [] = refl
paths_viewed (c ∷ cs) = ap (λ (ps : List (List ℕ)). c.path ∷ ps) (paths_viewed cs)

-- ---- as many as there are files

module _ (files : List SourceFile) (m : ReadModule) (r : IsReadFrom files m) (places : List (List ℕ × ℕ)) (found : FindsPackages places m.graph.packages.items) (count : ℕ)
    (ks : List PackageFiles) (t : AreTexts m.home.path places count m.files.items ks) where
  abbrev given : ℕ → List ScannedFile
  given k = given_to k t.numbers m.files.items

  abbrev paths : List (List ℕ)
  paths = map (λ p. p.path) (packages_in m)

  pub none_settled : (k : ℕ) (fs : PackageFiles) → slice_get ks k ≡ Some fs → (i : ℕ) → get_or fs.settled.items i false ≡ false
  none_settled k fs h i =
      ap (λ (bs : List Bool). get_or bs i false) (sym (kept_of (λ f. f.settled.items) ks k fs h) ∙ t.flags k)
      ∙ all_false (given k) i

  place_found : (q : List ℕ) → place_in places q ≡ number_of paths q
  place_found q = found.found q ∙ ap (λ (qs : List (List ℕ)). number_of qs q) (paths_viewed m.graph.packages.items)

  paths_apart : AreDistinct paths
  paths_apart = subst (λ (qs : List (Package Span)). AreDistinct (map (λ p. p.path) qs)) (sym r.packages_are) (paths_distinct m.home.path r.trees)

  module _ (k : ℕ) (p : Package Span) (package_is : slice_get (packages_in m) k ≡ Some p) where
    from_trees : (own : List ℕ) × (slice_get (first_seen (map (home_of m.home.path) r.trees)) k ≡ Some own) × (package_of m.home.path r.trees own ≡ p)
    from_trees =
        image_at (package_of m.home.path r.trees) (first_seen (map (home_of m.home.path) r.trees)) k p
        (subst (λ (qs : List (Package Span)). slice_get qs k ≡ Some p) r.packages_are package_is)

    abbrev own : List ℕ
    own = from_trees.0

    path_there : slice_get paths k ≡ Some own
    path_there = at_image (λ (p : Package Span). p.path) (packages_in m) k p package_is ∙ ap (λ (p : Package Span). Some p.path) (sym from_trees.2)

    -- the files that are given to it
    pub given_alike : map (λ s. s.file.now.path) (given k) ≡ map (λ x. x.path) p.files
    given_alike =
        files_given m.home.path places paths place_found paths_apart k own path_there t.numbers m.files.items r.trees t.numbers_are (paths_alike files m r)
        ∙ ap (λ (q : Package Span). map (λ x. x.path) q.files) from_trees.2

    as_many : length (given k) ≡ length p.files
    as_many =
        sym (length-map (given k) (λ s. s.file.now.path)) ∙ ap length given_alike ∙ length-map p.files (λ x. x.path)

    module _ (fs : PackageFiles) (kept : slice_get ks k ≡ Some fs) where
      pub texts_kept : fs.texts.items ≡ map (λ s. s.file.now.bytes) (given k)
      texts_kept = sym (kept_of (λ f. f.texts.items) ks k fs kept) ∙ t.texts k

      pub tokens_kept : fs.tokens.items ≡ map (λ s. s.tokens) (given k)
      tokens_kept = sym (kept_of (λ f. f.tokens.items) ks k fs kept) ∙ t.tokens k

      flags_kept : fs.settled.items ≡ map (λ s. false) (given k)
      flags_kept = sym (kept_of (λ f. f.settled.items) ks k fs kept) ∙ t.flags k

      pub counted : AreCounted (length p.files) fs
      counted =
          record {
            texts = ap length texts_kept ∙ length-map (given k) (λ s. s.file.now.bytes) ∙ as_many;
            tokens = ap length tokens_kept ∙ length-map (given k) (λ s. s.tokens) ∙ as_many;
            flags = ap length flags_kept ∙ length-map (given k) (λ s. false) ∙ as_many;
          }

-- ---- what is kept of each

module _ (folder : List Source) (files : List SourceFile) (m : ReadModule) (r : IsReadIn folder files m) (places : List (List ℕ × ℕ)) (found : FindsPackages places m.graph.packages.items) (count : ℕ)
    (ks : List PackageFiles) (t : AreTexts m.home.path places count m.files.items ks) where
  abbrev ps : List (Package Span)
  ps = packages_in m

  abbrev texts : List (List ℕ × FileText)
  texts = texts_in m

  abbrev st : Standing
  st = standing_as_read ps texts

  abbrev its_files : ℕ → List ScannedFile
  its_files k = given_to k t.numbers m.files.items

  own_texts : OneTextEach texts
  own_texts = (paths_own folder ps texts (module_read folder files m r)).1

  module _ (k : ℕ) (h : Package At) (package_is : slice_get st.packages k ≡ Some h) (fs : PackageFiles) (kept : slice_get ks k ≡ Some fs) where
    -- the package as it was read
    was : (p : Package Span) × (slice_get ps k ≡ Some p) × (package_with as_read p ≡ h)
    was = image_at (package_with as_read) ps k h package_is

    files_are : map (source_with as_read) was.0.files ≡ h.files
    files_are = ap (λ (p : Package At). p.files) was.2

    all_counted : AreCounted (length h.files) fs
    all_counted =
        subst (λ (n : ℕ). AreCounted n fs) (sym (length-map was.0.files (source_with as_read)) ∙ ap length files_are)
        (counted files m r.read places found count ks t k was.0 was.1 fs kept)

    module _ (i : ℕ) (f : SourceTree At) (file_is : slice_get h.files i ≡ Some f) where
      tree : (x : SourceTree Span) × (slice_get was.0.files i ≡ Some x) × (source_with as_read x ≡ f)
      tree =
          image_at (source_with as_read) was.0.files i f
          (subst (λ (xs : List (SourceTree At)). slice_get xs i ≡ Some f) (sym files_are) file_is)

      scanned : (s : ScannedFile) × (slice_get (its_files k) i ≡ Some s) × (s.file.now.path ≡ tree.0.path)
      scanned =
          same_images (λ s. s.file.now.path) (λ x. x.path) (its_files k) was.0.files i tree.0
          (given_alike files m r.read places found count ks t k was.0 was.1) tree.1

      among : (j : ℕ) × (slice_get m.files.items j ≡ Some scanned.0)
      among = given_among k t.numbers m.files.items i scanned.0 scanned.1

      abbrev its : FileText
      its = file_text scanned.0

      path_is : f.path ≡ scanned.0.file.now.path
      path_is = sym (ap (λ (x : SourceTree At). x.path) tree.2) ∙ sym scanned.2

      text_stands : text_at f.path texts ≡ Some its
      text_stands =
          ap (λ (q : List ℕ). text_at q texts) path_is
          ∙ own_texts among.0 (scanned.0.file.now.path, its) (at_image (λ s. (s.file.now.path, file_text s)) m.files.items among.0 scanned.0 among.1)

      file_reads : FileReads texts f
      file_reads = runs.modules_read folder ps texts (module_read folder files m r) k i f (record { of = h; package_is = package_is; file_is = file_is })

      kept_file : IsKeptFile st fs i f
      kept_file =
          record {
            text = scanned.0.file.now.bytes;
            text_is =
                ap (λ (xs : List (List ℕ)). slice_get xs i) (texts_kept files m r.read places found count ks t k was.0 was.1 fs kept)
                ∙ at_image (λ s. s.file.now.bytes) (its_files k) i scanned.0 scanned.1;
            tokens = scanned.0.tokens;
            tokens_are =
                ap (λ (xs : List TokenLists). slice_get xs i) (tokens_kept files m r.read places found count ks t k was.0 was.1 fs kept)
                ∙ at_image (λ s. s.tokens) (its_files k) i scanned.0 scanned.1;
            stands = text_stands;
            reads =
                subst (λ (x : FileText). ReadsAs x (file_with here_of f.tree))
                (same_Some file_reads.text its (sym file_reads.there ∙ text_stands)) file_reads.reads;
            small = (of_all IsScanned m.files.items among.0 scanned.0 r.read.scanned.scans among.1).small;
          }

    pub kept_files : AreKeptFiles st h fs
    kept_files = record { counted = all_counted; each = kept_file }
