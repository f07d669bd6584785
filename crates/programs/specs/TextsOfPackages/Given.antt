-- The files of a module in their packages (Go specification, Packages; Source file organization).
use Rattle.std.specs.Prelude.{◌≡◌, ℕ, false, nat_eq, List, [], ◌∷◌, ◌++◌, length, map, Some, None}
use Rattle.std.specs.Prelude.{if◌then◌else◌, slice_get}
use Rattle.name_walks.specs.Around.{place_in}
use Rattle.pkg_graph.specs.ModuleFiles.Pieces.{folder_of}
use Rattle.module_texts.specs.declared.files.ScannedFile.{ScannedFile}
use Rattle.pkg_graph.specs.Package.{import_path}
use Rattle.programs.specs.declared.state.PackageFiles.{PackageFiles}

-- the import path of the package of a file
abbrev pub home_path : List ℕ → ScannedFile → List ℕ
home_path module_path s = import_path module_path (folder_of s.file.now.path)

-- those of some files that have this number, where each has its own
abbrev pub given_to : ℕ → List ℕ → List ScannedFile → List ScannedFile
given_to k [] ss = []
given_to k (n ∷ ns) [] = []
given_to k (n ∷ ns) (s ∷ ss) = if nat_eq n k then s ∷ given_to k ns ss else given_to k ns ss

-- a part of what is kept of the package with this number
abbrev pub kept_at : {A : Type 0} → (PackageFiles → List A) → List PackageFiles → ℕ → List A
kept_at part ks k = elim (slice_get ks k) [ None ↦ [] | Some f ↦ part f ]

-- Each package gets these files besides, none of which is settled.
pub record ArePlaced (ns : List ℕ) (ss : List ScannedFile) (old new : List PackageFiles) : Type 0 where
  pub size : length new ≡ length old
  pub texts :
      (k : ℕ) → kept_at (λ f. f.texts.items) new k
      ≡ kept_at (λ f. f.texts.items) old k ++ map (λ s. s.file.now.bytes) (given_to k ns ss)
  pub tokens :
      (k : ℕ) → kept_at (λ f. f.tokens.items) new k
      ≡ kept_at (λ f. f.tokens.items) old k ++ map (λ s. s.tokens) (given_to k ns ss)
  pub flags :
      (k : ℕ) → kept_at (λ f. f.settled.items) new k
      ≡ kept_at (λ f. f.settled.items) old k ++ map (λ s. false) (given_to k ns ss)

-- There are so many packages, of which nothing is kept.
pub record HaveNone (count : ℕ) (ks : List PackageFiles) : Type 0 where
  pub size : length ks ≡ count
  pub texts : (k : ℕ) → kept_at (λ f. f.texts.items) ks k ≡ []
  pub tokens : (k : ℕ) → kept_at (λ f. f.tokens.items) ks k ≡ []
  pub flags : (k : ℕ) → kept_at (λ f. f.settled.items) ks k ≡ []

-- Of each package the texts, the tokens and the comments of its files are kept, in their order; none of these is
-- settled.
pub record AreTexts
    (module_path : List ℕ) (places : List (List ℕ × ℕ)) (count : ℕ) (ss : List ScannedFile) (ks : List PackageFiles)
    : Type 0 where
  pub size : length ks ≡ count
  pub numbers : List ℕ
  pub numbers_are : map Some numbers ≡ map (λ s. place_in places (home_path module_path s)) ss
  pub texts : (k : ℕ) → kept_at (λ f. f.texts.items) ks k ≡ map (λ s. s.file.now.bytes) (given_to k numbers ss)
  pub tokens : (k : ℕ) → kept_at (λ f. f.tokens.items) ks k ≡ map (λ s. s.tokens) (given_to k numbers ss)
  pub flags : (k : ℕ) → kept_at (λ f. f.settled.items) ks k ≡ map (λ s. false) (given_to k numbers ss)
