-- Which of the held files are read.
use Rattle.std.proofs.Common.{◌≡◌, ◌∙◌, List, [], ◌∷◌, ◌++◌, ℕ, suc, Bool, true, false, cond, length, get_or, map, refl, ap, sym, arith, append_assoc, length-append}
use Rattle.std.proofs.Math.Seq.{get_or-append_seam}
use Rattle.fix_io.specs.Files.{HeldFile, no_file, paths}
use Rattle.folder_reading.specs.Sources.{source_at, sources_in}
use Rattle.pkg_graph.specs.ModuleFiles.Selected.{is_selected, selected_from}
use Rattle.source_files.specs.declared.files.SourceFile.{SourceFile}

-- a held file with its index
abbrev pub numbered_file : ℕ → HeldFile → SourceFile
numbered_file k f = record { index = k; path = f.path; bytes = f.bytes }

-- those that are read, of files of which the first has this index, where all paths are these
abbrev pub sources_from : List (List ℕ) → ℕ → List HeldFile → List SourceFile
sources_from all k [] = []
sources_from all k (f ∷ fs) = cond (is_selected all f.path) (numbered_file k f ∷ sources_from all (suc k) fs) (sources_from all (suc k) fs)

numbered_step : (all : List (List ℕ)) (pre fs : List HeldFile) (f : HeldFile) (k : ℕ) → length pre ≡ k
    → map (source_at (pre ++ f ∷ fs)) (selected_from all (suc k) (paths fs)) ≡ sources_from all (suc k) fs
    → map (source_at (pre ++ f ∷ fs)) (selected_from all k (f.path ∷ paths fs)) ≡ sources_from all k (f ∷ fs)
numbered_step all pre fs f k e rest = by (is_selected all f.path)
  where
    got : get_or (pre ++ f ∷ fs) k no_file ≡ f
    got = ap (λ i. get_or (pre ++ f ∷ fs) i no_file) (sym e) ∙ get_or-append_seam pre f fs no_file

    by : (b : Bool) → map (source_at (pre ++ f ∷ fs)) (cond b (k ∷ selected_from all (suc k) (paths fs)) (selected_from all (suc k) (paths fs)))
        ≡ cond b (numbered_file k f ∷ sources_from all (suc k) fs) (sources_from all (suc k) fs)
    by true =
        ap (λ (h : HeldFile). numbered_file k h ∷ map (source_at (pre ++ f ∷ fs)) (selected_from all (suc k) (paths fs))) got
        ∙ ap (λ ss. numbered_file k f ∷ ss) rest
    by false = rest

numbered : (all : List (List ℕ)) (pre fs : List HeldFile) (k : ℕ) → length pre ≡ k → map (source_at (pre ++ fs)) (selected_from all k (paths fs)) ≡ sources_from all k fs
numbered all pre [] k e = refl
numbered all pre (f ∷ fs) k e =
    numbered_step all pre fs f k e
    (ap (λ hs. map (source_at hs) (selected_from all (suc k) (paths fs))) (sym (append_assoc pre (f ∷ []) fs))
    ∙ numbered all (pre ++ f ∷ []) fs (suc k) (omega (arith, length-append pre (f ∷ []), e)))

pub sources_are : (files : List HeldFile) → sources_in files ≡ sources_from (paths files) 0 files
sources_are files = numbered (paths files) [] files 0 refl
