-- Listed paths ascend and are octets, so the files that are read of them are files of a folder.
use Rattle.std.proofs.Common.{◌≡◌, ◌∙◌, ℕ, suc, ◌+◌, ◌<◌, Bool, true, false, ◌&&◌, cond, List, [], ◌∷◌, ◌++◌, length, get_or, map, filter, refl, ap, sym, arith, All, append_assoc, length-append}
use Rattle.std.specs.List.{list_all}
use Rattle.std.specs.Ordering.{is_lt, nat_cmp}
use Rattle.std.specs.declared.cmp.Ordering.{Ordering}
use Rattle.std.specs.declared.cmp.Ordering.TheVariants.{Less, Equal, Greater}
use Rattle.std.specs.Cmp.Lexicographic.{slice_cmp, nat_list_cmp_total}
use Rattle.std.proofs.Math.Seq.{get_or-append_seam}
use Rattle.std.proofs.lemmas.Bool.Decides.{nat_tests}
use Rattle.std.proofs.lemmas.List.Elements.{All-head, All-tail}
use Rattle.fix_io.specs.Files.{HeldFile, IsAscending, paths}
use Rattle.folder_reading.specs.Sources.{AreOctets, sources_in}
use Rattle.go_tree.specs.GoWords.Tokens.Characters.{each}
use Rattle.module_texts.specs.Files.{sources_of}
use Rattle.pkg_graph.specs.ModuleFiles.PathLists.{path_at}
use Rattle.pkg_graph.specs.ModuleFiles.Pieces.{comes_before}
use Rattle.pkg_graph.specs.ModuleFiles.Selected.{is_selected, selected, selected_from}
use Rattle.pkg_graph.specs.Reads.{Source, selected_files}
use Rattle.pkg_graph.proofs.ModuleFiles.PathLaws.{less_comes_before}
use Rattle.run_plans.specs.PlannedModules.Folders.{AreFolder, AreOfFolder, ascend}
use Rattle.run_plans.specs.PlannedModules.Laws.{ListedFilesAreFolders}
use Rattle.run_plans.proofs.PlannedModules.Folders.{and_both, both}
use Rattle.run_rules.specs.Inlining.{are_by_path}
use Rattle.splice_laws.specs.ImportSplices.AddedFile.{is_byte}
use Rattle.source_files.specs.declared.files.SourceFile.{SourceFile}
use Rattle.fix_run.specs.Files.{folder_of, source_of}
use Rattle.fix_run.proofs.ReadLemmas.{numbered_file, sources_are, sources_from}

-- ---- the order of paths

is_less : (o : Ordering) → is_lt o ≡ true → o ≡ Less
is_less Less e = refl
is_less Equal e = absurd cc
is_less Greater e = absurd cc

comes_between : (p q r : List ℕ) → comes_before p q ≡ true → comes_before q r ≡ true → comes_before p r ≡ true
comes_between p q r h k =
    let first : slice_cmp nat_cmp p q ≡ Less = is_less (slice_cmp nat_cmp p q) (less_comes_before p q ∙ h) in
    let second : slice_cmp nat_cmp q r ≡ Less = is_less (slice_cmp nat_cmp q r) (less_comes_before q r ∙ k) in
    sym (less_comes_before p r) ∙ ap is_lt (nat_list_cmp_total.trans p q r first second)

before_all : (p q : List ℕ) (qs : List (List ℕ)) → comes_before p q ≡ true → list_all (comes_before q) qs ≡ true → list_all (comes_before p) qs ≡ true
before_all p q [] h k = refl
before_all p q (r ∷ qs) h k =
    let parts = both (comes_before q r) (list_all (comes_before q) qs) k in
    and_both (comes_before p r) (list_all (comes_before p) qs) (comes_between p q r h parts.0) (before_all p q qs h parts.1)

rest_ascends : (p : List ℕ) (ps : List (List ℕ)) → IsAscending (p ∷ ps) → IsAscending ps
rest_ascends p ps h k l =
    let same : suc k + 1 ≡ suc (k + 1) = omega arith in
    sym (ap (λ n. slice_cmp nat_cmp (get_or ps k []) (get_or (p ∷ ps) n [])) same) ∙ h (suc k) (omega (arith, l))

pub ascends : (ps : List (List ℕ)) → IsAscending ps → ascend ps ≡ true
ascends [] h = refl
ascends (p ∷ []) h = refl
ascends (p ∷ q ∷ qs) h =
    let rest = ascends (q ∷ qs) (rest_ascends p (q ∷ qs) h) in
    let parts = both (list_all (comes_before q) qs) (ascend qs) rest in
    let first : comes_before p q ≡ true = sym (less_comes_before p q) ∙ ap is_lt (h 0 (omega arith)) in
    let all : list_all (comes_before p) (q ∷ qs) ≡ true = and_both (comes_before p q) (list_all (comes_before p) qs) first (before_all p q qs first parts.0) in
    and_both (list_all (comes_before p) (q ∷ qs)) (ascend (q ∷ qs)) all rest

-- ---- octets

octet : (b : ℕ) → b < 256 → is_byte b ≡ true
octet b h = grind (arith, nat_tests, h)

octets : (bytes : List ℕ) → AreOctets bytes → each is_byte bytes ≡ true
octets [] h = refl
octets (b ∷ bs) h =
    and_both (is_byte b) (each is_byte bs) (octet b (All-head (λ (c : ℕ). c < 256) b bs h)) (octets bs (All-tail (λ (c : ℕ). c < 256) b bs h))

pub all_octets : (ps : List (List ℕ)) → All AreOctets ps → list_all (each is_byte) ps ≡ true
all_octets [] h = refl
all_octets (p ∷ ps) h = and_both (each is_byte p) (list_all (each is_byte) ps) (octets p (All-head AreOctets p ps h)) (all_octets ps (All-tail AreOctets p ps h))

-- ---- the paths that are read

paths_step : (all pre ps : List (List ℕ)) (p : List ℕ) (k : ℕ) → length pre ≡ k
    → map (path_at (pre ++ p ∷ ps)) (selected_from all (suc k) ps) ≡ filter (is_selected all) ps
    → map (path_at (pre ++ p ∷ ps)) (selected_from all k (p ∷ ps)) ≡ filter (is_selected all) (p ∷ ps)
paths_step all pre ps p k e rest = by (is_selected all p)
  where
    got : get_or (pre ++ p ∷ ps) k [] ≡ p
    got = ap (λ i. get_or (pre ++ p ∷ ps) i []) (sym e) ∙ get_or-append_seam pre p ps []

    by : (b : Bool) → map (path_at (pre ++ p ∷ ps)) (cond b (k ∷ selected_from all (suc k) ps) (selected_from all (suc k) ps)) ≡ cond b (p ∷ filter (is_selected all) ps) (filter (is_selected all) ps)
    by true = ap (λ q. q ∷ map (path_at (pre ++ p ∷ ps)) (selected_from all (suc k) ps)) got ∙ ap (λ qs. p ∷ qs) rest
    by false = rest

paths_from : (all pre ps : List (List ℕ)) (k : ℕ) → length pre ≡ k → map (path_at (pre ++ ps)) (selected_from all k ps) ≡ filter (is_selected all) ps
paths_from all pre [] k e = refl
paths_from all pre (p ∷ ps) k e =
    paths_step all pre ps p k e
    (ap (λ qs. map (path_at qs) (selected_from all (suc k) ps)) (sym (append_assoc pre (p ∷ []) ps))
    ∙ paths_from all (pre ++ p ∷ []) ps (suc k) (omega (arith, length-append pre (p ∷ []), e)))

pub paths_selected : (listed : List (List ℕ)) → map (path_at listed) (selected listed) ≡ filter (is_selected listed) listed
paths_selected listed = paths_from listed [] listed 0 refl

-- what is read of listed files are the files of a folder
pub read_folder : ListedFilesAreFolders → (listed : List (List ℕ)) (files : List SourceFile) → IsAscending listed → All AreOctets listed
    → map (λ f. f.path) files ≡ map (path_at listed) (selected listed) → AreFolder files
read_folder law listed files order octets read = law listed files (ascends listed order) (all_octets listed octets) (read ∙ paths_selected listed)

-- ---- the folder that is held

pub folder_paths : (fs : List HeldFile) → map (λ (f : Source). f.path) (folder_of fs) ≡ paths fs
folder_paths [] = refl
folder_paths (f ∷ fs) = ap (λ ps. f.path ∷ ps) (folder_paths fs)

selected_by : (all : List (List ℕ)) (k : ℕ) (fs : List HeldFile) → filter (λ (f : Source). is_selected all f.path) (folder_of fs) ≡ sources_of (sources_from all k fs)
selected_by all k [] = refl
selected_by all k (f ∷ fs) = by (is_selected all f.path) (selected_by all (suc k) fs)
  where
    rest : List Source
    rest = filter (λ (g : Source). is_selected all g.path) (folder_of fs)

    by : (b : Bool) → rest ≡ sources_of (sources_from all (suc k) fs) → cond b (source_of f ∷ rest) rest ≡ sources_of (cond b (numbered_file k f ∷ sources_from all (suc k) fs) (sources_from all (suc k) fs))
    by true more = ap (λ ss. source_of f ∷ ss) more
    by false more = more

selected_are : (files : List HeldFile) → selected_files (folder_of files) ≡ sources_of (sources_in files)
selected_are files =
    ap (λ all. filter (λ (f : Source). is_selected all f.path) (folder_of files)) (folder_paths files) ∙ selected_by (paths files) 0 files
    ∙ ap sources_of (sym (sources_are files))

behind : (p : List ℕ) (fs : List HeldFile) → list_all (λ (g : Source). comes_before p g.path) (folder_of fs) ≡ list_all (comes_before p) (paths fs)
behind p [] = refl
behind p (f ∷ fs) = ap (λ b. comes_before p f.path && b) (behind p fs)

by_path : (fs : List HeldFile) → are_by_path (folder_of fs) ≡ ascend (paths fs)
by_path [] = refl
by_path (f ∷ fs) = λ v. behind f.path fs v && by_path fs v

path_octets : (fs : List HeldFile) → list_all (λ (f : Source). each is_byte f.path) (folder_of fs) ≡ list_all (each is_byte) (paths fs)
path_octets [] = refl
path_octets (f ∷ fs) = ap (λ b. each is_byte f.path && b) (path_octets fs)

-- what is read of held files are files of their folder
pub held_folder : (files : List HeldFile) → IsAscending (paths files) → All AreOctets (paths files) → AreOfFolder (folder_of files) (sources_in files)
held_folder files order octets = record {
  by_path = by_path files ∙ ascends (paths files) order;
  octets = path_octets files ∙ all_octets (paths files) octets;
  selected = selected_are files;
}
