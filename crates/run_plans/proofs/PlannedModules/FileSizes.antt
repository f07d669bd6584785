-- The bytes of the files that are read are those of `go.mod` and of the files of Go source.
use Rattle.std.proofs.Common.{◌≡◌, ◌∙◌, refl, sym, ap, ℕ, ◌+◌, ◌*◌, ◌<◌, ◌≤◌, Bool, true, false, not, cond, bytes_eq, List, [], ◌∷◌, map, filter, length, drop, get_or, find, Option, Some, None, All, arith}
use Rattle.std.specs.List.{list_all}
use Rattle.std.proofs.lemmas.Bool.{true≢false}
use Rattle.std.proofs.lemmas.List.{drop_more}
use Rattle.std.proofs.lemmas.List.Elements.{All-head, All-tail}
use Rattle.std.proofs.lemmas.Slice.Eq.{bytes_eq-Decides}
use Rattle.pkg_graph.specs.ModuleFiles.Pieces.{comes_before}
use Rattle.pkg_graph.specs.ModuleFiles.Selected.{is_selected, module_file}
use Rattle.go_tree.specs.declared.limits.TheConstants.{MAX_FILE_BYTES}
use Rattle.module_marks.specs.Views.{texts_of}
use Rattle.module_texts.specs.Files.{source_of, sources_of}
use Rattle.module_texts.specs.Modules.{IsReadFrom}
use Rattle.module_texts.specs.declared.files.ScannedFile.{ScannedFile}
use Rattle.module_texts.specs.declared.modules.ReadModule.{ReadModule}
use Rattle.module_texts.proofs.RefusedLemmas.{texts_alike}
use Rattle.pkg_graph.specs.Reads.{Source, is_at, selected_files}
use Rattle.read_modules.specs.Modules.{texts_in}
use Rattle.run_rules.specs.Inlining.{are_by_path}
use Rattle.run_rules.specs.Run.{module_file_size, texts_size}
use Rattle.source_files.specs.declared.files.SourceFile.{SourceFile}
use Rattle.run_plans.specs.PlannedModules.Folders.{AreOfFolder, size_of}
use Rattle.run_plans.proofs.PlannedModules.Folders.{both}

-- the bytes of sources
abbrev pub sum_of : List Source → ℕ
sum_of [] = 0
sum_of (f ∷ fs) = length f.text + sum_of fs

-- those of a file that may be found
abbrev pub found_size : Option Source → ℕ
found_size None = 0
found_size (Some f) = length f.text

sizes_found : (o : Option Source) → (elim o as (λ r. ℕ) [ None ↦ 0 | Some f ↦ length f.text ]) ≡ found_size o
sizes_found None = refl
sizes_found (Some f) = refl

size_as : (files : List SourceFile) → size_of files ≡ sum_of (sources_of files)
size_as [] = refl
size_as (f ∷ fs) = ap (λ (n : ℕ). length f.bytes + n) (size_as fs)

texts_as : (ss : List ScannedFile) → texts_size (texts_of ss) ≡ sum_of (map (λ s. source_of s.file.now) ss)
texts_as [] = refl
texts_as (s ∷ ss) = ap (λ (n : ℕ). length s.file.now.bytes + n) (texts_as ss)

-- ---- `go.mod` stands once among files by their paths

abbrev is_mod : Source → Bool
is_mod f = is_at module_file f

abbrev is_go : Source → Bool
is_go f = not (is_mod f)

no_mod : (q : List ℕ) → comes_before module_file q ≡ true → not (bytes_eq q module_file) ≡ true
no_mod q h = by (bytes_eq q module_file) (bytes_eq-Decides q module_file).0
  where
    itself : comes_before module_file module_file ≡ false
    itself = refl

    by : (b : Bool) → (b ≡ true → q ≡ module_file) → not b ≡ true
    by true e = absurd (true≢false (sym h ∙ ap (comes_before module_file) (e refl) ∙ itself))
    by false e = refl

others : (p : Source → Bool) (fs : List Source) → list_all (λ g. comes_before module_file g.path) fs ≡ true → filter is_go (filter p fs) ≡ filter p fs
others p [] h = refl
others p (g ∷ gs) h =
    let parts = both (comes_before module_file g.path) (list_all (λ x. comes_before module_file x.path) gs) h in
    by (no_mod g.path parts.0) (p g) (others p gs parts.1)
  where
    by : is_go g ≡ true → (b : Bool) → filter is_go (filter p gs) ≡ filter p gs → filter is_go (cond b (g ∷ filter p gs) (filter p gs)) ≡ cond b (g ∷ filter p gs) (filter p gs)
    by e true more = λ v. cond (e v) (g ∷ more v) (more v)
    by e false more = more

-- of files by their paths those that are kept have the bytes of `go.mod` and of the others
sizes_by : (p : Source → Bool) → ((f : Source) → is_mod f ≡ true → p f ≡ true) → (fs : List Source) → are_by_path fs ≡ true
    → sum_of (filter p fs) ≡ found_size (find is_mod fs) + sum_of (filter is_go (filter p fs))
sizes_by p w [] h = refl
sizes_by p w (f ∷ fs) h =
    let parts = both (list_all (λ g. comes_before f.path g.path) fs) (are_by_path fs) h in
    by (is_mod f) refl (p f) refl parts.0 (sizes_by p w fs parts.1)
  where
    size : ℕ
    size = length f.text

    kept : List Source
    kept = filter p fs

    by : (a : Bool) → is_mod f ≡ a → (b : Bool) → p f ≡ b → list_all (λ g. comes_before f.path g.path) fs ≡ true
        → sum_of kept ≡ found_size (find is_mod fs) + sum_of (filter is_go kept)
        → sum_of (cond b (f ∷ kept) kept) ≡ found_size (cond a (Some f) (find is_mod fs)) + sum_of (filter is_go (cond b (f ∷ kept) kept))
    by true e true g first more =
        let at_mod : list_all (λ g. comes_before module_file g.path) fs ≡ true =
        ap (λ (q : List ℕ). list_all (λ g. comes_before q g.path) fs) (sym ((bytes_eq-Decides f.path module_file).0 e)) ∙ first in
        let same : filter is_go (f ∷ kept) ≡ kept = (λ v. cond (not (e v)) (f ∷ filter is_go kept) (filter is_go kept)) ∙ others p fs at_mod in
        ap (λ (ys : List Source). size + sum_of ys) (sym same)
    by true e false g first more = absurd (true≢false (sym (w f e) ∙ g))
    by false e true g first more =
        let same : sum_of (filter is_go (f ∷ kept)) ≡ size + sum_of (filter is_go kept) = λ v. sum_of (cond (not (e v)) (f ∷ filter is_go kept) (filter is_go kept)) in
        omega (arith, more, same)
    by false e false g first more = more

module _ (folder : List Source) (files : List SourceFile) (m : ReadModule) (o : AreOfFolder folder files) (r : IsReadFrom files m) where
  abbrev is_read : Source → Bool
  is_read f = is_selected (map (λ g. g.path) folder) f.path

  mod_is_read : (f : Source) → is_mod f ≡ true → is_read f ≡ true
  mod_is_read f e = rw e refl

  texts_are : texts_size (texts_in m) ≡ sum_of (filter is_go (selected_files folder))
  texts_are =
      texts_as m.files.items ∙ ap sum_of (texts_alike files m.files.items r.scanned) ∙ ap (λ (fs : List Source). sum_of (filter is_go fs)) (sym o.selected)

  pub sizes_agree : size_of files ≡ module_file_size folder + texts_size (texts_in m)
  sizes_agree =
      size_as files ∙ ap sum_of (sym o.selected) ∙ sizes_by is_read mod_is_read folder o.by_path
      ∙ (λ v. sym (sizes_found (find is_mod folder)) v + sym texts_are v)

-- ---- the loop over the files

pub size_more : (files : List SourceFile) (i : ℕ) (f : SourceFile) → i < length files → f ≡ get_or files i f → size_of (drop i files) ≡ length f.bytes + size_of (drop (i + 1) files)
size_more files i f lt e = ap size_of (drop_more files i f lt) ∙ ap (λ (g : SourceFile). length g.bytes + size_of (drop (i + 1) files)) (sym e)

pub size_bounded : (files : List SourceFile) → All (λ f. length f.bytes ≤ MAX_FILE_BYTES) files → size_of files ≤ length files * 4194304
size_bounded [] all = omega arith
size_bounded (f ∷ fs) all =
    let one : length f.bytes ≤ 4194304 = All-head (λ (g : SourceFile). length g.bytes ≤ MAX_FILE_BYTES) f fs all in
    let more = size_bounded fs (All-tail (λ (g : SourceFile). length g.bytes ≤ MAX_FILE_BYTES) f fs all) in
    omega (arith, one, more)
