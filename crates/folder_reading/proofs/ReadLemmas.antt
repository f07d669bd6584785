-- Reading files one after another.
use Rattle.std.proofs.Common.{◌≡◌, ◌∙◌, ◌<◌, ◌≤◌, ◌+◌, ℕ, true, false, cond, List, [], ◌∷◌, ◌++◌, length, get_or, map, take, drop, refl, ap, sym, subst, arith, length-append, All, slice_index_or}
use Rattle.std.specs.Prelude.{Option, Some, None}
use Rattle.std.proofs.lemmas.List.{map-append, take_all, take_more, at_drop_more, at_drop_all, length-map, get_or-map}
use Rattle.std.proofs.lemmas.List.Elements.{All-push}
use Rattle.go_tree.specs.declared.limits.TheConstants.{MAX_FILE_BYTES}
use Rattle.fix_io.specs.Files.{HeldFile, bytes_at, no_file, paths}
use Rattle.pkg_graph.specs.ModuleFiles.PathLists.{path_at}
use Rattle.source_files.specs.declared.files.SourceFile.{SourceFile}
use Rattle.folder_reading.specs.declared.limits.TheConstants.{MAX_MODULE_BYTES}
use Rattle.folder_reading.specs.Sources.{IsSource, Told, front_of, source_at}
use Rattle.folder_reading.specs.Limits.{AreRead, first_too_long, is_too_long}
use Rattle.fix_io.specs.declared.Call.{Call}
use Rattle.folder_reading.specs.Causes.{StopsReading}
use Rattle.folder_reading.specs.declared.faults.FolderFault.{FolderFault}
use Rattle.folder_reading.specs.declared.faults.FolderFault.TheVariants.{TooLong}
use Rattle.folder_reading.proofs.LimitLemmas.{fits, front_alike, front_whole}

-- the first so many files are read, and pass no limit; the rest decides
pub record IsUpTo (files : List HeldFile) (numbers : List ℕ) (sources : List SourceFile) (i total : ℕ) : Type 0 where
  pub whole : sources ≡ map (source_at files) (take i numbers)
  pub rest : first_too_long 0 (map (source_at files) numbers) ≡ first_too_long total (map (source_at files) (drop i numbers))

pub record AreFirst (held : Option (List HeldFile)) (listed : List (List ℕ)) (numbers : List ℕ) (sources : List SourceFile) (i total : ℕ) : Type 0 where
  pub count : length sources ≡ i
  pub paths_are : map (λ f. f.path) sources ≡ map (path_at listed) (take i numbers)
  pub small : All (λ f. length f.bytes ≤ MAX_FILE_BYTES) sources
  pub listed_are : All (λ f. f.index < length listed) sources
  pub within : total ≤ MAX_MODULE_BYTES
  pub told : Told held listed (λ files. IsUpTo files numbers sources i total)

told_none : (held : Option (List HeldFile)) (listed : List (List ℕ)) (numbers : List ℕ) → Told held listed (λ files. IsUpTo files numbers [] 0 0)
told_none None listed numbers = tt
told_none (Some files) listed numbers = λ exact. record { whole = refl; rest = refl }

pub none_first : (held : Option (List HeldFile)) (listed : List (List ℕ)) (numbers : List ℕ) → AreFirst held listed numbers [] 0 0
none_first held listed numbers = record {
  count = refl;
  paths_are = refl;
  small = λ k d l. absurd (omega (arith, l));
  listed_are = λ k d l. absurd (omega (arith, l));
  within = omega arith;
  told = told_none held listed numbers;
}

-- the path of a listed file
path_is : (files : List HeldFile) (listed : List (List ℕ)) (n : ℕ) → listed ≡ paths files → n < length listed → slice_index_or listed n [] ≡ (slice_index_or files n no_file).path
path_is files listed n exact l =
    ap (λ ps. get_or ps n []) exact ∙ get_or-map (λ (h : HeldFile). h.path) files n no_file [] (omega (arith, l, ap length exact, length-map files (λ f. f.path)))

source_is : (files : List HeldFile) (n : ℕ) (f : SourceFile) → f.index ≡ n → f.path ≡ (slice_index_or files n no_file).path → f.bytes ≡ bytes_at files n → f ≡ source_at files n
source_is files n f index path bytes =
    let by_index : ℕ → SourceFile = λ i. record { index = i; path = f.path; bytes = f.bytes } in
    let by_path : List ℕ → SourceFile = λ p. record { index = n; path = p; bytes = f.bytes } in
    let by_bytes : List ℕ → SourceFile = λ b. record { index = n; path = (slice_index_or files n no_file).path; bytes = b } in
    ap by_index index ∙ ap by_path path ∙ ap by_bytes bytes

rest_more : (files : List HeldFile) (numbers : List ℕ) (i n total : ℕ) → i < length numbers → n ≡ slice_index_or numbers i n
    → first_too_long total (map (source_at files) (drop i numbers))
    ≡ cond (is_too_long total (bytes_at files n)) (Some n) (first_too_long (total + length (bytes_at files n)) (map (source_at files) (drop (i + 1) numbers)))
rest_more files numbers i n total l e =
    at_drop_more (λ ns. first_too_long total (map (source_at files) ns)) numbers i n l
    ∙ ap (λ m. first_too_long total (source_at files m ∷ map (source_at files) (drop (i + 1) numbers))) (sym e)

told_more : (held : Option (List HeldFile)) (listed : List (List ℕ)) (numbers : List ℕ) (sources : List SourceFile) (f : SourceFile) (i n total sum : ℕ)
    → i < length numbers → n ≡ slice_index_or numbers i n → n < length listed → IsSource held listed n f → is_too_long total f.bytes ≡ false → sum ≡ total + length f.bytes
    → Told held listed (λ files. IsUpTo files numbers sources i total) → Told held listed (λ files. IsUpTo files numbers (sources ++ f ∷ []) (i + 1) sum)
told_more None listed numbers sources f i n total sum l e inside is short add so_far = tt
told_more (Some files) listed numbers sources f i n total sum l e inside is short add so_far = λ exact.
    let h = so_far exact in
    let front_short : is_too_long total (front_of (bytes_at files n)) ≡ false = ap (is_too_long total) (sym is.bytes) ∙ short in
    let whole : f.bytes ≡ bytes_at files n = is.bytes ∙ front_whole total (bytes_at files n) front_short in
    let same : f ≡ source_at files n = source_is files n f is.index (is.path ∙ path_is files listed n exact inside) whole in
    let fronts : take i numbers ++ n ∷ [] ≡ take (i + 1) numbers = ap (λ m. take i numbers ++ m ∷ []) e ∙ sym (take_more numbers i n l) in
    let passes : is_too_long total (bytes_at files n) ≡ false = sym (front_alike total (bytes_at files n)) ∙ front_short in
    record {
      whole = ap (λ fs. fs ++ f ∷ []) h.whole ∙ ap (λ g. map (source_at files) (take i numbers) ++ g ∷ []) same
          ∙ sym (map-append (source_at files) (take i numbers) (n ∷ [])) ∙ ap (map (source_at files)) fronts;
      rest = h.rest ∙ rest_more files numbers i n total l e
          ∙ ap (λ b. cond b (Some n) (first_too_long (total + length (bytes_at files n)) (map (source_at files) (drop (i + 1) numbers)))) passes
          ∙ ap (λ t. first_too_long t (map (source_at files) (drop (i + 1) numbers))) (ap (λ bs. total + length bs) (sym whole) ∙ sym add);
    }

paths_more : (listed : List (List ℕ)) (numbers : List ℕ) (sources : List SourceFile) (f : SourceFile) (i n : ℕ) → i < length numbers → n ≡ slice_index_or numbers i n → f.path ≡ path_at listed n
    → map (λ g. g.path) sources ≡ map (path_at listed) (take i numbers) → map (λ g. g.path) (sources ++ f ∷ []) ≡ map (path_at listed) (take (i + 1) numbers)
paths_more listed numbers sources f i n l e path so_far =
    let fronts : take i numbers ++ n ∷ [] ≡ take (i + 1) numbers = ap (λ m. take i numbers ++ m ∷ []) e ∙ sym (take_more numbers i n l) in
    map-append (λ (g : SourceFile). g.path) sources (f ∷ []) ∙ ap (λ ps. ps ++ f.path ∷ []) so_far ∙ ap (λ p. map (path_at listed) (take i numbers) ++ p ∷ []) path
    ∙ sym (map-append (path_at listed) (take i numbers) (n ∷ [])) ∙ ap (map (path_at listed)) fronts

-- one more file is read
pub one_more : (held : Option (List HeldFile)) (listed : List (List ℕ)) (numbers : List ℕ) (sources : List SourceFile) (f : SourceFile) (i n total sum : ℕ)
    → AreFirst held listed numbers sources i total → i < length numbers → n ≡ slice_index_or numbers i n → n < length listed → IsSource held listed n f → is_too_long total f.bytes ≡ false
    → sum ≡ total + length f.bytes → AreFirst held listed numbers (sources ++ f ∷ []) (i + 1) sum
one_more held listed numbers sources f i n total sum first l e inside is short add =
    let fit = fits total f.bytes short in
    record {
      count = omega (arith, length-append sources (f ∷ []), first.count);
      paths_are = paths_more listed numbers sources f i n l e is.path first.paths_are;
      small = All-push (λ (g : SourceFile). length g.bytes ≤ MAX_FILE_BYTES) sources f first.small fit.0;
      listed_are = All-push (λ (g : SourceFile). g.index < length listed) sources f first.listed_are (omega (arith, is.index, inside));
      within = omega (arith, add, fit.1);
      told = told_more held listed numbers sources f i n total sum l e inside is short add first.told;
    }

-- a file passes a limit
told_long : (held : Option (List HeldFile)) (listed : List (List ℕ)) (numbers : List ℕ) (sources : List SourceFile) (f : SourceFile) (i n total : ℕ)
    → i < length numbers → n ≡ slice_index_or numbers i n → IsSource held listed n f → is_too_long total f.bytes ≡ true
    → Told held listed (λ files. IsUpTo files numbers sources i total) → Told held listed (λ files. first_too_long 0 (map (source_at files) numbers) ≡ Some n)
told_long None listed numbers sources f i n total l e is much so_far = tt
told_long (Some files) listed numbers sources f i n total l e is much so_far = λ exact.
    let passes : is_too_long total (bytes_at files n) ≡ true = sym (front_alike total (bytes_at files n)) ∙ ap (is_too_long total) (sym is.bytes) ∙ much in
    (so_far exact).rest ∙ rest_more files numbers i n total l e
    ∙ ap (λ b. cond b (Some n) (first_too_long (total + length (bytes_at files n)) (map (source_at files) (drop (i + 1) numbers)))) passes

pub too_long : (held : Option (List HeldFile)) (listed : List (List ℕ)) (numbers : List ℕ) (sources : List SourceFile) (f : SourceFile) (i n total : ℕ)
    → AreFirst held listed numbers sources i total → i < length numbers → n ≡ slice_index_or numbers i n → IsSource held listed n f → is_too_long total f.bytes ≡ true
    → Told held listed (λ files. first_too_long 0 (map (source_at files) numbers) ≡ Some n)
too_long held listed numbers sources f i n total first l e is much = told_long held listed numbers sources f i n total l e is much first.told

-- all files are read
told_all : (held : Option (List HeldFile)) (listed : List (List ℕ)) (numbers : List ℕ) (sources : List SourceFile) (i total : ℕ) → length numbers ≤ i
    → Told held listed (λ files. IsUpTo files numbers sources i total) → Told held listed (λ files. (sources ≡ map (source_at files) numbers) × (first_too_long 0 sources ≡ None))
told_all None listed numbers sources i total over so_far = tt
told_all (Some files) listed numbers sources i total over so_far = λ exact.
    let h = so_far exact in
    let whole : sources ≡ map (source_at files) numbers = h.whole ∙ ap (map (source_at files)) (take_all i numbers over) in
    (whole, ap (first_too_long 0) whole ∙ h.rest ∙ at_drop_all (λ ns. first_too_long total (map (source_at files) ns)) numbers i over)

pub all_read : (held : Option (List HeldFile)) (listed : List (List ℕ)) (numbers : List ℕ) (sources : List SourceFile) (i total : ℕ) → length numbers ≤ i → i ≤ length numbers
    → AreFirst held listed numbers sources i total → AreRead held listed numbers sources
all_read held listed numbers sources i total over under first = record {
  count = omega (arith, first.count, over, under);
  paths_are = first.paths_are ∙ ap (λ ns. map (path_at listed) ns) (take_all i numbers over);
  small = first.small;
  listed_are = first.listed_are;
  told = told_all held listed numbers sources i total over first.told;
}

pub same_source : (held was : Option (List HeldFile)) (listed before : List (List ℕ)) (i : ℕ) (f : SourceFile) → held ≡ was → listed ≡ before → IsSource held listed i f → IsSource was before i f
same_source held was listed before i f e d is = record { index = is.index; path = is.path ∙ ap (λ ps. get_or ps i []) d; bytes = rw e at is.bytes }

pub stops_long : (held : Option (List HeldFile)) (listed : List (List ℕ)) (numbers : List ℕ) (sources : List SourceFile) (f : SourceFile) (i n total : ℕ) (fault : FolderFault) (rose : Type 0) (failed : Option Call)
    → AreFirst held listed numbers sources i total → i < length numbers → n ≡ slice_index_or numbers i n → n < length listed → IsSource held listed n f → (fault ≡ TooLong n) × (is_too_long total f.bytes ≡ true)
    → StopsReading fault rose failed held listed numbers
stops_long held listed numbers sources f i n total fault rose failed first l e inside is why =
    subst (λ x. StopsReading x rose failed held listed numbers) (sym why.0) (inside, too_long held listed numbers sources f i n total first l e is why.1)
