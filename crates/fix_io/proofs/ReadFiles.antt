-- Reading the files one after another.
use Rattle.std.proofs.Common.{◌≡◌, List, [], ◌∷◌, ◌++◌, ℕ, ◌+◌, ◌<◌, ◌≤◌, ◌∙◌, length, get_or, map, take, refl, ap, arith, Vec, Global}
use Rattle.std.specs.Prelude.{Option, Some, None, IfSome}
use Rattle.std.proofs.lemmas.List.{map-append, take_all, length-map}
use Rattle.std.proofs.lemmas.Grind.{common_steps}
use Rattle.fix_io.specs.Files.{HeldFile, paths, bytes_at, no_file}

-- one element more
pub taken_more : {X : Type 0} (xs : List X) (i : ℕ) (x : X) → i < length xs → x ≡ get_or xs i x → take (i + 1) xs ≡ take i xs ++ x ∷ []
taken_more xs i x within is = grind (arith, common_steps)

-- the texts are the bytes of the first i files, where they are told and listed
abbrev pub AreRead : Option (List HeldFile) → List (List ℕ) → List (Vec ℕ Global) → ℕ → Type 0
AreRead held listed texts i = IfSome held (λ files. listed ≡ paths files → map (λ v. v.items) texts ≡ map (λ f. f.bytes) (take i files))

pub one_more_read : (before now : Option (List HeldFile)) (listed : List (List ℕ)) (texts more : List (Vec ℕ Global)) (bytes : Vec ℕ Global) (i : ℕ)
    → now ≡ before → i < length listed → more ≡ texts ++ bytes ∷ [] → IfSome now (λ files. bytes.items ≡ bytes_at files i)
    → AreRead before listed texts i → AreRead before listed more (i + 1)
one_more_read None now listed texts more bytes i same within pushed read so_far = tt
one_more_read (Some files) now listed texts more bytes i same within pushed read so_far = λ exact.
    let here : bytes.items ≡ bytes_at files i = rw same at read in
    let inside : i < length files = omega (arith, ap length exact, length-map files (λ f. f.path)) in
    let one : take (i + 1) files ≡ take i files ++ get_or files i no_file ∷ [] = taken_more files i (get_or files i no_file) inside (grind (arith, common_steps)) in
    rw (pushed, one, map-append (λ (v : Vec ℕ Global). v.items) texts (bytes ∷ []), map-append (λ (f : HeldFile). f.bytes) (take i files) (get_or files i no_file ∷ []), so_far exact, here) refl

pub all_read : (held : Option (List HeldFile)) (listed : List (List ℕ)) (texts : List (Vec ℕ Global)) (i : ℕ) → length listed ≤ i
    → AreRead held listed texts i → IfSome held (λ files. listed ≡ paths files → map (λ v. v.items) texts ≡ map (λ f. f.bytes) files)
all_read None listed texts i over read = tt
all_read (Some files) listed texts i over read = λ exact.
    let short : length files ≤ i = omega (arith, ap length exact, length-map files (λ f. f.path)) in
    read exact ∙ ap (map (λ f. f.bytes)) (take_all i files short)
