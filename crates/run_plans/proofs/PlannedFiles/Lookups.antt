-- Texts that are found by the numbers of their paths.
use Rattle.std.proofs.Common.{◌≡◌, ◌∙◌, refl, sym, ap, ℕ, suc, Bool, true, false, if◌then◌else◌, bytes_eq, List, [], ◌∷◌, Option, Some, None}
use Rattle.std.specs.Prelude.{slice_get}
use Rattle.std.specs.List.{zip}
use Rattle.std.specs.Borrow.{Bor}
use Rattle.std.specs.Option.{option_map}
use Rattle.std.proofs.lemmas.Option.{slice_get-map}
use Rattle.file_names.specs.Places.{Finds}
use Rattle.pkg_graph.specs.ModuleFiles.PathLists.{number_of}
use Rattle.name_walks.specs.Around.{place_in}
use Rattle.run_plans.specs.PlannedFiles.Referred.{referred}
use Rattle.run_plans.specs.PlannedFiles.Texts.{text_with_path}

abbrev pub text_numbered : List (List ℕ) → Option ℕ → Option (List ℕ)
text_numbered ts None = None
text_numbered ts (Some n) = slice_get ts n

pub found_by_number : (ps ts : List (List ℕ)) (q : List ℕ) → text_with_path (zip ps ts) q ≡ text_numbered ts (number_of ps q)
found_by_number [] ts q = refl
found_by_number (p ∷ ps) [] q = by (bytes_eq q p) (number_of ps q)
  where
    by : (b : Bool) (o : Option ℕ) → None ≡ text_numbered [] (if b then Some 0 else option_map suc o)
    by true o = refl
    by false None = refl
    by false (Some n) = refl
found_by_number (p ∷ ps) (t ∷ ts) q = by (bytes_eq q p) (number_of ps q) (found_by_number ps ts q)
  where
    by : (b : Bool) (o : Option ℕ) → text_with_path (zip ps ts) q ≡ text_numbered ts o
        → (if b then Some t else text_with_path (zip ps ts) q) ≡ text_numbered (t ∷ ts) (if b then Some 0 else option_map suc o)
    by true o h = refl
    by false None h = h
    by false (Some n) h = h

pub text_found : (places : List (List ℕ × ℕ)) (paths texts : List (List ℕ)) (q : List ℕ) (o : Option ℕ) → Finds places paths → o ≡ place_in places q → text_with_path (zip paths texts) q ≡ text_numbered texts o
text_found places paths texts q o f e = found_by_number paths texts q ∙ ap (text_numbered texts) (sym (f.found q) ∙ sym e)

-- what a list refers to, by its number
pub got : (texts : List (Bor (List ℕ))) (i : ℕ) (r : Option (Bor (List ℕ))) → r ≡ slice_get texts i → option_map (λ (b : Bor (List ℕ)). b.now) r ≡ slice_get (referred texts) i
got texts i r e = ap (option_map (λ (b : Bor (List ℕ)). b.now)) e ∙ sym (slice_get-map (λ (b : Bor (List ℕ)). b.now) texts i)
