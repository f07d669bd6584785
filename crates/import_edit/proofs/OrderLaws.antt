-- The order of imports that are to be added.
use Rattle.std.proofs.Common.{◌≡◌, ℕ, zero, suc, ◌+◌, add_comm, add-one, if◌then◌else◌, Bool, true, false, not, List, [], ◌∷◌, refl, ap}
use Rattle.std.specs.List.{insert}
use Rattle.std.specs.Ordering.{nat_cmp, is_lt}
use Rattle.std.specs.Cmp.Lexicographic.{slice_cmp}
use denote.Ref.{Bor}
use Rattle.pkg_graph.specs.ModuleFiles.Pieces.{comes_before}
use Rattle.pkg_graph.proofs.ModuleFiles.PathLaws.{less_comes_before}
use Rattle.run_rules.specs.declared.import_rules.new_import.NewImport.{NewImport}
use Rattle.run_rules.specs.ImportRules.SpecText.{is_before, put}
use Rattle.import_edit.specs.Order.{imports_of, place_of}

pub path_before : (xs ys : List ℕ) → is_lt (slice_cmp nat_cmp xs ys) ≡ comes_before xs ys
path_before xs ys = less_comes_before xs ys

put_by : (i j : NewImport) (js rest : List NewImport) (n : ℕ) (b : Bool) → insert js n i ≡ rest → insert (j ∷ js) (if not b then 1 + n else 0) i ≡ (if b then i ∷ j ∷ js else j ∷ rest)
put_by i j js rest n true h = refl
put_by i j js rest n false h = rw (add_comm 1 n, add-one) (ap (λ l. j ∷ l) h)

pub put_at : (i : NewImport) (js : List NewImport) → insert js (place_of i js) i ≡ put i js
put_at i [] = refl
put_at i (j ∷ js) = put_by i j js (put i js) (place_of i js) (is_before i j) (put_at i js)

pub insert_view : (list : List (Bor NewImport)) (k : ℕ) (i : Bor NewImport) → imports_of (insert list k i) ≡ insert (imports_of list) k i.now
insert_view list zero i = refl
insert_view [] (suc k) i = refl
insert_view (j ∷ js) (suc k) i = ap (λ l. j.now ∷ l) (insert_view js k i)
