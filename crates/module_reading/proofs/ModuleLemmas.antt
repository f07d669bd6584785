-- The file `go.mod`.
use Rattle.std.proofs.Common.{◌≡◌, ◌∙◌, ◌<◌, ◌+◌, ℕ, zero, suc, Bool, true, false, not, cond, List, [], ◌∷◌, length, find, drop, refl, sym, ap, Some, arith, slice_index_or, bytes_eq}
use Rattle.pkg_graph.specs.ModuleFiles.Selected.{module_file}
use Rattle.pkg_graph.specs.ModuleFiles.ModuleFile.{module_of}
use Rattle.pkg_graph.specs.Reads.{is_at}
use Rattle.source_files.specs.declared.files.SourceFile.{SourceFile}
use Rattle.module_texts.specs.Files.{is_go_file, source_of, sources_of}
use Rattle.module_texts.specs.Modules.{answer_in, module_answer}

-- the rest begins with the element at its place
drop_at : {A : Type 0} (xs : List A) (i : ℕ) (x : A) → i < length xs → x ≡ slice_index_or xs i x → drop i xs ≡ x ∷ drop (suc i) xs
drop_at [] i x h e = absurd (omega (arith, h))
drop_at (y ∷ ys) zero x h e = ap (λ z. z ∷ ys) (sym e)
drop_at (y ∷ ys) (suc i) x h e = let l : i < length ys = omega (arith, h) in drop_at ys i x l e

not_false : (b : Bool) → not b ≡ false → b ≡ true
not_false true e = refl
not_false false e = absurd cc

not_true : (b : Bool) → not b ≡ true → b ≡ false
not_true true e = absurd cc
not_true false e = refl

-- what is found among the files from a place on
found_by : (x : SourceFile) (rest : List SourceFile) (b : Bool) → is_at module_file (source_of x) ≡ b
    → find (is_at module_file) (sources_of (x ∷ rest)) ≡ cond b (Some (source_of x)) (find (is_at module_file) (sources_of rest))
found_by x rest b e = ap (λ b. cond b (Some (source_of x)) (find (is_at module_file) (sources_of rest))) e

-- another file is passed over
pub module_later : (files : List SourceFile) (i : ℕ) (x : SourceFile) → i < length files → x ≡ slice_index_or files i x
    → find (is_at module_file) (sources_of (drop i files)) ≡ find (is_at module_file) (sources_of files) → is_go_file x ≡ true
    → find (is_at module_file) (sources_of (drop (i + 1) files)) ≡ find (is_at module_file) (sources_of files)
module_later files i x h e before other =
    let one : i + 1 ≡ suc i = omega arith in
    ap (λ k. find (is_at module_file) (sources_of (drop k files))) one
    ∙ sym (found_by x (drop (suc i) files) false (not_true (bytes_eq x.path module_file) other))
    ∙ ap (λ r. find (is_at module_file) (sources_of r)) (sym (drop_at files i x h e)) ∙ before

-- the answer is that of `go.mod`
pub module_here : (files : List SourceFile) (i : ℕ) (x : SourceFile) → i < length files → x ≡ slice_index_or files i x
    → find (is_at module_file) (sources_of (drop i files)) ≡ find (is_at module_file) (sources_of files) → is_go_file x ≡ false
    → module_answer (sources_of files) ≡ module_of x.bytes
module_here files i x h e before same =
    ap answer_in (sym before ∙ ap (λ r. find (is_at module_file) (sources_of r)) (drop_at files i x h e)
    ∙ found_by x (drop (suc i) files) true (not_false (bytes_eq x.path module_file) same))
