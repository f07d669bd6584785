-- Files by their numbers among those of Go source.
use Rattle.std.proofs.Common.{◌≡◌, ◌∙◌, ◌<◌, ◌≤◌, ◌+◌, ℕ, zero, suc, true, false, cond, List, [], ◌∷◌, length, drop, sym, ap, Some, None, arith, slice_index_or}
use Rattle.std.specs.List.{slice_get}
use Rattle.std.proofs.lemmas.List.{at_drop_all, at_drop_more}
use Rattle.source_files.specs.declared.files.SourceFile.{SourceFile}
use Rattle.module_texts.specs.Files.{go_files, is_go_file}

-- the rest of the files from one on
rest_from : (files : List SourceFile) (i : ℕ) (x : SourceFile) (left : ℕ) → i < length files → x ≡ slice_index_or files i x
    → slice_get (go_files (drop i files)) left ≡ slice_get (cond (is_go_file x) (x ∷ go_files (drop (i + 1) files)) (go_files (drop (i + 1) files))) left
rest_from files i x left l e = at_drop_more (λ fs. slice_get (go_files fs) left) files i x l ∙ ap (λ y. slice_get (go_files (y ∷ drop (i + 1) files)) left) (sym e)

-- the file is this one
pub file_here : (files : List SourceFile) (i : ℕ) (x : SourceFile) (left number : ℕ) → i < length files → x ≡ slice_index_or files i x → is_go_file x ≡ true → left ≡ 0
    → slice_get (go_files (drop i files)) left ≡ slice_get (go_files files) number → slice_get (go_files files) number ≡ Some x
file_here files i x left number l e go first before =
    sym before ∙ rest_from files i x left l e ∙ ap (λ b. slice_get (cond b (x ∷ go_files (drop (i + 1) files)) (go_files (drop (i + 1) files))) left) go
    ∙ ap (slice_get (x ∷ go_files (drop (i + 1) files))) first

one_less : (rest : List SourceFile) (x : SourceFile) (left next : ℕ) → left ≡ next + 1 → slice_get (x ∷ rest) left ≡ slice_get rest next
one_less rest x left next e = ap (slice_get (x ∷ rest)) (let s : left ≡ suc next = omega (arith, e) in s)

-- a file of Go source is passed over
pub file_passed : (files : List SourceFile) (i : ℕ) (x : SourceFile) (left next number : ℕ) → i < length files → x ≡ slice_index_or files i x → is_go_file x ≡ true → left ≡ next + 1
    → slice_get (go_files (drop i files)) left ≡ slice_get (go_files files) number → slice_get (go_files (drop (i + 1) files)) next ≡ slice_get (go_files files) number
file_passed files i x left next number l e go less before =
    sym (rest_from files i x left l e ∙ ap (λ b. slice_get (cond b (x ∷ go_files (drop (i + 1) files)) (go_files (drop (i + 1) files))) left) go
    ∙ one_less (go_files (drop (i + 1) files)) x left next less) ∙ before

-- and another file
pub file_other : (files : List SourceFile) (i : ℕ) (x : SourceFile) (left number : ℕ) → i < length files → x ≡ slice_index_or files i x → is_go_file x ≡ false
    → slice_get (go_files (drop i files)) left ≡ slice_get (go_files files) number → slice_get (go_files (drop (i + 1) files)) left ≡ slice_get (go_files files) number
file_other files i x left number l e other before =
    sym (rest_from files i x left l e ∙ ap (λ b. slice_get (cond b (x ∷ go_files (drop (i + 1) files)) (go_files (drop (i + 1) files))) left) other) ∙ before

-- one of them has the number
pub file_found : (files : List SourceFile) (i left number : ℕ) → length files ≤ i → number < length (go_files files)
    → slice_get (go_files (drop i files)) left ≡ slice_get (go_files files) number → ⊥
file_found files i left number over within before =
    let none : slice_get (go_files (drop i files)) left ≡ None = at_drop_all (λ fs. slice_get (go_files fs) left) files i over in
    some_within (go_files files) number within (sym before ∙ none)
  where
    some_within : (fs : List SourceFile) (k : ℕ) → k < length fs → slice_get fs k ≡ None → ⊥
    some_within [] k l e = absurd (omega (arith, l))
    some_within (f ∷ fs) zero l e = absurd cc
    some_within (f ∷ fs) (suc k) l e = some_within fs k (omega (arith, l)) e
