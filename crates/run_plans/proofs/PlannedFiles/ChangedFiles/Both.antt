-- Changes of files one after another.
use Rattle.std.proofs.Common.{◌≡◌, ◌∙◌, ℕ, zero, suc, nat_lt, arith, length, get_or, refl, sym, ap, Bool, true, false, List, [], ◌∷◌, ◌++◌, Option, Some, None, append_assoc, append-nil}
use Rattle.std.specs.Prelude.{bytes_eq, if◌then◌else◌, slice_get}
use Rattle.std.proofs.lemmas.Bool.Decides.{nat_tests}
use Rattle.source_files.specs.declared.files.SourceFile.{SourceFile}
use Rattle.run_plans.specs.declared.planned_files.changed_files.changed.LastText.{LastText}
use Rattle.run_plans.specs.declared.planned_files.changed_files.changed.ChangedFile.{ChangedFile}
use Rattle.run_plans.specs.PlannedFiles.ChangedFiles.Changed.{change_in, change_of, changes}

pub changes_both : (files : List SourceFile) (xs ys : List LastText) → changes files (xs ++ ys) ≡ changes files xs ++ changes files ys
changes_both files [] ys = refl
changes_both files (x ∷ xs) ys =
    ap (λ (l : List ChangedFile). change_of files x ++ l) (changes_both files xs ys) ∙ sym (append_assoc (change_of files x) (changes files xs) (changes files ys))

pub one_more : (files : List SourceFile) (xs : List LastText) (x : LastText) (l m : List ChangedFile)
    → l ≡ changes files xs → m ≡ l ++ change_of files x → m ≡ changes files (xs ++ x ∷ [])
one_more files xs x l m e f =
    f ∙ ap (λ (k : List ChangedFile). k ++ change_of files x) e ∙ ap (λ (k : List ChangedFile). changes files xs ++ k) (sym (append-nil (change_of files x))) ∙ sym (changes_both files xs (x ∷ []))

-- a file that was not read
pub none_adds : (l : List ChangedFile) (t : LastText) (o : Option SourceFile) → o ≡ None → l ≡ l ++ change_in t o
none_adds l t o e = sym (append-nil l) ∙ ap (λ (q : Option SourceFile). l ++ change_in t q) (sym e)

-- a file of which the bytes are as they were
pub same_adds : (l : List ChangedFile) (t : LastText) (f : SourceFile) (o : Option SourceFile) → o ≡ Some f → bytes_eq f.bytes t.text ≡ true
    → l ≡ l ++ change_in t o
same_adds l t f o e h =
    sym (append-nil l)
    ∙ ap (λ (b : Bool). l ++ (if b then [] else record { index = f.index; bytes = t.text } ∷ [])) (sym h)
    ∙ ap (λ (q : Option SourceFile). l ++ change_in t q) (sym e)

-- a file of which they differ
pub other_adds : (l : List ChangedFile) (t : LastText) (f : SourceFile) (o : Option SourceFile) → o ≡ Some f → bytes_eq f.bytes t.text ≡ false
    → l ++ record { index = f.index; bytes = t.text } ∷ [] ≡ l ++ change_in t o
other_adds l t f o e h =
    ap (λ (b : Bool). l ++ (if b then [] else record { index = f.index; bytes = t.text } ∷ [])) (sym h)
    ∙ ap (λ (q : Option SourceFile). l ++ change_in t q) (sym e)

-- no file has that number
pub none_there : (fs : List SourceFile) (k : ℕ) → false ≡ nat_lt k (length fs) → slice_get fs k ≡ None
none_there [] k h = refl
none_there (f ∷ fs) zero h = absurd (grind (arith, nat_tests, h))
none_there (f ∷ fs) (suc k) h = none_there fs k (grind (arith, nat_tests, h))

pub one_there : (fs : List SourceFile) (k : ℕ) (f : SourceFile) → true ≡ nat_lt k (length fs) → f ≡ get_or fs k f → slice_get fs k ≡ Some f
one_there [] k f h e = absurd (grind (arith, nat_tests, h))
one_there (g ∷ fs) zero f h e = ap (λ z. Some z) (sym e)
one_there (g ∷ fs) (suc k) f h e = one_there fs k f (grind (arith, nat_tests, h)) e
