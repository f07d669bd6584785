-- Files that are settled, one after another.
use Rattle.std.proofs.Common.{◌≡◌, ◌∙◌, refl, sym, ap, subst, ℕ, zero, suc, ◌+◌, ◌<◌, Bool, true, false, nat_eq, ◌⊎◌, inl, inr, List, [], ◌∷◌, length, get_or, Some, arith, slice_set}
use Rattle.std.specs.Prelude.{slice_get}
use Rattle.std.proofs.lemmas.Bool.{eqb-true, eqb-false}
use Rattle.std.proofs.lemmas.List.{get_or-set_same, get_or-set_other}
use Rattle.go_scan.specs.TokenLists.{TokenLists}
use Rattle.pkg_graph.specs.declared.packages.Package.{Package}
use Rattle.pkg_graph.specs.declared.packages.SourceTree.{SourceTree}
use Rattle.stepped_programs.specs.declared.package_search.looks.FileLook.{FileLook}
use Rattle.stepped_programs.specs.declared.package_search.looks.ProgramSources.{ProgramSources}
use Rattle.stepped_programs.specs.PackageSearch.Looks.{IsLook}
use Rattle.stepped_programs.specs.PackageSearch.Search.{is_settled, block_of, LookAt}

-- what is read of a list is there
pub got : {A : Type 0} (xs : List A) (i : ℕ) (x : A) → i < length xs → x ≡ get_or xs i x → slice_get xs i ≡ Some x
got [] i x h e = absurd (omega (arith, h))
got (y ∷ xs) zero x h e = ap (λ z. Some z) (sym e)
got (y ∷ xs) (suc i) x h e = got xs i x (omega (arith, h)) e

nat_cases : (j k : ℕ) → (j ≡ k) ⊎ (j ≡ k → ⊥)
nat_cases j k = by (nat_eq j k) refl
  where
    by : (b : Bool) → nat_eq j k ≡ b → (j ≡ k) ⊎ (j ≡ k → ⊥)
    by true e = inl (eqb-true j k e)
    by false e = inr (eqb-false j k e)

-- the files before a number
abbrev pub before : List Bool → ℕ → Type 0
before flags n = (i : ℕ) → i < n → is_settled flags i ≡ true

-- those before, and one more
pub more_before : (was now : List Bool) (n : ℕ) → n < length was → now ≡ slice_set was n true → before was n → before now (n + 1)
more_before was now n h e b = λ i l. by i l (nat_cases i n)
  where
    by : (i : ℕ) → i < n + 1 → (i ≡ n) ⊎ (i ≡ n → ⊥) → is_settled now i ≡ true
    by i l (inl q) = ap (λ (fs : List Bool). is_settled fs i) e ∙ ap (λ (j : ℕ). is_settled (slice_set was n true) j) q ∙ get_or-set_same was n true false h
    by i l (inr q) = let k : i < n = omega (arith, l, q) in ap (λ (fs : List Bool). is_settled fs i) e ∙ get_or-set_other was n i true false q ∙ b i k

pub there_before : (flags : List Bool) (n : ℕ) → is_settled flags n ≡ true → before flags n → before flags (n + 1)
there_before flags n f b = λ i l. by i l (nat_cases i n)
  where
    by : (i : ℕ) → i < n + 1 → (i ≡ n) ⊎ (i ≡ n → ⊥) → is_settled flags i ≡ true
    by i l (inl q) = ap (is_settled flags) q ∙ f
    by i l (inr q) = b i (omega (arith, l, q))

-- a look at a file of the package
pub look_there : (s : ProgramSources) (number : ℕ) (home : Package) (tokens : List TokenLists) (files : List SourceTree) (i : ℕ) (source : SourceTree) (list : TokenLists) (block : List (List ℕ)) (l : FileLook)
    → files ≡ home.files → i < length files → source ≡ get_or files i source → length tokens ≡ length home.files → list ≡ get_or tokens i list
    → block ≡ block_of s number home tokens → IsLook s number source list block l → LookAt s number home tokens i l
look_there s number home tokens files i source list block l same h e counted g b look =
    let t : i < length tokens = omega (arith, h, counted, ap length same) in
    record {
      source = source;
      is_source = sym (ap (λ (fs : List SourceTree). slice_get fs i) same) ∙ got files i source h e;
      list = list;
      is_list = got tokens i list t g;
      look = subst (λ (names : List (List ℕ)). IsLook s number source list names l) b look;
    }
