-- The imports of a program of which some go: they are right where each that is left is used.
use Rattle.std.proofs.Common.{◌≡◌, ◌∙◌, refl, sym, ap, subst, ℕ, zero, suc, ◌+◌, Bool, true, false, not, ◌&&◌, ◌||◌, nat_eq, bytes_eq, List, [], ◌∷◌, map, Some, arith}
use Rattle.std.specs.List.{list_all, list_any}
use Rattle.std.specs.Prelude.{is_none, slice_get}
use Rattle.std.proofs.lemmas.Option.{same_Some}
use Rattle.std.proofs.lemmas.Slice.Eq.{bytes_eq-Decides}
use Rattle.go_tree.specs.File.{ImportSpec, Decl}
use Rattle.go_tree.specs.ScopeNames.Means.{is_blank}
use Rattle.go_tree.specs.GoTypes.Answers.{is_among}
use Rattle.go_tree.specs.GoTypes.Entities.{World}
use Rattle.go_tree.specs.GoTypes.Programs.{Import, SourceFile, Headed, import_sound, is_init, block_names}
use Rattle.go_tree.specs.GoTypes.WellTyped.{is_used_in, first_import}
use Rattle.go_translation.specs.Packages.{Package, sources, has_number, are_distinct, imports_known, are_linked}
use Rattle.pkg_graph.specs.Members.{import_name}
use Rattle.pkg_graph.specs.Package as run
use Rattle.run_rules.specs.Programs.{linked_import}
use Rattle.run_rules.specs.Steps.{change_nth}
use Rattle.typed_in_place.specs.ImportRule.{imports_sound, imports_used, files_import, package_imports}
use Rattle.typed_in_place.proofs.ImportRule.{file_imports, fewer_sound}
use Rattle.typed_in_place.proofs.Rising.{and_first, and_second, both_true}
use Rattle.constant_steps.proofs.FormImports.Kept.{neither}
use Rattle.constant_steps.proofs.NamesOutside.{equal_numbers}
use Rattle.constant_steps.specs.StepLaws.DeclStands.{decl_changed}
use Rattle.literals_in_place.proofs.StepsInBodies.KeptImports.{files_still}
use Rattle.literals_in_place.proofs.StepsInBodies.Numbered.{others, none_so, turned}
use Rattle.literal_imports.specs.Steps.{with_imports}
use Rattle.literal_imports.proofs.ImportsLeft.{left_from, fewer, left_pass, each_left}

not_member : (blank before member init : Bool) → blank ≡ false → (blank || not (before || (member || init))) ≡ true → member ≡ false
not_member true before member init b e = absurd (grind (arith, b))
not_member false true member init b e = absurd (grind (arith, e))
not_member false false true init b e = absurd (grind (arith, e))
not_member false false false init b e = refl

not_before : (blank before member init : Bool) → blank ≡ false → (blank || not (before || (member || init))) ≡ true → before ≡ false
not_before true before member init b e = absurd (grind (arith, b))
not_before false true member init b e = absurd (grind (arith, e))
not_before false false member init b e = refl

or_last : (a b : Bool) → b ≡ true → (a || b) ≡ true
or_last true b e = refl
or_last false b e = e

-- ---- imports that may be declared

module _ {S : Type 0} (members : List (List ℕ)) where
  -- have no name of the package block
  pub sound_member : (before : List (List ℕ)) (is : List (Import S)) → imports_sound members before is ≡ true → (j : ℕ) (i : Import S) → slice_get is j ≡ Some i → is_blank i.name ≡ false → is_among i.name members ≡ false
  sound_member before [] s j i e b = absurd cc
  sound_member before (x ∷ is) s zero i e b =
      subst (λ (v : Import S). is_blank v.name ≡ false → is_among v.name members ≡ false) (same_Some x i e)
      (λ c. not_member (is_blank x.name) (is_among x.name before) (is_among x.name members) (is_init x.name) c (and_first (import_sound members before x) (imports_sound members (x.name ∷ before) is) s)) b
  sound_member before (x ∷ is) s (suc j) i e b = sound_member (x.name ∷ before) is (and_second (import_sound members before x) (imports_sound members (x.name ∷ before) is) s) j i e b

  -- nor one that an import before has
  sound_apart : (before : List (List ℕ)) (is : List (Import S)) → imports_sound members before is ≡ true → (j : ℕ) (i : Import S) → slice_get is j ≡ Some i → is_blank i.name ≡ false → is_among i.name before ≡ false
  sound_apart before [] s j i e b = absurd cc
  sound_apart before (x ∷ is) s zero i e b =
      subst (λ (v : Import S). is_blank v.name ≡ false → is_among v.name before ≡ false) (same_Some x i e)
      (λ c. not_before (is_blank x.name) (is_among x.name before) (is_among x.name members) (is_init x.name) c (and_first (import_sound members before x) (imports_sound members (x.name ∷ before) is) s)) b
  sound_apart before (x ∷ is) s (suc j) i e b =
      second (bytes_eq i.name x.name) (is_among i.name before) (sound_apart (x.name ∷ before) is (and_second (import_sound members before x) (imports_sound members (x.name ∷ before) is) s) j i e b)
    where
      second : (a b : Bool) → (a || b) ≡ false → b ≡ false
      second true b e = let no : true ≡ false = e in absurd cc
      second false b e = e

  -- so two with one name are one
  pub one_named : (before : List (List ℕ)) (is : List (Import S)) → imports_sound members before is ≡ true → (j k : ℕ) (a b : Import S) → slice_get is j ≡ Some a → slice_get is k ≡ Some b → a.name ≡ b.name → is_blank b.name ≡ false → j ≡ k
  one_named before [] s j k a b e f n c = absurd cc
  one_named before (x ∷ is) s zero zero a b e f n c = refl
  one_named before (x ∷ is) s (suc j) (suc k) a b e f n c = ap suc (one_named (x.name ∷ before) is (and_second (import_sound members before x) (imports_sound members (x.name ∷ before) is) s) j k a b e f n c)
  one_named before (x ∷ is) s zero (suc k) a b e f n c =
      absurd (clash (is_among b.name (x.name ∷ before)) (there (ap (λ (i : Import S). i.name) (same_Some x a e) ∙ n)) (sound_apart (x.name ∷ before) is (and_second (import_sound members before x) (imports_sound members (x.name ∷ before) is) s) k b f c))
    where
      clash : (t : Bool) → t ≡ true → t ≡ false → ⊥
      clash true p q = cc
      clash false p q = cc

      there : x.name ≡ b.name → is_among b.name (x.name ∷ before) ≡ true
      there p = ap (λ (t : Bool). t || is_among b.name before) ((bytes_eq-Decides b.name x.name).1 (sym p))
  one_named before (x ∷ is) s (suc j) zero a b e f n c =
      absurd (clash (is_among a.name (x.name ∷ before)) (there (n ∙ ap (λ (i : Import S). i.name) (sym (same_Some x b f)))) (sound_apart (x.name ∷ before) is (and_second (import_sound members before x) (imports_sound members (x.name ∷ before) is) s) j a e (ap is_blank n ∙ c)))
    where
      clash : (t : Bool) → t ≡ true → t ≡ false → ⊥
      clash true p q = cc
      clash false p q = cc

      there : a.name ≡ x.name → is_among a.name (x.name ∷ before) ≡ true
      there p = ap (λ (t : Bool). t || is_among a.name before) ((bytes_eq-Decides a.name x.name).1 p)

-- ---- imports that are used

module _ {S : Type 0} (w : World) (hs ls : List (Headed S)) (home : ℕ) (members : List (List ℕ)) where
  -- each name that the package block doesn't have is used still in the file
  abbrev pub UsedStill : ℕ → Type 0
  UsedStill file = (n : List ℕ) → is_among n members ≡ false → is_used_in w home file n hs ≡ true → is_used_in w home file n ls ≡ true

  used_still : (file : ℕ) (before : List (List ℕ)) (is : List (Import S)) → UsedStill file → imports_sound members before is ≡ true → imports_used w hs home file is ≡ true → imports_used w ls home file is ≡ true
  used_still file before [] each s u = refl
  used_still file before (i ∷ is) each s u =
      both_true
      (go (is_blank i.name) refl (and_first (import_sound members before i) (imports_sound members (i.name ∷ before) is) s) (and_first (is_blank i.name || is_used_in w home file i.name hs) (imports_used w hs home file is) u))
      (used_still file (i.name ∷ before) is each (and_second (import_sound members before i) (imports_sound members (i.name ∷ before) is) s) (and_second (is_blank i.name || is_used_in w home file i.name hs) (imports_used w hs home file is) u))
    where
      go : (b : Bool) → is_blank i.name ≡ b → import_sound members before i ≡ true → (is_blank i.name || is_used_in w home file i.name hs) ≡ true → (is_blank i.name || is_used_in w home file i.name ls) ≡ true
      go true q s u = ap (λ (c : Bool). c || is_used_in w home file i.name ls) q
      go false q s u =
          or_last (is_blank i.name) (is_used_in w home file i.name ls)
          (each i.name (not_member (is_blank i.name) (is_among i.name before) (is_among i.name members) (is_init i.name) q s) (sym (ap (λ (c : Bool). c || is_used_in w home file i.name hs) q) ∙ u))

  file_right : (file : ℕ) (is : List (Import S)) → UsedStill file → is_none (first_import w hs home file members [] is) ≡ true → is_none (first_import w ls home file members [] is) ≡ true
  file_right file is each e =
      let t : (imports_sound members [] is && imports_used w hs home file is) ≡ true = sym (file_imports w hs home file members [] is) ∙ e in
      let s : imports_sound members [] is ≡ true = and_first (imports_sound members [] is) (imports_used w hs home file is) t in
      file_imports w ls home file members [] is ∙ both_true s (used_still file [] is each s (and_second (imports_sound members [] is) (imports_used w hs home file is) t))

  -- ---- a file of which imports go

  module _ (rs : List (run.Package S)) (gone : ℕ × ImportSpec S → Bool) (ss : List (ImportSpec S)) (M : ℕ) where
    -- each that doesn't go is used still
    abbrev pub LeftUsed : Type 0
    LeftUsed =
        (j : ℕ) (s : ImportSpec S) → slice_get ss j ≡ Some s → gone (j, s) ≡ false → is_blank (import_name rs s) ≡ false → imports_sound members [] (map (linked_import rs) ss) ≡ true → is_used_in w home M (import_name rs s) hs ≡ true →
        is_used_in w home M (import_name rs s) ls ≡ true

    one_used : (is : List (ImportSpec S)) → imports_used w hs home M (map (linked_import rs) is) ≡ true → (j : ℕ) (s : ImportSpec S) → slice_get is j ≡ Some s → (is_blank (import_name rs s) || is_used_in w home M (import_name rs s) hs) ≡ true
    one_used [] u j s e = absurd cc
    one_used (x ∷ is) u zero s e =
        subst (λ (v : ImportSpec S). (is_blank (import_name rs v) || is_used_in w home M (import_name rs v) hs) ≡ true) (same_Some x s e)
        (and_first (is_blank (import_name rs x) || is_used_in w home M (import_name rs x) hs) (imports_used w hs home M (map (linked_import rs) is)) u)
    one_used (x ∷ is) u (suc j) s e = one_used is (and_second (is_blank (import_name rs x) || is_used_in w home M (import_name rs x) hs) (imports_used w hs home M (map (linked_import rs) is)) u) j s e

    pub left_right : LeftUsed → is_none (first_import w hs home M members [] (map (linked_import rs) ss)) ≡ true → is_none (first_import w ls home M members [] (left_from rs gone 0 ss)) ≡ true
    left_right each e =
        let t : (imports_sound members [] (map (linked_import rs) ss) && imports_used w hs home M (map (linked_import rs) ss)) ≡ true = sym (file_imports w hs home M members [] (map (linked_import rs) ss)) ∙ e in
        let s : imports_sound members [] (map (linked_import rs) ss) ≡ true = and_first (imports_sound members [] (map (linked_import rs) ss)) (imports_used w hs home M (map (linked_import rs) ss)) t in
        file_imports w ls home M members [] (left_from rs gone 0 ss)
        ∙ both_true (fewer_sound members (fewer rs gone 0 ss) [] [] (λ n i. i) s)
        (each_left rs gone (λ i. is_blank i.name || is_used_in w home M i.name ls) 0 ss (λ j m y g i k. one s (and_second (imports_sound members [] (map (linked_import rs) ss)) (imports_used w hs home M (map (linked_import rs) ss)) t) j m y g i k))
      where
        one : imports_sound members [] (map (linked_import rs) ss) ≡ true → imports_used w hs home M (map (linked_import rs) ss) ≡ true → (j m : ℕ) (y : ImportSpec S) → slice_get ss j ≡ Some y → m ≡ 0 + j → gone (m, y) ≡ false
            → (is_blank (import_name rs y) || is_used_in w home M (import_name rs y) ls) ≡ true
        one s u j m y g i k = go (is_blank (import_name rs y)) refl
          where
            same : m ≡ j
            same = omega (arith, i)

            go : (b : Bool) → is_blank (import_name rs y) ≡ b → (is_blank (import_name rs y) || is_used_in w home M (import_name rs y) ls) ≡ true
            go true q = ap (λ (c : Bool). c || is_used_in w home M (import_name rs y) ls) q
            go false q =
                or_last (is_blank (import_name rs y)) (is_used_in w home M (import_name rs y) ls)
                (each j y g (subst (λ (n : ℕ). gone (n, y) ≡ false) same k) q s (sym (ap (λ (c : Bool). c || is_used_in w home M (import_name rs y) hs) q) ∙ one_used ss u j y g))

  -- ---- the files of a package, of which one has other imports

  module _ (put : Decl S → Decl S) (N M : ℕ) (is : List (Import S)) (apart : (file : ℕ) → nat_eq M file ≡ false → UsedStill file) where
    abbrev with_left : SourceFile S → SourceFile S
    with_left f = record f { imports = is }

    behind : (i t : ℕ) → i ≡ suc (M + t) → nat_eq M i ≡ false
    behind i t e = go (nat_eq M i) refl
      where
        never : M ≡ i → ⊥
        never r = omega arith

        go : (b : Bool) → nat_eq M i ≡ b → b ≡ false
        go true q = absurd (never (equal_numbers M i q))
        go false q = refl

    before : (i m : ℕ) → M ≡ i + suc m → nat_eq M i ≡ false
    before i m e = go (nat_eq M i) refl
      where
        never : M ≡ i → ⊥
        never r = omega arith

        go : (b : Bool) → nat_eq M i ≡ b → b ≡ false
        go true q = absurd (never (equal_numbers M i q))
        go false q = refl

    later_right : (i t : ℕ) (fs : List (SourceFile S)) → i ≡ suc (M + t) → files_import w hs home members i fs ≡ true → files_import w ls home members i fs ≡ true
    later_right i t [] n e = refl
    later_right i t (f ∷ fs) n e =
        both_true (file_right i f.imports (apart i (behind i t n)) (and_first (is_none (first_import w hs home i members [] f.imports)) (files_import w hs home members (suc i) fs) e))
        (later_right (suc i) (suc t) fs (omega (arith, n)) (and_second (is_none (first_import w hs home i members [] f.imports)) (files_import w hs home members (suc i) fs) e))

    pub files_right : (m i : ℕ) (fs : List (SourceFile S)) (y : SourceFile S) → M ≡ i + m → slice_get fs m ≡ Some y → (is_none (first_import w hs home M members [] y.imports) ≡ true → is_none (first_import w ls home M members [] is) ≡ true) → files_import w hs home members i fs ≡ true
        → files_import w ls home members i (change_nth m with_left (change_nth m (decl_changed put N) fs)) ≡ true
    files_right m i [] y n g own e = refl
    files_right zero i (f ∷ fs) y n g own e =
        both_true
        (subst (λ (k : ℕ). is_none (first_import w hs home k members [] f.imports) ≡ true → is_none (first_import w ls home k members [] is) ≡ true) same
        (subst (λ (v : SourceFile S). is_none (first_import w hs home M members [] v.imports) ≡ true → is_none (first_import w ls home M members [] is) ≡ true) (sym (same_Some f y g)) own)
        (and_first (is_none (first_import w hs home i members [] f.imports)) (files_import w hs home members (suc i) fs) e))
        (later_right (suc i) 0 fs (omega (arith, n)) (and_second (is_none (first_import w hs home i members [] f.imports)) (files_import w hs home members (suc i) fs) e))
      where
        same : M ≡ i
        same = omega (arith, n)
    files_right (suc m) i (f ∷ fs) y n g own e =
        both_true (file_right i f.imports (apart i (before i m n)) (and_first (is_none (first_import w hs home i members [] f.imports)) (files_import w hs home members (suc i) fs) e))
        (files_right m (suc i) fs y (omega (arith, n)) g own (and_second (is_none (first_import w hs home i members [] f.imports)) (files_import w hs home members (suc i) fs) e))

-- ---- packages, of which one changes

module _ {S : Type 0} (w : World) (hs ls : List (Headed S)) (K : ℕ) (h : Package S → Package S) (apart : (home file : ℕ) (n : List ℕ) → nat_eq home K ≡ false → is_used_in w home file n hs ≡ true → is_used_in w home file n ls ≡ true) where
  still_apart : (p : Package S) → nat_eq p.source.number K ≡ false → package_imports w hs p.source ≡ true → package_imports w ls p.source ≡ true
  still_apart p a = files_still w hs ls p.source.number (block_names p.source.files) (λ file n m u. apart p.source.number file n a u) 0 p.source.files

  later_apart : (ps : List (Package S)) → list_any (has_number K) ps ≡ false → list_all (package_imports w hs) (sources ps) ≡ true → list_all (package_imports w ls) (sources ps) ≡ true
  later_apart [] a t = refl
  later_apart (p ∷ ps) a t =
      let o = neither (has_number K p) (list_any (has_number K) ps) a in
      both_true (still_apart p o.0 (and_first (package_imports w hs p.source) (list_all (package_imports w hs) (sources ps)) t))
      (later_apart ps o.1 (and_second (package_imports w hs p.source) (list_all (package_imports w hs) (sources ps)) t))

  module _ (of : Package S) (number_is : of.source.number ≡ K) (own : package_imports w hs of.source ≡ true → package_imports w ls (h of).source ≡ true) where
    pub packages_right : (k : ℕ) (ps : List (Package S)) → are_distinct ps ≡ true → slice_get ps k ≡ Some of → list_all (package_imports w hs) (sources ps) ≡ true → list_all (package_imports w ls) (sources (change_nth k h ps)) ≡ true
    packages_right k [] d g t = refl
    packages_right zero (p ∷ ps) d g t =
        let number : p.source.number ≡ K = ap (λ (v : Package S). v.source.number) (same_Some p of g) ∙ number_is in
        both_true
        (subst (λ (v : Package S). package_imports w hs v.source ≡ true → package_imports w ls (h v).source ≡ true) (sym (same_Some p of g)) own (and_first (package_imports w hs p.source) (list_all (package_imports w hs) (sources ps)) t))
        (later_apart ps (subst (λ (i : ℕ). list_any (has_number i) ps ≡ false) number (others p ps d).0) (and_second (package_imports w hs p.source) (list_all (package_imports w hs) (sources ps)) t))
    packages_right (suc k) (p ∷ ps) d g t =
        let away : nat_eq p.source.number K ≡ false = subst (λ (i : ℕ). nat_eq p.source.number i ≡ false) number_is (turned of.source.number p.source.number (none_so (has_number p.source.number) ps k of (others p ps d).0 g)) in
        both_true (still_apart p away (and_first (package_imports w hs p.source) (list_all (package_imports w hs) (sources ps)) t))
        (packages_right k ps (others p ps d).1 g (and_second (package_imports w hs p.source) (list_all (package_imports w hs) (sources ps)) t))

-- ---- packages import those before them still

module _ {S : Type 0} (rs : List (run.Package S)) (gone : ℕ × ImportSpec S → Bool) (ss : List (ImportSpec S)) (m : ℕ) where
  files_known : (before : List (Package S)) (k : ℕ) (fs : List (SourceFile S)) (y : SourceFile S) → slice_get fs k ≡ Some y → y.imports ≡ map (linked_import rs) ss → list_all (imports_known before) fs ≡ true → list_all (imports_known before) (change_nth k (λ (f : SourceFile S). record f { imports = left_from rs gone 0 ss }) fs) ≡ true
  files_known before k [] y g i e = refl
  files_known before zero (f ∷ fs) y g i e =
      both_true
      (left_pass rs gone (λ (v : Import S). list_any (has_number v.of) before) 0 ss
      (subst (λ (v : List (Import S)). list_all (λ (i : Import S). list_any (has_number i.of) before) v ≡ true) (ap (λ (v : SourceFile S). v.imports) (same_Some f y g) ∙ i) (and_first (imports_known before f) (list_all (imports_known before) fs) e)))
      (and_second (imports_known before f) (list_all (imports_known before) fs) e)
  files_known before (suc k) (f ∷ fs) y g i e =
      both_true (and_first (imports_known before f) (list_all (imports_known before) fs) e) (files_known before k fs y g i (and_second (imports_known before f) (list_all (imports_known before) fs) e))

  -- the packages before are told by their numbers
  abbrev SameNumbers : List (Package S) → List (Package S) → Type 0
  SameNumbers before after = (n : ℕ) → list_any (has_number n) before ≡ list_any (has_number n) after

  imports_same : (before after : List (Package S)) → SameNumbers before after → (is : List (Import S)) → list_all (λ (i : Import S). list_any (has_number i.of) before) is ≡ list_all (λ (i : Import S). list_any (has_number i.of) after) is
  imports_same before after e [] = refl
  imports_same before after e (i ∷ is) = λ v. e i.of v && imports_same before after e is v

  files_same : (before after : List (Package S)) → SameNumbers before after → (fs : List (SourceFile S)) → list_all (imports_known before) fs ≡ list_all (imports_known after) fs
  files_same before after e [] = refl
  files_same before after e (f ∷ fs) = λ v. imports_same before after e f.imports v && files_same before after e fs v

  linked_same : (before after ps : List (Package S)) → SameNumbers before after → are_linked before ps ≡ are_linked after ps
  linked_same before after [] e = refl
  linked_same before after (p ∷ ps) e = λ v. files_same before after e p.source.files v && linked_same (p ∷ before) (p ∷ after) ps (λ n i. nat_eq p.source.number n || e n i) v

  pub linked_left : (before : List (Package S)) (k : ℕ) (ps : List (Package S)) (of : Package S) (y : SourceFile S) → slice_get ps k ≡ Some of → slice_get of.source.files m ≡ Some y → y.imports ≡ map (linked_import rs) ss → are_linked before ps ≡ true
      → are_linked before (change_nth k (with_imports m (left_from rs gone 0 ss)) ps) ≡ true
  linked_left before k [] of y g f i e = refl
  linked_left before zero (p ∷ ps) of y g f i e =
      both_true
      (files_known before m p.source.files y (subst (λ (v : Package S). slice_get v.source.files m ≡ Some y) (sym (same_Some p of g)) f) i (and_first (list_all (imports_known before) p.source.files) (are_linked (p ∷ before) ps) e))
      (sym (linked_same (p ∷ before) (with_imports m (left_from rs gone 0 ss) p ∷ before) ps (λ n. refl)) ∙ and_second (list_all (imports_known before) p.source.files) (are_linked (p ∷ before) ps) e)
  linked_left before (suc k) (p ∷ ps) of y g f i e =
      both_true (and_first (list_all (imports_known before) p.source.files) (are_linked (p ∷ before) ps) e) (linked_left (p ∷ before) k ps of y g f i (and_second (list_all (imports_known before) p.source.files) (are_linked (p ∷ before) ps) e))
