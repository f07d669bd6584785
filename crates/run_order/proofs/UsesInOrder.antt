-- The uses of a program whose files read from their texts, in their order.
use Rattle.std.proofs.Common.{◌≡◌, refl, sym, ◌∙◌, subst, ◌<◌, ◌+◌, ℕ, suc, ◌⊎◌, inl, inr, List, [], ◌∷◌, ◌++◌, Option, Some, None, arith}
use Rattle.std.specs.Prelude.{slice_get}
use Rattle.go_tree.specs.declared.spans.Span.{Span}
use Rattle.go_tree.specs.Tree.{TypeExpr}
use Rattle.go_tree.specs.File.{Decl}
use Rattle.pkg_graph.specs.Package.{SourceTree, Package}
use Rattle.run_rules.specs.Surroundings.{Use, other, Place, Seen, seen, seen_type, seen_stmt}
use Rattle.run_rules.specs.Programs.{numbered_from, numbered, in_dependency_order, numbers_of, dependency_order, decl_seen}
use Rattle.run_rules.specs.Respanned.{decl_with, decls_with}
use Rattle.run_rules.specs.Run.{Standing, here_of}
use Rattle.run_rules.specs.Sites.{MarkRef, Where, Part, an_expr, a_type_part, Site, named_in, expr_mark, type_mark, site_by, type_sites, sites_among, decls_sites, files_sites, packages_sites, sites}
use Rattle.run_rules.specs.Steps.{At}
use Rattle.splice_laws.specs.RunLaws.Reading.{FileReads, FileAt, ProgramReads}
use Rattle.order_runs.proofs.ImportRuns.Listed.{AllListed, order-listed}
use Rattle.run_order.specs.Order.{span_of, IsOneOf, ComesBefore, StandsBefore, package_before, file_before, end_before, StandsBehind, IsOneAgain, UsesAscend}
use Rattle.run_order.proofs.EndPlaces.{DeclIn, DeclsIn}
use Rattle.run_order.proofs.TokenEnds.{tokens-stand}
use Rattle.run_order.proofs.SpelledEnds.{Upto, front_in}
use Rattle.run_order.proofs.Rising.{Key, IsOne, EndsBehind, Rising, InOrder, none-there}
use Rattle.run_order.proofs.TypeKeys.{order-two, keys, keys-both}
use Rattle.run_order.proofs.SeenRise.{S, decl-in}

-- ---- a file

module _ {A : Type 0} (to : A → Span) (ps : List (Package A)) (marks : List MarkRef) (w : Where A) where
  pub file-order : (lo hi n : ℕ) (ds : List (Decl A)) → DeclsIn lo hi (decls_with to ds)
      → InOrder lo hi (keys to ps marks w (decls_sites ps marks w (numbered_from n ds)))
  file-order lo hi n [] h = none-there
  file-order lo hi n (d ∷ ds) h =
      subst (λ (ks : List Key). InOrder lo hi ks) (sym (keys-both to ps marks w (sites_among ps marks w n (decl_seen ps w.number w.of w.source.tree d)) (decls_sites ps marks w (numbered_from (suc n) ds))))
      (order-two (keys to ps marks w (sites_among ps marks w n (decl_seen ps w.number w.of w.source.tree d))) (keys to ps marks w (decls_sites ps marks w (numbered_from (suc n) ds)))
      (λ a b q. in-decl a b q) (λ a b q. file-order a b (suc n) ds q) h)
    where
      in-decl : (a b : ℕ) → DeclIn a b (decl_with to d)
          → InOrder a b (keys to ps marks w (sites_among ps marks w n (decl_seen ps w.number w.of w.source.tree d)))
      in-decl a b q = let s : S to ps marks w n a b (decl_seen ps w.number w.of w.source.tree d) = decl-in to ps marks w n a b w.number w.of w.source.tree d q in s.it

  -- each stands in the file
  abbrev pub AllAt : List (Site A) → Type 0
  AllAt [] = Unit {0}
  AllAt (x ∷ xs) = (x.at ≡ w) × AllAt xs

  at-both : (xs ys : List (Site A)) → AllAt xs → AllAt ys → AllAt (xs ++ ys)
  at-both [] ys h k = k
  at-both (x ∷ xs) ys h k = (h.0, at-both xs ys h.1 k)

  module _ (n : ℕ) where
    one-at : (p : Place A) (u : Use) (x : Part A) (m : Option MarkRef) → AllAt (site_by ps marks w n p u x m)
    one-at p u x None = tt
    one-at p u x (Some m) = (refl, tt)

    types-at : (p : Place A) (ts : List (TypeExpr A)) → AllAt (type_sites ps marks w n p ts)
    types-at p [] = tt
    types-at p (t ∷ ts) = at-both (site_by ps marks w n p other (a_type_part t) (type_mark ps marks w p t)) (type_sites ps marks w n p ts) (one-at p other (a_type_part t) (type_mark ps marks w p t)) (types-at p ts)

    seen-at : (xs : List (Seen A)) → AllAt (sites_among ps marks w n xs)
    seen-at [] = tt
    seen-at (seen p u e ∷ xs) = at-both (site_by ps marks w n p u (an_expr e) (expr_mark ps marks w p e)) (sites_among ps marks w n xs) (one-at p u (an_expr e) (expr_mark ps marks w p e)) (seen-at xs)
    seen-at (seen_type p t ∷ xs) = at-both (type_sites ps marks w n p (named_in t)) (sites_among ps marks w n xs) (types-at p (named_in t)) (seen-at xs)
    seen-at (seen_stmt p s ∷ xs) = seen-at xs

  pub file-at : (ds : List (ℕ × Decl A)) → AllAt (decls_sites ps marks w ds)
  file-at [] = tt
  file-at (d ∷ ds) = at-both (sites_among ps marks w d.0 (decl_seen ps w.number w.of w.source.tree d.1)) (decls_sites ps marks w ds) (seen-at d.0 (decl_seen ps w.number w.of w.source.tree d.1)) (file-at ds)

-- ---- lists of uses

module _ (order : List ℕ) where
  abbrev onto : List (Site At) → List (Site At) → List (Site At)
  onto [] b = b
  onto (x ∷ xs) b = onto xs (x ∷ b)

  ascend-both : (b xs ys : List (Site At)) → UsesAscend order b xs → UsesAscend order (onto xs b) ys
      → UsesAscend order b (xs ++ ys)
  ascend-both b [] ys h k = k
  ascend-both b (x ∷ xs) ys h k = (h.0, ascend-both (x ∷ b) xs ys h.1 k)

  -- they stand in packages before, or in files of the package that stand before
  abbrev IsOld : ℕ → ℕ → Site At → Type 0
  IsOld k i y = ComesBefore y.at.number k order ⊎ ((y.at.number ≡ k) × (y.at.file_number < i))

  abbrev AllOld : ℕ → ℕ → List (Site At) → Type 0
  AllOld k i [] = Unit {0}
  AllOld k i (y ∷ ys) = IsOld k i y × AllOld k i ys

  -- they stand in packages before each of these
  abbrev AllFront : List ℕ → List (Site At) → Type 0
  AllFront ks [] = Unit {0}
  AllFront ks (y ∷ ys) = ((k : ℕ) → IsOneOf k ks → ComesBefore y.at.number k order) × AllFront ks ys

  -- ---- the uses of a file, behind others

  module _ (ps : List (Package At)) (marks : List MarkRef) (w : Where At) where
    old-before : (x y : Site At) → x.at ≡ w → IsOld w.number w.file_number y → StandsBefore order y x
    old-before x y e (inl c) = package_before (subst (λ (v : Where At). ComesBefore y.at.number v.number order) (sym e) c)
    old-before x y e (inr q) = file_before (q.0 ∙ (λ v. (sym e v).number)) (subst (λ (v : Where At). y.at.file_number < v.file_number) (sym e) q.1)

    olds-before : (x : Site At) (ys : List (Site At)) → x.at ≡ w → AllOld w.number w.file_number ys
        → StandsBehind order x ys
    olds-before x [] e h = tt
    olds-before x (y ∷ ys) e h = (old-before x y e h.0, olds-before x ys e h.1)

    same-place : (x y : Site At) → x.at ≡ w → y.at ≡ w → x.at ≡ y.at
    same-place x y e f = e ∙ sym f

    behind-done : (x : Site At) (done old : List (Site At)) → x.at ≡ w → AllAt here_of ps marks w done
        → AllOld w.number w.file_number old → EndsBehind (span_of x, x.mark) (keys here_of ps marks w done)
        → StandsBehind order x (done ++ old)
    behind-done x [] old e a o h = olds-before x old e o
    behind-done x (y ∷ ys) old e a o h =
        (end_before (λ v. (same-place y x a.0 e v).number) (λ v. (same-place y x a.0 e v).file_number) h.0, behind-done x ys old e a.1 o h.1)

    again-done : (x : Site At) (done old : List (Site At)) → x.at ≡ w → AllAt here_of ps marks w done
        → IsOne (span_of x, x.mark) (keys here_of ps marks w done) → IsOneAgain x (done ++ old)
    again-done x [] old e a h = elim h [ ]
    again-done x (y ∷ ys) old e a (inl k) =
        inl (record { same_package = λ v. (same-place x y e a.0 v).number; same_file = λ v. (same-place x y e a.0 v).file_number; same_span = λ v. (k v).0; same_mark = λ v. (k v).1 })
    again-done x (y ∷ ys) old e a (inr k) = inr (again-done x ys old e a.1 k)

    one-in-order : (x : Site At) (done old : List (Site At)) → x.at ≡ w → AllAt here_of ps marks w done
        → AllOld w.number w.file_number old
        → EndsBehind (span_of x, x.mark) (keys here_of ps marks w done) ⊎ IsOne (span_of x, x.mark) (keys here_of ps marks w done)
        → StandsBehind order x (done ++ old) ⊎ IsOneAgain x (done ++ old)
    one-in-order x done old e a o (inl h) = inl (behind-done x done old e a o h)
    one-in-order x done old e a o (inr h) = inr (again-done x done old e a h)

    file-ascends : (done old xs : List (Site At)) → AllAt here_of ps marks w done → AllOld w.number w.file_number old
        → AllAt here_of ps marks w xs → Rising (keys here_of ps marks w done) (keys here_of ps marks w xs)
        → UsesAscend order (done ++ old) xs
    file-ascends done old [] a o h r = tt
    file-ascends done old (x ∷ xs) a o h r = (one-in-order x done old h.0 a o r.0, file-ascends (x ∷ done) old xs (h.0, a) o h.1 r.1)

    -- and those of a file are before the next files
    old-next : (xs b : List (Site At)) → AllAt here_of ps marks w xs → AllOld w.number (suc w.file_number) b
        → AllOld w.number (suc w.file_number) (onto xs b)
    old-next [] b h o = o
    old-next (x ∷ xs) b h o = old-next xs (x ∷ b) h.1 (inr ((λ v. (h.0 v).number), subst (λ (v : Where At). v.file_number < suc w.file_number) (sym h.0) (omega arith)), o)

  old-more : (k i : ℕ) (ys : List (Site At)) → AllOld k i ys → AllOld k (suc i) ys
  old-more k i [] h = tt
  old-more k i (y ∷ ys) h = (by h.0, old-more k i ys h.1)
    where
      by : IsOld k i y → IsOld k (suc i) y
      by (inl c) = inl c
      by (inr q) = inr (q.0, let l = q.1 in omega (arith, l))

  -- ---- files and packages

  abbrev AllOf : ℕ → List (Site At) → Type 0
  AllOf k [] = Unit {0}
  AllOf k (x ∷ xs) = (x.at.number ≡ k) × AllOf k xs

  of-both : (k : ℕ) (xs ys : List (Site At)) → AllOf k xs → AllOf k ys → AllOf k (xs ++ ys)
  of-both k [] ys h o = o
  of-both k (x ∷ xs) ys h o = (h.0, of-both k xs ys h.1 o)

  module _ (ps : List (Package At)) (marks : List MarkRef) where
    -- the declarations of each file stand one behind the other
    abbrev FilesStand : List (SourceTree At) → Type 0
    FilesStand [] = Unit {0}
    FilesStand (f ∷ fs) = ((lo : ℕ) × Upto lo (decls_with here_of f.tree.decls)) × FilesStand fs

    abbrev AllStand : List (ℕ × Package At) → Type 0
    AllStand [] = Unit {0}
    AllStand (q ∷ qs) = FilesStand q.1.files × AllStand qs

    module _ (k : ℕ) (p : Package At) where
      abbrev file : ℕ → SourceTree At → Where At
      file i f = record { number = k; of = p; file_number = i; source = f }

      abbrev file_sites : ℕ → SourceTree At → List (Site At)
      file_sites i f = decls_sites ps marks (file i f) (numbered f.tree.decls)

      file-rises : (i : ℕ) (f : SourceTree At) → (lo : ℕ) × Upto lo (decls_with here_of f.tree.decls)
          → Rising [] (keys here_of ps marks (file i f) (file_sites i f))
      file-rises i f h = let o : InOrder h.0 h.1.hi (keys here_of ps marks (file i f) (file_sites i f)) = file-order here_of ps marks (file i f) h.0 h.1.hi 0 f.tree.decls h.1.it in o.up

      files-ascend : (i : ℕ) (fs : List (SourceTree At)) (b : List (Site At)) → FilesStand fs → AllOld k i b
          → UsesAscend order b (files_sites ps marks k p (numbered_from i fs))
      files-ascend i [] b h o = tt
      files-ascend i (f ∷ fs) b h o =
          ascend-both b (file_sites i f) (files_sites ps marks k p (numbered_from (suc i) fs))
          (file-ascends ps marks (file i f) [] b (file_sites i f) tt o (file-at here_of ps marks (file i f) (numbered f.tree.decls)) (file-rises i f h.0))
          (files-ascend (suc i) fs (onto (file_sites i f) b) h.1 (old-next ps marks (file i f) (file_sites i f) b (file-at here_of ps marks (file i f) (numbered f.tree.decls)) (old-more k i b o)))

      at-of : (w : Where At) (xs : List (Site At)) → AllAt here_of ps marks w xs → w.number ≡ k → AllOf k xs
      at-of w [] h e = tt
      at-of w (x ∷ xs) h e = ((λ v. (h.0 v).number) ∙ e, at-of w xs h.1 e)

      files-of : (fs : List (ℕ × SourceTree At)) → AllOf k (files_sites ps marks k p fs)
      files-of [] = tt
      files-of (f ∷ fs) = of-both k (file_sites f.0 f.1) (files_sites ps marks k p fs) (at-of (file f.0 f.1) (file_sites f.0 f.1) (file-at here_of ps marks (file f.0 f.1) (numbered f.1.tree.decls)) refl) (files-of fs)

    front-old : (k : ℕ) (ks : List ℕ) (b : List (Site At)) → AllFront (k ∷ ks) b → AllOld k 0 b
    front-old k ks [] h = tt
    front-old k ks (y ∷ ys) h = (inl (h.0 k (inl refl)), front-old k ks ys h.1)

    front-rest : (k : ℕ) (ks : List ℕ) (b : List (Site At)) → AllFront (k ∷ ks) b → AllFront ks b
    front-rest k ks [] h = tt
    front-rest k ks (y ∷ ys) h = ((λ j o. h.0 j (inr o)), front-rest k ks ys h.1)

    front-next : (k : ℕ) (ks : List ℕ) (xs b : List (Site At)) → ((j : ℕ) → IsOneOf j ks → ComesBefore k j order)
        → AllOf k xs → AllFront ks b → AllFront ks (onto xs b)
    front-next k ks [] b f h o = o
    front-next k ks (x ∷ xs) b f h o = front-next k ks xs (x ∷ b) f h.1 ((λ j i. subst (λ (n : ℕ). ComesBefore n j order) (sym h.0) (f j i)), o)

    packages-ascend : (qs : List (ℕ × Package At)) (b : List (Site At))
        → ((i j : ℕ) → ComesBefore i j (numbers_of qs) → ComesBefore i j order) → AllStand qs
        → AllFront (numbers_of qs) b → UsesAscend order b (packages_sites ps marks qs)
    packages-ascend [] b f h o = tt
    packages-ascend (q ∷ qs) b f h o =
        let xs : List (Site At) = files_sites ps marks q.0 q.1 (numbered q.1.files) in
        ascend-both b xs (packages_sites ps marks qs) (files-ascend q.0 q.1 0 q.1.files b h.0 (front-old q.0 (numbers_of qs) b o))
        (packages-ascend qs (onto xs b) (λ i j c. f i j (inr c)) h.1
        (front-next q.0 (numbers_of qs) xs b (λ j i. f q.0 j (inl (refl, i))) (files-of q.0 q.1 (numbered q.1.files)) (front-rest q.0 (numbers_of qs) b o)))

-- ---- a program that reads

module _ (marks : List MarkRef) (st : Standing) (reads : ProgramReads st) where
  file-stands : (k i : ℕ) (f : SourceTree At) → FileAt st.packages k i f
      → (lo : ℕ) × Upto lo (decls_with here_of f.tree.decls)
  file-stands k i f at =
      let r : FileReads st.texts f = reads k i f at in
      front_in r.reads.spells (tokens-stand r.text.text r.text.tokens r.text.comments r.reads.scans)

  files-stand : (k : ℕ) (p : Package At) → slice_get st.packages k ≡ Some p → (n : ℕ) (fs : List (SourceTree At))
      → ((i : ℕ) (f : SourceTree At) → slice_get fs i ≡ Some f → slice_get p.files (n + i) ≡ Some f)
      → FilesStand (dependency_order st.packages) st.packages marks fs
  files-stand k p e n [] g = tt
  files-stand k p e n (f ∷ fs) g = (
    file-stands k n f (record { of = p; package_is = e; file_is = (λ v. slice_get p.files (zero-more v)) ∙ g 0 f refl }),
    files-stand k p e (suc n) fs (λ i x h. (λ v. slice_get p.files (one-more i v)) ∙ g (suc i) x h),
  )
    where
      zero-more : n ≡ n + 0
      zero-more = omega arith

      one-more : (i : ℕ) → suc n + i ≡ n + suc i
      one-more i = omega arith

  all-stand : (qs : List (ℕ × Package At)) → AllListed st.packages qs
      → AllStand (dependency_order st.packages) st.packages marks qs
  all-stand [] h = tt
  all-stand (q ∷ qs) h = (files-stand q.0 q.1 h.0 0 q.1.files (λ i f e. (λ v. slice_get q.1.files (same i v)) ∙ e), all-stand qs h.1)
    where
      same : (i : ℕ) → 0 + i ≡ i
      same i = omega arith

  -- its uses are listed in their order
  pub uses-ascend : UsesAscend (dependency_order st.packages) [] (sites st.packages marks)
  uses-ascend =
      packages-ascend (dependency_order st.packages) st.packages marks (in_dependency_order st.packages) [] (λ i j c. c)
      (all-stand (in_dependency_order st.packages) (order-listed st.packages)) tt
