-- Places of uses are told once file by file, since no two files have a place in common.
use Rattle.std.proofs.Common.{◌≡◌, ◌∙◌, ◌⊎◌, inl, inr, refl, sym, ap, subst, ℕ, suc, ◌<◌, Bool, true, false, ◌&&◌, ◌||◌, if◌then◌else◌, nat_eq, eq-eqb, List, [], ◌∷◌, ◌++◌, arith}
use Rattle.std.specs.List.{list_any}
use Rattle.std.proofs.lemmas.Bool.{eqb-true}
use Rattle.go_tree.specs.declared.spans.Span.{Span}
use Rattle.run_rules.specs.ImportRules.Removed.{same_span}
use Rattle.repeated_parts.specs.UseSearch.UsesOfMarks.Laws.{EachSite}
use Rattle.pkg_graph.specs.Package.{SourceTree, Package}
use Rattle.run_rules.specs.Programs.{numbered, numbered_from, in_dependency_order}
use Rattle.run_rules.specs.Run.{Standing, same_place, places_once}
use Rattle.run_rules.specs.Sites.{MarkRef, Where, Site, part_span}
use Rattle.run_rules.specs.Steps.{At, same_here}
use Rattle.stepped_programs.specs.SearchedSites.Searched.{sites_in_file, sites_in_files, files_there, packages_files, files_in_order}
use Rattle.stepped_programs.specs.SearchedSites.KeptPlaces.Once.{span_of, sites_once}
use Rattle.stepped_programs.proofs.SearchedSites.KeptPlaces.SitesAt.{decls_at}
use Rattle.stepped_programs.proofs.SearchedSites.KeptPlaces.Order.{is_old, old_more, old_last, AllNew, order_new}

each_more : (P Q : Site At → Type 0) → ((x : Site At) → P x → Q x) → (xs : List (Site At)) → EachSite P xs → EachSite Q xs
each_more P Q f [] h = tt
each_more P Q f (x ∷ xs) h = (f x h.0, each_more P Q f xs h.1)

module _ (marks : List MarkRef) where
  -- ---- two places

  in_one_file : (y x : Site At) → y.at ≡ x.at → same_place marks y x ≡ same_span (span_of y) (span_of x)
  in_one_file y x e =
      (λ i. nat_eq (e i).number x.at.number && (nat_eq (e i).file_number x.at.file_number && same_here (part_span y.part) (part_span x.part)))
      ∙ (λ i. eq-eqb x.at.number x.at.number refl i && (eq-eqb x.at.file_number x.at.file_number refl i && same_here (part_span y.part) (part_span x.part)))

  -- in different files
  in_two_files : (y x : Site At) → (y.at.number ≡ x.at.number → y.at.file_number ≡ x.at.file_number → ⊥) → same_place marks y x ≡ false
  in_two_files y x differ = by (nat_eq y.at.number x.at.number) (nat_eq y.at.file_number x.at.file_number) refl refl
    where
      by : (b c : Bool) → nat_eq y.at.number x.at.number ≡ b → nat_eq y.at.file_number x.at.file_number ≡ c → (b && (c && same_here (part_span y.part) (part_span x.part))) ≡ false
      by true true e f = absurd (differ (eqb-true y.at.number x.at.number e) (eqb-true y.at.file_number x.at.file_number f))
      by true false e f = refl
      by false c e f = refl

  -- ---- the sites of a file, behind others

  -- those that stand before the ones behind them
  abbrev passed : List (Site At) → List Span → List (Site At) → List (Site At)
  passed before own [] = before
  passed before own (x ∷ xs) = if list_any (same_span (span_of x)) own then passed before own xs else passed (x ∷ before) (span_of x ∷ own) xs

  passed_each : (P : Site At → Type 0) (before : List (Site At)) (own : List Span) (xs : List (Site At)) → EachSite P before → EachSite P xs → EachSite P (passed before own xs)
  passed_each P before own [] h k = h
  passed_each P before own (x ∷ xs) h k =
      by (list_any (same_span (span_of x)) own) (passed_each P before own xs h k.1) (passed_each P (x ∷ before) (span_of x ∷ own) xs (k.0, h) k.1)
    where
      by : (b : Bool) → EachSite P (passed before own xs) → EachSite P (passed (x ∷ before) (span_of x ∷ own) xs) → EachSite P (if b then passed before own xs else passed (x ∷ before) (span_of x ∷ own) xs)
      by true g f = g
      by false g f = f

  module _ (w : Where At) where
    -- in this file the places are those with these spans
    abbrev Agrees : List (Site At) → List Span → Type 0
    Agrees before own = (x : Site At) → x.at ≡ w → list_any (same_place marks x) before ≡ list_any (same_span (span_of x)) own

    abbrev IsElsewhere : Site At → Type 0
    IsElsewhere b = w.number ≡ b.at.number → w.file_number ≡ b.at.file_number → ⊥

    none_here : (before : List (Site At)) → EachSite IsElsewhere before → Agrees before []
    none_here [] h x e = refl
    none_here (b ∷ before) h x e =
        (λ i. in_two_files x b (λ p q. h.0 (ap (λ (v : Where At). v.number) (sym e) ∙ p) (ap (λ (v : Where At). v.file_number) (sym e) ∙ q)) i || none_here before h.1 x e i)

    more_here : (before : List (Site At)) (own : List Span) (x : Site At) → x.at ≡ w → Agrees before own → Agrees (x ∷ before) (span_of x ∷ own)
    more_here before own x e a = λ y f i. in_one_file y x (f ∙ sym e) i || a y f i

    one_file : (xs before : List (Site At)) (own : List Span) → Agrees before own → EachSite (λ x. x.at ≡ w) xs → (ys : List (Site At))
        → places_once marks before (xs ++ ys) ≡ sites_once own xs ++ places_once marks (passed before own xs) ys
    one_file [] before own a h ys = refl
    one_file (x ∷ xs) before own a h ys =
        ap (λ (b : Bool). if b then places_once marks before (xs ++ ys) else x ∷ places_once marks (x ∷ before) (xs ++ ys)) (a x h.0)
        ∙ by (list_any (same_span (span_of x)) own) (one_file xs before own a h.1 ys) (one_file xs (x ∷ before) (span_of x ∷ own) (more_here before own x h.0 a) h.1 ys)
      where
        by : (b : Bool) → places_once marks before (xs ++ ys) ≡ sites_once own xs ++ places_once marks (passed before own xs) ys
            → places_once marks (x ∷ before) (xs ++ ys) ≡ sites_once (span_of x ∷ own) xs ++ places_once marks (passed (x ∷ before) (span_of x ∷ own) xs) ys
            → (if b then places_once marks before (xs ++ ys) else x ∷ places_once marks (x ∷ before) (xs ++ ys))
            ≡ (if b then sites_once own xs else x ∷ sites_once (span_of x ∷ own) xs)
            ++ places_once marks (if b then passed before own xs else passed (x ∷ before) (span_of x ∷ own) xs) ys
        by true g f = g
        by false g f = ap (λ (zs : List (Site At)). x ∷ zs) f

-- ---- files in their order

module _ (marks : List MarkRef) (st : Standing) where
  -- the sites of files, each place once
  abbrev pub once_in_files : List (Where At) → List (Site At)
  once_in_files [] = []
  once_in_files (w ∷ ws) = sites_once [] (sites_in_file marks st w) ++ once_in_files ws

  -- it stands in a package that is placed
  abbrev IsOld : List ℕ → Site At → Type 0
  IsOld placed b = is_old placed b.at.number ≡ true

  -- or in one of the first files of this package
  abbrev IsBefore : List ℕ → ℕ → ℕ → Site At → Type 0
  IsBefore placed k j b = (is_old placed b.at.number ≡ true) ⊎ ((b.at.number ≡ k) × (b.at.file_number < j))

  clash : (b : Bool) → b ≡ true → b ≡ false → ⊥
  clash b e f = cc

  elsewhere : (placed : List ℕ) (w : Where At) → is_old placed w.number ≡ false → (b : Site At) → IsBefore placed w.number w.file_number b → IsElsewhere marks w b
  elsewhere placed w new b (inl old) = λ p q. clash (is_old placed b.at.number) old (ap (is_old placed) (sym p) ∙ new)
  elsewhere placed w new b (inr h) = λ p q. omega (arith, h.1, q)

  next_before : (placed : List ℕ) (k j : ℕ) (b : Site At) → IsBefore placed k j b → IsBefore placed k (suc j) b
  next_before placed k j b (inl old) = inl old
  next_before placed k j b (inr h) = inr (h.0, omega (arith, h.1))

  all_old : (placed : List ℕ) (k j : ℕ) (b : Site At) → IsBefore placed k j b → IsOld (placed ++ k ∷ []) b
  all_old placed k j b (inl old) = old_more placed k b.at.number old
  all_old placed k j b (inr h) = ap (is_old (placed ++ k ∷ [])) h.0 ∙ old_last placed k

  in_package : (k : ℕ) (p : Package At) (placed : List ℕ) → is_old placed k ≡ false → (j : ℕ) (fs : List (SourceTree At)) (before : List (Site At)) → EachSite (IsBefore placed k j) before → (rest : List (Where At))
      → ((old : List (Site At)) → EachSite (IsOld (placed ++ k ∷ [])) old → places_once marks old (sites_in_files marks st rest) ≡ once_in_files rest)
      → places_once marks before (sites_in_files marks st (files_there k p (numbered_from j fs) ++ rest)) ≡ once_in_files (files_there k p (numbered_from j fs) ++ rest)
  in_package k p placed new j [] before h rest go = go before (each_more (IsBefore placed k j) (IsOld (placed ++ k ∷ [])) (all_old placed k j) before h)
  in_package k p placed new j (f ∷ fs) before h rest go =
      let w : Where At = record { number = k; of = p; file_number = j; source = f } in
      let own : List (Site At) = sites_in_file marks st w in
      let at : EachSite (λ x. x.at ≡ w) own = decls_at st.packages marks w (numbered f.tree.decls) in
      let now : (x : Site At) → x.at ≡ w → IsBefore placed k (suc j) x =
      λ x e. inr (ap (λ (v : Where At). v.number) e, subst (λ (i : ℕ). i < suc j) (sym (ap (λ (v : Where At). v.file_number) e)) (omega arith)) in
      one_file marks w own before [] (none_here marks w before (each_more (IsBefore placed k j) (IsElsewhere marks w) (elsewhere placed w new) before h)) at
      (sites_in_files marks st (files_there k p (numbered_from (suc j) fs) ++ rest))
      ∙ ap (λ (ys : List (Site At)). sites_once [] own ++ ys)
      (in_package k p placed new (suc j) fs (passed marks before [] own)
      (passed_each marks (IsBefore placed k (suc j)) before [] own (each_more (IsBefore placed k j) (IsBefore placed k (suc j)) (next_before placed k j) before h)
      (each_more (λ x. x.at ≡ w) (IsBefore placed k (suc j)) now own at)) rest go)

  in_packages : (qs : List (ℕ × Package At)) (placed : List ℕ) (before : List (Site At)) → AllNew placed qs → EachSite (IsOld placed) before
      → places_once marks before (sites_in_files marks st (packages_files qs)) ≡ once_in_files (packages_files qs)
  in_packages [] placed before n h = refl
  in_packages (q ∷ qs) placed before n h =
      in_package q.0 q.1 placed n.0 0 q.1.files before (each_more (IsOld placed) (IsBefore placed q.0 0) (λ b old. inl old) before h) (packages_files qs)
      (λ old k. in_packages qs (placed ++ q.0 ∷ []) old n.1 k)

  pub each_once : places_once marks [] (sites_in_files marks st (files_in_order st.packages)) ≡ once_in_files (files_in_order st.packages)
  each_once = in_packages (in_dependency_order st.packages) [] [] (order_new st.packages) tt
