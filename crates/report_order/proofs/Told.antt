-- Rows that tell what entries do.
use Rattle.std.proofs.Common.{◌≡◌, ◌∙◌, ◌⊎◌, inl, inr, refl, sym, ap, subst, ℕ, zero, suc, ◌+◌, Bool, true, false, nat_eq, if◌then◌else◌, bytes_eq, nat_le, List, [], ◌∷◌, ◌++◌, map, Some, arith, eq-eqb}
use Rattle.std.specs.Prelude.{slice_get}
use Rattle.std.proofs.lemmas.Bool.{true≢false, cond-true, cond-false, eqb-true}
use Rattle.std.proofs.lemmas.Option.{same_Some}
use Rattle.std.proofs.lemmas.Slice.Eq.{bytes_eq-Decides}
use Rattle.pkg_graph.specs.ModuleFiles.Pieces.{comes_before}
use Rattle.run_rules.specs.Report.{Entry, file_of, offset_of, is_not_after, put_entry, arranged}
use Rattle.run_rules.specs.Texts.{FileText}
use Rattle.report_lines.specs.declared.lines.ReportItem.{ReportItem}
use Rattle.report_lines.specs.Lines.{lines_of}
use Rattle.report_lines.specs.Laws.{item_of}
use Rattle.report_order.specs.ReportFiles.Files.{ComesFirst, PathsAscend, IsPathIn, EachEntry, entries_in, lines_by_file}
use Rattle.report_order.specs.ReportFiles.Laws.{all_entries}
use Rattle.report_order.proofs.ReportFiles.Arranged.{each_arranged, in_file, is_itself, others_too}
use Rattle.report_order.proofs.ReportFiles.Lines.{report_by_file}
use Rattle.report_order.specs.declared.rows.ReportRow.{ReportRow}
use Rattle.report_order.specs.declared.text.ReportSource.{ReportSource}
use Rattle.report_order.specs.Order.{put_item, in_order}
use Rattle.report_order.specs.Rows.{items_in, report_from}
use Rattle.report_order.specs.Laws.{RowsTell, AreSources, RowsMakeReport, RowsJoin}

-- ---- entries of one file by their offsets

-- they are told apart by them
by_offset : (e f : Entry) (path : List ℕ) → file_of e ≡ path → file_of f ≡ path → is_not_after e f ≡ nat_le (offset_of e) (offset_of f)
by_offset e f path p q =
    ap (λ (b : Bool). if b then nat_le (offset_of e) (offset_of f) else comes_before (file_of e) (file_of f)) (ap (λ (v : List ℕ). bytes_eq v (file_of f)) (p ∙ sym q) ∙ is_itself (file_of f))

put_same : (path : List ℕ) (e : Entry) (es : List Entry) → file_of e ≡ path → EachEntry (λ f. file_of f ≡ path) es → map item_of (put_entry e es) ≡ put_item (item_of e) (map item_of es)
put_same path e [] p h = refl
put_same path e (f ∷ fs) p h = by (is_not_after e f) (by_offset e f path p h.0) (put_same path e fs p h.1)
  where
    by : (b : Bool) → b ≡ nat_le (offset_of e) (offset_of f) → map item_of (put_entry e fs) ≡ put_item (item_of e) (map item_of fs)
        → map item_of (if b then e ∷ f ∷ fs else f ∷ put_entry e fs) ≡ put_item (item_of e) (item_of f ∷ map item_of fs)
    by true q r = sym (cond-true _ _ _ (sym q))
    by false q r = ap (λ (l : List ReportItem). item_of f ∷ l) r ∙ sym (cond-false _ _ _ (sym q))

order_same : (path : List ℕ) (es : List Entry) → EachEntry (λ f. file_of f ≡ path) es → map item_of (arranged es) ≡ in_order (map item_of es)
order_same path [] h = refl
order_same path (e ∷ es) h =
    put_same path e (arranged es) h.0 (each_arranged (λ f. file_of f ≡ path) es h.1) ∙ ap (put_item (item_of e)) (order_same path es h.1)

-- ---- files by their numbers

not_later : (p : List ℕ) (ps : List (List ℕ)) (b : ℕ) → ComesFirst p ps → slice_get ps b ≡ Some p → ⊥
not_later p [] b h e = cc
not_later p (q ∷ ps) zero h e =
    true≢false (sym (is_itself p) ∙ others_too p p (ap (comes_before p) (sym (same_Some q p e)) ∙ h.0))
not_later p (q ∷ ps) (suc b) h e = not_later p ps b h.1 e

-- a path has one number
one_number : (ps : List (List ℕ)) (a b : ℕ) (p : List ℕ) → PathsAscend ps → slice_get ps a ≡ Some p → slice_get ps b ≡ Some p → a ≡ b
one_number [] a b p h e f = absurd cc
one_number (q ∷ ps) zero zero p h e f = refl
one_number (q ∷ ps) zero (suc b) p h e f = absurd (not_later p ps b (subst (λ (v : List ℕ). ComesFirst v ps) (same_Some q p e) h.0) f)
one_number (q ∷ ps) (suc a) zero p h e f = absurd (not_later p ps a (subst (λ (v : List ℕ). ComesFirst v ps) (same_Some q p f) h.0) e)
one_number (q ∷ ps) (suc a) (suc b) p h e f = ap suc (one_number ps a b p h.1 e f)

is_path : (ps : List (List ℕ)) (a : ℕ) (p : List ℕ) → slice_get ps a ≡ Some p → IsPathIn ps p
is_path [] a p e = absurd cc
is_path (q ∷ ps) zero p e = inl (sym (same_Some q p e))
is_path (q ∷ ps) (suc a) p e = inr (is_path ps a p e)

-- numbers are the same just where paths are
same_test : (ps : List (List ℕ)) (a b : ℕ) (p q : List ℕ) → PathsAscend ps → slice_get ps a ≡ Some p → slice_get ps b ≡ Some q → nat_eq a b ≡ bytes_eq p q
same_test ps a b p q h e f = by (nat_eq a b) refl (bytes_eq p q) refl
  where
    same_number : p ≡ q → nat_eq a b ≡ true
    same_number s = let k : a ≡ b = one_number ps a b q h (e ∙ ap Some s) f in eq-eqb a b k

    same_path : a ≡ b → p ≡ q
    same_path k = same_Some p q (sym e ∙ ap (slice_get ps) k ∙ f)

    by : (x : Bool) → nat_eq a b ≡ x → (y : Bool) → bytes_eq p q ≡ y → x ≡ y
    by true k true s = refl
    by false k false s = refl
    by true k false s = absurd (true≢false (sym ((bytes_eq-Decides p q).1 (same_path (eqb-true a b k))) ∙ s))
    by false k true s = absurd (true≢false (sym (same_number ((bytes_eq-Decides p q).0 s)) ∙ k))

-- ---- rows and entries

module _ (paths : List (List ℕ)) (ascend : PathsAscend paths) where
  paths_known : (rows : List ReportRow) (es : List Entry) → RowsTell paths rows es → EachEntry (λ e. IsPathIn paths (file_of e)) es
  paths_known [] [] h = tt
  paths_known [] (e ∷ es) h = absurd h
  paths_known (r ∷ rs) [] h = absurd h
  paths_known (r ∷ rs) (e ∷ es) h = (is_path paths r.file (file_of e) h.0.there, paths_known rs es h.1)

  items_told : (k : ℕ) (path : List ℕ) → slice_get paths k ≡ Some path → (rows : List ReportRow) (es : List Entry) → RowsTell paths rows es → items_in k rows ≡ map item_of (entries_in path es)
  items_told k path there [] [] h = refl
  items_told k path there [] (e ∷ es) h = absurd h
  items_told k path there (r ∷ rs) [] h = absurd h
  items_told k path there (r ∷ rs) (e ∷ es) h = by (nat_eq r.file k) (bytes_eq (file_of e) path) (same_test paths r.file k (file_of e) path ascend h.0.there there) (items_told k path there rs es h.1)
    where
      by : (a b : Bool) → a ≡ b → items_in k rs ≡ map item_of (entries_in path es) → (if a then r.item ∷ items_in k rs else items_in k rs) ≡ map item_of (if b then e ∷ entries_in path es else entries_in path es)
      by true true q i = λ w. h.0.item_is w ∷ i w
      by false false q i = i
      by true false q i = absurd (true≢false q)
      by false true q i = absurd (true≢false (sym q))

-- ---- the lines

-- files from the k-th on
lines_told : (items : ℕ → List ReportItem) (es : List Entry) (k : ℕ) (fs : List ReportSource) (ts : List (List ℕ × FileText)) → AreSources fs ts
    → ((i n : ℕ) (path : List ℕ) → slice_get (map (λ t. t.0) ts) i ≡ Some path → n ≡ k + i → items n ≡ map item_of (entries_in path es))
    → report_from k fs items ≡ lines_by_file ts es
lines_told items es k [] [] h f = refl
lines_told items es k [] (t ∷ ts) h f = absurd h
lines_told items es k (x ∷ fs) [] h f = absurd h
lines_told items es k (x ∷ fs) (t ∷ ts) h f =
    λ w. lines_of (h.0 w) (h.1 w) (here w) ++ lines_told items es (suc k) fs ts h.2 (λ i n path e m. f (suc i) n path e (omega (arith, m))) w
  where
    here : in_order (items k) ≡ map item_of (arranged (entries_in t.0 es))
    here = ap in_order (f 0 k t.0 refl (omega arith)) ∙ sym (order_same t.0 (entries_in t.0 es) (in_file t.0 es))

pub rows_make_report : RowsMakeReport
rows_make_report texts log kept bad fs rows ascend sources tell =
    lines_told (λ k. items_in k rows) (all_entries log kept bad) 0 fs texts sources
    (λ i n path e m. let same : n ≡ i = omega (arith, m) in items_told (map (λ t. t.0) texts) ascend n path (ap (slice_get (map (λ t. t.0) texts)) same ∙ e) rows (all_entries log kept bad) tell)
    ∙ sym (report_by_file texts log kept bad ascend (paths_known (map (λ t. t.0) texts) ascend rows (all_entries log kept bad) tell))

pub rows_join : RowsJoin
rows_join paths [] others [] fs h k = k
rows_join paths [] others (e ∷ es) fs h k = absurd h
rows_join paths (r ∷ rs) others [] fs h k = absurd h
rows_join paths (r ∷ rs) others (e ∷ es) fs h k = (h.0, rows_join paths rs others es fs h.1 k)
