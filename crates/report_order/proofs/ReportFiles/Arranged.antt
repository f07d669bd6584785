-- Entries by path and offset are those of one file after the other.
use Rattle.std.proofs.Common.{◌≡◌, ◌∙◌, inl, inr, refl, sym, ap, subst, ℕ, ◌≤◌, Bool, true, false, if◌then◌else◌, bytes_eq, nat_eq, nat_lt, List, [], ◌∷◌, ◌++◌, map, arith}
use Rattle.std.specs.Prelude.{nat_le}
use Rattle.std.proofs.lemmas.Slice.Eq.{bytes_eq-Decides}
use Rattle.pkg_graph.specs.ModuleFiles.Pieces.{comes_before}
use Rattle.run_rules.specs.Report.{Entry, file_of, offset_of, is_not_after, put_entry, arranged}
use Rattle.report_lines.specs.Lines.{StandInOrder}
use Rattle.report_lines.specs.Laws.{item_of}
use Rattle.report_order.specs.ReportFiles.Files.{ComesFirst, PathsAscend, IsPathIn, EachEntry, entries_in, by_files, LiesWithin}
use Rattle.report_order.specs.ReportFiles.Laws.{EntriesAreByFile, FilesHaveTheirItems}

-- ---- paths

comes_one_way : (a b : List ℕ) → comes_before a b ≡ true → comes_before b a ≡ false
comes_one_way a [] e = absurd cc
comes_one_way [] (y ∷ ys) e = refl
comes_one_way (x ∷ xs) (y ∷ ys) e = by (nat_eq x y) refl (nat_eq y x) refl (λ q. comes_one_way xs ys q) e
  where
    by : (b : Bool) → nat_eq x y ≡ b → (c : Bool) → nat_eq y x ≡ c → (comes_before xs ys ≡ true → comes_before ys xs ≡ false) → (if b then comes_before xs ys else nat_lt x y) ≡ true
        → (if c then comes_before ys xs else nat_lt y x) ≡ false
    by true p true q rest e = rest e
    by true p false q rest e = absurd (grind (arith, p, q))
    by false p true q rest e = absurd (grind (arith, p, q))
    by false p false q rest e = grind (arith, p, q, e)

clash : {X : Type 0} (b : Bool) → b ≡ true → b ≡ false → X
clash b p q = absurd cc

same_path : (a b : List ℕ) → bytes_eq a b ≡ true → a ≡ b
same_path a b h = (bytes_eq-Decides a b).0 h

-- a path is itself
pub is_itself : (a : List ℕ) → bytes_eq a a ≡ true
is_itself a = (bytes_eq-Decides a a).1 refl

-- one that comes before another is another
others : (a b : List ℕ) → comes_before a b ≡ true → bytes_eq a b ≡ false
others a b h = by (bytes_eq a b) refl
  where
    by : (c : Bool) → bytes_eq a b ≡ c → c ≡ false
    by true e = clash (comes_before a b) h (sym (ap (λ (v : List ℕ). comes_before a v) (same_path a b e)) ∙ comes_one_way a a (ap (λ (v : List ℕ). comes_before a v) (same_path a b e) ∙ h))
    by false e = refl

pub others_too : (a b : List ℕ) → comes_before a b ≡ true → bytes_eq b a ≡ false
others_too a b h = by (bytes_eq b a) refl
  where
    by : (c : Bool) → bytes_eq b a ≡ c → c ≡ false
    by true e = clash (bytes_eq a b) (subst (λ (v : List ℕ). bytes_eq v b ≡ true) (same_path b a e) (is_itself b)) (others a b h)
    by false e = refl

-- ---- lists of entries

module _ (P : Entry → Type 0) where
  each_put : (e : Entry) (es : List Entry) → P e → EachEntry P es → EachEntry P (put_entry e es)
  each_put e [] p h = (p, tt)
  each_put e (f ∷ fs) p h = by (is_not_after e f) (each_put e fs p h.1)
    where
      by : (b : Bool) → EachEntry P (put_entry e fs) → EachEntry P (if b then e ∷ f ∷ fs else f ∷ put_entry e fs)
      by true r = (p, h)
      by false r = (h.0, r)

  pub each_arranged : (es : List Entry) → EachEntry P es → EachEntry P (arranged es)
  each_arranged [] h = tt
  each_arranged (e ∷ es) h = each_put e (arranged es) h.0 (each_arranged es h.1)

  each_both : (xs ys : List Entry) → EachEntry P xs → EachEntry P ys → EachEntry P (xs ++ ys)
  each_both [] ys h k = k
  each_both (x ∷ xs) ys h k = (h.0, each_both xs ys h.1 k)

module _ (P Q : Entry → Type 0) (f : (e : Entry) → P e → Q e) where
  each_so : (es : List Entry) → EachEntry P es → EachEntry Q es
  each_so [] h = tt
  each_so (e ∷ es) h = (f e h.0, each_so es h.1)

-- the entries of a file are of that file
pub in_file : (path : List ℕ) (es : List Entry) → EachEntry (λ e. file_of e ≡ path) (entries_in path es)
in_file path [] = tt
in_file path (e ∷ es) = by (bytes_eq (file_of e) path) refl (in_file path es)
  where
    by : (b : Bool) → bytes_eq (file_of e) path ≡ b → EachEntry (λ e. file_of e ≡ path) (entries_in path es) → EachEntry (λ e. file_of e ≡ path) (if b then e ∷ entries_in path es else entries_in path es)
    by true q r = (same_path (file_of e) path q, r)
    by false q r = r

in_block : (path : List ℕ) (es : List Entry) → EachEntry (λ e. file_of e ≡ path) (arranged (entries_in path es))
in_block path es = each_arranged (λ e. file_of e ≡ path) (entries_in path es) (in_file path es)

-- ---- an entry among files

-- all that come behind a path
behind_all : (p : List ℕ) (paths : List (List ℕ)) (es : List Entry) → ComesFirst p paths → EachEntry (λ e. comes_before p (file_of e) ≡ true) (by_files paths es)
behind_all p [] es h = tt
behind_all p (q ∷ qs) es h =
    each_both (λ e. comes_before p (file_of e) ≡ true) (arranged (entries_in q es)) (by_files qs es)
    (each_so (λ e. file_of e ≡ q) (λ e. comes_before p (file_of e) ≡ true) (λ e k. ap (comes_before p) k ∙ h.0) (arranged (entries_in q es)) (in_block q es))
    (behind_all p qs es h.1)

-- put before what comes behind it
put_before : (e : Entry) (xs ys : List Entry) → EachEntry (λ f. is_not_after e f ≡ true) ys → put_entry e (xs ++ ys) ≡ put_entry e xs ++ ys
put_before e [] [] h = refl
put_before e [] (y ∷ ys) h = ap (λ (b : Bool). if b then e ∷ y ∷ ys else y ∷ put_entry e ys) h.0
put_before e (x ∷ xs) ys h = by (is_not_after e x) (put_before e xs ys h)
  where
    by : (b : Bool) → put_entry e (xs ++ ys) ≡ put_entry e xs ++ ys → (if b then e ∷ x ∷ (xs ++ ys) else x ∷ put_entry e (xs ++ ys)) ≡ (if b then e ∷ x ∷ xs else x ∷ put_entry e xs) ++ ys
    by true r = refl
    by false r = λ w. x ∷ r w

-- put behind what comes before it
put_behind : (e : Entry) (xs ys : List Entry) → EachEntry (λ f. is_not_after e f ≡ false) xs → put_entry e (xs ++ ys) ≡ xs ++ put_entry e ys
put_behind e [] ys h = refl
put_behind e (x ∷ xs) ys h = ap (λ (b : Bool). if b then e ∷ x ∷ (xs ++ ys) else x ∷ put_entry e (xs ++ ys)) h.0 ∙ (λ w. x ∷ put_behind e xs ys h.1 w)

comes_so : (e f : Entry) → comes_before (file_of e) (file_of f) ≡ true → is_not_after e f ≡ true
comes_so e f h = ap (λ (b : Bool). if b then nat_le (offset_of e) (offset_of f) else comes_before (file_of e) (file_of f)) (others (file_of e) (file_of f) h) ∙ h

comes_after : (e f : Entry) → comes_before (file_of f) (file_of e) ≡ true → is_not_after e f ≡ false
comes_after e f h =
    ap (λ (b : Bool). if b then nat_le (offset_of e) (offset_of f) else comes_before (file_of e) (file_of f)) (others_too (file_of f) (file_of e) h) ∙ comes_one_way (file_of f) (file_of e) h

-- a file's entries without one of another file
not_in : (p : List ℕ) (e : Entry) (es : List Entry) → bytes_eq (file_of e) p ≡ false → entries_in p (e ∷ es) ≡ entries_in p es
not_in p e es h = ap (λ (b : Bool). if b then e ∷ entries_in p es else entries_in p es) h

is_in : (p : List ℕ) (e : Entry) (es : List Entry) → bytes_eq (file_of e) p ≡ true → entries_in p (e ∷ es) ≡ e ∷ entries_in p es
is_in p e es h = ap (λ (b : Bool). if b then e ∷ entries_in p es else entries_in p es) h

none_in : (e : Entry) (paths : List (List ℕ)) (es : List Entry) → ComesFirst (file_of e) paths → by_files paths (e ∷ es) ≡ by_files paths es
none_in e [] es h = refl
none_in e (q ∷ qs) es h = λ w. arranged (not_in q e es (others (file_of e) q h.0) w) ++ none_in e qs es h.1 w

-- one of the paths comes behind
among_first : (p f : List ℕ) (paths : List (List ℕ)) → ComesFirst p paths → IsPathIn paths f → comes_before p f ≡ true
among_first p f [] h k = absurd k
among_first p f (q ∷ qs) h (inl k) = ap (comes_before p) k ∙ h.0
among_first p f (q ∷ qs) h (inr k) = among_first p f qs h.1 k

put_among : (e : Entry) (paths : List (List ℕ)) (es : List Entry) → PathsAscend paths → IsPathIn paths (file_of e) → put_entry e (by_files paths es) ≡ by_files paths (e ∷ es)
put_among e [] es h k = absurd k
put_among e (p ∷ ps) es h (inl k) =
    let first : ComesFirst (file_of e) ps = subst (λ (v : List ℕ). ComesFirst v ps) (sym k) h.0 in
    put_before e (arranged (entries_in p es)) (by_files ps es)
    (each_so (λ f. comes_before (file_of e) (file_of f) ≡ true) (λ f. is_not_after e f ≡ true) (λ f q. comes_so e f q) (by_files ps es) (behind_all (file_of e) ps es first))
    ∙ (λ w. arranged (sym (is_in p e es (ap (λ (v : List ℕ). bytes_eq v p) k ∙ is_itself p)) w) ++ sym (none_in e ps es first) w)
put_among e (p ∷ ps) es h (inr k) =
    let after : comes_before p (file_of e) ≡ true = among_first p (file_of e) ps h.0 k in
    put_behind e (arranged (entries_in p es)) (by_files ps es)
    (each_so (λ f. file_of f ≡ p) (λ f. is_not_after e f ≡ false) (λ f q. comes_after e f (ap (λ (v : List ℕ). comes_before v (file_of e)) q ∙ after)) (arranged (entries_in p es)) (in_block p es))
    ∙ (λ w. arranged (sym (not_in p e es (others_too p (file_of e) after)) w) ++ put_among e ps es h.1 k w)

no_entries : (paths : List (List ℕ)) → by_files paths [] ≡ []
no_entries [] = refl
no_entries (p ∷ ps) = no_entries ps

pub entries_by_file : EntriesAreByFile
entries_by_file paths [] h k = sym (no_entries paths)
entries_by_file paths (e ∷ es) h k = ap (put_entry e) (entries_by_file paths es h k.1) ∙ put_among e paths es h k.0

-- ---- the items of one file stand in order

abbrev Ordered : ℕ → ℕ → List Entry → Type 0
Ordered from size es = StandInOrder from size (map item_of es)

-- entries of one file are told apart by their offsets
by_offset : (e f : Entry) (path : List ℕ) → file_of e ≡ path → file_of f ≡ path → is_not_after e f ≡ nat_le (offset_of e) (offset_of f)
by_offset e f path p q =
    ap (λ (b : Bool). if b then nat_le (offset_of e) (offset_of f) else comes_before (file_of e) (file_of f)) (ap (λ (v : List ℕ). bytes_eq v (file_of f)) (p ∙ sym q) ∙ is_itself (file_of f))

put_ordered : (path : List ℕ) (size from : ℕ) (e : Entry) (es : List Entry) → file_of e ≡ path → EachEntry (λ f. file_of f ≡ path) es → from ≤ offset_of e → offset_of e ≤ size → Ordered from size es → Ordered from size (put_entry e es)
put_ordered path size from e [] p h low high o = (low, high, tt)
put_ordered path size from e (f ∷ fs) p h low high o = by (is_not_after e f) (by_offset e f path p h.0) (λ l. put_ordered path size (offset_of f) e fs p h.1 l high o.2)
  where
    by : (b : Bool) → b ≡ nat_le (offset_of e) (offset_of f) → (offset_of f ≤ offset_of e → Ordered (offset_of f) size (put_entry e fs)) → Ordered from size (if b then e ∷ f ∷ fs else f ∷ put_entry e fs)
    by true q r = (low, high, (grind (arith, q), o.1, o.2))
    by false q r = (o.0, o.1, r (grind (arith, q)))

ordered : (path : List ℕ) (size : ℕ) (es : List Entry) → EachEntry (λ f. file_of f ≡ path) es → EachEntry (LiesWithin size) es → Ordered 0 size (arranged es)
ordered path size [] h k = tt
ordered path size (e ∷ es) h k =
    put_ordered path size 0 e (arranged es) h.0 (each_arranged (λ f. file_of f ≡ path) es h.1) (omega arith) k.0 (ordered path size es h.1 k.1)

pub items_ordered : FilesHaveTheirItems
items_ordered path size es h = ordered path size (entries_in path es) (in_file path es) h
