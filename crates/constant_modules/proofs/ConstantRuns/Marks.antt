-- What holds of each mark to whose numbers a good mark of a file leads holds of each mark of a module as read.
use Rattle.std.proofs.Common.{◌≡◌, ◌+◌, refl, sym, subst, ℕ, suc, Bool, true, false, ◌||◌, if◌then◌else◌, List, [], ◌∷◌, ◌++◌, filter, Option, Some, None, arith}
use Rattle.std.specs.Prelude.{nat_eq, slice_get}
use Rattle.std.specs.List.{starts_with}
use Rattle.go_tree.specs.declared.spans.Span.{Span}
use Rattle.directive_scan.specs.Marked.{good_marks}
use Rattle.pkg_graph.specs.Package.{SourceTree, Package}
use Rattle.pkg_graph.specs.Members.{names_of_file}
use Rattle.run_rules.specs.Marks.{text_at, marks_by_number, file_marks, files_marks, packages_marks, marked_name, home_path, full_name, marks_of}
use Rattle.run_rules.specs.Programs.{numbered, numbered_from}
use Rattle.run_rules.specs.Sites.{MarkRef, same_mark, is_among_marks}
use Rattle.run_rules.specs.Texts.{FileText}
use Rattle.printed_constants.proofs.TypedParts.MarkedRuns.NamedMarks.ReadMarks.{same_mark_so}

-- ---- items with their numbers

abbrev AreNumbered : {A : Type 0} → List A → List (ℕ × A) → Type 0
AreNumbered all [] = Unit {0}
AreNumbered all (q ∷ qs) = (slice_get all q.0 ≡ Some q.1) × AreNumbered all qs

numbered_so : {A : Type 0} (all : List A) (k : ℕ) (xs : List A) → ((i n : ℕ) (x : A) → slice_get xs i ≡ Some x → n ≡ k + i → slice_get all n ≡ Some x) → AreNumbered all (numbered_from k xs)
numbered_so all k [] f = tt
numbered_so all k (x ∷ xs) f = (f 0 k x refl (omega arith), numbered_so all (suc k) xs (λ i n y e m. f (suc i) n y e (omega (arith, m))))

all_numbered : {A : Type 0} (xs : List A) → AreNumbered xs (numbered xs)
all_numbered {A = A} xs = numbered_so xs 0 xs (λ i n x e m. subst (λ (j : ℕ). slice_get xs j ≡ Some x) (sym (omega (arith, m))) e)

-- ---- all of a list

pub data EachIs (P : MarkRef → Type 0) : List MarkRef → Type 0 where
  no_more : EachIs P []
  one_more : (m : MarkRef) (ms : List MarkRef) → P m → EachIs P ms → EachIs P (m ∷ ms)

module _ (P : MarkRef → Type 0) where
  pub both_are : {ms ns : List MarkRef} → EachIs P ms → EachIs P ns → EachIs P (ms ++ ns)
  both_are no_more k = k
  both_are (one_more m ms h i) k = one_more m (ms ++ _) h (both_are i k)

  kept : (f : MarkRef → Bool) {ms : List MarkRef} → EachIs P ms → EachIs P (filter f ms)
  kept f no_more = no_more
  kept f (one_more m ms h i) = by (f m) (kept f i)
    where
      by : (b : Bool) → EachIs P (filter f ms) → EachIs P (if b then m ∷ filter f ms else filter f ms)
      by true k = one_more m (filter f ms) h k
      by false k = k

  among : {ms : List MarkRef} (m : MarkRef) → EachIs P ms → is_among_marks ms m ≡ true → P m
  among m no_more e = absurd cc
  among m (one_more x ms h i) e = by (same_mark m x) refl e (λ g. among m i g)
    where
      by : (b : Bool) → same_mark m x ≡ b → (b || is_among_marks ms m) ≡ true → (is_among_marks ms m ≡ true → P m) → P m
      by true q g r = subst (λ (y : MarkRef). P y) (sym (same_mark_so m x q)) h
      by false q g r = r g

-- ---- a module

module _ (P : MarkRef → Type 0) (ps : List (Package Span)) (texts : List (List ℕ × FileText))
    (each : (k f : ℕ) (p : Package Span) (g : SourceTree Span) (t : FileText) → slice_get ps k ≡ Some p → slice_get p.files f ≡ Some g → text_at g.path texts ≡ Some t → EachIs P (marks_by_number k f g.tree (good_marks t.text t.tokens t.comments (names_of_file ps p g.tree) g.tree))) where
  one_file : (k f : ℕ) (p : Package Span) (g : SourceTree Span) → slice_get ps k ≡ Some p → slice_get p.files f ≡ Some g → EachIs P (file_marks ps texts k p (f, g))
  one_file k f p g pe ge = by (text_at g.path texts) refl
    where
      by : (o : Option FileText) → text_at g.path texts ≡ o
          → EachIs P (elim o [ None ↦ [] | Some t ↦ marks_by_number k f g.tree (good_marks t.text t.tokens t.comments (names_of_file ps p g.tree) g.tree) ])
      by None e = no_more
      by (Some t) e = each k f p g t pe ge e

  all_files : (k : ℕ) (p : Package Span) → slice_get ps k ≡ Some p → (fs : List (ℕ × SourceTree Span)) → AreNumbered p.files fs → EachIs P (files_marks ps texts k p fs)
  all_files k p pe [] h = no_more
  all_files k p pe (f ∷ fs) h = both_are P (one_file k f.0 p f.1 pe h.0) (all_files k p pe fs h.1)

  all_packages : (qs : List (ℕ × Package Span)) → AreNumbered ps qs → EachIs P (packages_marks ps texts qs)
  all_packages [] h = no_more
  all_packages (q ∷ qs) h = both_are P (all_files q.0 q.1 h.0 (numbered q.1.files) (all_numbered q.1.files)) (all_packages qs h.1)

  pub each_mark : (only : List ℕ) (m : MarkRef) → is_among_marks (marks_of ps texts only) m ≡ true → P m
  each_mark only m e = among P {ms = marks_of ps texts only} m (kept P (λ x. starts_with nat_eq (full_name (home_path ps x) (marked_name ps x)) only) (all_packages (numbered ps) (all_numbered ps))) e
