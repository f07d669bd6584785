-- Each program of a run reads from its texts as it stands, so the edits of each step stand apart.
use Rattle.std.proofs.Common.{◌≡◌, ◌≢◌, ◌⊎◌, inl, inr, ℕ, zero, suc, Bool, true, false, List, [], ◌∷◌, map, Some, if◌then◌else◌, refl, sym, ap, subst, ◌∙◌, bytes_eq}
use Rattle.std.proofs.lemmas.Option.{same_Some}
use Rattle.std.specs.Prelude.{slice_get}
use Rattle.go_tree.specs.declared.spans.Span.{Span}
use Rattle.go_tree.specs.File.{File}
use Rattle.pkg_graph.specs.Package.{SourceTree, Package}
use Rattle.run_rules.specs.Marks.{text_at}
use Rattle.run_rules.specs.Sites.{MarkRef}
use Rattle.run_rules.specs.Texts.{FileText}
use Rattle.run_rules.specs.Respanned.{source_with, package_with, packages_with}
use Rattle.run_rules.specs.Steps.{At, same_here, change_nth}
use Rattle.run_rules.specs.Laws.{file_found}
use Rattle.run_rules.specs.Run.{Standing, Logged, here_of, as_read, is_commented, with_text, Next, Run, ends, goes_on}
use Rattle.run_rules.specs.Inlining.{ReadsAs, standing_as_read}
use Rattle.splice_laws.specs.RunLaws.Reading.{FileReads, FileAt, ProgramReads, OnePathEach}
use Rattle.splice_laws.specs.RunLaws.Laws.{ReadModulesRead, StepsKeepReading, AllApart, RunEditsStandApart}
use Rattle.splice_laws.proofs.RunLaws.Reread.{file-reread}
use Rattle.splice_laws.proofs.RunLaws.PathsOwn.{same_path, HasText, its_text, paths_own}
use Rattle.splice_laws.proofs.RunLaws.FoundSpans.{Placed, FoundIn, found_in}
use Rattle.splice_laws.proofs.RunLaws.StepsApart.{edits_apart}

-- ---- texts by their paths

pub texts_new : (path : List ℕ) (old new : FileText) (ts : List (List ℕ × FileText)) → text_at path ts ≡ Some old → text_at path (with_text path new ts) ≡ Some new
texts_new path old new [] h = absurd cc
texts_new path old new (t ∷ ts) h = by (bytes_eq path t.0) refl h (texts_new path old new ts)
  where
    by : (b : Bool) → bytes_eq path t.0 ≡ b → (if b then Some t.1 else text_at path ts) ≡ Some old → (text_at path ts ≡ Some old → text_at path (with_text path new ts) ≡ Some new)
        → text_at path ((if b then (t.0, new) else t) ∷ with_text path new ts) ≡ Some new
    by true e h f = rw e refl
    by false e h f = rw e (f h)

pub texts_other : (path other : List ℕ) (new : FileText) (ts : List (List ℕ × FileText)) → path ≢ other → text_at other (with_text path new ts) ≡ text_at other ts
texts_other path other new [] no_one = refl
texts_other path other new (t ∷ ts) differ = by (bytes_eq path t.0) (bytes_eq other t.0) refl refl (texts_other path other new ts differ)
  where
    by : (b c : Bool) → bytes_eq path t.0 ≡ b → bytes_eq other t.0 ≡ c → text_at other (with_text path new ts) ≡ text_at other ts
        → text_at other ((if b then (t.0, new) else t) ∷ with_text path new ts) ≡ (if c then Some t.1 else text_at other ts)
    by true true e f ih = absurd (differ (same_path path t.0 e ∙ sym (same_path other t.0 f)))
    by true false e f ih = rw f ih
    by false true e f ih = rw f refl
    by false false e f ih = rw f ih

-- ---- a list with an entry changed

module _ {A : Type 0} (g : A → A) where
  -- the entry that was there
  record Before (xs : List A) (n k : ℕ) (y : A) : Type 0 where
    old : A
    there : slice_get xs k ≡ Some old
    which : ((k ≡ n) × (y ≡ g old)) ⊎ ((k ≢ n) × (y ≡ old))

  changed : (xs : List A) (n k : ℕ) (y : A) → slice_get (change_nth n g xs) k ≡ Some y → Before xs n k y
  changed [] n k y h = absurd cc
  changed (x ∷ xs) zero zero y h = record { old = x; there = refl; which = inl (refl, sym (same_Some (g x) y h)) }
  changed (x ∷ xs) zero (suc k) y h = record { old = y; there = h; which = inr ((λ e. cc), refl) }
  changed (x ∷ xs) (suc n) zero y h = record { old = x; there = refl; which = inr ((λ e. cc), sym (same_Some x y h)) }
  changed (x ∷ xs) (suc n) (suc k) y h =
      let b = changed xs n k y h in record { old = b.old; there = b.there; which = next b.which }
    where
      next : {z : A} → ((k ≡ n) × (y ≡ g z)) ⊎ ((k ≢ n) × (y ≡ z)) → ((suc k ≡ suc n) × (y ≡ g z)) ⊎ ((suc k ≢ suc n) × (y ≡ z))
      next (inl e) = inl (ap suc e.0, e.1)
      next (inr e) = inr ((λ s. e.0 cc), e.1)

-- ---- one step

module _ (marks : List MarkRef) (st : Standing) (l : Logged) (after : Standing) (n : Next marks st l after) (reads : ProgramReads st) (one : OnePathEach st.packages) where
  abbrev Any : Span → Type 0
  Any s = Unit {0}

  abbrev path : List ℕ
  path = n.found.site.at.source.path

  placed : Placed here_of Any st.packages marks n.found.site
  placed = let f : FoundIn here_of Any st.packages marks same_here (is_commented st) n.found = found_in here_of Any st.packages marks same_here (is_commented st) n.found n.is_first in f.placed

  its_file : FileAt st.packages n.found.site.at.number n.found.site.at.file_number n.found.site.at.source
  its_file = record { of = n.found.site.at.of; package_is = placed.package_is; file_is = placed.file_is }

  pub found_reads : ReadsAs n.old (file_found n.found)
  found_reads =
      let r : FileReads st.texts n.found.site.at.source = reads n.found.site.at.number n.found.site.at.file_number n.found.site.at.source its_file in
      subst (λ (t : FileText). ReadsAs t (file_found n.found)) (same_Some r.text n.old (sym r.there ∙ n.stands)) r.reads

  -- what a file of the next program was
  record Was (k i : ℕ) (f : SourceTree At) : Type 0 where
    was : SourceTree At
    at : FileAt st.packages k i was
    same_path : f.path ≡ was.path
    reads_now : FileReads after.texts f

  unchanged : (k i : ℕ) (f : SourceTree At) → FileAt st.packages k i f → (path ≡ f.path → ⊥) → Was k i f
  unchanged k i f at differ =
      let r : FileReads st.texts f = reads k i f at in
      record {
        was = f;
        at = at;
        same_path = refl;
        reads_now = record { text = r.text; there = subst (λ (ts : List (List ℕ × FileText)). text_at f.path ts ≡ Some r.text) (sym n.texts_are) (texts_other path f.path n.new st.texts differ ∙ r.there); reads = r.reads };
      }

  -- the number of the site's file is that of its path
  not_its : (k i : ℕ) (f : SourceTree At) → FileAt st.packages k i f → ((k ≡ n.found.site.at.number) × (i ≡ n.found.site.at.file_number) → ⊥) → path ≡ f.path → ⊥
  not_its k i f at differ e = differ (one k i n.found.site.at.number n.found.site.at.file_number f n.found.site.at.source at its_file (sym e))

  abbrev with_tree : SourceTree At → SourceTree At
  with_tree s = record s { tree = n.tree }

  abbrev with_files : Package At → Package At
  with_files p = record p { files = change_nth n.found.site.at.file_number with_tree p.files }

  its_new : (i : ℕ) (p : Package At) (f old : SourceTree At) → slice_get st.packages n.found.site.at.number ≡ Some p → slice_get p.files i ≡ Some old → i ≡ n.found.site.at.file_number → f ≡ with_tree old → Was n.found.site.at.number i f
  its_new i p f old package_is there number f_is =
      record {
        was = old;
        at = record { of = p; package_is = package_is; file_is = there };
        same_path = ap (λ (s : SourceTree At). s.path) f_is;
        reads_now = subst (λ (s : SourceTree At). FileReads after.texts s) (sym f_is) now;
      }
    where
      same_package : n.found.site.at.of ≡ p
      same_package = same_Some n.found.site.at.of p (sym placed.package_is ∙ package_is)

      old_is : old ≡ n.found.site.at.source
      old_is = same_Some old n.found.site.at.source (sym there ∙ ap (slice_get p.files) number ∙ ap (λ (q : Package At). slice_get q.files n.found.site.at.file_number) (sym same_package) ∙ placed.file_is)

      now : FileReads after.texts (with_tree old)
      now =
          record {
            text = n.new;
            there = subst (λ (ts : List (List ℕ × FileText)). text_at old.path ts ≡ Some n.new) (sym n.texts_are)
                (subst (λ (s : SourceTree At). text_at s.path (with_text path n.new st.texts) ≡ Some n.new) (sym old_is) (texts_new path n.old n.new st.texts n.stands));
            reads = record { scans = n.scans; spells = n.spells };
          }

  file_was : (k i : ℕ) (q : Package At) (f : SourceTree At) → Before with_files st.packages n.found.site.at.number k q → slice_get q.files i ≡ Some f → Was k i f
  file_was k i q f b h = by b.which
    where
      in_package : Before with_tree b.old.files n.found.site.at.file_number i f → k ≡ n.found.site.at.number → Was k i f
      in_package c same = by c.which
        where
          by : ((i ≡ n.found.site.at.file_number) × (f ≡ with_tree c.old)) ⊎ ((i ≢ n.found.site.at.file_number) × (f ≡ c.old)) → Was k i f
          by (inl e) = subst (λ (m : ℕ). Was m i f) (sym same) (its_new i b.old f c.old (subst (λ (m : ℕ). slice_get st.packages m ≡ Some b.old) same b.there) c.there e.0 e.1)
          by (inr e) =
              let at : FileAt st.packages k i f = record { of = b.old; package_is = b.there; file_is = c.there ∙ ap Some (sym e.1) } in
              unchanged k i f at (not_its k i f at (λ s. e.0 s.1))

      by : ((k ≡ n.found.site.at.number) × (q ≡ with_files b.old)) ⊎ ((k ≢ n.found.site.at.number) × (q ≡ b.old)) → Was k i f
      by (inl e) = in_package (changed with_tree b.old.files n.found.site.at.file_number i f (subst (λ (p : Package At). slice_get p.files i ≡ Some f) e.1 h)) e.0
      by (inr e) =
          let at : FileAt st.packages k i f = record { of = b.old; package_is = b.there; file_is = subst (λ (p : Package At). slice_get p.files i ≡ Some f) e.1 h } in
          unchanged k i f at (not_its k i f at (λ s. e.0 s.0))

  was_there : (k i : ℕ) (f : SourceTree At) → FileAt after.packages k i f → Was k i f
  was_there k i f at =
      file_was k i at.of f (changed with_files st.packages n.found.site.at.number k at.of (subst (λ (ps : List (Package At)). slice_get ps k ≡ Some at.of) n.packages_are at.package_is)) at.file_is

  pub next_reads : ProgramReads after
  next_reads k i f at = let w : Was k i f = was_there k i f at in w.reads_now

  pub next_paths : OnePathEach after.packages
  next_paths k i m j f g a b e =
      let v : Was k i f = was_there k i f a in
      let w : Was m j g = was_there m j g b in
      one k i m j v.was w.was v.at w.at (sym v.same_path ∙ e ∙ w.same_path)

pub steps_keep_reading : StepsKeepReading
steps_keep_reading marks st l after n reads one = (next_reads marks st l after n reads one, next_paths marks st l after n reads one)

-- ---- the packages as read

file_was_read : (fs : List (SourceTree Span)) (i : ℕ) (f : SourceTree At) → slice_get (map (source_with as_read) fs) i ≡ Some f → (x : SourceTree Span) × (slice_get fs i ≡ Some x) × (source_with as_read x ≡ f)
file_was_read [] i f h = absurd cc
file_was_read (x ∷ fs) zero f h = (x, refl, same_Some (source_with as_read x) f h)
file_was_read (x ∷ fs) (suc i) f h = file_was_read fs i f h

package_was_read : (ps : List (Package Span)) (k : ℕ) (p : Package At) → slice_get (packages_with as_read ps) k ≡ Some p → (x : Package Span) × (slice_get ps k ≡ Some x) × (package_with as_read x ≡ p)
package_was_read [] k p h = absurd cc
package_was_read (x ∷ ps) zero p h = (x, refl, same_Some (package_with as_read x) p h)
package_was_read (x ∷ ps) (suc k) p h = package_was_read ps k p h

was_at : (ps : List (Package Span)) (k i : ℕ) (f : SourceTree At) → FileAt (packages_with as_read ps) k i f → (x : SourceTree Span) × FileAt ps k i x × (source_with as_read x ≡ f)
was_at ps k i f at =
    let p = package_was_read ps k at.of at.package_is in
    let x = file_was_read p.0.files i f (subst (λ (q : Package At). slice_get q.files i ≡ Some f) (sym p.2) at.file_is) in
    (x.0, record { of = p.0; package_is = p.1; file_is = x.1 }, x.2)

paths_as_read : (ps : List (Package Span)) → OnePathEach ps → OnePathEach (packages_with as_read ps)
paths_as_read ps one k i l j f g a b e =
    let x = was_at ps k i f a in
    let y = was_at ps l j g b in
    one k i l j x.0 y.0 x.1 y.1 (ap (λ (s : SourceTree At). s.path) x.2 ∙ e ∙ ap (λ (s : SourceTree At). s.path) (sym y.2))

pub modules_read : ReadModulesRead
modules_read files ps texts r k i f at =
    let x = was_at ps k i f at in
    let t : HasText texts x.0 = its_text files ps texts r k i x.0 x.1 in
    subst (λ (s : SourceTree At). FileReads texts s) x.2
    (record { text = t.text; there = t.there; reads = subst (λ (tree : File Span). ReadsAs t.text tree) (sym (file-reread x.0.tree)) t.reads })

-- ---- runs

all_apart : (marks : List MarkRef) (st last : Standing) (log : List Logged) → ProgramReads st → OnePathEach st.packages → (run : Run marks st log last) → AllApart run
all_apart marks st last log reads one (ends _ over) = tt
all_apart marks st last log reads one (goes_on _ next _ l rest n run) = (
  edits_apart marks st l next n (found_reads marks st l next n reads one),
  all_apart marks next last rest (next_reads marks st l next n reads one) (next_paths marks st l next n reads one) run,
)

pub run_edits_apart : RunEditsStandApart
run_edits_apart files ps texts marks last log r run =
    let own = paths_own files ps texts r in
    all_apart marks (standing_as_read ps texts) last log (modules_read files ps texts r) (paths_as_read ps own.0) run
