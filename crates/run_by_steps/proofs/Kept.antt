-- What a run keeps on its way: files read from texts of supported words, each path has one, and packages have names.
use Rattle.std.proofs.Common.{◌≡◌, ◌∙◌, refl, sym, ap, subst, ℕ, zero, suc, Bool, map, true, false, if◌then◌else◌, bytes_eq, List, [], ◌∷◌, ◌++◌, Some}
use Rattle.std.specs.Prelude.{slice_get}
use Rattle.std.proofs.lemmas.Option.{same_Some}
use Rattle.go_tree.specs.declared.spans.Span.{Span}
use Rattle.go_nesting.specs.Sources.{IsSupported}
use Rattle.pkg_graph.specs.Package.{SourceTree, Package}
use Rattle.pkg_graph.specs.Reads.{Source}
use Rattle.run_rules.specs.Sites.{MarkRef}
use Rattle.run_rules.specs.Marks.{text_at, marks_of}
use Rattle.run_rules.specs.Texts.{FileText}
use Rattle.run_rules.specs.Laws.{file_found}
use Rattle.run_rules.specs.Respanned.{source_with, package_with, packages_with}
use Rattle.run_rules.specs.Steps.{At}
use Rattle.run_rules.specs.Run.{Standing, Logged, Limits, Next, as_read, with_text, the_limits}
use Rattle.run_rules.specs.Inlining.{ReadsAs, Reaches, begins, steps_on, standing_as_read}
use Rattle.splice_laws.specs.RunLaws.Laws.{OneTextEach}
use Rattle.splice_laws.specs.RunLaws.Reading.{ProgramReads, FileAt, OnePathEach}
use Rattle.splice_laws.proofs.RunLaws.PathsOwn.{paths_own}
use Rattle.splice_laws.proofs.RunLaws.RunsRead.{found_reads, next_reads, next_paths, modules_read}
use Rattle.run_by_steps.proofs.NextPrograms.Supported.{steps_keep_words}
use Rattle.run_by_steps.specs.WrittenImports.Laws.{AreNamed}
use Rattle.run_by_steps.proofs.WrittenImports.ReadNames.{read_packages_are_named, changed_named}
use Rattle.run_by_steps.specs.RunProgress.Laws.{are_paths_apart}
use Rattle.run_by_steps.proofs.RunProgress.Apart.{read_paths_are_apart, steps_keep_paths_apart}
use Rattle.run_by_steps.specs.Reached.{AllSupported, HasReached}

pub record Kept (st : Standing) : Type 0 where
  pub reads : ProgramReads st
  pub files_apart : OnePathEach st.packages
  pub texts_apart : are_paths_apart st.texts ≡ true
  pub named : AreNamed st.packages
  pub supported : AllSupported st.texts

pub text_supported : (path : List ℕ) (old : FileText) (ts : List (List ℕ × FileText)) → AllSupported ts → text_at path ts ≡ Some old → IsSupported old.text old.tokens old.comments
text_supported path old [] h e = absurd cc
text_supported path old (t ∷ ts) h e = by (bytes_eq path t.0) e (text_supported path old ts h.1)
  where
    by : (b : Bool) → (if b then Some t.1 else text_at path ts) ≡ Some old → (text_at path ts ≡ Some old → IsSupported old.text old.tokens old.comments) → IsSupported old.text old.tokens old.comments
    by true e r = subst (λ (u : FileText). IsSupported u.text u.tokens u.comments) (same_Some t.1 old e) h.0
    by false e r = r e

with_supported : (path : List ℕ) (new : FileText) (ts : List (List ℕ × FileText)) → IsSupported new.text new.tokens new.comments → AllSupported ts → AllSupported (with_text path new ts)
with_supported path new [] s h = tt
with_supported path new (t ∷ ts) s h = by (bytes_eq path t.0) (with_supported path new ts s h.1)
  where
    by : (b : Bool) → AllSupported (with_text path new ts) → AllSupported ((if b then (t.0, new) else t) ∷ with_text path new ts)
    by true r = (s, r)
    by false r = (h.0, r)

module _ (marks : List MarkRef) (st : Standing) (l : Logged) (after : Standing) (n : Next marks st l after) (k : Kept st) where
  pub old_reads : ReadsAs n.old (file_found n.found)
  old_reads = found_reads marks st l after n k.reads k.files_apart

  pub new_supported : IsSupported n.new.text n.new.tokens n.new.comments
  new_supported = steps_keep_words marks st l after n old_reads (text_supported n.found.site.at.source.path n.old st.texts k.supported n.stands)

  pub kept_on : Kept after
  kept_on = record {
    reads = next_reads marks st l after n k.reads k.files_apart;
    files_apart = next_paths marks st l after n k.reads k.files_apart;
    texts_apart = steps_keep_paths_apart marks st l after n k.texts_apart;
    named = subst AreNamed (sym n.packages_are) (changed_named _ (λ p o. o) (λ p o. o) n.found.site.at.number st.packages k.named);
    supported = subst AllSupported (sym n.texts_are) (with_supported n.found.site.at.source.path n.new st.texts new_supported k.supported);
  }

reached_kept : (marks : List MarkRef) (m : Limits) (files : List Source) (done log : List Logged) (st last : Standing) → Reaches marks m files done st log last → Kept st → Kept last
reached_kept marks m files done _ st _ (begins _ _) k = k
reached_kept marks m files done _ st last (steps_on _ log l _ mid _ n p rest) k =
    reached_kept marks m files (done ++ l ∷ []) log mid last rest (kept_on marks st l mid n k)

-- ---- the packages as read

file_was_read : (fs : List (SourceTree Span)) (i : ℕ) (f : SourceTree At) → slice_get (map (source_with as_read) fs) i ≡ Some f → (x : SourceTree Span) × (slice_get fs i ≡ Some x) × (source_with as_read x ≡ f)
file_was_read [] i f h = absurd cc
file_was_read (x ∷ fs) zero f h = (x, refl, same_Some (source_with as_read x) f h)
file_was_read (x ∷ fs) (suc i) f h = file_was_read fs i f h

package_was_read : (ps : List (Package Span)) (k : ℕ) (p : Package At) → slice_get (packages_with as_read ps) k ≡ Some p → (x : Package Span) × (slice_get ps k ≡ Some x) × (package_with as_read x ≡ p)
package_was_read [] k p h = absurd cc
package_was_read (x ∷ ps) zero p h = (x, refl, same_Some (package_with as_read x) p h)
package_was_read (x ∷ ps) (suc k) p h = package_was_read ps k p h

was_at : (ps : List (Package Span)) (k i : ℕ) (f : SourceTree At) → FileAt (packages_with as_read ps) k i f → (x : SourceTree Span) × FileAt ps k i x × (source_with as_read x ≡ f)
was_at ps k i f at =
    let p = package_was_read ps k at.of at.package_is in
    let x = file_was_read p.0.files i f (subst (λ (q : Package At). slice_get q.files i ≡ Some f) (sym p.2) at.file_is) in
    (x.0, record { of = p.0; package_is = p.1; file_is = x.1 }, x.2)

paths_as_read : (ps : List (Package Span)) → OnePathEach ps → OnePathEach (packages_with as_read ps)
paths_as_read ps one k i l j f g a b e =
    let x = was_at ps k i f a in
    let y = was_at ps l j g b in
    one k i l j x.0 y.0 x.1 y.1 (ap (λ (s : SourceTree At). s.path) x.2 ∙ e ∙ ap (λ (s : SourceTree At). s.path) (sym y.2))

pub kept_here : (files : List Source) (ps : List (Package Span)) (texts : List (List ℕ × FileText)) (only : List ℕ) (done : List Logged) (st : Standing) → HasReached files ps texts only done st → Kept st
kept_here files ps texts only done st r =
    reached_kept (marks_of ps texts only) the_limits files [] done (standing_as_read ps texts) st r.steps
    (record {
      reads = modules_read files ps texts r.read;
      files_apart = paths_as_read ps own.0;
      texts_apart = read_paths_are_apart files ps texts r.read;
      named = read_packages_are_named files ps texts r.read r.octets;
      supported = r.supported;
    })
  where
    own : OnePathEach ps × OneTextEach texts
    own = paths_own files ps texts r.read
