-- A run of steps over plain uses of constants keeps the kernel program beside all further packages.
use Rattle.std.proofs.Common.{◌≡◌, refl, sym, ap, subst, ◌∙◌, ℕ, zero, suc, true, List, [], ◌∷◌, ◌++◌, map, Some}
use Rattle.std.specs.Prelude.{slice_get}
use Rattle.std.proofs.lemmas.Option.{same_Some}
use Rattle.go_tree.specs.declared.spans.Span.{Span}
use Rattle.go_tree.specs.Tree.{ident}
use Rattle.go_kernel.specs.Kernel.{FuncName}
use Rattle.pkg_graph.specs.Package as run
use Rattle.pkg_graph.specs.Package.{SourceTree}
use Rattle.pkg_graph.specs.Reads.{Source}
use Rattle.go_translation.specs.Packages.{Package, are_well_typed}
use Rattle.run_rules.specs.Sites.{MarkRef}
use Rattle.run_rules.specs.Respanned.{source_with, package_with, packages_with}
use Rattle.run_rules.specs.Steps.{At}
use Rattle.run_rules.specs.Texts.{FileText}
use Rattle.run_rules.specs.Run.{Standing, Logged, here_of, as_read, Next, Run, ends, goes_on}
use Rattle.run_rules.specs.Inlining.{ModuleReads, standing_as_read}
use Rattle.splice_laws.specs.RunLaws.Reading.{FileAt, ProgramReads, OnePathEach}
use Rattle.splice_laws.proofs.RunLaws.RunsRead.{next_reads, next_paths, modules_read}
use Rattle.splice_laws.proofs.RunLaws.PathsOwn.{paths_own}
use Rattle.order_runs.specs.RunSteps.Bared.{bare_member, bare_members}
use Rattle.order_runs.specs.RunSteps.RunPackages.{members_of, packages_of}
use Rattle.order_runs.specs.RunSteps.SameCode.{SameCode}
use Rattle.order_runs.specs.RunSteps.PlainNext.{IsPlain, AllPlain}
use Rattle.order_runs.proofs.RunSteps.HeadersBared.{map-both}
use Rattle.order_runs.proofs.RunSteps.SpansForgotten.{codes-alike, typed-alike}
use Rattle.order_runs.proofs.RunSteps.OtherSpans.{members-with, members_to, members-to}
use Rattle.order_runs.proofs.RunSteps.UsesAlone.{stands-alone}
use Rattle.order_runs.proofs.RunSteps.SpelledConstants.{constant-unnamed}
use Rattle.order_runs.proofs.RunSteps.PlainNexts.{next-keeps}
use Rattle.order_runs.proofs.RunSteps.SameMeant.{same-then, same-itself}

pub read-next-keeps : (marks : List MarkRef) (st : Standing) (l : Logged) (after : Standing) (n : Next marks st l after) → ProgramReads st → IsPlain n → (marked : List FuncName) → SameCode (packages_of st.packages marked) (packages_of after.packages marked)
read-next-keeps marks st l after n reads h marked = next-keeps marks st l after n h (stands-alone marks st l after n reads (ident h.span h.name) h.part) (constant-unnamed h.constant h.at h.new st reads n.found.site.mark h.declared) marked

pub run-keeps : (marks : List MarkRef) (st last : Standing) (log : List Logged) (run : Run marks st log last) → ProgramReads st → OnePathEach st.packages → AllPlain run → (marked : List FuncName) → SameCode (packages_of st.packages marked) (packages_of last.packages marked)
run-keeps marks st _ _ (ends _ over) reads one h marked = same-itself (packages_of st.packages marked)
run-keeps marks st last _ (goes_on _ next _ l log n run) reads one h marked =
    same-then (packages_of st.packages marked) (packages_of next.packages marked) (packages_of last.packages marked) (read-next-keeps marks st l next n reads h.0 marked)
    (run-keeps marks next last log run (next_reads marks st l next n reads one) (next_paths marks st l next n reads one) h.1 marked)

-- ---- from files that read as a module

file-of : (fs : List (SourceTree Span)) (i : ℕ) (f : SourceTree At) → slice_get (map (source_with as_read) fs) i ≡ Some f → (x : SourceTree Span) × (slice_get fs i ≡ Some x) × (source_with as_read x ≡ f)
file-of [] i f h = cc
file-of (x ∷ fs) zero f h = (x, refl, same_Some (source_with as_read x) f h)
file-of (x ∷ fs) (suc i) f h = file-of fs i f h

package-of : (ps : List (run.Package Span)) (k : ℕ) (p : run.Package At) → slice_get (packages_with as_read ps) k ≡ Some p → (x : run.Package Span) × (slice_get ps k ≡ Some x) × (package_with as_read x ≡ p)
package-of [] k p h = cc
package-of (x ∷ ps) zero p h = (x, refl, same_Some (package_with as_read x) p h)
package-of (x ∷ ps) (suc k) p h = package-of ps k p h

was-at : (ps : List (run.Package Span)) (k i : ℕ) (f : SourceTree At) → FileAt (packages_with as_read ps) k i f → (x : SourceTree Span) × FileAt ps k i x × (source_with as_read x ≡ f)
was-at ps k i f at =
    let p = package-of ps k at.of at.package_is in
    let x = file-of p.0.files i f (subst (λ (q : run.Package At). slice_get q.files i ≡ Some f) (sym p.2) at.file_is) in
    (x.0, record { of = p.0; package_is = p.1; file_is = x.1 }, x.2)

paths-as-read : (ps : List (run.Package Span)) → OnePathEach ps → OnePathEach (packages_with as_read ps)
paths-as-read ps one k i l j f g a b e =
    let x = was-at ps k i f a in
    let y = was-at ps l j g b in
    one k i l j x.0 y.0 x.1 y.1 (ap (λ (s : SourceTree At). s.path) x.2 ∙ e ∙ ap (λ (s : SourceTree At). s.path) (sym y.2))

pub module-keeps : (files : List Source) (ps : List (run.Package Span)) (texts : List (List ℕ × FileText)) (marks : List MarkRef) (last : Standing) (log : List Logged) → ModuleReads files ps texts → (run : Run marks (standing_as_read ps texts) log last) → AllPlain run → (marked : List FuncName)
    → SameCode (packages_of (standing_as_read ps texts).packages marked) (packages_of last.packages marked)
module-keeps files ps texts marks last log m run h marked = run-keeps marks (standing_as_read ps texts) last log run (modules_read files ps texts m) (paths-as-read ps (paths_own files ps texts m).0) h marked

-- ---- as the files are read

-- packages that keep their kernel program do so with other spans
module _ (ps qs : List (run.Package At)) (marked : List FuncName) (k : SameCode (packages_of ps marked) (packages_of qs marked)) (rs us : List (run.Package Span)) (p : bare_members (members_of rs) ≡ bare_members (members_of ps)) (q : bare_members (members_of us) ≡ bare_members (members_of qs)) where
  beside : (ms : List (Package Span)) (ns : List (Package At)) (Q : List (Package Span)) → bare_members ms ≡ bare_members ns → bare_members (ms ++ Q) ≡ bare_members (ns ++ members_to as_read Q)
  beside ms ns Q e = map-both bare_member ms Q ∙ (λ v. e v ++ sym (members-to as_read Q) v) ∙ sym (map-both bare_member ns (members_to as_read Q))

  pub spans-keep-code : SameCode (packages_of rs marked) (packages_of us marked)
  spans-keep-code = record {
    typed = λ Q w. typed-alike (members_of us ++ Q) (members_of qs ++ members_to as_read Q) (beside (members_of us) (members_of qs) Q q) ∙ k.typed (members_to as_read Q) (before Q w);
    codes = λ Q w. codes-alike (members_of rs ++ Q) (members_of ps ++ members_to as_read Q) (beside (members_of rs) (members_of ps) Q p) ∙ k.codes (members_to as_read Q) (before Q w)
        ∙ sym (codes-alike (members_of us ++ Q) (members_of qs ++ members_to as_read Q) (beside (members_of us) (members_of qs) Q q));
  }
    where
      before : (Q : List (Package Span)) → are_well_typed (members_of rs ++ Q) ≡ true → are_well_typed (members_of ps ++ members_to as_read Q) ≡ true
      before Q w = sym (typed-alike (members_of rs ++ Q) (members_of ps ++ members_to as_read Q) (beside (members_of rs) (members_of ps) Q p)) ∙ w

pub module-means : (files : List Source) (ps : List (run.Package Span)) (texts : List (List ℕ × FileText)) (marks : List MarkRef) (last : Standing) (log : List Logged) → ModuleReads files ps texts → (run : Run marks (standing_as_read ps texts) log last) → AllPlain run → (marked : List FuncName)
    → SameCode (packages_of ps marked) (packages_of (packages_with here_of last.packages) marked)
module-means files ps texts marks last log m run h marked =
    spans-keep-code (packages_with as_read ps) last.packages marked (module-keeps files ps texts marks last log m run h marked) ps (packages_with here_of last.packages) (sym (members-with as_read ps)) (members-with here_of last.packages)
