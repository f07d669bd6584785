-- A step leaves a text of supported words.
use Rattle.std.proofs.Common.{◌≡◌, ◌∙◌, refl, ap, subst, ℕ, zero, suc, ◌-◌, ◌≤◌, List, [], ◌∷◌, ◌++◌, length, map, take, Some, arith}
use Rattle.std.specs.Prelude.{slice_get}
use Rattle.std.proofs.lemmas.Option.{same_Some}
use Rattle.std.proofs.lemmas.List.{length-take-le, take-append-le, take-take}
use Rattle.go_tree.specs.declared.spans.Span.{Span}
use Rattle.go_tree.specs.File.{Decl}
use Rattle.go_scan.specs.Unsupported.{package_start, constraint_spans, word_spans}
use Rattle.text_edits.specs.declared.edit.Edit.{Edit}
use Rattle.text_edits.specs.Applied.{Ascend, applied, replaced_from}
use Rattle.text_edits.proofs.Turns.{replaced_later}
use Rattle.run_rules.specs.ImportRules.Settled.{settled}
use Rattle.run_rules.proofs.ImportRules.SettledOrder.{settled_ascend}
use Rattle.splice_laws.proofs.ImportSplices.SupportedWords.Words.{texts_supported}
use Rattle.splice_laws.proofs.ImportSplices.SupportedWords.Constraints.{constraints_stay}
use Rattle.run_rules.specs.Sites.{MarkRef}
use Rattle.run_rules.specs.Texts.{form_edit}
use Rattle.run_rules.specs.Respanned.{decl_with, file_with}
use Rattle.run_rules.specs.Steps.{same_here, unused_specs, added_by, slot_of}
use Rattle.run_rules.specs.Run.{Standing, Logged, here_of, is_commented, edits_in, Next}
use Rattle.run_rules.specs.Laws.{LiesBehindImports, file_found}
use Rattle.run_rules.specs.Inlining.{ReadsAs}
use Rattle.run_rules.proofs.EditsApart.{settled_then_one}
use Rattle.splice_laws.proofs.RunLaws.NodeSpans.{AllDecl}
use Rattle.splice_laws.proofs.RunLaws.SeenSpans.{decl_in}
use Rattle.splice_laws.proofs.RunLaws.FilesStand.{AllDecls, file_laid, decls_behind}
use Rattle.splice_laws.proofs.RunLaws.FoundSpans.{Placed, FoundIn, found_in}
use Rattle.run_by_steps.specs.NextPrograms.Laws.{StepsKeepWords}

-- ---- texts that are edited behind an offset

fits_in : (from size : ℕ) (es : List Edit) → Ascend from size es → from ≤ size
fits_in from size [] a = a
fits_in from size (e ∷ es) a = omega (arith, a.0, a.1, a.2)

front_stays : (old : List ℕ) (at : ℕ) (es : List Edit) → Ascend at (length old) es → take at (applied old es) ≡ take at old
front_stays old at es a =
    let le : at ≤ length old = fits_in at (length old) es a in
    let none : at - 0 ≡ at = omega arith in
    let made : applied old es ≡ take at old ++ replaced_from old at es =
    replaced_later old 0 at (length old) es (omega arith) a ∙ ap (λ (n : ℕ). take n old ++ replaced_from old at es) none in
    let long : length (take at old) ≡ at = length-take-le at old le in
    ap (λ (xs : List ℕ). take at xs) made ∙ take-append-le at (take at old) (replaced_from old at es) (omega (arith, long)) ∙ take-take at at old (omega arith)

behind_too : (at size : ℕ) (es : List Edit) (e : Edit) → Ascend at size es → Ascend 0 size (es ++ e ∷ []) → at ≤ e.span.start → Ascend at size (es ++ e ∷ [])
behind_too at size [] e a b h = (h, b.1, b.2, b.3)
behind_too at size (f ∷ fs) e a b h = (a.0, b.1, b.2, b.3)

-- ---- the edits of a step

one_decl : {A : Type 0} (to : A → Span) (P : Span → Type 0) (ds : List (Decl A)) (i : ℕ) (d : Decl A) → AllDecls P (map (decl_with to) ds) → slice_get ds i ≡ Some d → AllDecl P (decl_with to d)
one_decl to P [] i d h e = absurd cc
one_decl to P (x ∷ ds) zero d h e = subst (λ y. AllDecl P (decl_with to y)) (same_Some x d e) h.0
one_decl to P (x ∷ ds) (suc i) d h e = one_decl to P ds i d h.1 e

module _ (marks : List MarkRef) (st : Standing) (l : Logged) (after : Standing) (n : Next marks st l after) (reads : ReadsAs n.old (file_found n.found)) where
  abbrev Behind : Span → Type 0
  Behind = LiesBehindImports n.old.text n.old.tokens (file_found n.found)

  range_behind : Behind n.found.range.here
  range_behind =
      let f : FoundIn here_of Behind st.packages marks same_here (is_commented st) n.found = found_in here_of Behind st.packages marks same_here (is_commented st) n.found n.is_first in
      let p : Placed here_of Behind st.packages marks n.found.site = f.placed in
      f.range_is (decl_in here_of Behind st.packages n.found.site.at.number n.found.site.at.of n.found.site.at.source.tree p.decl
      (one_decl here_of Behind n.found.site.at.source.tree.decls n.found.site.decl p.decl (decls_behind n.old.text n.old.tokens n.old.comments (file_found n.found) reads.scans reads.spells) p.decl_is))

  abbrev name_end : ℕ
  name_end = n.found.site.at.source.tree.package_name.span.here.end

  edits_behind : Ascend name_end (length n.old.text) (edits_in marks st n.old n.found)
  edits_behind =
      let laid = file_laid n.old.text n.old.tokens n.old.comments (file_found n.found) reads.scans reads.spells in
      let added = added_by same_here (is_commented st) st.packages marks n.found in
      let unused : List Span = map (λ s. here_of s.span) (unused_specs same_here (is_commented st) st.packages marks n.found) in
      let edit : Edit = form_edit n.old n.found.range (here_of n.found.range) (slot_of same_here here_of (is_commented st) st.packages marks n.found) n.found.form in
      let lies : Behind n.found.range.here = range_behind in
      let name_before = lies.name_before in
      let behind = lies.behind in
      behind_too name_end (length n.old.text) (settled n.old.text n.old.tokens n.old.comments (file_found n.found) added unused) edit
      (settled_ascend n.old.text n.old.tokens n.old.comments (file_found n.found) added unused laid)
      (settled_then_one n.old.text n.old.tokens n.old.comments (file_found n.found) added unused edit laid lies) (omega (arith, name_before, behind))

  same_front : take name_end n.new.text ≡ take name_end n.old.text
  same_front = ap (λ (xs : List ℕ). take name_end xs) n.text_is ∙ front_stays n.old.text name_end (edits_in marks st n.old n.found) edits_behind

first_none : (xs ys : List Span) → xs ++ ys ≡ [] → xs ≡ []
first_none [] ys e = refl
first_none (x ∷ xs) ys e = absurd cc

pub steps_keep_words : StepsKeepWords
steps_keep_words marks st l after n reads supported =
    texts_supported n.new.text n.new.tokens n.new.comments (file_with here_of n.tree) n.spells
    (constraints_stay n.old.text n.new.text n.old.tokens n.new.tokens n.old.comments n.new.comments (file_found n.found) (name_end marks st l after n reads) reads.scans reads.spells
    (first_none (constraint_spans n.old.text (package_start n.old.tokens) n.old.comments) (word_spans n.old.tokens) supported) n.scans (omega arith) (same_front marks st l after n reads))
