-- In a module none of whose files has the word `...` no call hands on a slice for its last arguments.
use Rattle.std.proofs.Common.{◌≡◌, refl, sym, subst, ℕ, suc, ◌+◌, Bool, true, false, not, bytes_eq, if◌then◌else◌, List, [], ◌∷◌, Some, arith}
use Rattle.std.specs.Prelude.{slice_get}
use Rattle.std.specs.List.{list_any}
use Rattle.std.proofs.lemmas.Option.{same_Some}
use Rattle.go_read.specs.SpellsFiles.{SpellsFile}
use Rattle.go_tree.specs.declared.spans.Span.{Span}
use Rattle.go_tree.specs.File.{File}
use Rattle.pkg_graph.specs.Package.{SourceTree, Package}
use Rattle.run_rules.specs.Inlining.{standing_as_read}
use Rattle.run_rules.specs.Marks.{text_at}
use Rattle.run_rules.specs.Respanned.{source_with, package_with}
use Rattle.run_rules.specs.Run.{as_read}
use Rattle.run_rules.specs.Texts.{FileText}
use Rattle.splice_laws.specs.ImportSplices.TypedDots.Unspread.{UnspreadFile}
use Rattle.splice_laws.specs.RunLaws.Reading.{ProgramReads}
use Rattle.splice_laws.proofs.RunLaws.Reread.{file-reread}
use Rattle.constant_steps.specs.WrittenLiteral.UnspreadForms.UnspreadForms.{UnspreadFiles, UnspreadPackages}
use Rattle.variadic_words.specs.Dots.{is_dots}
use Rattle.variadic_words.specs.Laws.{FilesWithoutDots}
use Rattle.stepped_programs.proofs.LoadedPrograms.Images.{at_image}
use Rattle.run_plans.specs.PlannedModules.Modules.{without_dots}
use Rattle.run_plans.proofs.PlannedModules.Folders.{both}

not_set : (b : Bool) → not b ≡ true → b ≡ false
not_set true h = absurd cc
not_set false h = refl

-- so in each text
text_of : (x : List ℕ × FileText) (xs : List (List ℕ × FileText)) (path : List ℕ) (t : FileText) (b : Bool) → list_any is_dots x.1.tokens ≡ false → (text_at path xs ≡ Some t → list_any is_dots t.tokens ≡ false)
    → (if b then Some x.1 else text_at path xs) ≡ Some t → list_any is_dots t.tokens ≡ false
text_of x xs path t true h f g = subst (λ (z : FileText). list_any is_dots z.tokens ≡ false) (same_Some x.1 t g) h
text_of x xs path t false h f g = f g

text_without : (texts : List (List ℕ × FileText)) (path : List ℕ) (t : FileText) → without_dots texts ≡ true → text_at path texts ≡ Some t → list_any is_dots t.tokens ≡ false
text_without [] path t h e = absurd cc
text_without (x ∷ xs) path t h e =
    let first : (not (list_any is_dots x.1.tokens) ≡ true) × (without_dots xs ≡ true) = both (not (list_any is_dots x.1.tokens)) (without_dots xs) h in
    text_of x xs path t (bytes_eq path x.0) (not_set (list_any is_dots x.1.tokens) first.0) (λ g. text_without xs path t first.1 g) e

module _ (law : FilesWithoutDots) (ps : List (Package Span)) (texts : List (List ℕ × FileText)) (reads : ProgramReads (standing_as_read ps texts)) (none : without_dots texts ≡ true) where
  file_unspread : (k i : ℕ) (p : Package Span) (f : SourceTree Span) → slice_get ps k ≡ Some p → slice_get p.files i ≡ Some f → UnspreadFile f.tree
  file_unspread k i p f package_is file_is =
      let r = reads k i (source_with as_read f) (record { of = package_with as_read p; package_is = at_image (package_with as_read) ps k p package_is; file_is = at_image (source_with as_read) p.files i f file_is }) in
      law r.text.tokens f.tree (subst (λ (t : File Span). SpellsFile r.text.tokens t) (file-reread f.tree) r.reads.spells) (text_without texts f.path r.text none r.there)

  files_from : (k : ℕ) (p : Package Span) → slice_get ps k ≡ Some p → (j : ℕ) (fs : List (SourceTree Span))
      → ((i n : ℕ) (f : SourceTree Span) → slice_get fs i ≡ Some f → n ≡ j + i → slice_get p.files n ≡ Some f) → UnspreadFiles fs
  files_from k p e j [] a = tt
  files_from k p e j (f ∷ fs) a =
      let n : j ≡ j + 0 = omega arith in
      (file_unspread k j p f e (a 0 j f refl n), files_from k p e (suc j) fs (λ i m g q s. a (suc i) m g q (omega (arith, s))))

  packages_from : (j : ℕ) (qs : List (Package Span)) → ((i n : ℕ) (p : Package Span) → slice_get qs i ≡ Some p → n ≡ j + i → slice_get ps n ≡ Some p) → UnspreadPackages qs
  packages_from j [] a = tt
  packages_from j (p ∷ qs) a =
      let n : j ≡ j + 0 = omega arith in (
        files_from j p (a 0 j p refl n) 0 p.files (λ i m f q s. let same : m ≡ i = omega (arith, s) in subst (λ (x : ℕ). slice_get p.files x ≡ Some f) (sym same) q),
        packages_from (suc j) qs (λ i m q g s. a (suc i) m q g (omega (arith, s))),
      )

  pub module_unspread : UnspreadPackages ps
  module_unspread = packages_from 0 ps (λ i m p q s. let same : m ≡ i = omega (arith, s) in subst (λ (x : ℕ). slice_get ps x ≡ Some p) (sym same) q)
