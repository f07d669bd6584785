-- The file that a step's text reads as has the imports that the step leaves.
use Rattle.std.proofs.Common.{◌≡◌, refl, sym, ◌∙◌, ap, subst, ℕ, not, List, [], ◌∷◌, ◌++◌, map}
use Rattle.std.specs.Prelude.{filter}
use Rattle.go_tree.specs.declared.spans.Span.{Span}
use Rattle.go_tree.specs.declared.tokens.Token.{Token}
use Rattle.go_tree.specs.File.{File, ImportDecl}
use Rattle.go_tree.specs.FileBare.{bare_import_decl, bare_file}
use Rattle.go_scan.proofs.Cuts.{tokens_once}
use Rattle.go_read.specs.SpellsFiles.{SpellsFile}
use Rattle.go_read.proofs.Whole.{file_one}
use Rattle.pkg_graph.specs.Package.{specs_in, import_specs}
use Rattle.text_edits.specs.Applied.{applied}
use Rattle.run_rules.specs.ImportRules.Removed.{goes}
use Rattle.run_rules.specs.ImportRules.Settled.{settled}
use Rattle.splice_laws.specs.ImportSplices.SettledFile.{left_decls, with_settled}
use Rattle.splice_laws.proofs.ImportSplices.FormsToo.{form_settled_go}
use Rattle.splice_laws.specs.Swaps.{Swap, FileIn, in_decls}
use Rattle.splice_laws.specs.Fits.{swap_mark}
use Rattle.splice_laws.specs.Forms.{new_layout}
use Rattle.splice_laws.specs.Splice.{splice, ReadsAs}
use Rattle.run_rules.specs.Sites.{MarkRef}
use Rattle.run_rules.specs.Naming.{imports_added}
use Rattle.run_rules.specs.Respanned.{file_with}
use Rattle.run_rules.specs.Run.{Standing, Logged, Next, here_of}
use Rattle.order_runs.specs.CycleRuns.StepCycles.PackagesAlike.{import_key}
use Rattle.order_runs.specs.CycleRuns.StepCycles.Steps.{SameImports}
use Rattle.put_names.specs.ReadImports.PutInText.{file_before, unused_spans, PutInText}
use Rattle.put_names.proofs.ReadImports.Specs.{keys-bare, keys-with, bare-keys, specs-left, all-stay}

imports-stand : (w : Swap Span) (f g : File Span) → FileIn w f g → g.imports ≡ f.imports
imports-stand w f g (in_decls d) = refl

module _ (marks : List MarkRef) (st : Standing) (l : Logged) (after : Standing) (n : Next marks st l after) (h : PutInText n) (none : imports_added n.found.named ≡ []) where
  abbrev settled_text : List ℕ
  settled_text = applied n.old.text (settled n.old.text n.old.tokens n.old.comments (file_before n) [] (unused_spans n) ++ splice (swap_mark h.swap) h.blank (new_layout h.indent h.dotted h.wrapped h.swap) ∷ [])

  abbrev settled_file : File (Unit {0})
  settled_file = with_settled n.old.text n.old.tokens n.old.comments (unused_spans n) [] h.put

  texts : n.new.text ≡ settled_text
  texts = n.text_is ∙ (λ v. applied n.old.text (settled n.old.text n.old.tokens n.old.comments (file_before n) (none v) (unused_spans n) ++ h.edit v ∷ []))

  read : ReadsAs n.new.text settled_file
  read = subst (λ (t : List ℕ). ReadsAs t settled_file) (sym texts) (form_settled_go n.old.text n.old.tokens n.old.comments (file_before n) h.put h.swap h.indent h.dotted h.wrapped h.blank [] (unused_spans n) h.in_text tt)

  tree-read : file_with here_of n.tree ≡ read.file
  tree-read =
      file_one read.tokens (file_with here_of n.tree) read.file
      (subst (λ (ts : List Token). SpellsFile ts (file_with here_of n.tree)) (tokens_once n.new.text read.tokens n.new.tokens read.comments n.new.comments read.of_text n.scans).0 n.spells)
      read.spelled

  left : map bare_import_decl (file_with here_of n.tree).imports ≡ left_decls n.old.text n.old.tokens n.old.comments (unused_spans n) (file_before n).imports
  left =
      (λ v. (bare_file (tree-read v)).imports)
      ∙ (λ v. (read.same v).imports)
      ∙ ap (λ (is : List (ImportDecl Span)). left_decls n.old.text n.old.tokens n.old.comments (unused_spans n) is) (imports-stand h.swap (file_before n) h.put h.in_text.swapped)

  pub others-stay : map import_key (import_specs n.tree) ≡ map import_key (filter (λ s. not (goes n.old.text n.old.tokens n.old.comments (unused_spans n) s)) (import_specs (file_before n)))
  others-stay =
      sym (keys-bare (file_with here_of n.tree).imports ∙ keys-with here_of n.tree.imports)
      ∙ (λ v. map import_key (specs_in (left v)))
      ∙ ap (λ ss. map import_key ss) (specs-left n.old.text n.old.tokens n.old.comments (unused_spans n) (file_before n).imports)
      ∙ bare-keys (filter (λ s. not (goes n.old.text n.old.tokens n.old.comments (unused_spans n) s)) (import_specs (file_before n)))

  pub kept : unused_spans n ≡ [] → SameImports n.found.site.at.source.tree n.tree
  kept u =
      others-stay
      ∙ (λ v. map import_key (filter (λ s. not (goes n.old.text n.old.tokens n.old.comments (u v) s)) (import_specs (file_before n))))
      ∙ ap (λ ss. map import_key ss) (all-stay n.old.text n.old.tokens n.old.comments (import_specs (file_before n)))
      ∙ keys-with here_of n.found.site.at.source.tree.imports
