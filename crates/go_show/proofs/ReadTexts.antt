-- What a text that is read gives the call that settles its imports.
use Rattle.std.proofs.Common.{◌≡◌, ℕ, List, length, refl, sym, subst}
use Rattle.go_tree.specs.declared.spans.Span.{Span}
use Rattle.go_tree.specs.declared.tokens.Token.{Token}
use Rattle.go_tree.specs.declared.tokens.Comment.{Comment}
use Rattle.go_tree.specs.File.{File}
use Rattle.go_nesting.specs.Sources.{IsSource}
use Rattle.text_edits.specs.declared.edit.Edit.{Edit}
use Rattle.text_edits.specs.Applied.{Within}
use Rattle.run_rules.specs.declared.import_rules.new_import.NewImport.{NewImport}
use Rattle.run_rules.specs.ImportRules.Laid.{Laid}
use Rattle.run_rules.specs.ImportRules.Settled.{settled}
use Rattle.run_rules.proofs.ImportRules.SettledOrder.{settled_within}
use Rattle.splice_laws.specs.ImportSplices.ImportPlaces.ReadFiles.{SpellsImportsOf, ReadsImportsOf}
use Rattle.splice_laws.proofs.ImportSplices.ImportPlaces.FilesLaid.{imports_laid}

module _ (text : List ℕ) (tokens : List Token) (comments : List Comment) (file : File Span) (s : IsSource text tokens comments file) where
  own_imports : SpellsImportsOf tokens file
  own_imports = record { whole = file; spelled = s.1.2; name_is = refl; imports_are = refl }

  pub reads_imports : ReadsImportsOf text file
  reads_imports = record { tokens = tokens; comments = comments; scans = s.0; spells = own_imports }

  imports_lie : Laid text tokens file
  imports_lie = imports_laid text tokens comments file s.0 own_imports

  pub edits_within : (added : List NewImport) (unused : List Span) (es : List Edit) → es ≡ settled text tokens comments file added unused → Within (length text) es
  edits_within added unused es e = subst (λ (xs : List Edit). Within (length text) xs) (sym e) (settled_within text tokens comments file added unused imports_lie)
