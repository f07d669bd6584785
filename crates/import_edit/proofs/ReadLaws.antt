-- A text that reads has its imports laid, by whichever tokens are its own.
use Rattle.std.proofs.Common.{◌≡◌, ◌∙◌, ℕ, List, sym, ap, subst}
use Rattle.go_tree.specs.declared.spans.Span.{Span}
use Rattle.go_tree.specs.declared.tokens.Token.{Token}
use Rattle.go_tree.specs.declared.tokens.Comment.{Comment}
use Rattle.go_tree.specs.File.{File}
use Rattle.go_tree.specs.GoWords.Tokens.{TokensOf}
use Rattle.go_scan.proofs.Cuts.{tokens_once}
use Rattle.run_rules.specs.declared.import_rules.new_import.NewImport.{NewImport}
use Rattle.run_rules.specs.ImportRules.Laid.{Laid}
use Rattle.run_rules.specs.ImportRules.Settled.{settled}
use Rattle.splice_laws.specs.ImportSplices.ImportPlaces.ReadFiles.{SpellsImportsOf, ReadsImportsOf}
use Rattle.splice_laws.proofs.ImportSplices.ImportPlaces.FilesLaid.{imports_laid}

pub read_laid : (text : List ℕ) (tokens : List Token) (comments : List Comment) (file : File Span) → ReadsImportsOf text file → TokensOf text tokens comments → Laid text tokens file
read_laid text tokens comments file r t =
    let one = tokens_once text r.tokens tokens r.comments comments r.scans t in
    imports_laid text tokens comments file t (subst (λ (ts : List Token). SpellsImportsOf ts file) (sym one.0) r.spells)

pub settled_once : (text : List ℕ) (ts us : List Token) (cs ds : List Comment) (file : File Span) (added : List NewImport) (unused : List Span) → TokensOf text ts cs → TokensOf text us ds
    → settled text ts cs file added unused ≡ settled text us ds file added unused
settled_once text ts us cs ds file added unused a b =
    let one = tokens_once text ts us cs ds a b in
    ap (λ (xs : List Token). settled text xs cs file added unused) (sym one.0) ∙ ap (λ (ys : List Comment). settled text us ys file added unused) (sym one.1)
