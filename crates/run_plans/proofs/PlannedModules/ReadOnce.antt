-- A folder reads as one module at most: its packages and its texts.
use Rattle.std.proofs.Common.{◌≡◌, ◌∙◌, refl, sym, ap, subst, ℕ, List, ◌∷◌}
use Rattle.std.proofs.lemmas.Option.{same_Some}
use Rattle.go_scan.proofs.Cuts.{tokens_once}
use Rattle.go_tree.specs.declared.spans.Span.{Span}
use Rattle.go_tree.specs.GoWords.Tokens.{TokensOf}
use Rattle.module_refusals.proofs.ModuleLemmas.{trees_once}
use Rattle.pkg_graph.specs.ModuleFiles.ModuleFile.{is_module, module_of}
use Rattle.pkg_graph.specs.Package.{Package, SourceTree, packages_of}
use Rattle.pkg_graph.specs.Reads.{IsProgram, Reads, Source, go_files}
use Rattle.run_rules.specs.Inlining.{AreScanned, IsSourceFile, ModuleReads, none, file}
use Rattle.run_rules.specs.Texts.{FileText}

-- a text has one list of tokens and one of comments
text_once : (t u : FileText) → t.text ≡ u.text → TokensOf t.text t.tokens t.comments → TokensOf u.text u.tokens u.comments → t ≡ u
text_once t u e a b =
    let same = tokens_once u.text t.tokens u.tokens t.comments u.comments (subst (λ (x : List ℕ). TokensOf x t.tokens t.comments) e a) b in
    λ v. record { text = e v; tokens = sym same.0 v; comments = sym same.1 v }

scanned_once : (fs : List Source) (ts us : List (List ℕ × FileText)) → AreScanned fs ts → AreScanned fs us → ts ≡ us
scanned_once _ _ _ none none = refl
scanned_once _ _ _ (file f t fs ts e a r) (file _ u _ us g b s) =
    let one : t ≡ u = text_once t u (e ∙ sym g) a b in
    λ v. (f.path, one v) ∷ scanned_once fs ts us r s v

-- a text names one module
one_path : (text : List ℕ) (a b : List ℕ) → module_of text ≡ is_module a → module_of text ≡ is_module b → a ≡ b
one_path text a b e f = cc

-- files with their trees are one program
program_once : (folder : List Source) (trees : List (SourceTree Span)) (ps qs : List (Package Span)) → IsProgram folder trees ps → IsProgram folder trees qs → ps ≡ qs
program_once folder trees ps qs r s =
    let text : r.module_text ≡ s.module_text = same_Some r.module_text s.module_text (sym r.module_is ∙ s.module_is) in
    let path : r.path ≡ s.path = one_path s.module_text.text r.path s.path (ap (λ (f : Source). module_of f.text) (sym text) ∙ r.path_is) s.path_is in
    r.packages_are ∙ ap (λ (p : List ℕ). packages_of p trees) path ∙ sym s.packages_are

packages_once : (folder : List Source) (ps qs : List (Package Span)) → Reads IsSourceFile folder ps → Reads IsSourceFile folder qs → ps ≡ qs
packages_once folder ps qs r s =
    let trees : r.trees ≡ s.trees = trees_once (go_files folder) r.trees s.trees r.trees_are s.trees_are in
    program_once folder s.trees ps qs (subst (λ (ts : List (SourceTree Span)). IsProgram folder ts ps) trees r.program) s.program

-- the packages and the texts are the same
pub record SameModule (ps qs : List (Package Span)) (ts us : List (List ℕ × FileText)) : Type 0 where
  pub packages : ps ≡ qs
  pub texts : ts ≡ us

pub reads_once : (folder : List Source) (ps qs : List (Package Span)) (ts us : List (List ℕ × FileText)) → ModuleReads folder ps ts → ModuleReads folder qs us → SameModule ps qs ts us
reads_once folder ps qs ts us r s =
    record {
      packages = packages_once folder ps qs r.reads s.reads;
      texts = scanned_once (go_files folder) ts us r.scanned s.scanned;
    }
