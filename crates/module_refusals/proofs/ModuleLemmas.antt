-- Files that are a module have no refusal.
use Rattle.std.proofs.Common.{◌≡◌, ◌∙◌, ◌<◌, ◌≤◌, ℕ, zero, suc, List, [], ◌∷◌, ◌++◌, length, refl, sym, ap, subst, arith, All, slice_index}
use Rattle.std.specs.Prelude.{Contains, Some, None}
use Rattle.go_tree.specs.declared.spans.Span.{Span}
use Rattle.go_tree.specs.declared.tokens.Token.{Token}
use Rattle.go_tree.specs.declared.tokens.Comment.{Comment}
use Rattle.go_tree.specs.File.{File}
use Rattle.go_tree.specs.GoWords.Terminals.{lexemes}
use Rattle.go_tree.specs.GoWords.Tokens.{TokensOf}
use Rattle.go_scan.proofs.Cuts.{tokens_once}
use Rattle.go_scan.specs.Unsupported.{IsFirst, unsupported_spans}
use Rattle.go_nesting.specs.declared.counts.TheConstants.{MAX_LIMIT}
use Rattle.go_nesting.specs.Over.{IsFirstOver}
use Rattle.go_read.specs.SpellsWeight.{weights_of}
use Rattle.go_read.specs.SpellsFiles.{SpellsFile}
use Rattle.go_read.proofs.Whole.{file_one, refused_spells_none}
use Rattle.pkg_graph.specs.ModuleFiles.ModuleFile.{is_module, no_module_line, old_go}
use Rattle.pkg_graph.specs.declared.module_files.faults.GraphError.{GraphError}
use Rattle.pkg_graph.specs.declared.module_files.faults.GraphError.TheVariants.{NoModuleLine, OldGo, MixedPackage, NoPackage, Cycle, Internal, NoMemory}
use Rattle.pkg_graph.specs.Package.{SourceTree}
use Rattle.pkg_graph.specs.Graph.{GraphFault, IsFault, mixed_package, no_package, cycle, internal_package}
use Rattle.pkg_graph.specs.GraphFaults.{IsGraphFault}
use Rattle.pkg_graph.specs.Reads.{Source, AreTrees, none, file}
use Rattle.pkg_graph.specs.GraphLaws.{LinkedHaveNoFault}
use Rattle.run_rules.specs.Inlining.{IsSourceFile}
use Rattle.source_files.specs.declared.files.SourceFile.{SourceFile}
use Rattle.module_texts.specs.declared.faults.TextFault.{TextFault}
use Rattle.module_texts.specs.declared.faults.TextFault.TheVariants.{NotUtf8, BadToken, Unsupported, TooDeep, NotRead}
use Rattle.module_texts.specs.declared.faults.ReadFault.{ReadFault}
use Rattle.module_texts.specs.declared.faults.ReadFault.TheVariants.{Text, Module}
use Rattle.module_texts.specs.Files.{sources_of}
use Rattle.go_nesting.specs.Sources.{IsSupported}
use Rattle.module_texts.specs.Refusals.{Fails, HasSupportedWords, NestsWithin, Passes, FailsFirst, WithTokens}
use Rattle.module_texts.specs.Modules.{Refuses, RefusesPackages, go_sources}
use Rattle.module_texts.proofs.RefusedLemmas.{all_at}
use Rattle.refusals.specs.declared.refusal.Refusal.{Refusal}
use Rattle.module_refusals.specs.Told.{Tells}
use Rattle.module_refusals.specs.Laws.{ModulesHaveNoRefusal}
use Rattle.module_refusals.specs.Refused.{AreModule}

-- what holds of the tokens of a text holds of any that are its tokens
pub same_tokens : (text : List ℕ) (P : List Token → List Comment → Type 0) (w : WithTokens text P) (tokens : List Token) (comments : List Comment) → TokensOf text tokens comments → P tokens comments
same_tokens text P w tokens comments h =
    let same = tokens_once text w.tokens tokens w.comments comments w.words h in
    subst (λ cs. P tokens cs) (sym same.1) (subst (λ ts. P ts w.comments) (sym same.0) w.holds)

pub source_once : (text : List ℕ) (a b : File Span) → IsSourceFile text a → IsSourceFile text b → a ≡ b
source_once text a b s t =
    let same = tokens_once text s.tokens t.tokens s.comments t.comments s.reads.scans t.reads.scans in
    file_one s.tokens a b s.reads.spells (subst (λ ts. SpellsFile ts b) same.0 t.reads.spells)

pub trees_once : (fs : List Source) (a b : List (SourceTree Span)) → AreTrees IsSourceFile fs a → AreTrees IsSourceFile fs b → a ≡ b
trees_once _ _ _ none none = refl
trees_once _ _ _ (file f t fs ts s r) (file _ u _ us v w) =
    ap (λ x. record { path = f.path; tree = x } ∷ ts) (source_once f.text t u s v) ∙ ap (λ xs. record { path = f.path; tree = u } ∷ xs) (trees_once fs ts us r w)

pub contains_none : (x : Span) → Contains [] x → ⊥
contains_none x h = let l = h.1 in absurd (omega (arith, l))

-- a weight passes the limit or doesn't
pub never_over : (limit : ℕ) (weights : List ℕ) (i : ℕ) → All (λ w. w ≤ limit) weights → limit < slice_index weights i → ⊥
never_over limit [] i all over = absurd (omega (arith, over))
never_over limit (w ∷ ws) zero all over = let within = all 0 w (omega arith) in absurd (omega (arith, within, over))
never_over limit (w ∷ ws) (suc i) all over = never_over limit ws i (λ j d l. all (suc j) d (omega (arith, l))) over

-- a source file of supported words that nests within the limit has no fault
text_never : (fault : TextFault) (text : List ℕ) (tree : File Span) → HasSupportedWords text → NestsWithin text → IsSourceFile text tree → Fails fault text → ⊥
text_never (NotUtf8 at) text tree w n s f = f.1 s.tokens s.comments s.reads.scans
text_never (BadToken at) text tree w n s f = f.1 s.tokens s.comments s.reads.scans
text_never (Unsupported span) text tree w n s f =
    let first = same_tokens text (λ ts cs. IsFirst (unsupported_spans text ts cs) (Some span)) f s.tokens s.comments s.reads.scans in
    let no = same_tokens text (λ ts cs. IsSupported text ts cs) w s.tokens s.comments s.reads.scans in
    contains_none span (subst (λ spans. Contains spans span) no first.0)
text_never (TooDeep at) text tree w n s f =
    let over = same_tokens text (λ ts cs. IsFirstOver MAX_LIMIT ts (Some at)) f s.tokens s.comments s.reads.scans in
    let within = same_tokens text (λ ts cs. IsFirstOver MAX_LIMIT ts None) n s.tokens s.comments s.reads.scans in
    never_over MAX_LIMIT (weights_of s.tokens) (length over.front) within over.over
text_never (NotRead at) text tree w n s f =
    let refused = same_tokens text (λ ts cs. _) f s.tokens s.comments s.reads.scans in
    refused_spells_none (length text) (lexemes s.tokens) at refused tree s.reads.spells

tree_among : (xs : List Source) (x : Source) (ys : List Source) (trees : List (SourceTree Span)) (fs : List Source) → AreTrees IsSourceFile fs trees → fs ≡ xs ++ x ∷ ys → (tree : File Span) × IsSourceFile x.text tree
tree_among [] x ys _ _ none e = absurd cc
tree_among (y ∷ xs) x ys _ _ none e = absurd cc
tree_among [] x ys _ _ (file f tree fs trees is rest) e = let same : f ≡ x = cc in (tree, subst (λ z. IsSourceFile z.text tree) same is)
tree_among (y ∷ xs) x ys _ _ (file f tree fs trees is rest) e = let same : fs ≡ xs ++ x ∷ ys = cc in tree_among xs x ys trees fs rest same

-- source files of supported words that nest within the limit have no fault of a text
pub texts_never : (fs : List Source) (trees : List (SourceTree Span)) (k : ℕ) (fault : TextFault) → AreTrees IsSourceFile fs trees → All (λ f. HasSupportedWords f.text) fs → All (λ f. NestsWithin f.text) fs
    → FailsFirst (λ f. Passes fault f.text) (λ f. Fails fault f.text) fs k → ⊥
texts_never fs trees k fault are words shallow first =
    let supported = all_at (λ (f : Source). HasSupportedWords f.text) first.before first.of first.behind (subst (All (λ f. HasSupportedWords f.text)) first.is words) in
    let nests = all_at (λ (f : Source). NestsWithin f.text) first.before first.of first.behind (subst (All (λ f. NestsWithin f.text)) first.is shallow) in
    let tree = tree_among first.before first.of first.behind trees fs are first.is in
    text_never fault first.of.text tree.0 supported nests tree.1 first.fails

-- nor have the packages of a module
graph_never : LinkedHaveNoFault → (files : List SourceFile) → AreModule files → (error : GraphError) (fault : GraphFault) → RefusesPackages (sources_of files) error → ((path : List ℕ) (trees : List (SourceTree Span)) → IsGraphFault path trees error → IsFault path trees fault) → ⊥
graph_never none_linked files m error fault r is =
    let trees = trees_once (go_sources (sources_of files)) r.trees m.trees r.trees_are m.trees_are in
    let answer : is_module r.path ≡ is_module m.path = sym r.path_is ∙ m.path_is in
    let path : r.path ≡ m.path = cc in
    none_linked m.path m.trees fault m.links (subst (λ p. IsFault p m.trees fault) path (subst (λ ts. IsFault r.path ts fault) trees (is r.path r.trees r.fault)))

fault_never : LinkedHaveNoFault → (files : List SourceFile) (fault : ReadFault) (r : Refusal) → AreModule files → Refuses (sources_of files) fault → Tells files fault r → ⊥
fault_never none_linked files (Text k fault) r m why told = texts_never (go_sources (sources_of files)) m.trees k fault m.trees_are m.words m.shallow why.1.first
fault_never none_linked files (Module NoModuleLine) r m why told = let clash : no_module_line ≡ is_module m.path = sym why ∙ m.path_is in absurd cc
fault_never none_linked files (Module (OldGo v)) r m why told = let clash : old_go v ≡ is_module m.path = sym why ∙ m.path_is in absurd cc
fault_never none_linked files (Module (MixedPackage k at)) r m why told = graph_never none_linked files m (MixedPackage k at) (mixed_package k at) why (λ path trees f. f)
fault_never none_linked files (Module (NoPackage k at p)) r m why told = graph_never none_linked files m (NoPackage k at p) (no_package k at p) why (λ path trees f. f)
fault_never none_linked files (Module (Cycle p)) r m why told = graph_never none_linked files m (Cycle p) (cycle p) why (λ path trees f. f)
fault_never none_linked files (Module (Internal k at p)) r m why told = graph_never none_linked files m (Internal k at p) (internal_package k at p) why (λ path trees f. f)
fault_never none_linked files (Module NoMemory) r m why told = absurd told

pub module_never_refused : LinkedHaveNoFault → ModulesHaveNoRefusal
module_never_refused none_linked files r m is = fault_never none_linked files is.fault r m is.is is.tells
