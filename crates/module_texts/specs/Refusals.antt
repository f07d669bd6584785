-- Why the texts of a module's files aren't read (Go specification, Source code representation; Lexical elements; Source
-- file organization).
use Rattle.std.specs.Prelude.{◌≡◌, ⊤, ℕ, List, ◌∷◌, ◌++◌, length, All, Some, None}
use Rattle.std.specs.Str.{IsValidUpTo}
use Rattle.go_tree.specs.declared.spans.Span.{Span}
use Rattle.go_tree.specs.declared.tokens.Token.{Token}
use Rattle.go_tree.specs.declared.tokens.Comment.{Comment}
use Rattle.go_tree.specs.File.{File}
use Rattle.go_tree.specs.GoWords.Terminals.{lexemes}
use Rattle.go_tree.specs.GoWords.Tokens.{TokensOf, StopsAt}
use Rattle.go_scan.specs.Scanned.{HasNoTokens}
use Rattle.go_scan.specs.Unsupported.{IsFirst, unsupported_spans}
use Rattle.go_nesting.specs.declared.counts.TheConstants.{MAX_LIMIT}
use Rattle.go_nesting.specs.Over.{IsFirstOver}
use Rattle.go_nesting.specs.Sources.{IsSupported}
use Rattle.go_read.specs.SpellsFiles.{SpellsFile}
use Rattle.go_read.specs.Fronts.{IsRefusedAt}
use Rattle.pkg_graph.specs.declared.module_files.faults.GraphError.TheVariants.{NoMemory}
use Rattle.pkg_graph.specs.Reads.{Source}
use Rattle.module_texts.specs.declared.faults.TextFault.{TextFault}
use Rattle.module_texts.specs.declared.faults.TextFault.TheVariants.{NotUtf8, BadToken, Unsupported, TooDeep, NotRead}
use Rattle.module_texts.specs.declared.faults.ReadFault.{ReadFault}
use Rattle.module_texts.specs.declared.faults.ReadFault.TheVariants.{Text, Module}
use Rattle.source_files.specs.declared.files.SourceFile.{SourceFile}
use Rattle.module_texts.specs.declared.files.ScannedFile.{ScannedFile}

-- All before the one of number `k` pass, and that one fails.
pub record FailsFirst {A : Type 0} (Passes Fails : A → Type 0) (xs : List A) (k : ℕ) : Type 0 where
  pub before : List A
  pub of : A
  pub behind : List A
  pub is : xs ≡ before ++ of ∷ behind
  pub count : length before ≡ k
  pub passes : All Passes before
  pub fails : Fails of

-- ---- by texts

-- the text has tokens and comments, of which this holds
pub record WithTokens (text : List ℕ) (P : List Token → List Comment → Type 0) : Type 0 where
  pub tokens : List Token
  pub comments : List Comment
  pub words : TokensOf text tokens comments
  pub holds : P tokens comments

-- the text has tokens
abbrev pub HasTokens : List ℕ → Type 0
HasTokens text = WithTokens text (λ tokens comments. Unit {0})

-- it has tokens, and each word is supported
abbrev pub HasSupportedWords : List ℕ → Type 0
HasSupportedWords text = WithTokens text (λ tokens comments. IsSupported text tokens comments)

-- it has tokens, and none nests too deeply
abbrev pub NestsWithin : List ℕ → Type 0
NestsWithin text = WithTokens text (λ tokens comments. IsFirstOver MAX_LIMIT tokens None)

-- it has tokens that spell a file
abbrev pub SpellsAFile : List ℕ → Type 0
SpellsAFile text = WithTokens text (λ tokens comments. (tree : File Span) × SpellsFile tokens tree)

-- what the fault says of the text
abbrev pub Fails : TextFault → List ℕ → Type 0
Fails (NotUtf8 at) text = IsValidUpTo text at × HasNoTokens text
Fails (BadToken at) text = StopsAt text at × HasNoTokens text
Fails (Unsupported span) text =
    WithTokens text (λ tokens comments. IsFirst (unsupported_spans text tokens comments) (Some span))
Fails (TooDeep at) text = WithTokens text (λ tokens comments. IsFirstOver MAX_LIMIT tokens (Some at))
Fails (NotRead at) text = WithTokens text (λ tokens comments. IsRefusedAt (length text) (lexemes tokens) at)

-- the text passes the check that finds such a fault
abbrev pub Passes : TextFault → List ℕ → Type 0
Passes (NotUtf8 _) text = HasTokens text
Passes (BadToken _) text = HasTokens text
Passes (Unsupported _) text = HasSupportedWords text
Passes (TooDeep _) text = NestsWithin text
Passes (NotRead _) text = SpellsAFile text

-- the text passes the checks before that one: tokens, words, nesting, grammar
abbrev pub PassesEarlier : TextFault → List ℕ → Type 0
PassesEarlier (NotUtf8 _) text = Unit {0}
PassesEarlier (BadToken _) text = Unit {0}
PassesEarlier (Unsupported _) text = HasTokens text
PassesEarlier (TooDeep _) text = HasSupportedWords text
PassesEarlier (NotRead _) text = HasSupportedWords text × NestsWithin text

-- All texts pass the checks before the one that finds the fault, and the file of number `k` is the first that fails it.
pub record RefusesTexts (files : List Source) (k : ℕ) (fault : TextFault) : Type 0 where
  pub earlier : All (λ f. PassesEarlier fault f.text) files
  pub first : FailsFirst (λ f. Passes fault f.text) (λ f. Fails fault f.text) files k

-- ---- by files with their tokens

-- each word is supported
abbrev pub HasWords : ScannedFile → Type 0
HasWords s = IsSupported s.file.now.bytes s.tokens.items s.tokens.comments

-- the first word that isn't supported
abbrev pub HasFirstWord : Span → ScannedFile → Type 0
HasFirstWord span s = IsFirst (unsupported_spans s.file.now.bytes s.tokens.items s.tokens.comments) (Some span)

-- no token nests too deeply
abbrev pub IsShallow : ScannedFile → Type 0
IsShallow s = IsFirstOver MAX_LIMIT s.tokens.items None

-- the first token that nests too deeply
abbrev pub IsDeepAt : ℕ → ScannedFile → Type 0
IsDeepAt at s = IsFirstOver MAX_LIMIT s.tokens.items (Some at)

-- the tokens spell a file
abbrev pub HasTree : ScannedFile → Type 0
HasTree s = (tree : File Span) × SpellsFile s.tokens.items tree

-- the tokens spell no file, and the part that isn't read starts here
abbrev pub IsUnreadAt : ℕ → ScannedFile → Type 0
IsUnreadAt at s = IsRefusedAt (length s.file.now.bytes) (lexemes s.tokens.items) at

-- the fault says that a text has no tokens
abbrev pub IsOfTokens : TextFault → Type 0
IsOfTokens (NotUtf8 _) = ⊤
IsOfTokens (BadToken _) = ⊤
IsOfTokens _ = ⊥

-- Why the file of this number has no tokens. Want of memory says nothing of it.
abbrev pub IsOfScan : ℕ → SourceFile → ReadFault → Type 0
IsOfScan number file (Text k fault) = (k ≡ number) × IsOfTokens fault × Fails fault file.bytes
IsOfScan number file (Module NoMemory) = ⊤
IsOfScan number file _ = ⊥

-- Why files have no tokens: the first that has none.
abbrev pub RefusesScan : List SourceFile → ReadFault → Type 0
RefusesScan files (Text k fault) =
    IsOfTokens fault × FailsFirst (λ f. HasTokens f.bytes) (λ f. Fails fault f.bytes) files k
RefusesScan files (Module NoMemory) = ⊤
RefusesScan files _ = ⊥

-- why the file of this number has no tree
abbrev pub IsUnread : ℕ → ScannedFile → ReadFault → Type 0
IsUnread number s (Text k (NotRead at)) = (k ≡ number) × IsUnreadAt at s
IsUnread number s (Module NoMemory) = ⊤
IsUnread number s _ = ⊥

-- why files have no trees: the first that has none
abbrev pub RefusesTrees : List ScannedFile → ReadFault → Type 0
RefusesTrees files (Text k (NotRead at)) = FailsFirst HasTree (IsUnreadAt at) files k
RefusesTrees files (Module NoMemory) = ⊤
RefusesTrees files _ = ⊥

-- why files pass one of the checks of words and of nesting no more
abbrev pub RefusesWords : List ScannedFile → ReadFault → Type 0
RefusesWords files (Text k (Unsupported span)) = FailsFirst HasWords (HasFirstWord span) files k
RefusesWords files (Text k (TooDeep at)) = All HasWords files × FailsFirst IsShallow (IsDeepAt at) files k
RefusesWords files _ = ⊥
