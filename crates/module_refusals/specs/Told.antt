-- How a reason why files aren't a module is told: by what is wrong, the file in which it is, and its line and column
-- (Go specification, Source code representation; Package clause; Import declarations).
use Rattle.std.specs.Prelude.{◌≡◌, ℕ, List, Some, None}
use Rattle.std.specs.List.{slice_get}
use Rattle.go_tree.specs.declared.spans.Span.{Span}
use Rattle.go_tree.specs.File.{File}
use Rattle.go_scan.specs.Unsupported.{bytes_in}
use Rattle.source_files.specs.Places.{place_of}
use Rattle.pkg_graph.specs.declared.module_files.faults.GraphError.{GraphError}
use Rattle.pkg_graph.specs.declared.module_files.faults.GraphError.TheVariants as graph
use Rattle.run_rules.specs.Inlining.{IsSourceFile}
use Rattle.refusals.specs.declared.refusal.Detail.{Detail}
use Rattle.refusals.specs.declared.refusal.Detail.TheVariants as detail
use Rattle.refusals.specs.declared.refusal.Refusal.{Refusal}
use Rattle.source_files.specs.declared.files.SourceFile.{SourceFile}
use Rattle.module_texts.specs.declared.faults.TextFault.{TextFault}
use Rattle.module_texts.specs.declared.faults.TextFault.TheVariants.{NotUtf8, BadToken, Unsupported, TooDeep, NotRead}
use Rattle.module_texts.specs.declared.faults.ReadFault.{ReadFault}
use Rattle.module_texts.specs.declared.faults.ReadFault.TheVariants.{Text, Module}
use Rattle.module_texts.specs.Files.{go_files}

-- this is told of a byte of a file
abbrev pub told_at : SourceFile → ℕ → Detail → Refusal
told_at f at what = record { file = Some f.index; place = Some (place_of f.bytes at); detail = what }

-- this is told of no file
abbrev pub told_whole : Detail → Refusal
told_whole what = record { file = None; place = None; detail = what }

-- this holds of the file of Go source with this number
abbrev pub OfFile : List SourceFile → ℕ → (SourceFile → Type 0) → Type 0
OfFile files k P = (f : SourceFile) × (slice_get (go_files files) k ≡ Some f) × P f

-- the text is a source file of the package with this name
abbrev pub NamesPackage : List ℕ → List ℕ → Type 0
NamesPackage text name = (tree : File Span) × IsSourceFile text tree × (tree.package_name.name ≡ name)

-- the byte at which a fault of a text is seen
abbrev pub fault_at : TextFault → ℕ
fault_at (NotUtf8 at) = at
fault_at (BadToken at) = at
fault_at (Unsupported span) = span.start
fault_at (TooDeep at) = at
fault_at (NotRead at) = at

-- what is told of it: of a word that isn't supported, the word
abbrev pub fault_detail : TextFault → List ℕ → Detail
fault_detail (NotUtf8 _) text = detail.NotUtf8
fault_detail (BadToken _) text = detail.BadToken
fault_detail (Unsupported span) text = detail.Unsupported (bytes_in text span)
fault_detail (TooDeep _) text = detail.TooDeep
fault_detail (NotRead _) text = detail.NotRead

-- How what is wrong with `go.mod` or the packages is told: of a file whose package is named otherwise than its
-- folder's, the name, and of an import its path. Want of memory isn't told.
abbrev pub TellsModule : List SourceFile → GraphError → Refusal → Type 0
TellsModule files graph.NoModuleLine r = r ≡ told_whole detail.NoModuleLine
TellsModule files (graph.OldGo version) r = r ≡ told_whole (detail.OldGo version)
TellsModule files (graph.MixedPackage k at) r =
    OfFile files k (λ f. (name : List ℕ) × NamesPackage f.bytes name × (r ≡ told_at f at (detail.MixedPackage name)))
TellsModule files (graph.NoPackage k at path) r = OfFile files k (λ f. r ≡ told_at f at (detail.NoPackage path))
TellsModule files (graph.Cycle path) r = r ≡ told_whole (detail.Cycle path)
TellsModule files (graph.Internal k at path) r = OfFile files k (λ f. r ≡ told_at f at (detail.Internal path))
TellsModule files graph.NoMemory r = ⊥

-- how a reason is told
abbrev pub Tells : List SourceFile → ReadFault → Refusal → Type 0
Tells files (Text k fault) r = OfFile files k (λ f. r ≡ told_at f (fault_at fault) (fault_detail fault f.bytes))
Tells files (Module error) r = TellsModule files error r
