-- The laws of names in files that read from texts. Each is the contract of a function of this crate.
use Rattle.std.specs.Prelude.{◌≡◌, ℕ, true, List}
use Rattle.go_tree.specs.declared.spans.Span.{Span}
use Rattle.go_layout.specs.LayoutLaws.Formed.{IsName}
use Rattle.go_translation.specs.Packages.{Package, codes_of}
use Rattle.go_translation.specs.Spelled.{is_spelled, AreSpelled}
use Rattle.go_translation.specs.Frames.{frames_are_kept}
use Rattle.translation_rules.specs.SourceNames.ReadPackages.{AreRead}

-- an identifier begins with a letter, and so not as the name of a temporary or of a result slot does
abbrev pub IdentifiersAreSpelled : Type 0
IdentifiersAreSpelled = (n : List ℕ) → IsName n → is_spelled n ≡ true

-- each local name in packages whose files read from texts is one that a source can spell
abbrev pub NamesInReadPackagesAreSpelled : Type 0
NamesInReadPackagesAreSpelled = (ps : List (Package Span)) → AreRead ps → AreSpelled ps

-- So the terms of such packages keep the frames of deferred literals.
abbrev pub FramesOfReadPackagesAreKept : Type 0
FramesOfReadPackagesAreKept = (ps : List (Package Span)) → AreRead ps → frames_are_kept (codes_of ps) ≡ true
