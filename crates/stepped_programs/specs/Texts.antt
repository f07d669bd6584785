-- The text of a file that a step puts in the place of another (Go specification, Source file organization).
use Rattle.std.specs.Prelude.{◌≡◌, ℕ, ◌<◌, false, List, length, Some, slice_get, slice_set}
use Rattle.go_scan.specs.TokenLists.{TokenLists}
use Rattle.programs.specs.declared.state.PackageFiles.{PackageFiles}

-- There is a file with this number in the package with this number.
pub record HoldsFile (k i : ℕ) (files : List PackageFiles) : Type 0 where
  pub kept : PackageFiles
  pub kept_is : slice_get files k ≡ Some kept
  pub texts : i < length kept.texts.items
  pub tokens : i < length kept.tokens.items
  pub flags : i < length kept.settled.items

-- The file with this number has this text, with these tokens and comments, and isn't settled; of the other files
-- nothing changes.
pub record IsTextPut (i : ℕ) (body : List ℕ) (list : TokenLists) (old new : PackageFiles) : Type 0 where
  pub texts : new.texts.items ≡ slice_set old.texts.items i body
  pub tokens : new.tokens.items ≡ slice_set old.tokens.items i list
  pub flags : new.settled.items ≡ slice_set old.settled.items i false

-- So it is in the package with this number.
pub record ArePut (k i : ℕ) (body : List ℕ) (list : TokenLists) (old new : List PackageFiles) : Type 0 where
  pub was : PackageFiles
  pub was_is : slice_get old k ≡ Some was
  pub now : PackageFiles
  pub put : new ≡ slice_set old k now
  pub file : IsTextPut i body list was now
