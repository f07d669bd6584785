-- Files that are looked at again after a step: those that use a constant of the declaration that it changed (Go
-- specification, Constant declarations).
use Rattle.std.specs.Prelude.{◌≡◌, ℕ, Bool, not, ◌&&◌, List, length, Some, slice_get}
use Rattle.repeated_parts.specs.UseSearch.MarkValues.Tables.{DeclKey}
use Rattle.stepped_programs.specs.PackageSearch.Search.{is_settled}
use Rattle.programs.specs.Users.{Known, is_user}
use Rattle.programs.specs.declared.state.PackageFiles.{PackageFiles}

-- The file with this number stays settled only if it doesn't use a constant of the declaration; the others stay as they
-- are.
pub record IsLeftSettled (users : Known) (d : DeclKey) (k i : ℕ) (old new : List Bool) : Type 0 where
  pub size : length new ≡ length old
  pub here : is_settled new i ≡ (is_settled old i && not (is_user users d (k, i)))
  pub others : (j : ℕ) → (j ≡ i → ⊥) → is_settled new j ≡ is_settled old j

-- Of the files of the package with this number, those stay settled that don't use a constant of the declaration.
pub record AreLeftSettled (users : Known) (d : DeclKey) (k : ℕ) (old new : List Bool) : Type 0 where
  pub size : length new ≡ length old
  pub each : (i : ℕ) → is_settled new i ≡ (is_settled old i && not (is_user users d (k, i)))

-- The flags alone change so.
pub record IsUnsettled (users : Known) (d : DeclKey) (k : ℕ) (old new : PackageFiles) : Type 0 where
  pub texts : new.texts.items ≡ old.texts.items
  pub tokens : new.tokens.items ≡ old.tokens.items
  pub flags : AreLeftSettled users d k old.settled.items new.settled.items

-- So it is in each package.
pub record AreUnsettled (users : Known) (d : DeclKey) (old new : List PackageFiles) : Type 0 where
  pub size : length new ≡ length old
  pub each :
      (k : ℕ) (was now : PackageFiles) → slice_get old k ≡ Some was → slice_get new k ≡ Some now
      → IsUnsettled users d k was now
