-- Laws of refusals (Go specification, Packages).
use Rattle.std.specs.Prelude.{◌≡◌, List}
use Rattle.source_files.specs.declared.files.SourceFile.{SourceFile}
use Rattle.refusals.specs.declared.refusal.Refusal.{Refusal}
use Rattle.refusals.specs.Refusals.{number_of}
use Rattle.module_refusals.specs.Refused.{AreModule, IsRefusal}

-- Files that are a module have no refusal.
abbrev pub ModulesHaveNoRefusal : Type 0
ModulesHaveNoRefusal = (files : List SourceFile) (r : Refusal) → AreModule files → IsRefusal files r → ⊥

-- The refusals have one number, one file and one place.
pub record AreAlike (r s : Refusal) : Type 0 where
  pub number : number_of r.detail ≡ number_of s.detail
  pub file : r.file ≡ s.file
  pub place : r.place ≡ s.place

-- Files have one refusal at most.
abbrev pub RefusalsAreAlike : Type 0
RefusalsAreAlike = (files : List SourceFile) (r s : Refusal) → IsRefusal files r → IsRefusal files s → AreAlike r s
