-- What is asked of a marked function and of the use that becomes its literal, where no import is added (Go
-- specification, Import declarations; Constant declarations).
use Rattle.std.specs.Prelude.{◌≡◌, ℕ, Bool, true, List, [], is_some, slice_get}
use Rattle.std.specs.List.{list_all}
use Rattle.pkg_graph.specs.Package.{Package, import_specs}
use Rattle.run_rules.specs.Calls.{body_seen}
use Rattle.run_rules.specs.Naming.{imports_added}
use Rattle.run_rules.specs.Programs.{package_number}
use Rattle.run_rules.specs.Sites.{MarkRef, Where, Site}
use Rattle.literal_steps.specs.LiteralUse.{LiteralUse, call_of}
use Rattle.literal_steps.specs.TypedParts.{AllWithoutConstants}

-- each import of a file names one of the packages
abbrev pub imports_are_there : {S : Type 0} → List (Package S) → Where S → Bool
imports_are_there ps w = list_all (λ s. is_some (slice_get ps (package_number ps s.path))) (import_specs w.source.tree)

module _ {S : Type 0} (same : S → S → Bool) (commented : ℕ → ℕ → S → Bool) (rs : List (Package S))
    (marks : List MarkRef) (x : Site S) (u : LiteralUse same commented rs marks x) where
  -- The form needs no import that isn't there. Each import of the function's file names a package, and the function's
  -- body declares no group of constants.
  pub record NeedsNoImport : Type 0 where
    pub none_added : imports_added u.packages ≡ []
    pub imports_there : imports_are_there rs u.home ≡ true
    pub no_constants : AllWithoutConstants (body_seen same rs (call_of same commented rs marks x u))
