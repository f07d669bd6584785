-- Each declaration of a well-typed file is as import_uses asks.
use Rattle.std.proofs.Common.{◌≡◌, refl, ℕ, zero, suc, List, [], ◌∷◌, Some}
use Rattle.std.specs.Prelude.{slice_get}
use Rattle.go_tree.specs.File.{Decl}
use Rattle.printed_constants.specs.TypedParts.ScopedParts.Laws.{WellTypedFilesAreScoped}
use Rattle.printed_constants.specs.TypedParts.StandingUses.ImportUses.Steps.{EachDecl, IsStanding}
use Rattle.printed_constants.specs.TypedParts.DottedImports.Laws.{WellTypedFilesAreDotted, WellTypedFilesStand}
use Rattle.printed_constants.proofs.TypedParts.DottedImports.Decls.{programs_dotted}

pub files_dotted : WellTypedFilesAreDotted
files_dotted ps ordered typed w package_is file_is i d e = programs_dotted ps ordered typed w package_is file_is i d e

-- what holds of each by its number holds of all
each_nth : {S : Type 0} (P : Decl S → Type 0) (ds : List (Decl S)) → ((i : ℕ) (d : Decl S) → slice_get ds i ≡ Some d → P d) → EachDecl P ds
each_nth P [] h = tt
each_nth P (d ∷ ds) h = (h zero d refl, each_nth P ds (λ i c e. h (suc i) c e))

pub files_stand : WellTypedFilesAreScoped → WellTypedFilesStand
files_stand scoped ps ordered typed w text package_is file_is reads =
    each_nth (IsStanding ps w) w.source.tree.decls
    (λ i d e. let s = scoped ps ordered typed w text package_is file_is reads i d e in
    record { scoped = s.0; keyed = s.1; dotted = files_dotted ps ordered typed w package_is file_is i d e })
