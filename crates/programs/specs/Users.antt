-- Files that use the constants of declarations (Go specification, Constant declarations; Qualified identifiers).
use Rattle.std.specs.Prelude.{◌≡◌, ℕ, Bool, true, ◌&&◌, nat_eq, List, [], ◌∷◌}
use Rattle.std.specs.List.{list_any}
use Rattle.module_marks.specs.Views.{mark_ref_of}
use Rattle.repeated_parts.specs.UseSearch.MarkValues.Tables.{DeclKey, key_of, same_key}
use Rattle.repeated_parts.specs.declared.use_search.search.FoundObstacle.{FoundObstacle}

-- a file by the numbers of its package and itself
abbrev pub FileKey : Type 0
FileKey = ℕ × ℕ

-- two are the same
abbrev pub same_file : FileKey → FileKey → Bool
same_file a b = nat_eq a.0 b.0 && nat_eq a.1 b.1

-- declarations, each with a file that uses its constants
abbrev pub Known : Type 0
Known = List (DeclKey × FileKey)

-- the file uses constants of the declaration
abbrev pub is_user : Known → DeclKey → FileKey → Bool
is_user t k f = list_any (λ e. same_key k e.0 && same_file f e.1) t

-- the file uses the constants that these uses are of
abbrev pub AreItsUses : Known → FileKey → List FoundObstacle → Type 0
AreItsUses users file [] = Unit {0}
AreItsUses users file (k ∷ ks) =
    (is_user users (key_of (mark_ref_of k.use_.mark)) file ≡ true) × AreItsUses users file ks
