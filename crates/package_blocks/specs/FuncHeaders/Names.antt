-- Names of parameters and results as they are read one by one (Go specification, Function declarations).
use Rattle.std.specs.Prelude.{◌≡◌, ℕ, Bool, true, false, List, [], ◌++◌}
use Rattle.typed_names.specs.Meanings.{Names}
use Rattle.typed_names.specs.TypeExprs.Fields.{NamesSeen, are_new}

-- of all names some are seen, and the rest is left; else a name stands again
abbrev pub NamesAfter : List (List ℕ) → List (List ℕ) → Names → Bool → Type 0
NamesAfter all rest seen true = NamesSeen all rest seen
NamesAfter all rest seen false = are_new [] all ≡ false

-- names are seen one after the other, or one of them stands again
abbrev pub AddsNames : List (List ℕ) → Names → Names → Bool → Type 0
AddsNames ns old new b =
    (all rest : List (List ℕ)) → NamesSeen all (ns ++ rest) old → NamesAfter all rest new b

-- of the names of parameters some are seen, and the rest is left
abbrev pub NamesLeft : List (List ℕ) → List (List ℕ) → Names → Names → Type 0
NamesLeft ns left old new =
    (all rest : List (List ℕ)) → NamesSeen all (ns ++ rest) old → NamesSeen all (left ++ rest) new
