-- Places of imports that are to be added.
use Rattle.std.specs.Prelude.{ℕ, not, List, map}
use Rattle.std.specs.List.{prefix_len}
use denote.Ref.{Bor}
use Rattle.run_rules.specs.declared.import_rules.new_import.NewImport.{NewImport}
use Rattle.run_rules.specs.ImportRules.SpecText.{is_before}

-- the imports that a list refers to
abbrev pub imports_of : List (Bor NewImport) → List NewImport
imports_of list = map (λ i. i.now) list

-- how many of the imports stand before one
abbrev pub place_of : NewImport → List NewImport → ℕ
place_of i js = prefix_len (λ j. not (is_before i j)) js
