-- Where imports are added, by the ranges that are removed.
use Rattle.std.specs.Prelude.{ℕ, ◌≤◌, ◌<◌, nat_lt, if◌then◌else◌, List, [], ◌∷◌, ◌++◌}
use Rattle.std.specs.Prelude.{codes}
use Rattle.go_tree.specs.declared.spans.Span.{Span}
use Rattle.go_tree.specs.File.{ImportDecl}
use Rattle.run_rules.specs.declared.import_rules.new_import.NewImport.{NewImport}
use Rattle.run_rules.specs.ImportRules.Added.{Addition, each_within}

-- the offset, or the start of the first range where that is less
abbrev pub least_start : ℕ → List Span → ℕ
least_start at [] = at
least_start at (r ∷ rs) = if nat_lt r.start at then r.start else at

-- within the group that is the last declaration
abbrev pub group_addition : ℕ → List NewImport → Addition
group_addition at added = record { at = at; text = each_within (codes "\t") (codes "\n") added }

-- before the declaration that starts there
abbrev pub front_addition : ℕ → List NewImport → Addition
front_addition at added = record { at = at; text = each_within (codes "import ") (codes "\n") added }

-- behind the package name that ends there
abbrev pub first_addition : ℕ → List NewImport → Addition
first_addition at added = record { at = at; text = codes "\n" ++ each_within (codes "\nimport ") [] added }

-- before the first declaration and all ranges, or behind the package name
abbrev pub addition_before : ℕ → List (ImportDecl Span) → List Span → List NewImport → Addition
addition_before end [] ranges added = first_addition end added
addition_before end (d ∷ ds) ranges added = front_addition (least_start d.span.start ranges) added

-- The last declaration isn't empty and ends in the text.
abbrev pub LastFits : ℕ → List (ImportDecl Span) → Type 0
LastFits size [] = Unit {0}
LastFits size (d ∷ []) = (0 < d.span.end) × (d.span.end ≤ size)
LastFits size (d ∷ e ∷ ds) = LastFits size (e ∷ ds)
