-- The entries of a report by their files (golang.org/x/tools, analyzer inline, for what is reported).
use Rattle.std.specs.Prelude.{◌≡◌, ◌⊎◌, ◌≤◌, ℕ, true, bytes_eq, List, [], ◌∷◌, ◌++◌, map}
use Rattle.std.specs.Prelude.{filter}
use Rattle.pkg_graph.specs.ModuleFiles.Pieces.{comes_before}
use Rattle.run_rules.specs.Report.{Entry, file_of, offset_of, arranged}
use Rattle.run_rules.specs.Texts.{FileText}
use Rattle.report_lines.specs.Lines.{lines_of}
use Rattle.report_lines.specs.Laws.{item_of}

-- the path comes before each of these
abbrev pub ComesFirst : List ℕ → List (List ℕ) → Type 0
ComesFirst p [] = Unit {0}
ComesFirst p (q ∷ qs) = (comes_before p q ≡ true) × ComesFirst p qs

-- each path comes before those behind it
abbrev pub PathsAscend : List (List ℕ) → Type 0
PathsAscend [] = Unit {0}
PathsAscend (p ∷ ps) = ComesFirst p ps × PathsAscend ps

-- it is one of these paths
abbrev pub IsPathIn : List (List ℕ) → List ℕ → Type 0
IsPathIn [] f = ⊥
IsPathIn (p ∷ ps) f = (f ≡ p) ⊎ IsPathIn ps f

-- it holds for each entry
abbrev pub EachEntry : (Entry → Type 0) → List Entry → Type 0
EachEntry P [] = Unit {0}
EachEntry P (e ∷ es) = P e × EachEntry P es

-- the entries of a file
abbrev pub entries_in : List ℕ → List Entry → List Entry
entries_in path es = filter (λ e. bytes_eq (file_of e) path) es

-- the entries of one file after the other, by their offsets; those of one place keep their order
abbrev pub by_files : List (List ℕ) → List Entry → List Entry
by_files [] es = []
by_files (p ∷ ps) es = arranged (entries_in p es) ++ by_files ps es

-- the lines of one file after the other
abbrev pub lines_by_file : List (List ℕ × FileText) → List Entry → List ℕ
lines_by_file [] es = []
lines_by_file (t ∷ ts) es = lines_of t.0 t.1.text (map item_of (arranged (entries_in t.0 es))) ++ lines_by_file ts es

-- the entry lies within so many bytes
abbrev pub LiesWithin : ℕ → Entry → Type 0
LiesWithin size e = offset_of e ≤ size
