-- The order of uses: each stands before the next by its package, its file or its end, where it isn't the same use
-- listed again (Go specification, Packages; Source file organization; Function types; Struct types).
-- A type that several parameters or fields share is written once, and stands once for each of them; so are its uses.
use Rattle.std.specs.Prelude.{◌≡◌, ℕ, ◌<◌, ◌⊎◌, true, List, [], ◌∷◌, ◌++◌, map}
use Rattle.std.specs.List.{list_all}
use Rattle.go_tree.specs.declared.spans.Span.{Span}
use Rattle.pkg_graph.specs.ModuleFiles.Pieces.{comes_before}
use Rattle.pkg_graph.specs.Package.{Package}
use Rattle.run_rules.specs.Laws.{HasForm}
use Rattle.run_rules.specs.Programs.{dependency_order}
use Rattle.run_rules.specs.Run.{Standing}
use Rattle.run_rules.specs.Sites.{MarkRef, Site, part_span, sites}
use Rattle.run_rules.specs.Steps.{At}

-- where a use stands in the text
abbrev pub span_of : Site At → Span
span_of x = (part_span x.part).here

-- the number is one of these
abbrev pub IsOneOf : ℕ → List ℕ → Type 0
IsOneOf n [] = ⊥
IsOneOf n (m ∷ ms) = (n ≡ m) ⊎ IsOneOf n ms

-- The one number is listed before the other.
abbrev pub ComesBefore : ℕ → ℕ → List ℕ → Type 0
ComesBefore a b [] = ⊥
ComesBefore a b (n ∷ ns) = ((a ≡ n) × IsOneOf b ns) ⊎ ComesBefore a b ns

-- The one use stands before the other: in a package that comes before, in a file of the package that does, or in the
-- same file, where it ends before the other does.
pub data StandsBefore (order : List ℕ) (x y : Site At) : Type 0 where
  package_before : ComesBefore x.at.number y.at.number order → StandsBefore order x y
  file_before : x.at.number ≡ y.at.number → x.at.file_number < y.at.file_number → StandsBefore order x y
  end_before : x.at.number ≡ y.at.number → x.at.file_number ≡ y.at.file_number
      → (span_of x).end < (span_of y).end → StandsBefore order x y

-- The one is the other listed again: the same is used at the same place of the text.
pub record IsAgain (x y : Site At) : Type 0 where
  pub same_package : x.at.number ≡ y.at.number
  pub same_file : x.at.file_number ≡ y.at.file_number
  pub same_span : span_of x ≡ span_of y
  pub same_mark : x.mark ≡ y.mark

-- the use stands behind all of these
abbrev pub StandsBehind : List ℕ → Site At → List (Site At) → Type 0
StandsBehind order x [] = Unit {0}
StandsBehind order x (y ∷ ys) = StandsBefore order y x × StandsBehind order x ys

-- the use is one of these again
abbrev pub IsOneAgain : Site At → List (Site At) → Type 0
IsOneAgain x [] = ⊥
IsOneAgain x (y ∷ ys) = IsAgain x y ⊎ IsOneAgain x ys

-- Each of the uses stands behind all before it, or is one of them again.
abbrev pub UsesAscend : List ℕ → List (Site At) → List (Site At) → Type 0
UsesAscend order before [] = Unit {0}
UsesAscend order before (x ∷ xs) =
    (StandsBehind order x before ⊎ IsOneAgain x before) × UsesAscend order (x ∷ before) xs

-- Each of the uses stands behind the one, or is it again, or is one of those before it again.
abbrev pub AllFollow : List ℕ → List (Site At) → Site At → List (Site At) → Type 0
AllFollow order before x [] = Unit {0}
AllFollow order before x (y ∷ ys) =
    (StandsBefore order x y ⊎ (IsAgain y x ⊎ IsOneAgain y before)) × AllFollow order before x ys

-- none of the uses becomes a form
abbrev pub NoneBecomes : List MarkRef → Standing → List (Site At) → Type 0
NoneBecomes marks st [] = Unit {0}
NoneBecomes marks st (y ∷ ys) = (HasForm marks st y → ⊥) × NoneBecomes marks st ys

-- The use is the first that becomes a form: those before it in the list don't, and those behind it follow it.
pub record IsFirstFree (marks : List MarkRef) (st : Standing) (x : Site At) : Type 0 where
  pub before : List (Site At)
  pub behind : List (Site At)
  pub listed : sites st.packages marks ≡ before ++ x ∷ behind
  pub none_before : NoneBecomes marks st before
  pub follow : AllFollow (dependency_order st.packages) before x behind

-- ---- files

-- each path comes before those behind it
abbrev pub PathsAscend : List (List ℕ) → Type 0
PathsAscend [] = Unit {0}
PathsAscend (p ∷ ps) = (list_all (comes_before p) ps ≡ true) × PathsAscend ps

-- the files of each package stand in the order of their paths
abbrev pub FilesByPath : {S : Type 0} → List (Package S) → Type 0
FilesByPath [] = Unit {0}
FilesByPath (p ∷ ps) = PathsAscend (map (λ f. f.path) p.files) × FilesByPath ps
