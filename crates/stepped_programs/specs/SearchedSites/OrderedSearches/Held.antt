-- What the code has of a program as it stands (Go specification, Packages; Source file organization; Constant
-- declarations; Declarations and scope).
use Rattle.std.specs.Prelude.{◌≡◌, ℕ, ◌<◌, ◌^◌, true, Bool, List, [], ◌∷◌, map, length, Some}
use Rattle.std.specs.Prelude.{None, slice_get}
use Rattle.go_tree.specs.Tree.{NameAt, Expr}
use Rattle.go_scan.specs.TokenLists.{TokenLists}
use Rattle.fresh_names.specs.Laws.{TakesFew}
use Rattle.run_rules.specs.ImportRules.Needs.{avoided}
use Rattle.pkg_graph.specs.Package.{Package}
use Rattle.pkg_graph.specs.Views.{package_view}
use Rattle.run_rules.specs.Sites.{MarkRef, Where, a_constant, is_among_marks, where_is, inlinable}
use Rattle.run_rules.specs.Marks.{text_at}
use Rattle.run_rules.specs.Texts.{FileText}
use Rattle.run_rules.specs.Respanned.{file_with, packages_with}
use Rattle.run_rules.specs.Steps.{At}
use Rattle.run_rules.specs.Run.{Standing, here_of}
use Rattle.run_rules.specs.Inlining.{ReadsAs}
use Rattle.constant_steps.specs.FormImports.ImportLaws.Steps.{names_standing}
use Rattle.member_uses.specs.Laws.{AllConstants}
use Rattle.module_marks.specs.Tables.{IsTableOf}
use Rattle.module_marks.specs.Views.{mark_ref_of}
use Rattle.repeated_parts.specs.UseSearch.MarkValues.Tables.{DeclKey, key_of, value_in}
use Rattle.repeated_parts.specs.UseSearch.UsesOfMarks.Laws.{EachSound}
use Rattle.stepped_programs.specs.declared.package_search.looks.ProgramSources.{ProgramSources}
use Rattle.stepped_programs.specs.PackageSearch.Search.{is_settled}
use Rattle.stepped_programs.specs.SearchedSites.Fields.{TellsFields}
use Rattle.stepped_programs.specs.SearchedSites.Searched.{AreSearched, sites_in_file}
use Rattle.stepped_programs.specs.SearchedSites.Told.{IsToldValue, IsFile}
use Rattle.repeated_parts.specs.declared.use_search.search.FoundObstacle.{FoundObstacle}
use Rattle.repeated_parts.specs.declared.use_search.views.FileView.{FileView}

-- The file stands there among the packages.
pub record IsThere (ps : List (Package At)) (w : Where At) : Type 0 where
  pub package_is : slice_get ps w.number ≡ Some w.of
  pub file_is : slice_get w.of.files w.file_number ≡ Some w.source

-- The file reads from its text, which has these tokens and comments.
pub record AreTokensOf (st : Standing) (w : Where At) (list : TokenLists) : Type 0 where
  pub text : FileText
  pub stands : text_at w.source.path st.texts ≡ Some text
  pub reads : ReadsAs text (file_with here_of w.source.tree)
  pub tokens_are : list.items ≡ text.tokens
  pub comments_are : list.comments ≡ text.comments

-- The file may be searched: the names that aren't new in it are few, and its declarations are as marked_uses asks.
pub record IsSearchable (marks : List MarkRef) (st : Standing) (w : Where At) : Type 0 where
  pub few_words : TakesFew w.source.tree (avoided (names_standing st.packages w) [])
  pub sound : EachSound st.packages w w.source.tree.decls

-- The code has the program: its packages, which of their declarations are marked, what these are declared as, which keys
-- of composite literals name fields, and the tokens of the files of each package by its number. Each file may be
-- searched.
pub record IsHeld (marks : List MarkRef) (st : Standing) (s : ProgramSources) (tokens : ℕ → List TokenLists) : Type 0
  where
    pub packages_are : map package_view s.packages.now ≡ packages_with here_of st.packages
    pub few : length st.packages < 2 ^ 32
    pub constants : AllConstants st.packages marks
    pub fields : TellsFields st.packages s.types.now
    pub marked : IsTableOf (packages_with here_of st.packages) marks s.marks.now
    pub values :
        (m : MarkRef) (home : Where At) (n : NameAt At) (e : Expr At) → is_among_marks marks m ≡ true
        → where_is st.packages m ≡ Some home → inlinable st.packages m ≡ Some (a_constant n e)
        → IsToldValue st.packages home e (value_in s.values.now m)
    pub tokens_are :
        (w : Where At) (list : TokenLists) → IsThere st.packages w
        → slice_get (tokens w.number) w.file_number ≡ Some list → AreTokensOf st w list
    pub searchable : (w : Where At) → IsThere st.packages w → IsSearchable marks st w

-- ---- files that are settled

-- which files use constants of which declarations; a file is known by the number of its package and its own
abbrev pub Users : Type 0
Users = DeclKey → ℕ → ℕ → Bool

-- who is known to use the constants of a declaration still is
abbrev pub KeepUsers : Users → Users → Type 0
KeepUsers were users = (d : DeclKey) (k i : ℕ) → were d k i ≡ true → users d k i ≡ true

-- the file is known to use the constants of which a search found these uses
abbrev pub AreUsed : Users → ℕ → ℕ → List FoundObstacle → Type 0
AreUsed users k i [] = Unit {0}
AreUsed users k i (x ∷ xs) = (users (key_of (mark_ref_of x.use_.mark)) k i ≡ true) × AreUsed users k i xs

-- No use in the file is free, as a search in it shows, and it is known to use the constants of its uses.
pub record IsSettled (marks : List MarkRef) (st : Standing) (users : Users) (w : Where At) : Type 0 where
  pub view : FileView
  pub is_file : IsFile marks st w view
  pub kept : List FoundObstacle
  pub searched : AreSearched marks st (sites_in_file marks st w) kept None
  pub used : AreUsed users w.number w.file_number kept

-- whether the flag of the file is set, among those of the files of each package by its number
abbrev pub flag_of : (ℕ → List Bool) → Where At → Bool
flag_of flags w = is_settled (flags w.number) w.file_number

-- Each file whose flag is set is settled.
abbrev pub AreAllSettled : List MarkRef → Standing → Users → (ℕ → List Bool) → Type 0
AreAllSettled marks st users flags =
    (w : Where At) → IsThere st.packages w → flag_of flags w ≡ true → IsSettled marks st users w
