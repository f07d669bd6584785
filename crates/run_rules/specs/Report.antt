-- The report of a run: a line for each step, each use that is kept and each bad mark, by their places in the files as
-- read (golang.org/x/tools, analyzer inline, for what is reported; the lines are this project's own).
use Rattle.std.specs.Prelude.{ℕ, ◌+◌, Bool, bytes_eq, nat_le, List, [], ◌∷◌, ◌++◌, map, take, Some}
use Rattle.std.specs.Prelude.{None, if◌then◌else◌, codes, decimal}
use Rattle.directive_scan.specs.TextPlacesLines.{lines_before, column_after}
use Rattle.pkg_graph.specs.ModuleFiles.Pieces.{comes_before}
use Rattle.directive_scan.specs.declared.mark_types.BadReason.{BadReason}
use Rattle.directive_scan.specs.declared.mark_types.BadReason.TheVariants.{NotNamedConstant, NotAlias, NothingMarked}
use Rattle.run_rules.specs.FormTrees.{FormKind, ConstForm, TypeForm, ExprForm, BlockForm, TailForm, LiteralForm}
use Rattle.run_rules.specs.Obstacles.{Obstacle, NotAccessible, Internal, Shadowed, Recursive, CommentInside, Spread}
use Rattle.run_rules.specs.Obstacles.{Repeated}
use Rattle.run_rules.specs.Texts.{FileText}
use Rattle.run_rules.specs.Marks.{BadAt, full_name, text_at}
use Rattle.run_rules.specs.Run.{Logged, KeptUse}

-- the words for forms
abbrev pub form_text : FormKind → List ℕ
form_text ConstForm = codes "const"
form_text TypeForm = codes "type"
form_text ExprForm = codes "expr"
form_text BlockForm = codes "block"
form_text TailForm = codes "tail"
form_text LiteralForm = codes "literal"

-- the words for obstacles
abbrev pub obstacle_text : Obstacle → List ℕ
obstacle_text (NotAccessible name) = codes "not accessible: " ++ name
obstacle_text (Internal path) = codes "internal package: " ++ path
obstacle_text (Shadowed name) = codes "shadowed: " ++ name
obstacle_text Recursive = codes "recursive"
obstacle_text CommentInside = codes "comment inside"
obstacle_text Spread = codes "spread arguments"
obstacle_text Repeated = codes "repeated expression"

-- the words for bad marks
abbrev pub reason_text : BadReason → List ℕ
reason_text NotNamedConstant = codes "constant is not another named constant"
reason_text NotAlias = codes "type is not an alias"
reason_text NothingMarked = codes "nothing is marked"

-- what has a line: a step, a kept use, a bad mark
pub data Entry : Type 0 where
  step_entry : Logged → Entry
  kept_entry : KeptUse → Entry
  bad_entry : BadAt → Entry

-- the path of the file
abbrev pub file_of : Entry → List ℕ
file_of (step_entry l) = l.file
file_of (kept_entry k) = k.file
file_of (bad_entry b) = b.0

-- the offset in the file as read
abbrev pub offset_of : Entry → ℕ
offset_of (step_entry l) = l.origin.start
offset_of (kept_entry k) = k.origin.start
offset_of (bad_entry b) = b.1.at

-- ---- order: by path, then by offset; those of one place keep their order

-- by path, and then by offset
abbrev pub is_not_after : Entry → Entry → Bool
is_not_after a b =
    if bytes_eq (file_of a) (file_of b) then nat_le (offset_of a) (offset_of b)
    else comes_before (file_of a) (file_of b)

-- an entry put among others, before the first that isn't before it
abbrev pub put_entry : Entry → List Entry → List Entry
put_entry e [] = e ∷ []
put_entry e (f ∷ fs) = if is_not_after e f then e ∷ f ∷ fs else f ∷ put_entry e fs

-- entries by path and offset; those of one place keep their order
abbrev pub arranged : List Entry → List Entry
arranged [] = []
arranged (e ∷ es) = put_entry e (arranged es)

-- ---- lines

-- path, line and column
abbrev pub place_text : List ℕ → List ℕ → ℕ → List ℕ
place_text file text offset =
    file ++ (codes ":" ++ (decimal (lines_before (take offset text) + 1)
    ++ (codes ":" ++ decimal (column_after (take offset text) + 1))))

-- what is told of an entry
abbrev pub told : Entry → List ℕ
told (step_entry l) = codes ": inlined " ++ (full_name l.home l.name ++ (codes " as " ++ form_text l.form))
told (kept_entry k) = codes ": kept " ++ (full_name k.home k.name ++ (codes ": " ++ obstacle_text k.obstacle))
told (bad_entry b) = codes ": bad mark: " ++ reason_text b.1.reason

-- the bytes of a file as read
abbrev pub read_text : List ℕ → List (List ℕ × FileText) → List ℕ
read_text path files = elim (text_at path files) [ None ↦ [] | Some t ↦ t.text ]

-- line and column are those of the origin in the file as read
abbrev pub line_of : List (List ℕ × FileText) → Entry → List ℕ
line_of files e = place_text (file_of e) (read_text (file_of e) files) (offset_of e) ++ (told e ++ codes "\n")

-- a line for each entry
abbrev pub lines_of : List (List ℕ × FileText) → List Entry → List ℕ
lines_of files [] = []
lines_of files (e ∷ es) = line_of files e ++ lines_of files es

-- The report over the files as read: steps in their order, kept uses in the order of their places, and bad marks.
abbrev pub report_of : List (List ℕ × FileText) → List Logged → List KeptUse → List BadAt → List ℕ
report_of files log kept bad =
    lines_of files (arranged (map step_entry log ++ (map kept_entry kept ++ map bad_entry bad)))
