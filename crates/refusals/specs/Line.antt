-- The line of a refusal: `gofix: NUMBER WHERE: DETAIL`, where WHERE is `PATH:LINE:COL`, or a path, or `module`.
use Rattle.std.specs.Prelude.{ℕ, List, ◌++◌, Option, Some, None, codes, decimal}
use Rattle.go_tree.specs.declared.spans.Place.{Place}
use Rattle.refusals.specs.declared.refusal.Detail.{Detail}
use Rattle.refusals.specs.declared.refusal.Refusal.{Refusal}
use Rattle.refusals.specs.Refusals.{number_of, text_of, whole_of}

-- the line of a cause in this whole
abbrev pub line_in : List ℕ → Detail → List ℕ
line_in whole detail =
    codes "gofix: " ++ decimal (number_of detail) ++ codes " " ++ whole ++ codes ": " ++ text_of detail ++ codes "\n"

-- `PATH:LINE:COL`
abbrev pub place_in : List ℕ → Place → List ℕ
place_in path place = path ++ codes ":" ++ decimal place.line ++ codes ":" ++ decimal place.col

-- the line of a cause at a place of the file with this path
abbrev pub line_at : List ℕ → Place → Detail → List ℕ
line_at path place detail = line_in (place_in path place) detail

-- where a cause is: in a listed file, which has this path, maybe at a place; or elsewhere
abbrev pub where_of : Detail → Option ℕ → Option Place → List ℕ → List ℕ
where_of detail None place path = whole_of detail
where_of detail (Some _) None path = path
where_of detail (Some _) (Some place) path = place_in path place

-- the line of a refusal, by the path of the file that it names
abbrev pub line_of : Refusal → List ℕ → List ℕ
line_of r path = line_in (where_of r.detail r.file r.place path) r.detail
