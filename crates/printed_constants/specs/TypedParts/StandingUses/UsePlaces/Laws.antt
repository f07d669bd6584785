-- Where uses of marked declarations stand (Go specification, Operators; Primary expressions; Qualified identifiers;
-- Source file organization).
use Rattle.std.specs.Prelude.{◌≡◌, ℕ, ◌≤◌, List, Some, slice_get}
use Rattle.pkg_graph.specs.Package.{Package}
use Rattle.run_rules.specs.Sites.{MarkRef, Site, sites}
use Rattle.run_rules.specs.Texts.{FileText}
use Rattle.run_rules.specs.Steps.{At, Found}
use Rattle.run_rules.specs.Laws.{LiesBehindImports, file_found}
use Rattle.run_rules.specs.Run.{Standing, step_in}
use Rattle.run_rules.specs.Inlining.{ReadsAs}

-- No place of a use of a program asks for a level above 7, that of a name.
abbrev pub UsesTakeNames : Type 0
UsesTakeNames =
    (ps : List (Package At)) (marks : List MarkRef) (i : ℕ) (x : Site At) → slice_get (sites ps marks) i ≡ Some x
    → x.place.slot.level ≤ 7

-- Nor does that of the use that a step takes.
abbrev pub FoundUsesTakeNames : Type 0
FoundUsesTakeNames =
    (marks : List MarkRef) (st : Standing) (f : Found At) → step_in marks st ≡ Some f → f.site.place.slot.level ≤ 7

-- What the form of a step replaces lies behind the imports of its file, where that reads from its text.
abbrev pub UsesLieBehindImports : Type 0
UsesLieBehindImports =
    (marks : List MarkRef) (st : Standing) (f : Found At) (t : FileText) → step_in marks st ≡ Some f
    → ReadsAs t (file_found f) → LiesBehindImports t.text t.tokens (file_found f) f.range.here
