-- When a table of declared types serves a program: of the keys of its composite literals it tells which name fields (Go
-- specification, Composite literals; Types; Declarations and scope).
use Rattle.std.specs.Prelude.{◌≡◌, List, Some, slice_get}
use Rattle.member_uses.specs.Laws.{Knows}
use Rattle.member_uses.specs.Uses.{Names}
use Rattle.pkg_graph.specs.Package.{Package}
use Rattle.repeated_parts.specs.declared.literal_types.table.LiteralTypes.{LiteralTypes}
use Rattle.repeated_parts.specs.UseSearch.UsesOfMarks.Laws.{EachTold}
use Rattle.run_rules.specs.Respanned.{file_with}
use Rattle.run_rules.specs.Run.{here_of}
use Rattle.run_rules.specs.Sites.{Where}
use Rattle.run_rules.specs.Steps.{At}

-- In each file the table tells it, by whatever table of the file's scopes.
abbrev pub TellsFields : List (Package At) → LiteralTypes → Type 0
TellsFields ps t =
    (w : Where At) → slice_get ps w.number ≡ Some w.of → slice_get w.of.files w.file_number ≡ Some w.source
    → (f : Names) → Knows here_of (file_with here_of) ps w f → EachTold ps w f t w.source.tree.decls
