-- The laws of steps over names of types. Each is the contract of a function of this crate (Go specification, Alias
-- declarations; Source file organization).
use Rattle.std.specs.Prelude.{List}
use Rattle.go_tree.specs.FileBare.{bare_file}
use Rattle.order_runs.specs.CycleRuns.Linked.{SettlesFile}
use Rattle.splice_laws.specs.ImportSplices.AddedFile.{AreWritable}
use Rattle.order_runs.specs.CycleRuns.KeptImports.Files.{PutsNode, RemovesNoNames}
use Rattle.order_runs.specs.CycleRuns.OrderCycles.NewNames.{AvoidsFew}
use Rattle.order_runs.specs.CycleRuns.OrderedSteps.Ranks.{AddsLedTo}
use Rattle.splice_laws.specs.RunLaws.Reading.{ProgramReads}
use Rattle.run_rules.specs.Laws.{file_found}
use Rattle.run_rules.specs.Naming.{imports_added}
use Rattle.run_rules.specs.Run.{Standing, Logged, Next}
use Rattle.run_rules.specs.Sites.{MarkRef}
use Rattle.put_names.specs.ReadImports.PutInText.{PutInText}
use Rattle.splice_laws.specs.Dots.{UndottedFile}
use Rattle.put_names.specs.Uses.{UsesAlias}
use Rattle.put_nodes.specs.SpelledNames.{AreNames}
use Rattle.put_names.specs.PutTypes.Uses.{UsesTypeName, BecomesTypeName}

-- Where the files of a program read from their texts, a step over a name of a type that becomes a name of a type lays
-- it out in the place of a node of the file. Asked of the file: that no selector stands on an integer literal.
abbrev pub TypeNamesArePutBySteps : Type 0
TypeNamesArePutBySteps =
    (marks : List MarkRef) (st : Standing) (l : Logged) (after : Standing) (n : Next marks st l after) → ProgramReads st
    → UndottedFile (bare_file (file_found n.found)) → UsesTypeName n → BecomesTypeName n → PutsNode n × PutInText n

-- So it settles its file, as cycle_runs asks of a step, where its added imports can be written, and are of packages
-- that are led to; the names to avoid are fewer than 2^64; and no import that goes has the name of an identifier.
abbrev pub TypeNamesSettleFiles : Type 0
TypeNamesSettleFiles =
    (marks : List MarkRef) (st : Standing) (l : Logged) (after : Standing) (n : Next marks st l after) → ProgramReads st
    → UndottedFile (bare_file (file_found n.found)) → UsesTypeName n → BecomesTypeName n
    → AreWritable (imports_added n.found.named) → AddsLedTo st.packages n.found → AvoidsFew st.packages n.found
    → RemovesNoNames n → SettlesFile n

-- An alias of a type's name becomes a name of a type there, if the names that the form has for packages are
-- identifiers.
abbrev pub AliasesBecomeTypeNames : Type 0
AliasesBecomeTypeNames =
    (marks : List MarkRef) (st : Standing) (l : Logged) (after : Standing) (n : Next marks st l after) → ProgramReads st
    → UsesTypeName n → UsesAlias n → AreNames n.found.named → BecomesTypeName n
