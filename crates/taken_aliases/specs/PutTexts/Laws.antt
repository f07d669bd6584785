-- The laws of steps over aliases of any type. Each is the contract of a function of this crate (Go specification, Alias
-- declarations; Types; Qualified identifiers; Import declarations; Source file organization).
use Rattle.std.specs.Prelude.{◌≡◌, Bool, true, List, Option}
use Rattle.go_tree.specs.declared.spans.Span.{Span}
use Rattle.go_tree.specs.FileBare.{bare_file}
use Rattle.go_tree.specs.File.{File}
use Rattle.go_tree.specs.Tree.{NameAt, TypeExpr, named}
use Rattle.order_runs.specs.CycleRuns.Linked.{Linked, SettlesFile}
use Rattle.splice_laws.specs.ImportSplices.AddedFile.{AreWritable}
use Rattle.order_runs.specs.CycleRuns.KeptImports.Files.{PutsNode, RemovesNoNames}
use Rattle.go_layout.specs.LayoutLaws.Formed.{FormedType, FormedLiteralType}
use Rattle.order_runs.specs.CycleRuns.OrderCycles.NewNames.{AvoidsFew}
use Rattle.order_runs.specs.CycleRuns.OrderCycles.Orders.{AllOrdered}
use Rattle.order_runs.specs.CycleRuns.OrderedSteps.Ranks.{AddsLedTo}
use Rattle.splice_laws.specs.RunLaws.Reading.{ProgramReads}
use Rattle.run_rules.specs.FormTrees.{as_type}
use Rattle.run_rules.specs.Inlining.{ReadsAs}
use Rattle.run_rules.specs.Laws.{file_found}
use Rattle.run_rules.specs.Naming.{imports_added}
use Rattle.run_rules.specs.Respanned.{file_with}
use Rattle.run_rules.specs.Run.{Standing, Logged, Next}
use Rattle.run_rules.specs.Sites.{MarkRef}
use Rattle.run_rules.specs.Steps.{At}
use Rattle.run_rules.specs.Surroundings.{Slot}
use Rattle.run_rules.specs.Texts.{FileText}
use Rattle.put_names.specs.ReadImports.PutInText.{PutInText}
use Rattle.splice_laws.specs.Dots.{UndottedFile}
use Rattle.splice_laws.specs.Swaps.{FileIn}
use Rattle.put_names.specs.Laws.{PackagesAreWritable}
use Rattle.put_nodes.specs.Put.{FormIsPut}
use Rattle.put_nodes.specs.SpelledNames.{AreNames}
use Rattle.put_names.specs.PutTypes.Uses.{UsesTypeName}
use Rattle.put_nodes.specs.TypeNodes.Swapped.{TypeSwapped}
use Rattle.put_names.specs.WrittenNames.NamedPackages.{AreOfPackages}
use Rattle.taken_aliases.specs.PutTexts.Uses.{BecomesType, UsesAliasText, FitsLiteral}

-- A type is put in the place of a name of a type that is a node of a file which reads from its text: the edit that
-- writes it there lays it out in the place of that node. Asked of the file: that no selector stands on an integer
-- literal.
abbrev pub TypesArePut : (At → Span) → Type 0
TypesArePut to =
    (text : FileText) (tree : File At) → ReadsAs text (file_with to tree) → UndottedFile (bare_file (file_with to tree))
    → (z s : At) (p : Slot) (literal : Bool) (q : Option (NameAt At)) (n : NameAt At) (new : TypeExpr At)
    → TypeSwapped to (λ w. (g : File Span) × FileIn w (file_with to tree) g) literal (named s q n)
    → FormedType new → (literal ≡ true → FormedLiteralType new)
    → FormIsPut text (file_with to tree) z (to s) p (as_type new)

-- Where the files of a program read from their texts, a step over a name of a type that becomes a type lays it out in
-- the place of a node of the file. Asked of the file: that no selector stands on an integer literal.
abbrev pub TypesArePutBySteps : Type 0
TypesArePutBySteps =
    (marks : List MarkRef) (st : Standing) (l : Logged) (after : Standing) (n : Next marks st l after) → ProgramReads st
    → UndottedFile (bare_file (file_found n.found)) → (used : UsesTypeName n) → BecomesType n used
    → PutsNode n × PutInText n

-- So it settles its file, as cycle_runs asks of a step, where its added imports can be written, and are of packages
-- that are led to; the names to avoid are fewer than 2^64; and no import that goes has the name of an identifier.
abbrev pub TypesSettleFiles : Type 0
TypesSettleFiles =
    (marks : List MarkRef) (st : Standing) (l : Logged) (after : Standing) (n : Next marks st l after) → ProgramReads st
    → UndottedFile (bare_file (file_found n.found)) → (used : UsesTypeName n) → BecomesType n used
    → AreWritable (imports_added n.found.named) → AddsLedTo st.packages n.found → AvoidsFew st.packages n.found
    → RemovesNoNames n → SettlesFile n

-- ---- aliases

-- An alias becomes a type there, if the names that the form has for packages are identifiers.
abbrev pub AliasesBecomeTypes : Type 0
AliasesBecomeTypes =
    (marks : List MarkRef) (st : Standing) (l : Logged) (after : Standing) (n : Next marks st l after) → ProgramReads st
    → (used : UsesTypeName n) (uses : UsesAliasText n) → FitsLiteral n used uses → AreNames n.found.named
    → BecomesType n used

-- These names are of packages of the program, whatever the use of the alias is: a type names its own package, and those
-- that its file imports.
abbrev pub AliasTextsNamePackages : Type 0
AliasTextsNamePackages =
    (marks : List MarkRef) (st : Standing) (l : Logged) (after : Standing) (n : Next marks st l after) → ProgramReads st
    → AllOrdered st.packages → UsesAliasText n → AreOfPackages st.packages n.found.named

-- And the imports that it adds are of packages that are led to.
abbrev pub AliasTextsAddLed : Type 0
AliasTextsAddLed =
    (marks : List MarkRef) (st : Standing) (l : Logged) (after : Standing) (n : Next marks st l after) → ProgramReads st
    → Linked st.packages → UsesAliasText n → AddsLedTo st.packages n.found

-- So in a program whose packages can be written such a step settles its file, if the names to avoid are fewer than
-- 2^64, and no import that goes has the name of an identifier.
abbrev pub AliasesSettleFiles : Type 0
AliasesSettleFiles =
    (marks : List MarkRef) (st : Standing) (l : Logged) (after : Standing) (n : Next marks st l after) → ProgramReads st
    → Linked st.packages → PackagesAreWritable st.packages → UndottedFile (bare_file (file_found n.found))
    → (used : UsesTypeName n) (uses : UsesAliasText n) → FitsLiteral n used uses → AvoidsFew st.packages n.found
    → RemovesNoNames n → SettlesFile n
