-- The laws of steps over names. Each is the contract of a function of this crate (Go specification, Constant
-- declarations; Source file organization).
use Rattle.std.specs.Prelude.{List}
use Rattle.go_tree.specs.FileBare.{bare_file}
use Rattle.run_rules.specs.Laws.{file_found}
use Rattle.run_rules.specs.Run.{Standing, Logged, Next}
use Rattle.run_rules.specs.Sites.{MarkRef}
use Rattle.splice_laws.specs.RunLaws.Reading.{ProgramReads}
use Rattle.splice_laws.specs.Dots.{UndottedFile}
use Rattle.order_runs.specs.CycleRuns.Linked.{SettlesFile}
use Rattle.splice_laws.specs.ImportSplices.AddedFile.{AreWritable}
use Rattle.order_runs.specs.CycleRuns.KeptImports.Files.{PutsNode, RemovesNoNames}
use Rattle.order_runs.specs.CycleRuns.OrderCycles.NewNames.{NamesByPath, AvoidsFew}
use Rattle.order_runs.specs.CycleRuns.OrderedSteps.Ranks.{AddsLedTo}
use Rattle.run_rules.specs.Naming.{imports_added}
use Rattle.put_names.specs.ReadImports.PutInText.{PutInText}
use Rattle.put_nodes.specs.SpelledNames.{AreNames}
use Rattle.put_names.specs.WrittenNames.NamedPackages.{PackagesAreNamed, PathsAreOctets, AreOfPackages}
use Rattle.pkg_graph.specs.Package.{Package}
use Rattle.run_rules.specs.Steps.{At}
use Rattle.put_names.specs.Uses.{IsScopedAround, IsUsedByName, BecomesName, UsesConstant, UsesAlias}

-- Where the files of a program read from their texts, a step over a name that becomes a name lays it out in the place
-- of a node of the file. Asked of the file: that no selector stands on an integer literal; and what typing asks of the
-- declaration around the use.
abbrev pub NamesArePutBySteps : Type 0
NamesArePutBySteps =
    (marks : List MarkRef) (st : Standing) (l : Logged) (after : Standing) (n : Next marks st l after) → ProgramReads st
    → UndottedFile (bare_file (file_found n.found)) → IsScopedAround n → IsUsedByName n → BecomesName n
    → PutsNode n × PutInText n

-- So it settles its file, as cycle_runs asks of a step, where its added imports can be written, and are of packages
-- that are led to; the names to avoid are fewer than 2^64; and no import that goes has the name of an identifier.
abbrev pub NamesSettleFiles : Type 0
NamesSettleFiles =
    (marks : List MarkRef) (st : Standing) (l : Logged) (after : Standing) (n : Next marks st l after) → ProgramReads st
    → UndottedFile (bare_file (file_found n.found)) → IsScopedAround n → IsUsedByName n → BecomesName n
    → AreWritable (imports_added n.found.named) → AddsLedTo st.packages n.found → AvoidsFew st.packages n.found
    → RemovesNoNames n → SettlesFile n

-- A constant that is declared as a name becomes a name, if the names that the form has for packages are identifiers;
-- and these are names of packages of the program.
abbrev pub ConstantsBecomeNames : Type 0
ConstantsBecomeNames =
    (marks : List MarkRef) (st : Standing) (l : Logged) (after : Standing) (n : Next marks st l after) → ProgramReads st
    → UsesConstant n → AreOfPackages st.packages n.found.named × (AreNames n.found.named → BecomesName n)

-- So does an alias of a type's name where the use is an expression, as in a conversion.
abbrev pub AliasesBecomeNames : Type 0
AliasesBecomeNames =
    (marks : List MarkRef) (st : Standing) (l : Logged) (after : Standing) (n : Next marks st l after) → ProgramReads st
    → IsUsedByName n → UsesAlias n
    → AreOfPackages st.packages n.found.named × (AreNames n.found.named → BecomesName n)

-- What is asked of a program besides: each package has an identifier for its name, the one that its path has, and
-- octets for its path.
pub record PackagesAreWritable (ps : List (Package At)) : Type 0 where
  pub named : PackagesAreNamed ps
  pub octets : PathsAreOctets ps
  pub by_path : NamesByPath ps

-- So in such a program a step over a constant that is declared as a name settles its file, where its added imports are
-- of packages that are led to, the names to avoid are fewer than 2^64, and no import that goes has the name of an
-- identifier.
abbrev pub ConstantsSettleFiles : Type 0
ConstantsSettleFiles =
    (marks : List MarkRef) (st : Standing) (l : Logged) (after : Standing) (n : Next marks st l after) → ProgramReads st
    → PackagesAreWritable st.packages → UndottedFile (bare_file (file_found n.found)) → IsScopedAround n
    → IsUsedByName n → UsesConstant n → AddsLedTo st.packages n.found → AvoidsFew st.packages n.found
    → RemovesNoNames n → SettlesFile n

-- The same of an alias of a type's name, used as an expression.
abbrev pub AliasesSettleFiles : Type 0
AliasesSettleFiles =
    (marks : List MarkRef) (st : Standing) (l : Logged) (after : Standing) (n : Next marks st l after) → ProgramReads st
    → PackagesAreWritable st.packages → UndottedFile (bare_file (file_found n.found)) → IsScopedAround n
    → IsUsedByName n → UsesAlias n → AddsLedTo st.packages n.found → AvoidsFew st.packages n.found
    → RemovesNoNames n → SettlesFile n
