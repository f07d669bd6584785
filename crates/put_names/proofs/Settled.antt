-- Steps over constants and aliases settle their files.
use Rattle.std.proofs.Common.{List}
use Rattle.go_tree.specs.FileBare.{bare_file}
use Rattle.order_runs.specs.CycleRuns.Linked.{WritesFile, SettlesFile}
use Rattle.splice_laws.specs.ImportSplices.AddedFile.{AreWritable}
use Rattle.order_runs.specs.CycleRuns.KeptImports.Files.{RemovesNoNames}
use Rattle.order_runs.specs.CycleRuns.OrderCycles.NewNames.{AvoidsFew}
use Rattle.order_runs.specs.CycleRuns.OrderedSteps.Ranks.{AddsLedTo}
use Rattle.run_rules.specs.Laws.{file_found}
use Rattle.run_rules.specs.Naming.{imports_added}
use Rattle.run_rules.specs.Run.{Standing, Logged, Next}
use Rattle.run_rules.specs.Sites.{MarkRef}
use Rattle.splice_laws.specs.RunLaws.Reading.{ProgramReads}
use Rattle.splice_laws.specs.Dots.{UndottedFile}
use Rattle.put_nodes.specs.SpelledNames.{AreNames}
use Rattle.put_names.specs.WrittenNames.NamedPackages.{AreOfPackages}
use Rattle.put_names.proofs.WrittenNames.StepNames.{step_names, step_imports}
use Rattle.put_names.specs.Laws.{PackagesAreWritable}
use Rattle.put_names.specs.Uses.{IsScopedAround, IsUsedByName, BecomesName, UsesConstant, UsesAlias}
use Rattle.put_names.proofs.StepsPut.{steps_put}
use Rattle.put_names.proofs.Constants.{constant_becomes}
use Rattle.put_names.proofs.Aliases.{alias_becomes}

module _ (marks : List MarkRef) (st : Standing) (l : Logged) (after : Standing) (n : Next marks st l after) (reads : ProgramReads st) where
  names_write : UndottedFile (bare_file (file_found n.found)) → IsScopedAround n → IsUsedByName n → BecomesName n → AreWritable (imports_added n.found.named) → AddsLedTo st.packages n.found → WritesFile n
  names_write undotted scoped used becomes writable led =
      record { puts = (steps_put marks st l after n reads undotted scoped used becomes).0; writable = writable; led = led }

  settles_by : WritesFile n → AvoidsFew st.packages n.found → RemovesNoNames n → SettlesFile n
  settles_by w few removes = record { puts = w.puts; writable = w.writable; led = w.led; few = few; removes = removes }

  pub names_settle : UndottedFile (bare_file (file_found n.found)) → IsScopedAround n → IsUsedByName n → BecomesName n → AreWritable (imports_added n.found.named) → AddsLedTo st.packages n.found → AvoidsFew st.packages n.found → RemovesNoNames n → SettlesFile n
  names_settle undotted scoped used becomes writable led few removes = settles_by (names_write undotted scoped used becomes writable led) few removes

  module _ (writable : PackagesAreWritable st.packages) (undotted : UndottedFile (bare_file (file_found n.found))) (scoped : IsScopedAround n) (used : IsUsedByName n) (led : AddsLedTo st.packages n.found) (few : AvoidsFew st.packages n.found) where
    write_by : AreOfPackages st.packages n.found.named × (AreNames n.found.named → BecomesName n) → WritesFile n
    write_by h =
        let are : AreNames n.found.named = step_names marks st n.found n.is_first n.old n.stands reads writable.named writable.by_path few h.0 in
        names_write undotted scoped used (h.1 are) (step_imports marks st n.found n.is_first n.old n.stands writable.octets h.0 are) led

    pub constants_write : UsesConstant n → WritesFile n
    constants_write uses = write_by (constant_becomes marks st l after n reads uses)

    module _ (removes : RemovesNoNames n) where
      pub constants_settle : UsesConstant n → SettlesFile n
      constants_settle uses = settles_by (constants_write uses) few removes

      pub aliases_settle : UsesAlias n → SettlesFile n
      aliases_settle uses = settles_by (write_by (alias_becomes marks st l after n reads used uses)) few removes
