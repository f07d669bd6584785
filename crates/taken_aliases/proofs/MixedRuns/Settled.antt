-- A step over an alias settles its file in a program that is ready.
use Rattle.std.proofs.Common.{List}
use Rattle.order_runs.specs.CycleRuns.Linked.{SettlesFile}
use Rattle.put_nodes.specs.SpelledNames.{AreNames}
use Rattle.run_rules.specs.Run.{Standing, Logged, Next}
use Rattle.run_rules.specs.Sites.{MarkRef}
use Rattle.put_names.specs.WrittenNames.NamedPackages.{AreOfPackages}
use Rattle.put_names.proofs.WrittenNames.StepNames.{step_names, step_imports}
use Rattle.order_runs.proofs.CycleRuns.Runs.{linked-names}
use Rattle.taken_aliases.proofs.PutTexts.Packages.{texts-name, texts-add-led}
use Rattle.taken_aliases.proofs.PutTexts.Steps.{aliases-settle}
use Rattle.printed_constants.specs.TypedParts.MarkedRuns.SettledConstants.Programs.{IsReady}
use Rattle.printed_constants.proofs.TypedParts.MarkedRuns.SettledConstants.Ready.{uses_undotted, linked_writable}
use Rattle.printed_constants.specs.TypedParts.MarkedRuns.SettledConstants.Laws.{UsesAreScoped}
use Rattle.taken_aliases.specs.MixedRuns.Marked.{LaysOut, at_a_type, at_an_expression, at_a_node, IsOverAlias}
use Rattle.taken_aliases.proofs.PutCalls.Steps.{called-aliases-settle}

pub alias-settles : UsesAreScoped → (marks : List MarkRef) (st : Standing) (l : Logged) (after : Standing) (n : Next marks st l after) → IsReady st → IsOverAlias n → SettlesFile n
alias-settles scoped marks st l after n ready over = by over.lays_out
  where
    of : AreOfPackages st.packages n.found.named
    of = texts-name marks st l after n ready.reads over.uses ready.links.ordered

    are : AreNames n.found.named
    are = step_names marks st n.found n.is_first n.old n.stands ready.reads ready.named (linked-names st.packages ready.links) over.few of

    by : LaysOut n over.uses → SettlesFile n
    by (at_a_type used fits) =
        aliases-settle marks st l after n ready.reads used over.uses fits ready.links (linked_writable st.packages ready.links ready.named ready.octets)
        (uses_undotted marks st l after n ready.typed ready.unspread) over.few over.removes
    by (at_an_expression used laid) =
        called-aliases-settle marks st l after n ready.reads used over.uses laid ready.links (linked_writable st.packages ready.links ready.named ready.octets)
        (uses_undotted marks st l after n ready.typed ready.unspread) (scoped marks st l after n ready.reads ready.links.ordered ready.typed) over.few over.removes
    by (at_a_node puts) = record {
      puts = puts;
      writable = step_imports marks st n.found n.is_first n.old n.stands ready.octets of are;
      led = texts-add-led marks st l after n ready.reads over.uses ready.links;
      few = over.few;
      removes = over.removes;
    }
