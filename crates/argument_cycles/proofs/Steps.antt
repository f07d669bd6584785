-- A step that puts an expression with arguments in the places of parameters keeps which marked functions lie on a cycle.
use Rattle.std.proofs.Common.{◌≡◌, List}
use Rattle.run_rules.specs.Cycles.{is_recursive}
use Rattle.run_rules.specs.Run.{Standing, Logged, Next, is_commented}
use Rattle.run_rules.specs.Sites.{MarkRef}
use Rattle.splice_laws.specs.RunLaws.Reading.{ProgramReads}
use Rattle.order_runs.specs.CycleRuns.Linked.{Linked, SettlesFile}
use Rattle.literal_cycles.specs.FormCycles.Bodies.{StandsInFunction}
use Rattle.literal_cycles.specs.BodyForms.Steps.{PutsExpression}
use Rattle.literal_cycles.proofs.BodyForms.StepsExpressions.{expression_step}
use Rattle.argument_cycles.specs.Uses.{PutsPlaced}
use Rattle.argument_cycles.proofs.PlacedCalls.{puts, stays}

module _ (marks : List MarkRef) (st : Standing) (l : Logged) (after : Standing) (n : Next marks st l after) (k : PutsPlaced n) where
  pub puts_expression : PutsExpression n
  puts_expression = record {
    use_ = k.use_;
    puts = puts (is_commented st) st.packages marks n.found.site k.use_ k.placed;
    stays = λ e f b h. stays (is_commented st) st.packages marks n.found.site k.use_ k.placed e f n.found.site.decl b h;
    adds_nothing = k.adds_nothing;
    around = k.around;
  }

  pub placed_step : Linked st.packages → ProgramReads st → SettlesFile n → StandsInFunction n → (m : MarkRef) → is_recursive st.packages marks m ≡ is_recursive after.packages marks m
  placed_step h reads s b m = expression_step marks st l after n puts_expression h reads s b m
