-- A step over an unobstructed call that puts a block, a tail or a literal, with arguments in the places of parameters, keeps which marked functions lie on a cycle.
use Rattle.std.proofs.Common.{◌≡◌, List}
use Rattle.run_rules.specs.Cycles.{is_recursive}
use Rattle.run_rules.specs.FormTrees.{LiteralForm}
use Rattle.run_rules.specs.Run.{Standing, Logged, Next, is_commented}
use Rattle.run_rules.specs.Sites.{MarkRef}
use Rattle.splice_laws.specs.RunLaws.Reading.{ProgramReads}
use Rattle.order_runs.specs.CycleRuns.Linked.{Linked, SettlesFile}
use Rattle.literal_cycles.specs.FormCycles.Bodies.{StandsInFunction}
use Rattle.argument_cycles.specs.Braces.{PlacedBlock, PutsPlacedBlock}
use Rattle.argument_cycles.specs.FreeSteps.{PutsFreeBlock, PutsFreeLiteral}
use Rattle.argument_cycles.specs.Literals.{PlacedLiteral, PutsPlacedLiteral}
use Rattle.argument_cycles.proofs.BraceSteps.{placed_block_step}
use Rattle.argument_cycles.proofs.CalleesLed.{callees_led}
use Rattle.argument_cycles.proofs.LiteralSteps.{placed_literal_step}
use Rattle.argument_cycles.proofs.Stays.{block_stays, literal_stays}

module _ (marks : List MarkRef) (st : Standing) (l : Logged) (after : Standing) (n : Next marks st l after) where
  abbrev block_of : (k : PutsFreeBlock n) → PlacedBlock (is_commented st) st.packages marks n.found.site k.use_ k.kind
  block_of k = record {
    becomes = k.becomes;
    statements = k.statements;
    is_block = k.is_block;
    callees = callees_led (is_commented st) st.packages marks n.found.site k.use_ k.kind k.becomes k.meant;
    arguments = k.arguments;
  }

  pub block_placed : PutsFreeBlock n → PutsPlacedBlock n
  block_placed k = record {
    use_ = k.use_;
    kind = k.kind;
    placed = block_of k;
    stays = λ z s h b e. block_stays (is_commented st) st.packages marks n.found.site k.use_ k.kind k.stay (block_of k) z s h n.found.site.decl b e;
    adds_nothing = k.adds_nothing;
    around = k.around;
  }

  abbrev literal_placed_of : (k : PutsFreeLiteral n) → PlacedLiteral (is_commented st) st.packages marks n.found.site k.use_
  literal_placed_of k = record {
    becomes = k.becomes;
    literal = k.literal;
    is_literal = k.is_literal;
    callees = callees_led (is_commented st) st.packages marks n.found.site k.use_ LiteralForm k.becomes k.meant;
    arguments = k.arguments;
  }

  pub literal_placed : PutsFreeLiteral n → PutsPlacedLiteral n
  literal_placed k = record {
    use_ = k.use_;
    placed = literal_placed_of k;
    stays = λ b e. literal_stays (is_commented st) st.packages marks n.found.site k.use_ (literal_placed_of k) k.stay n.found.site.decl b e;
    adds_nothing = k.adds_nothing;
    around = k.around;
  }

  pub free_block_step : PutsFreeBlock n → Linked st.packages → ProgramReads st → SettlesFile n → StandsInFunction n → (m : MarkRef) → is_recursive st.packages marks m ≡ is_recursive after.packages marks m
  free_block_step k h reads s b m = placed_block_step marks st l after n (block_placed k) h reads s b m

  pub free_literal_step : PutsFreeLiteral n → Linked st.packages → ProgramReads st → SettlesFile n → StandsInFunction n → (m : MarkRef) → is_recursive st.packages marks m ≡ is_recursive after.packages marks m
  free_literal_step k h reads s b m = placed_literal_step marks st l after n (literal_placed k) h reads s b m
