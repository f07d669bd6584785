-- A step over an unobstructed call in well-typed packages that puts a block, a tail or a literal keeps which marked functions lie on a cycle.
use Rattle.std.proofs.Common.{◌≡◌, List}
use Rattle.run_rules.specs.Cycles.{is_recursive}
use Rattle.run_rules.specs.FormTrees.{LiteralForm}
use Rattle.run_rules.specs.Run.{Standing, Logged, Next, is_commented}
use Rattle.run_rules.specs.Sites.{MarkRef}
use Rattle.splice_laws.specs.RunLaws.Reading.{ProgramReads}
use Rattle.order_runs.specs.CycleRuns.Linked.{Linked, SettlesFile}
use Rattle.literal_cycles.specs.FormCycles.Bodies.{StandsInFunction}
use Rattle.argument_cycles.specs.FreeSteps.{PutsFreeBlock, PutsFreeLiteral}
use Rattle.argument_cycles.specs.TypedBodies.Steps.{PutsTypedBlock, PutsTypedLiteral}
use Rattle.argument_cycles.proofs.FreeSteps.{free_block_step, free_literal_step}
use Rattle.argument_cycles.proofs.TypedBodies.BodiesMeant.{bodies_meant}

module _ (marks : List MarkRef) (st : Standing) (l : Logged) (after : Standing) (n : Next marks st l after) where
  pub block_free : PutsTypedBlock n → PutsFreeBlock n
  block_free k = record {
    use_ = k.use_;
    kind = k.kind;
    becomes = k.becomes;
    statements = k.statements;
    is_block = k.is_block;
    meant = bodies_meant (is_commented st) st.packages marks n.found.site k.use_ k.kind k.linked k.served;
    arguments = k.arguments;
    stay = k.stay;
    adds_nothing = k.adds_nothing;
    around = k.around;
  }

  pub literal_free : PutsTypedLiteral n → PutsFreeLiteral n
  literal_free k = record {
    use_ = k.use_;
    becomes = k.becomes;
    literal = k.literal;
    is_literal = k.is_literal;
    meant = bodies_meant (is_commented st) st.packages marks n.found.site k.use_ LiteralForm k.linked k.served;
    arguments = k.arguments;
    stay = k.stay;
    adds_nothing = k.adds_nothing;
    around = k.around;
  }

  pub typed_block_step : PutsTypedBlock n → Linked st.packages → ProgramReads st → SettlesFile n → StandsInFunction n → (m : MarkRef) → is_recursive st.packages marks m ≡ is_recursive after.packages marks m
  typed_block_step k h reads s b m = free_block_step marks st l after n (block_free k) h reads s b m

  pub typed_literal_step : PutsTypedLiteral n → Linked st.packages → ProgramReads st → SettlesFile n → StandsInFunction n → (m : MarkRef) → is_recursive st.packages marks m ≡ is_recursive after.packages marks m
  typed_literal_step k h reads s b m = free_literal_step marks st l after n (literal_free k) h reads s b m
