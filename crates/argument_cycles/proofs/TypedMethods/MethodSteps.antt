-- A step that puts statements or a literal, whose methods the call calls or the function leads to, keeps which marked functions lie on a cycle.
use Rattle.std.proofs.Common.{◌≡◌, List}
use Rattle.run_rules.specs.Cycles.{is_recursive}
use Rattle.run_rules.specs.Run.{Standing, Logged, Next, is_commented}
use Rattle.run_rules.specs.Sites.{MarkRef}
use Rattle.splice_laws.specs.RunLaws.Reading.{ProgramReads}
use Rattle.order_runs.specs.CycleRuns.Linked.{Linked, SettlesFile}
use Rattle.literal_cycles.specs.FormCycles.Bodies.{StandsInFunction}
use Rattle.literal_cycles.specs.FormCycles.Puts.{PutsInBody}
use Rattle.argument_cycles.specs.TypedMethods.Methods.{PutsTypedMethodsBlock, PutsTypedMethodsLiteral}
use Rattle.argument_cycles.proofs.BraceSteps.{PutBraces, puts_braces, braces_step}
use Rattle.argument_cycles.proofs.LiteralSteps.{PutLiteral, puts_its_literal, literal_step}
use Rattle.argument_cycles.proofs.TypedMethods.MethodsCome.{methods_block_comes, methods_block_stays, methods_literal_comes, methods_literal_stays}

module _ (marks : List MarkRef) (st : Standing) (l : Logged) (after : Standing) (n : Next marks st l after) where
  abbrev braces_of : PutsTypedMethodsBlock n → PutBraces n
  braces_of k = record {
    use_ = k.use_;
    kind = k.kind;
    becomes = (k.block_).becomes;
    statements = (k.block_).statements;
    is_block = (k.block_).is_block;
    comes = λ z s h b e. methods_block_comes (is_commented st) st.packages marks n.found.site k.use_ k.kind k.block_ z s h b e;
    stays = λ z s h b e. methods_block_stays (is_commented st) st.packages marks n.found.site k.use_ k.kind k.block_ k.stay k.methods_stay z s h b e;
    adds_nothing = k.adds_nothing;
    around = k.around;
  }

  abbrev its_literal : PutsTypedMethodsLiteral n → PutLiteral n
  its_literal k = record {
    use_ = k.use_;
    becomes = (k.literal_).becomes;
    literal = (k.literal_).literal;
    is_literal = (k.literal_).is_literal;
    comes = λ b e. methods_literal_comes (is_commented st) st.packages marks n.found.site k.use_ k.literal_ b e;
    stays = λ b e. methods_literal_stays (is_commented st) st.packages marks n.found.site k.use_ k.literal_ k.stay k.methods_stay b e;
    adds_nothing = k.adds_nothing;
    around = k.around;
  }

  pub methods_block_put : ProgramReads st → PutsTypedMethodsBlock n → PutsInBody n
  methods_block_put reads k = puts_braces marks st l after n (braces_of k) reads

  pub methods_literal_put : ProgramReads st → PutsTypedMethodsLiteral n → PutsInBody n
  methods_literal_put reads k = puts_its_literal marks st l after n (its_literal k) reads

  pub methods_block_step : PutsTypedMethodsBlock n → Linked st.packages → ProgramReads st → SettlesFile n → StandsInFunction n → (m : MarkRef) → is_recursive st.packages marks m ≡ is_recursive after.packages marks m
  methods_block_step k h reads s b m = braces_step marks st l after n (braces_of k) h reads s b m

  pub methods_literal_step : PutsTypedMethodsLiteral n → Linked st.packages → ProgramReads st → SettlesFile n → StandsInFunction n → (m : MarkRef) → is_recursive st.packages marks m ≡ is_recursive after.packages marks m
  methods_literal_step k h reads s b m = literal_step marks st l after n (its_literal k) h reads s b m
