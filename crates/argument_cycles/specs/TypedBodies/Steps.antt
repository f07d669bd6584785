-- Steps over unobstructed calls in well-typed packages, which put a block, a tail or a literal with arguments in the
-- places of parameters (Go specification, Calls; Blocks; Function literals; Declarations and scope).
use Rattle.std.specs.Prelude.{◌≡◌, List, []}
use Rattle.go_tree.specs.Tree.{Expr, Stmts}
use Rattle.run_rules.specs.Calls.{given_params}
use Rattle.run_rules.specs.FormTrees.{FormKind, LiteralForm, as_expr, as_block}
use Rattle.run_rules.specs.Naming.{imports_added}
use Rattle.run_rules.specs.Run.{Standing, Logged, Next, is_commented}
use Rattle.run_rules.specs.Sites.{MarkRef}
use Rattle.run_rules.specs.Steps.{At, same_here}
use Rattle.literal_cycles.specs.BodyForms.Uses.{CalledUse, call_of, Becomes, LinkedUse}
use Rattle.argument_cycles.specs.Braces.{AllArgumentsLed}
use Rattle.argument_cycles.specs.FreeSteps.{StaysAround}
use Rattle.argument_cycles.specs.Stays.{ArgumentsStay}
use Rattle.argument_cycles.specs.TypedBodies.Served.{CalleesServed}

module _ {marks : List MarkRef} {st : Standing} {l : Logged} {after : Standing} (n : Next marks st l after) where
  -- The step's use in well-typed packages becomes these statements in braces, and it adds no import. Packages whose
  -- members the body calls have names at the call, and arguments call within what they do there.
  pub record PutsTypedBlock : Type 0 where
    pub use_ : CalledUse same_here (is_commented st) st.packages marks n.found.site
    pub kind : FormKind
    pub becomes : Becomes same_here (is_commented st) st.packages marks n.found.site use_ kind
    pub statements : Stmts At
    pub is_block : becomes.form ≡ as_block statements
    pub linked : LinkedUse same_here (is_commented st) st.packages marks n.found.site use_
    pub served : CalleesServed (is_commented st) st.packages marks n.found.site use_ kind
    pub arguments :
        AllArgumentsLed (is_commented st) st.packages marks n.found.site use_ kind
        (given_params same_here st.packages (call_of same_here (is_commented st) st.packages marks n.found.site use_))
    pub stay : ArgumentsStay (is_commented st) st.packages marks n.found.site use_ kind
    pub adds_nothing : imports_added n.found.named ≡ []
    pub around : StaysAround n

  -- So it becomes this literal.
  pub record PutsTypedLiteral : Type 0 where
    pub use_ : CalledUse same_here (is_commented st) st.packages marks n.found.site
    pub becomes : Becomes same_here (is_commented st) st.packages marks n.found.site use_ LiteralForm
    pub literal : Expr At
    pub is_literal : becomes.form ≡ as_expr literal
    pub linked : LinkedUse same_here (is_commented st) st.packages marks n.found.site use_
    pub served : CalleesServed (is_commented st) st.packages marks n.found.site use_ LiteralForm
    pub arguments :
        AllArgumentsLed (is_commented st) st.packages marks n.found.site use_ LiteralForm
        (given_params same_here st.packages (call_of same_here (is_commented st) st.packages marks n.found.site use_))
    pub stay : ArgumentsStay (is_commented st) st.packages marks n.found.site use_ LiteralForm
    pub adds_nothing : imports_added n.found.named ≡ []
    pub around : StaysAround n
