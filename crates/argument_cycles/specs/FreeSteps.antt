-- Steps over unobstructed calls that become a block, a tail or a literal, with arguments in the places of parameters (Go
-- specification, Calls; Blocks; Function literals; Declarations and scope).
use Rattle.std.specs.Prelude.{◌≡◌, List, [], Some, slice_get}
use Rattle.go_tree.specs.Tree.{Expr, Stmts}
use Rattle.go_tree.specs.File.{Func, func}
use Rattle.run_rules.specs.Calls.{given_params}
use Rattle.run_rules.specs.Cycles.{is_recursive}
use Rattle.run_rules.specs.FormTrees.{FormKind, LiteralForm, as_expr, as_block}
use Rattle.run_rules.specs.Naming.{imports_added}
use Rattle.run_rules.specs.Places.{stmts_seen}
use Rattle.run_rules.specs.Programs.{body_place}
use Rattle.run_rules.specs.Run.{Standing, Logged, Next, is_commented}
use Rattle.run_rules.specs.Sites.{MarkRef}
use Rattle.run_rules.specs.Steps.{At, same_here}
use Rattle.splice_laws.specs.RunLaws.Reading.{ProgramReads}
use Rattle.order_runs.specs.CycleRuns.Linked.{Linked, SettlesFile}
use Rattle.literal_cycles.specs.FormCycles.Bodies.{StandsInFunction, changes_of}
use Rattle.literal_cycles.specs.BodyForms.Steps.{AllStayThere}
use Rattle.literal_cycles.specs.BodyForms.Uses.{CalledUse, call_of, Becomes}
use Rattle.argument_cycles.specs.Braces.{AllArgumentsLed, PutsPlacedBlock}
use Rattle.argument_cycles.specs.Callees.{BodyMeant}
use Rattle.argument_cycles.specs.Literals.{PutsPlacedLiteral}
use Rattle.argument_cycles.specs.Stays.{ArgumentsStay}

module _ {marks : List MarkRef} {st : Standing} {l : Logged} {after : Standing} (n : Next marks st l after) where
  -- in the function around the use, what is around it stays
  abbrev pub StaysAround : Type 0
  StaysAround =
      (g : Func At)
      → slice_get n.found.site.at.source.tree.decls n.found.site.decl ≡ Some (func g)
      → AllStayThere (changes_of n.found) st.packages marks n.found.site.at n.found.site.decl n.found.site.mark
      (stmts_seen (body_place st.packages n.found.site.at.number n.found.site.at.of n.found.site.at.source.tree g)
      g.body)

  -- The step's use becomes these statements in braces, and it adds no import. What the body calls is known by its names,
  -- and arguments call within what they do at the call.
  pub record PutsFreeBlock : Type 0 where
    pub use_ : CalledUse same_here (is_commented st) st.packages marks n.found.site
    pub kind : FormKind
    pub becomes : Becomes same_here (is_commented st) st.packages marks n.found.site use_ kind
    pub statements : Stmts At
    pub is_block : becomes.form ≡ as_block statements
    pub meant : BodyMeant (is_commented st) st.packages marks n.found.site use_ kind
    pub arguments :
        AllArgumentsLed (is_commented st) st.packages marks n.found.site use_ kind
        (given_params same_here st.packages (call_of same_here (is_commented st) st.packages marks n.found.site use_))
    pub stay : ArgumentsStay (is_commented st) st.packages marks n.found.site use_ kind
    pub adds_nothing : imports_added n.found.named ≡ []
    pub around : StaysAround

  -- So it becomes this literal.
  pub record PutsFreeLiteral : Type 0 where
    pub use_ : CalledUse same_here (is_commented st) st.packages marks n.found.site
    pub becomes : Becomes same_here (is_commented st) st.packages marks n.found.site use_ LiteralForm
    pub literal : Expr At
    pub is_literal : becomes.form ≡ as_expr literal
    pub meant : BodyMeant (is_commented st) st.packages marks n.found.site use_ LiteralForm
    pub arguments :
        AllArgumentsLed (is_commented st) st.packages marks n.found.site use_ LiteralForm
        (given_params same_here st.packages (call_of same_here (is_commented st) st.packages marks n.found.site use_))
    pub stay : ArgumentsStay (is_commented st) st.packages marks n.found.site use_ LiteralForm
    pub adds_nothing : imports_added n.found.named ≡ []
    pub around : StaysAround

-- Such a step puts statements with all that the laws of placed blocks ask.
abbrev pub BlocksArePlaced : Type 0
BlocksArePlaced =
    (marks : List MarkRef) (st : Standing) (l : Logged) (after : Standing) (n : Next marks st l after)
    → PutsFreeBlock n → PutsPlacedBlock n

-- So it is of a literal.
abbrev pub LiteralsArePlaced : Type 0
LiteralsArePlaced =
    (marks : List MarkRef) (st : Standing) (l : Logged) (after : Standing) (n : Next marks st l after)
    → PutsFreeLiteral n → PutsPlacedLiteral n

-- So such a step in a function keeps which marked functions lie on a cycle.
abbrev pub FreeBlockStepsKeepCycles : Type 0
FreeBlockStepsKeepCycles =
    (marks : List MarkRef) (st : Standing) (l : Logged) (after : Standing) (n : Next marks st l after)
    → Linked st.packages → ProgramReads st → SettlesFile n → StandsInFunction n → PutsFreeBlock n
    → (m : MarkRef) → is_recursive st.packages marks m ≡ is_recursive after.packages marks m

-- And so it is of a literal.
abbrev pub FreeLiteralStepsKeepCycles : Type 0
FreeLiteralStepsKeepCycles =
    (marks : List MarkRef) (st : Standing) (l : Logged) (after : Standing) (n : Next marks st l after)
    → Linked st.packages → ProgramReads st → SettlesFile n → StandsInFunction n → PutsFreeLiteral n
    → (m : MarkRef) → is_recursive st.packages marks m ≡ is_recursive after.packages marks m
