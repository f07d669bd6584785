-- Steps over calls that become the body of the function that they name (Go specification, Calls; Return statements;
-- Blocks; Import declarations).
use Rattle.std.specs.Prelude.{◌≡◌, ℕ, ◌⊎◌, true, false, List, [], ◌∷◌, Some, None, slice_get}
use Rattle.go_tree.specs.File.{Func, func}
use Rattle.pkg_graph.specs.Package.{Package}
use Rattle.run_rules.specs.Surroundings.{other, Place, inner_slot, in_slot, Seen, seen, seen_type, seen_stmt}
use Rattle.run_rules.specs.Places.{expr_seen, stmts_seen}
use Rattle.run_rules.specs.Programs.{body_place}
use Rattle.run_rules.specs.Rewriting.{Changes, new_expr}
use Rattle.run_rules.specs.Classes.{type_at}
use Rattle.run_rules.specs.Sites.{MarkRef, is_among_marks, Where}
use Rattle.run_rules.specs.FormTrees.{FormKind, ExprForm, BlockForm, TailForm, Form, as_dropped, as_block}
use Rattle.run_rules.specs.Naming.{imports_added}
use Rattle.run_rules.specs.Steps.{At, same_here}
use Rattle.run_rules.specs.Run.{Standing, Logged, Next, is_commented}
use Rattle.literal_cycles.specs.FormCycles.Bodies.{changes_of}
use Rattle.literal_cycles.specs.FormCycles.Puts.{CalleeStays, StatementStays}
use Rattle.literal_cycles.specs.Uses.{place_of_use}
use Rattle.literal_cycles.specs.BodyForms.Uses.{CalledUse, Becomes, BareCall, LinkedUse, BodyServed, ConvertsToType}
use Rattle.literal_cycles.specs.BodyForms.Uses.{IsExpression, TypedBlock}
use Rattle.literal_cycles.specs.BodyForms.Arguments.{PutsArguments}
use Rattle.order_runs.specs.CycleLaws.PutCalls.{called_among}
use Rattle.go_tree.specs.Tree.{Expr, ident, selector, call, Stmts}

-- these changes, in a declaration of the file v
module _ (c : Changes At) (ps : List (Package At)) (marks : List MarkRef) (v : Where At) (at : ℕ)
    (m : MarkRef) where
  -- what is called around a part names what it named, and statements declare what they declared
  abbrev pub StaysThere : Seen At → Type 0
  StaysThere (seen p u y) = CalleeStays ps marks v at m c p y
  StaysThere (seen_type p t) = Unit {0}
  StaysThere (seen_stmt p s) = StatementStays ps marks v at m c p s

  -- so at all parts of a list
  abbrev pub AllStayThere : List (Seen At) → Type 0
  AllStayThere [] = Unit {0}
  AllStayThere (y ∷ ys) = StaysThere y × AllStayThere ys

-- the form is a statement: an assignment to `_`, or statements in braces
abbrev pub IsStatement : Form At → Type 0
IsStatement (as_dropped e) = Unit {0}
IsStatement (as_block b) = Unit {0}
IsStatement f = ⊥

-- with these changes what stands before the dot of what is called has the type that it had, if it is no name
abbrev pub BeforeDotStays : Changes At → Place At → Expr At → Type 0
BeforeDotStays c p (call s (selector t (ident z q) n) xs r) = Unit {0}
BeforeDotStays c p (call s (selector t b n) xs r) =
    type_at p.env
    (new_expr c
    (in_slot (inner_slot (inner_slot p.slot (call s (selector t b n) xs r) 7 true false) (selector t b n) 7 false true)
    (in_slot (inner_slot p.slot (call s (selector t b n) xs r) 7 true false) p)) other b)
    ≡ type_at p.env b
BeforeDotStays c p y = Unit {0}

-- The form is the body of a function: an expression, whose conversion is such, or its assignment to `_`; a block; a
-- tail.
pub data IsBody (conversion : Type 0) : FormKind → Type 0 where
  expression : conversion → IsBody conversion ExprForm
  a_block : IsBody conversion BlockForm
  a_tail : IsBody conversion TailForm

module _ {marks : List MarkRef} {st : Standing} {l : Logged} {after : Standing} (n : Next marks st l after) where
  -- The step's use is a call of a function without parameters that becomes its body, in no group of constants, and adds
  -- no import; in the function around, what is around it stays.
  pub record PutsBody : Type 0 where
    pub use_ : CalledUse same_here (is_commented st) st.packages marks n.found.site
    pub kind : FormKind
    pub is_body : IsBody (ConvertsToType same_here (is_commented st) st.packages marks n.found.site use_) kind
    pub becomes : Becomes same_here (is_commented st) st.packages marks n.found.site use_ kind
    pub bare : BareCall same_here (is_commented st) st.packages marks n.found.site use_
    pub linked : LinkedUse same_here (is_commented st) st.packages marks n.found.site use_
    pub served :
        BodyServed same_here (is_commented st) st.packages marks n.found.site use_ kind (place_of_use [] n.found.site)
    pub no_constant : n.found.site.place.env.iota ≡ None
    pub adds_nothing : imports_added n.found.named ≡ []
    pub around :
        (g : Func At) → slice_get n.found.site.at.source.tree.decls n.found.site.decl ≡ Some (func g)
        → AllStayThere (changes_of n.found) st.packages marks n.found.site.at n.found.site.decl n.found.site.mark
        (stmts_seen (body_place st.packages n.found.site.at.number n.found.site.at.of n.found.site.at.source.tree g)
        g.body)

  -- The step's use becomes a block or a tail that binds its arguments first, and adds no import; in the function around,
  -- what is around it stays.
  pub record PutsBlock : Type 0 where
    pub kind : FormKind
    pub typed : TypedBlock (is_commented st) st.packages marks n.found.site kind
    pub statements : Stmts At
    pub is_block : typed.becomes.form ≡ as_block statements
    pub adds_nothing : imports_added n.found.named ≡ []
    pub around :
        (g : Func At) → slice_get n.found.site.at.source.tree.decls n.found.site.decl ≡ Some (func g)
        → AllStayThere (changes_of n.found) st.packages marks n.found.site.at n.found.site.decl n.found.site.mark
        (stmts_seen (body_place st.packages n.found.site.at.number n.found.site.at.of n.found.site.at.source.tree g)
        g.body)

  -- The step's use becomes an expression with arguments in the places of parameters, or its assignment to `_`, and what
  -- the receiver and the arguments call is called still; it adds no import; in the function around, what is around it
  -- stays.
  pub record PutsExpression : Type 0 where
    pub use_ : CalledUse same_here (is_commented st) st.packages marks n.found.site
    pub puts : PutsArguments (is_commented st) st.packages marks n.found.site use_
    pub stays :
        (e : Expr At) → IsExpression e puts.becomes.form → (b : MarkRef) → is_among_marks
        (called_among st.packages marks n.found.site.at n.found.site.decl
        (expr_seen n.found.site.place other use_.tree)) b ≡ true → (is_among_marks
        (called_among st.packages marks n.found.site.at n.found.site.decl (expr_seen n.found.site.place other e)) b
        ≡ true) ⊎ (b ≡ n.found.site.mark)
    pub adds_nothing : imports_added n.found.named ≡ []
    pub around :
        (g : Func At) → slice_get n.found.site.at.source.tree.decls n.found.site.decl ≡ Some (func g)
        → AllStayThere (changes_of n.found) st.packages marks n.found.site.at n.found.site.decl n.found.site.mark
        (stmts_seen (body_place st.packages n.found.site.at.number n.found.site.at.of n.found.site.at.source.tree g)
        g.body)
