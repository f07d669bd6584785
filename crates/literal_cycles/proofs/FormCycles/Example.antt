-- Blocks in the place of a call: the one with the function's body calls through, one that calls another marked function
-- doesn't.
--   func F() { G() }   (marked)
--   func G() { }       (marked)
--   func H() { F() }
--   func K() { }       (marked)
use Rattle.std.proofs.Common.{◌≡◌, refl, subst, ◌⊎◌, inl, inr, ℕ, suc, Bool, true, false, ◌||◌, List, [], ◌∷◌, None, codes}
use Rattle.std.proofs.lemmas.Option.{same_Some}
use Rattle.go_tree.specs.declared.exprs.Rest.TheVariants.{Plain}
use Rattle.go_tree.specs.Tree.{NameAt, ident, call, no_exprs, Stmt, eval, inner, Stmts, no_stmts, stmt_and}
use Rattle.go_tree.specs.File.{Func, func, File}
use Rattle.pkg_graph.specs.Package.{SourceTree, Package}
use Rattle.run_rules.specs.Surroundings.{Place, at_stmt}
use Rattle.run_rules.specs.Places.{stmts_seen}
use Rattle.run_rules.specs.Programs.{body_place}
use Rattle.run_rules.specs.Rewriting.{new_stmts}
use Rattle.run_rules.specs.Sites.{MarkRef, same_mark, is_among_marks, Where}
use Rattle.run_rules.specs.FormTrees.{Form, as_block}
use Rattle.run_rules.specs.Steps.{At, same_here, changes_for}
use Rattle.run_rules.specs.Cycles.{LeadsTo}
use Rattle.run_rules.proofs.CaseTools.{mark, sig}
use Rattle.order_runs.specs.CycleLaws.PutCalls.{GivesWayAmong, mark_there, called_among}
use Rattle.order_runs.proofs.CycleLaws.ConstantCycles.Examples.{node}
use Rattle.order_runs.proofs.CycleLaws.ConstantCycles.OffCycles.{one_mark}
use Rattle.literal_cycles.specs.FormCycles.Puts.{StatementCallsThrough, AllPutThrough}
use Rattle.literal_cycles.proofs.FormCycles.BodiesPut.{statements-give}

abbrev name_of : ℕ → List ℕ → NameAt At
name_of s n = record { span = node s; name = n }

abbrev calling : ℕ → List ℕ → Stmts At
calling s n = stmt_and (eval (node s) (call (node s) (ident (node s) n) no_exprs Plain)) no_stmts

-- func n() { b }
abbrev function : ℕ → List ℕ → Stmts At → Func At
function s n b = record { span = node s; receiver = None; name = name_of (suc s) n; sig = sig [] []; body_span = node (suc (suc s)); body = b }

abbrev caller : Func At
caller = function 30 (codes "H") (calling 35 (codes "F"))

abbrev tree : File At
tree = record {
  package_name = name_of 0 (codes "m");
  imports = [];
  decls = func (function 10 (codes "F") (calling 15 (codes "G"))) ∷ func (function 20 (codes "G") no_stmts) ∷ func caller ∷ func (function 40 (codes "K") no_stmts) ∷ [];
}

abbrev file : SourceTree At
file = record { path = codes "m.go"; tree = tree }

abbrev package_ : Package At
package_ = record { path = codes "m"; name = codes "m"; files = file ∷ [] }

abbrev packages : List (Package At)
packages = package_ ∷ []

abbrev f : MarkRef
f = mark 0 0 0 0

abbrev g : MarkRef
g = mark 0 0 1 0

abbrev k : MarkRef
k = mark 0 0 3 0

abbrev marks : List MarkRef
marks = f ∷ g ∷ k ∷ []

abbrev w : Where At
w = record { number = 0; of = package_; file_number = 0; source = file }

abbrev start : Place At
start = body_place packages 0 package_ tree caller

-- { G() }
abbrev form : Form At
form = as_block (calling 60 (codes "G"))

called : called_among packages marks w 2 (stmts_seen start caller.body) ≡ f ∷ []
called = refl

-- with the block in the call's place
there : called_among packages marks w 2 (stmts_seen start (new_stmts (changes_for same_here (node 35) form) start caller.body)) ≡ g ∷ []
there = refl

only : (b m : MarkRef) → (same_mark b m || false) ≡ true → b ≡ m
only b m e = of (same_mark b m) refl e
  where
    of : (t : Bool) → same_mark b m ≡ t → (t || false) ≡ true → b ≡ m
    of true h e = one_mark b m h
    of false h e = cc

abbrev use_ : Stmt At
use_ = eval (node 35) (call (node 35) (ident (node 35) (codes "F")) no_exprs Plain)

through : StatementCallsThrough packages marks w 2 f (at_stmt start use_) (inner (node 35) (calling 60 (codes "G"))) use_
through = record { comes = λ b e. inr e; stays = λ b e. inr (only b f e) }

puts : AllPutThrough packages marks w 2 f (changes_for same_here (node 35) form) (stmts_seen start caller.body)
puts = (
  (tt, λ y e. cc),
  (
    (refl, λ y e. cc),
    (
      (tt, λ y e. subst (λ (q : Stmt At). StatementCallsThrough packages marks w 2 f (at_stmt start use_) q use_) (same_Some (inner (node 35) (calling 60 (codes "G"))) y e) through),
      tt,
    ),
  ),
)

led : LeadsTo packages marks (mark_there w 2) f
led = refl

gives : GivesWayAmong packages marks (mark_there w 2) f (called_among packages marks w 2 (stmts_seen start (new_stmts (changes_for same_here (node 35) form) start caller.body))) (called_among packages marks w 2 (stmts_seen start caller.body))
gives = statements-give same_here (node 35) form tt packages marks w 2 f led start caller.body puts

-- a block that calls K, to which F doesn't lead, calls through for no call of F
apart : StatementCallsThrough packages marks w 2 f (at_stmt start use_) (inner (node 35) (calling 60 (codes "K"))) use_ → ⊥
apart t = by (t.comes k refl)
  where
    by : (is_among_marks (f ∷ []) k ≡ true) ⊎ LeadsTo packages marks f k → ⊥
    by (inl e) = cc
    by (inr e) = cc
