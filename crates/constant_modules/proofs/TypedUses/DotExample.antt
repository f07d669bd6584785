-- A dot may stand behind a use of a constant whose type has methods: of the parts of `Ptr.M()` one has what stands at the
-- span of the use before a dot.
--   type T int; func (T) M() {}; const Pointer T = 1; const Ptr = Pointer; func main() { Ptr.M() }
use Rattle.std.proofs.Common.{◌≡◌, ◌∙◌, sym, ℕ, Bool, true, false, List}
use Rattle.go_tree.specs.declared.exprs.Rest.TheVariants.{Plain}
use Rattle.go_tree.specs.Tree.{NameAt, Expr, ident, selector, call, no_exprs, eval, Stmts, no_stmts, stmt_and}
use Rattle.printed_constants.specs.QualifiedDots.Names.{HasNoDot}
use Rattle.printed_constants.specs.TypedParts.StandingUses.ImportUses.Parts.{EachSeen}
use Rattle.run_rules.specs.Places.{stmts_seen}
use Rattle.run_rules.specs.Surroundings.{Place}

module _ {S : Type 0} (hits : Expr S → Bool) (s z : S) (n : List ℕ) (m : NameAt S) where
  abbrev body : Stmts S
  body = stmt_and (eval s (call s (selector s (ident z n) m) no_exprs Plain)) no_stmts

  has_dot : (p : Place S) → hits (ident z n) ≡ true → EachSeen (HasNoDot hits) (stmts_seen p body) → ⊥
  has_dot p e h = let no : true ≡ false = sym e ∙ h.1.0 in cc
