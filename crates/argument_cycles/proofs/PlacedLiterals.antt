-- The literal that a call becomes, with arguments in the places of parameters or its own, calls only what the call did or what the function leads to.
use Rattle.std.proofs.Common.{◌≡◌, ◌⊎◌, ℕ, Bool, true, List}
use Rattle.pkg_graph.specs.Package.{Package}
use Rattle.run_rules.specs.Calls.{given_params}
use Rattle.run_rules.specs.Cycles.{LeadsTo}
use Rattle.run_rules.specs.FormTrees.{LiteralForm}
use Rattle.run_rules.specs.Places.{expr_seen}
use Rattle.run_rules.specs.Sites.{MarkRef, is_among_marks, Site}
use Rattle.run_rules.specs.Steps.{At, same_here}
use Rattle.run_rules.specs.Surroundings.{other}
use Rattle.order_runs.specs.CycleLaws.PutCalls.{called_among}
use Rattle.literal_cycles.specs.BodyForms.Uses.{CalledUse, call_of}
use Rattle.argument_cycles.specs.Literals.{PlacedLiteral}
use Rattle.argument_cycles.proofs.BracesPut.{all_among}
use Rattle.argument_cycles.proofs.LedLiterals.{LedLiteral, literal_led}

module _ (commented : ℕ → ℕ → At → Bool) (rs : List (Package At)) (marks : List MarkRef) (x : Site At) (u : CalledUse same_here commented rs marks x) (k : PlacedLiteral commented rs marks x u) where
  -- what the body calls, the function leads to
  abbrev pub led_literal : LedLiteral commented rs marks x u (λ b. LeadsTo rs marks x.mark b)
  led_literal = record { becomes = k.becomes; literal = k.literal; is_literal = k.is_literal; callees = k.callees; arguments = all_among commented rs marks x u LiteralForm (λ b. LeadsTo rs marks x.mark b) (given_params same_here rs (call_of same_here commented rs marks x u)) k.arguments }

  pub literal_comes : (at : ℕ) (b : MarkRef) → is_among_marks (called_among rs marks x.at at (expr_seen x.place other k.literal)) b ≡ true → (is_among_marks (called_among rs marks x.at at (expr_seen x.place other u.tree)) b ≡ true) ⊎ LeadsTo rs marks x.mark b
  literal_comes at b e = literal_led commented rs marks x u (λ b. LeadsTo rs marks x.mark b) led_literal at b e
