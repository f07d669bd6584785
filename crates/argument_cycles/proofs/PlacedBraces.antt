-- The statements in braces that a call becomes, with arguments in the places of parameters or bound first, call only what the call did or what the function leads to.
use Rattle.std.proofs.Common.{◌≡◌, ◌⊎◌, ℕ, Bool, true, List}
use Rattle.go_tree.specs.Tree.{Stmt, inner}
use Rattle.pkg_graph.specs.Package.{Package}
use Rattle.run_rules.specs.Calls.{given_params}
use Rattle.run_rules.specs.Cycles.{LeadsTo}
use Rattle.run_rules.specs.FormTrees.{FormKind}
use Rattle.run_rules.specs.Places.{stmt_seen}
use Rattle.run_rules.specs.Sites.{MarkRef, is_among_marks, Site}
use Rattle.run_rules.specs.Steps.{At, same_here}
use Rattle.order_runs.specs.CycleLaws.PutCalls.{called_among}
use Rattle.literal_cycles.specs.FormCycles.Blocks.{Holds}
use Rattle.literal_cycles.specs.BodyForms.Uses.{CalledUse, call_of}
use Rattle.argument_cycles.specs.Braces.{PlacedBlock}
use Rattle.argument_cycles.proofs.BracesPut.{all_among}
use Rattle.argument_cycles.proofs.LedBraces.{LedBlock, block_led}

module _ (commented : ℕ → ℕ → At → Bool) (rs : List (Package At)) (marks : List MarkRef) (x : Site At) (u : CalledUse same_here commented rs marks x) (kind : FormKind) (k : PlacedBlock commented rs marks x u kind) where
  -- what the body calls, the function leads to
  abbrev pub led_block : LedBlock commented rs marks x u kind (λ b. LeadsTo rs marks x.mark b)
  led_block = record { becomes = k.becomes; statements = k.statements; is_block = k.is_block; callees = k.callees; arguments = all_among commented rs marks x u kind (λ b. LeadsTo rs marks x.mark b) (given_params same_here rs (call_of same_here commented rs marks x u)) k.arguments }

  pub block_comes : (z : At) (s : Stmt At) → Holds u.tree s → (at : ℕ) (b : MarkRef) → is_among_marks (called_among rs marks x.at at (stmt_seen x.place true (inner z k.statements))) b ≡ true
      → (is_among_marks (called_among rs marks x.at at (stmt_seen x.place true s)) b ≡ true) ⊎ LeadsTo rs marks x.mark b
  block_comes z s h at b e = block_led commented rs marks x u kind (λ b. LeadsTo rs marks x.mark b) led_block z s h at b e
