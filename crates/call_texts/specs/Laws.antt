-- What the literal of a function takes from the function's declaration (Go specification, Function literals; Calls).
use Rattle.std.specs.Prelude.{◌≡◌, ℕ, Bool, false, List, length, None}
use Rattle.param_choice.specs.Chosen.{has}
use Rattle.pkg_graph.specs.Package.{Package}
use Rattle.run_rules.specs.Calls.{Call, args, spread_call}
use Rattle.run_rules.specs.FormTrees.{LiteralForm}
use Rattle.run_rules.specs.Programs.{func_seen, param_types}
use Rattle.run_rules.specs.Reduced.{text_taken}
use Rattle.run_rules.specs.Sites.{MarkRef}

module _ {S : Type 0} (same : S → S → Bool) (ps : List (Package S)) (c : Call S) (kept : List Bool) where
  -- A call of a function without a receiver, none of whose parameters is replaced. There is an argument for each
  -- parameter, unless the arguments are one call with several results, and each has a type.
  pub record AllStayBound : Type 0 where
    pub free : c.callee.receiver ≡ None
    pub nothing_chosen : (i : ℕ) → has kept i ≡ false
    pub counted : spread_call same ps c ≡ false → length (args same ps c) ≡ length c.callee.sig.params
    pub typed :
        length (param_types ps c.home.number c.home.of c.home.source.tree c.callee) ≡ length c.callee.sig.params

-- The literal of such a call takes all parts of the function's declaration.
abbrev pub LiteralsTakeAll : Type 0 → Type 0
LiteralsTakeAll S =
    (same : S → S → Bool) (commented : ℕ → ℕ → S → Bool) (ps : List (Package S)) (marks : List MarkRef) (c : Call S)
    (kept : List Bool) → AllStayBound same ps c kept
    → text_taken same commented ps marks c LiteralForm kept
    ≡ func_seen ps c.home.number c.home.of c.home.source.tree c.callee
