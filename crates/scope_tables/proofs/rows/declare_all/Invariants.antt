use Rattle.std.proofs.Common.{◌≡◌, ◌++◌, ℕ, List, drop}
use Rattle.scope_tables.specs.Building.{IsEven, KeepsOutside, locals_of, extents_named}
use Rattle.scope_tables.proofs.rows.declare_all.Given as goal

abbrev pub invariant-loop-scope : goal.invariant-loop-scope
invariant-loop-scope l = record {
  even : IsEven l.rows;
  locals : (q : List ℕ) → (locals_of l.rows q ++ extents_named q (drop l.scope-index l.scopes)) ≡ (locals_of l.initial.rows q ++ extents_named q l.scopes);
  outside : KeepsOutside l.initial.rows l.rows;
}
