-- What constant_forms is told of a constant's value is a name.
use Rattle.std.proofs.Common.{◌≡◌, refl, ℕ, zero, suc, ◌<◌, List, [], ◌∷◌, Some, length, arith}
use Rattle.std.specs.Prelude.{slice_get}
use Rattle.go_tree.specs.Tree.{ident, selector}
use Rattle.constant_edits.specs.ConstantValue.TheVariants.{Plain, Qualified}
use Rattle.put_names.specs.Uses.{as_name, as_member}
use Rattle.printed_constants.specs.TypedParts.MarkedRuns.PutForms.Laws.{ValuesAreNames}

got : {A : Type 0} (xs : List A) (k : ℕ) → k < length xs → (x : A) × (slice_get xs k ≡ Some x)
got [] k h = absurd (grind (arith, h))
got (x ∷ xs) zero h = (x, refl)
got (x ∷ xs) (suc k) h = got xs k (omega (arith, h))

pub values_are_names : ValuesAreNames
values_are_names ps home (Plain name meaning) (ident s n) h w = as_name
values_are_names ps home (Plain name meaning) e h w = absurd h
values_are_names ps home (Qualified k name) (selector s (ident z q) n) h w = let p = got ps k w in as_member k p.0 h.1.qualifies p.1
values_are_names ps home (Qualified k name) (selector s b n) h w = absurd h
values_are_names ps home (Qualified k name) e h w = absurd h
