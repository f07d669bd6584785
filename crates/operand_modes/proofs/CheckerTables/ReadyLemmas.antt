-- Tables that are ready stay so.
use Rattle.std.specs.Prelude.{◌≡◌, [], length, refl}
use Rattle.std.proofs.Common.{arith}
use mathlib.Core.Path.{sym, ◌∙◌, subst}
use Rattle.type_table.specs.TypeRelations.Environment.{Environment, defined_types}
use Rattle.type_flags.specs.declared.grown.TypeFlags.{TypeFlags}
use Rattle.type_flags.specs.Grown.{AreFlags, AreFlagsSoFar, DefinedBelow}
use Rattle.operator_rules.specs.declared.basics.BasicTypes.{BasicTypes}
use Rattle.operator_rules.specs.BasicTypes.{AreBasic}
use Rattle.operator_rules.specs.Kept as rule
use Rattle.operator_rules.proofs.KeptLemmas.{basic_types_stay}
use Rattle.type_table.specs.ValueTypes.ValueTypes.{HasValueTypes}
use Rattle.type_table.proofs.ValueTypes.ValueLemmas.{no_rows_are_value_types}
use Rattle.typed_names.specs.TypeExprs.Grown.{TypesGrown}
use Rattle.typed_names.proofs.TypeExprs.FlagsKept.{defined_kept, flags_kept}
use Rattle.operand_modes.specs.CheckerTables.Ready.{IsReady}
use Rattle.operand_modes.specs.CheckerTables.Laws.{ReadyStays}

-- types that grew for the rules on source types grew for those on operands
rule_grown : (a b : Environment) → TypesGrown a b → rule.TypesGrown a b
rule_grown a b g = record { more = g.more; same = g.types }

pub ready_stays : ReadyStays
ready_stays old new f b g v r =
    record {
      values = v;
      flags = flags_kept old new g f r.flags;
      defined = defined_kept old new g (length f.comparable.items) r.defined;
      basics = basic_types_stay old new b (rule_grown old new g) r.basics;
    }

-- the flags of all types are those of the first
pub so_far : (e : Environment) (f : TypeFlags) → AreFlags e f → AreFlagsSoFar e f
so_far e f h =
    let a = h.comparable_count in
    let b = h.keyed_count in
    record {
      comparable_count = omega (arith, a);
      comparable = h.comparable;
      keyed_count = omega (arith, b);
      keyed = h.keyed;
    }

-- the first tables
pub first_ready :
    (none e : Environment) (f : TypeFlags) (b : BasicTypes) → none.rows ≡ [] → none.defined ≡ [] →
    (HasValueTypes none → HasValueTypes e) → e.defined ≡ none.defined → AreFlags e f → AreBasic e b → IsReady e f b
first_ready none e f b z d v k h a =
    record {
      values = v (no_rows_are_value_types none z);
      flags = so_far e f h;
      defined = subst (DefinedBelow (length f.comparable.items)) (sym (k ∙ d)) tt;
      basics = a;
    }

-- flags are told of all types
pub flags_told :
    (e : Environment) (old new : TypeFlags) (b : BasicTypes) → AreFlagsSoFar e new →
    DefinedBelow (length new.comparable.items) e.defined → IsReady e old b → IsReady e new b
flags_told e old new b f d r = record { values = r.values; flags = f; defined = d; basics = r.basics }

-- types stay as they are
pub types_kept : (e : Environment) → TypesGrown e e
types_kept e = record { more = omega arith; types = λ i h. refl; definitions = refl; defined = refl }

-- types grew, by what the rules on operands say
pub types_grown :
    (a b : Environment) → rule.TypesGrown a b → b.defined ≡ a.defined → defined_types b ≡ defined_types a → TypesGrown a b
types_grown a b g d s = record { more = g.more; types = g.same; definitions = d; defined = s }
