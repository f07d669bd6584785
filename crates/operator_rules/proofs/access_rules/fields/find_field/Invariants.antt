use Rattle.std.specs.Prelude.{◌≡◌}
use Rattle.std.proofs.Common.{drop}
use Rattle.operator_rules.proofs.AccessRules.FieldLemmas.{found}
use Rattle.operator_rules.proofs.access_rules.fields.find_field.Given as goal

abbrev pub invariant-loop-field : goal.invariant-loop-field
invariant-loop-field l =
    found l.env l.home l.name (drop l.field-index l.fields) ≡ found l.env l.home l.name l.fields
