use Rattle.std.proofs.Common.{drop, map}
use Rattle.method_types.proofs.MethodNames.TableLemmas.{FieldsLeft}
use Rattle.method_types.proofs.method_names.tables.field_names.Given as goal

abbrev pub invariant-loop-field : goal.invariant-loop-field
invariant-loop-field l = FieldsLeft (map (λ f. f.name) l.fields) (map (λ f. f.name) (drop l.field-index l.fields)) l.names
