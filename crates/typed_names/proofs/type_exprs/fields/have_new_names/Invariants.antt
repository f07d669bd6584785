use Rattle.std.proofs.Common.{drop, map}
use Rattle.typed_names.specs.TypeExprs.Fields.{NamesSeen}
use Rattle.typed_names.proofs.type_exprs.fields.have_new_names.Given as goal

abbrev pub invariant-loop-field : goal.invariant-loop-field
invariant-loop-field l = NamesSeen (map (λ f. f.name) l.fields) (map (λ f. f.name) (drop l.field-index l.fields)) l.seen
