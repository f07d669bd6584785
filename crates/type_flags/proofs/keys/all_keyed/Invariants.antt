use Rattle.std.proofs.Common.{◌≡◌, drop}
use Rattle.std.specs.List.{list_all}
use Rattle.type_flags.specs.Flags.{flag_at}
use Rattle.type_flags.proofs.keys.all_keyed.Given as goal

abbrev pub invariant-loop-field : goal.invariant-loop-field
invariant-loop-field l =
    list_all (λ f. flag_at l.keyed f.of.0) (drop l.field-index l.fields)
    ≡ list_all (λ f. flag_at l.keyed f.of.0) l.fields
