use Rattle.std.proofs.Common.{◌≡◌, drop}
use Rattle.std.specs.List.{list_all}
use Rattle.type_flags.specs.Flags.{under_flag}
use Rattle.type_flags.proofs.flags.all_flags.Given as goal

abbrev pub invariant-loop-field : goal.invariant-loop-field
invariant-loop-field l =
    list_all (λ f. under_flag l.env l.flags f.of.0) (drop l.field-index l.fields)
    ≡ list_all (λ f. under_flag l.env l.flags f.of.0) l.fields
