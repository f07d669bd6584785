-- Names that no source spells: those of temporaries and of result slots, so none of them is an identifier.
use Rattle.std.specs.Prelude.{◌≡◌, refl, true, false, codes}
use Rattle.std.proofs.Common.{arith}
use Rattle.go_layout.specs.LayoutLaws.Formed.{IsName}
use Rattle.go_kernel.specs.Kernel.{temporary, named_result, result_name}
use Rattle.go_translation.specs.Spelled.{is_spelled}
use Rattle.translation_rules.proofs.SourceNames.FirstLetters.{name_spelled}

first_temporary : is_spelled (temporary 0) ≡ false
first_temporary = refl

second_result : is_spelled (result_name 1) ≡ false
second_result = refl

result_of_n : is_spelled (named_result (codes "n")) ≡ false
result_of_n = refl

no_temporary : IsName (temporary 0) → ⊥
no_temporary q = absurd (grind (arith, name_spelled (temporary 0) q))

a_name : is_spelled (codes "n") ≡ true
a_name = refl
