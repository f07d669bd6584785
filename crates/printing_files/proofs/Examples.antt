-- Literals that are printed.
use Rattle.std.specs.Prelude.{◌≡◌, refl, true, false, codes}
use Rattle.printing_files.specs.Operands.{is_short_decimal}

zero : is_short_decimal (codes "0") ≡ true
zero = refl

octal : is_short_decimal (codes "07") ≡ false
octal = refl

eighteen : is_short_decimal (codes "123456789012345678") ≡ true
eighteen = refl

nineteen : is_short_decimal (codes "1234567890123456789") ≡ false
nineteen = refl

parted : is_short_decimal (codes "1_000") ≡ false
parted = refl
