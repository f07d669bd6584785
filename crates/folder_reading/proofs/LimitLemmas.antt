-- Limits, of what is read of a file and of all its bytes.
use Rattle.std.proofs.Common.{◌≡◌, ◌∙◌, ◌<◌, ◌≤◌, ◌+◌, ℕ, Bool, true, false, ◌||◌, List, length, refl, sym, ap, arith, leb}
use Rattle.std.specs.Prelude.{nat_lt}
use Rattle.std.proofs.lemmas.Bool.{leb-true, leb-false}
use Rattle.std.proofs.lemmas.Bool.Decides.{nat_tests}
use Rattle.std.proofs.lemmas.List.{take_all, length-take}
use Rattle.go_tree.specs.declared.limits.TheConstants.{MAX_FILE_BYTES}
use Rattle.folder_reading.specs.declared.limits.TheConstants.{MAX_MODULE_BYTES}
use Rattle.folder_reading.specs.Sources.{front_of}
use Rattle.folder_reading.specs.Limits.{is_too_long}

neither : (a b : Bool) → (a || b) ≡ false → (a ≡ false) × (b ≡ false)
neither true b e = absurd cc
neither false b e = (refl, e)

not_below : (m n : ℕ) → nat_lt m n ≡ false → n ≤ m
not_below m n e = grind (arith, nat_tests, e)

below : (m n : ℕ) → m < n → nat_lt m n ≡ true
below m n h = grind (arith, nat_tests, h)

-- a file that passes no limit
pub fits : (before : ℕ) (bytes : List ℕ) → is_too_long before bytes ≡ false → (length bytes ≤ MAX_FILE_BYTES) × (before + length bytes ≤ MAX_MODULE_BYTES)
fits before bytes e =
    let no = neither (nat_lt MAX_FILE_BYTES (length bytes)) (nat_lt MAX_MODULE_BYTES (before + length bytes)) e in
    (not_below MAX_FILE_BYTES (length bytes) no.0, not_below MAX_MODULE_BYTES (before + length bytes) no.1)

long : (before : ℕ) (bytes : List ℕ) → MAX_FILE_BYTES < length bytes → is_too_long before bytes ≡ true
long before bytes h = ap (λ b. b || nat_lt MAX_MODULE_BYTES (before + length bytes)) (below MAX_FILE_BYTES (length bytes) h)

-- what is read passes a limit exactly where the file does
pub front_alike : (before : ℕ) (bytes : List ℕ) → is_too_long before (front_of bytes) ≡ is_too_long before bytes
front_alike before bytes = by (leb (length bytes) (MAX_FILE_BYTES + 1)) refl
  where
    by : (b : Bool) → leb (length bytes) (MAX_FILE_BYTES + 1) ≡ b → is_too_long before (front_of bytes) ≡ is_too_long before bytes
    by true is = ap (is_too_long before) (take_all (MAX_FILE_BYTES + 1) bytes (leb-true (length bytes) (MAX_FILE_BYTES + 1) is))
    by false is =
        let more = leb-false (length bytes) (MAX_FILE_BYTES + 1) is in
        long before (front_of bytes) (omega (arith, length-take (MAX_FILE_BYTES + 1) bytes, more)) ∙ sym (long before bytes (omega (arith, more)))

-- all of a short file is read
pub front_whole : (before : ℕ) (bytes : List ℕ) → is_too_long before (front_of bytes) ≡ false → front_of bytes ≡ bytes
front_whole before bytes e =
    let small = (fits before bytes (sym (front_alike before bytes) ∙ e)).0 in
    take_all (MAX_FILE_BYTES + 1) bytes (omega (arith, small))
