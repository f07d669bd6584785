-- A text that is refused has no tokens.
use Rattle.std.proofs.Common.{◌≡◌, ◌≢◌, ℕ, List, [], ◌∷◌, length, take, Result, Ok, Err, IfErr, refl, sym, ap, subst}
use Rattle.std.specs.Str.{IsUtf8, IsValidUpTo}
use Rattle.go_scan.specs.declared.scanner.ScanError.{ScanError}
use Rattle.go_scan.specs.declared.scanner.ScanError.TheVariants.{NotUtf8, BadToken, NoMemory}
use Rattle.go_scan.specs.Scanned.{Refuses, HasNoTokens}
use Rattle.go_scan.proofs.Cuts.{stopped_has_none}

take_all : (xs : List ℕ) → take (length xs) xs ≡ xs
take_all [] = refl
take_all (x ∷ xs) = ap (λ (ys : List ℕ). x ∷ ys) (take_all xs)

not_utf8_has_none : (text : List ℕ) (place : ℕ) → IsValidUpTo text place → HasNoTokens text
not_utf8_has_none text place valid tokens comments of_text =
    valid.longest (length text) valid.short
    (subst (λ (bytes : List ℕ). IsUtf8 bytes) (sym (take_all text)) (of_text.characters, (of_text.scalars, of_text.encoded)))

pub refused_has_none : (text : List ℕ) (e : ScanError) → Refuses text e → e ≢ NoMemory → HasNoTokens text
refused_has_none text (NotUtf8 place) refused other = not_utf8_has_none text place refused
refused_has_none text (BadToken place) refused other = λ tokens comments of_text. stopped_has_none text place tokens comments refused of_text
refused_has_none text NoMemory refused other = absurd (other refl)

pub answer_has_none : {T : Type 0} (text : List ℕ) (answer : Result T ScanError) → IfErr answer (λ e. Refuses text e) → IfErr answer (λ e. e ≢ NoMemory → HasNoTokens text)
answer_has_none text (Ok t) refused = refused
answer_has_none text (Err e) refused = refused_has_none text e refused
