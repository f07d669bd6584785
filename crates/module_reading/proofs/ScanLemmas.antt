-- Texts without tokens.
use Rattle.std.proofs.Common.{◌≡◌, ◌≢◌, ◌∙◌, ℕ, List, sym, subst}
use Rattle.std.specs.Prelude.{Result, Ok, Err, IfErr}
use Rattle.std.specs.Str.{IsValidUpTo}
use Rattle.go_tree.specs.GoWords.Tokens.{StopsAt}
use Rattle.go_scan.specs.declared.scanner.ScanError.{ScanError}
use Rattle.go_scan.specs.declared.scanner.ScanError.TheVariants as scanned
use Rattle.go_scan.specs.Scanned.{HasNoTokens, Refuses}

stop_is_no_want : (place : ℕ) → scanned.BadToken place ≡ scanned.NoMemory → ⊥
stop_is_no_want place e = absurd cc

invalid_is_no_want : (place : ℕ) → scanned.NotUtf8 place ≡ scanned.NoMemory → ⊥
invalid_is_no_want place e = absurd cc

pub stopped : {T : Type 0} (text : List ℕ) (r : Result T ScanError) (e : ScanError) (place at : ℕ) → r ≡ Err e → e ≡ scanned.BadToken place → at ≡ place → IfErr r (λ e. Refuses text e) → IfErr r (λ e. e ≢ scanned.NoMemory → HasNoTokens text) → StopsAt text at × HasNoTokens text
stopped text (Ok x) e place at i h k refused none = absurd cc
stopped text (Err f) e place at i h k refused none =
    let same : f ≡ scanned.BadToken place = let first : f ≡ e = cc in first ∙ h in
    (subst (λ (p : ℕ). StopsAt text p) (sym k) (subst (λ (g : ScanError). Refuses text g) same refused), none (λ m. stop_is_no_want place (sym same ∙ m)))

pub invalid : {T : Type 0} (text : List ℕ) (r : Result T ScanError) (e : ScanError) (place at : ℕ) → r ≡ Err e → e ≡ scanned.NotUtf8 place → at ≡ place → IfErr r (λ e. Refuses text e) → IfErr r (λ e. e ≢ scanned.NoMemory → HasNoTokens text) → IsValidUpTo text at × HasNoTokens text
invalid text (Ok x) e place at i h k refused none = absurd cc
invalid text (Err f) e place at i h k refused none =
    let same : f ≡ scanned.NotUtf8 place = let first : f ≡ e = cc in first ∙ h in
    (subst (λ (p : ℕ). IsValidUpTo text p) (sym k) (subst (λ (g : ScanError). Refuses text g) same refused), none (λ m. invalid_is_no_want place (sym same ∙ m)))
