-- What is said of a text and its tokens together is said of the text.
use Rattle.std.proofs.Common.{◌≡◌, ◌≢◌, sym, subst, ◌∙◌}
use Rattle.std.specs.Prelude.{ℕ, List, Result, Ok, Err, IfErr}
use Rattle.std.specs.Str.{IsValidUpTo}
use Rattle.go_tree.specs.declared.tokens.Token.{Token}
use Rattle.go_tree.specs.declared.tokens.Comment.{Comment}
use Rattle.go_tree.specs.GoWords.Tokens.{StopsAt, TokensOf}
use Rattle.go_scan.specs.declared.scanner.ScanError.{ScanError}
use Rattle.go_scan.specs.declared.scanner.ScanError.TheVariants as scanned
use Rattle.go_scan.specs.Scanned.{HasNoTokens, Refuses}
use Rattle.go_parse.specs.declared.source.ReadError.{ReadError}
use Rattle.go_parse.specs.declared.source.ReadError.TheVariants.{NotUtf8, BadToken, Unsupported, TooDeep, NotRead, NoMemory}
use Rattle.go_parse.specs.Sources.{RefusesText, RefusesTokens}

refused_text : (text : List ℕ) (tokens : List Token) (comments : List Comment) → TokensOf text tokens comments → (e : ReadError) → RefusesTokens text tokens comments e → RefusesText text e
refused_text text tokens comments words (NotUtf8 place) refused = absurd refused
refused_text text tokens comments words (BadToken place) refused = absurd refused
refused_text text tokens comments words (Unsupported place) refused = record { tokens = tokens; comments = comments; words = words; refused = refused }
refused_text text tokens comments words (TooDeep place) refused = record { tokens = tokens; comments = comments; words = words; refused = refused }
refused_text text tokens comments words (NotRead place) refused = record { tokens = tokens; comments = comments; words = words; refused = refused }
refused_text text tokens comments words NoMemory refused = absurd refused

pub refused_of : {T : Type 0} (text : List ℕ) (tokens : List Token) (comments : List Comment) → TokensOf text tokens comments → (r : Result T ReadError) (e : ReadError) → r ≡ Err e → IfErr r (λ e. e ≢ NoMemory → RefusesTokens text tokens comments e) → e ≢ NoMemory → RefusesText text e
refused_of text tokens comments words (Ok x) e i refused n = absurd cc
refused_of text tokens comments words (Err f) e i refused n =
    let same : f ≡ e = cc in
    refused_text text tokens comments words e (subst (λ (g : ReadError). RefusesTokens text tokens comments g) same (refused (λ m. n (sym same ∙ m))))

-- ---- a text without tokens

bad_token_is_no_want : (place : ℕ) → scanned.BadToken place ≡ scanned.NoMemory → ⊥
bad_token_is_no_want place e = absurd cc

not_utf8_is_no_want : (place : ℕ) → scanned.NotUtf8 place ≡ scanned.NoMemory → ⊥
not_utf8_is_no_want place e = absurd cc

pub stopped : {T : Type 0} (text : List ℕ) (r : Result T ScanError) (e : ScanError) (place at : ℕ) → r ≡ Err e → e ≡ scanned.BadToken place → at ≡ place → IfErr r (λ e. Refuses text e) → IfErr r (λ e. e ≢ scanned.NoMemory → HasNoTokens text) → StopsAt text at × HasNoTokens text
stopped text (Ok x) e place at i h k refused none = absurd cc
stopped text (Err f) e place at i h k refused none =
    let same : f ≡ scanned.BadToken place = let first : f ≡ e = cc in first ∙ h in
    (subst (λ (p : ℕ). StopsAt text p) (sym k) (subst (λ (g : ScanError). Refuses text g) same refused), none (λ m. bad_token_is_no_want place (sym same ∙ m)))

pub invalid : {T : Type 0} (text : List ℕ) (r : Result T ScanError) (e : ScanError) (place at : ℕ) → r ≡ Err e → e ≡ scanned.NotUtf8 place → at ≡ place → IfErr r (λ e. Refuses text e) → IfErr r (λ e. e ≢ scanned.NoMemory → HasNoTokens text) → IsValidUpTo text at × HasNoTokens text
invalid text (Ok x) e place at i h k refused none = absurd cc
invalid text (Err f) e place at i h k refused none =
    let same : f ≡ scanned.NotUtf8 place = let first : f ≡ e = cc in first ∙ h in
    (subst (λ (p : ℕ). IsValidUpTo text p) (sym k) (subst (λ (g : ScanError). Refuses text g) same refused), none (λ m. not_utf8_is_no_want place (sym same ∙ m)))
