-- The identifiers of a file that reads are identifiers, and none of those holds the byte 0.
use Rattle.std.proofs.Common.{◌≡◌, refl, subst, ℕ, zero, suc, ◌+◌, ◌/◌, ◌%◌, Bool, true, false, cond, nat_eq, List, [], ◌∷◌, ◌++◌, None, arith}
use Rattle.std.specs.Prelude.{encode_utf8_all}
use Rattle.std.proofs.lemmas.Bool.{and_parts}
use Rattle.std.proofs.lemmas.Bool.Decides.{nat_tests}
use lib.Utf8.{encode}
use Rattle.go_tree.specs.declared.tokens.Token.{Token}
use Rattle.go_tree.specs.GoWords.Terminals.{lex, ident, lexemes}
use Rattle.go_tree.specs.GoWords.Tokens.Characters.{is_letter, is_word, each}
use Rattle.go_tree.specs.GoWords.Tokens.Pieces.{is_identifier}
use Rattle.go_scan.proofs.LetterLemmas.{letter_ascii}
use Rattle.go_read.specs.SpellsTypes.{Lexemes}
use Rattle.go_read.specs.SpellsSpans.{span_to}
use Rattle.splice_laws.specs.ImportSplices.AddedFile.{IsName}
use Rattle.run_rules.specs.Naming.{unnamed_package}
use Rattle.splice_laws.proofs.ImportSplices.SupportedWords.Spelled.{Passed, here, later}
use Rattle.run_by_steps.proofs.WrittenImports.ReadNames.{AllNameWell, text_names}
use Rattle.run_by_steps.specs.SpelledNames.Laws.{AreIdentifiers, ReadNamesAreIdentifiers, IdentifiersAreNamed}
use Rattle.run_by_steps.proofs.SpelledNames.Names.{Each, nil, cons, front_names}

-- ---- names among the tokens

abbrev AllWell : Lexemes → Type 0
AllWell [] = Unit {0}
AllWell (lex s t ∷ ls) = ((n : List ℕ) → t ≡ ident n → IsName n) × AllWell ls

well : (ts : List Token) → AllNameWell ts → AllWell (lexemes ts)
well [] h = tt
well (t ∷ ts) h = (h.0, well ts h.1)

passed_well : {us ls : Lexemes} → Passed us ls → AllWell ls → AllWell us
passed_well here h = h
passed_well (later e p) h = passed_well p h.1

all_of : {ns : List (List ℕ)} → Each IsName ns → AreIdentifiers ns
all_of nil = tt
all_of (cons p h) = (p, all_of h)

pub read_names_are_identifiers : ReadNamesAreIdentifiers
read_names_are_identifiers t tree r =
    let all : AllWell (lexemes t.tokens) = well t.tokens (text_names t.text t.tokens t.comments r.scans) in
    all_of (front_names span_to (lexemes t.tokens) IsName (λ s n us p. (passed_well p all).0 n refl) r.spells here)

-- ---- the first byte

abbrev first_of : List ℕ → ℕ
first_of [] = 1
first_of (b ∷ bs) = b

no_letter : is_letter 0 ≡ true → ⊥
no_letter e = let f : is_letter 0 ≡ false = letter_ascii 0 (omega arith) in absurd cc

not_zero : (c : ℕ) → is_letter c ≡ true → nat_eq c 0 ≡ false
not_zero zero e = absurd (no_letter e)
not_zero (suc c) e = grind (arith, nat_tests)

encoded_first : (c : ℕ) (more : List ℕ) → is_letter c ≡ true → nat_eq (first_of (encode c ++ more)) 0 ≡ false
unfolding encode
encoded_first c more e = by _ _ _
  where
    large : (k m : ℕ) → nat_eq (suc k + m) 0 ≡ false
    large k m = grind (arith, nat_tests)

    by : (x y z : Bool) → nat_eq (first_of (cond x (c ∷ []) (cond y ((192 + c / 64) ∷ (128 + c % 64) ∷ []) (cond z ((224 + c / 4096) ∷ (128 + c / 64 % 64) ∷ (128 + c % 64) ∷ []) ((240 + c / 262144) ∷ (128 + c / 4096 % 64) ∷ (128 + c / 64 % 64) ∷ (128 + c % 64) ∷ []))) ++ more)) 0 ≡ false
    by true y z = not_zero c e
    by false true z = large 191 (c / 64)
    by false false true = large 223 (c / 4096)
    by false false false = large 239 (c / 262144)

word_first : (w : List ℕ) → is_identifier w ≡ true → nat_eq (first_of (encode_utf8_all w)) 0 ≡ false
word_first [] e = absurd (grind (arith, e))
word_first (c ∷ cs) e = encoded_first c (encode_utf8_all cs) (and_parts (is_letter c) (each is_word cs) e).0

by_first : (n : List ℕ) → nat_eq (first_of n) 0 ≡ false → unnamed_package n ≡ None
by_first [] e = refl
by_first (zero ∷ ns) e = absurd (grind (arith, nat_tests, e))
by_first (suc b ∷ ns) e = refl

pub identifiers_are_named : IdentifiersAreNamed
identifiers_are_named [] h = tt
identifiers_are_named (n ∷ ns) h =
    (by_first n (subst (λ (v : List ℕ). nat_eq (first_of v) 0 ≡ false) h.0.1 (word_first h.0.0 h.0.2.0)), identifiers_are_named ns h.1)
