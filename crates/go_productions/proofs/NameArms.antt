-- What the reader gives for names, by their first tokens.
use Rattle.std.proofs.Common.{◌≡◌, ◌≢◌, [], ◌∷◌, Some, None, refl, sym, ap, ◌∙◌}
use Rattle.go_tree.specs.GoWords.Terminals.{lex, ident, comma}
use Rattle.go_read.specs.SpellsSpans.{span_to}
use Rattle.go_read.specs.SpellsTypes.{Lexemes}
use Rattle.go_read.specs.Goals.{read_names}
use Rattle.go_read.specs.ReadTypes.{names_step}
use Rattle.go_read.specs.Reading.{at}
use Rattle.go_read.proofs.Finds.{gives, finish}
use Rattle.go_tree.specs.declared.go_words.terminals.Terminal.{Terminal}
use Rattle.go_tree.specs.declared.go_words.terminals.Terminal.TheVariants as code
use Rattle.go_productions.specs.Terminals.{first_of, rest_of, name_of}
use Rattle.go_productions.specs.Parts.{in_front, skipped}
use Rattle.go_productions.proofs.Steps.{fails, goes_on}

pub skipped_none : (ts : Lexemes) (k : Terminal) → first_of ts ≡ k → k ≢ code.Ident → skipped ts ≡ None
skipped_none (lex s (ident w) ∷ ts) k h n = absurd (n (sym h))
skipped_none ts k h n = refl

pub skipped_last : (ts us : Lexemes) (k : Terminal) → first_of ts ≡ code.Ident → us ≡ rest_of ts → first_of us ≡ k → k ≢ code.Comma → skipped ts ≡ Some us
skipped_last (lex s (ident w) ∷ lex c comma ∷ ts) us k h u f n = absurd (n (sym f ∙ ap first_of u))
skipped_last (lex s (ident w) ∷ ts) us k h u f n = ap (λ (vs : Lexemes). Some vs) (sym u)
skipped_last _ us k h u f n = absurd cc

pub skipped_more : (ts us vs : Lexemes) → first_of ts ≡ code.Ident → us ≡ rest_of ts → first_of us ≡ code.Comma → vs ≡ rest_of us → skipped ts ≡ skipped vs
skipped_more (lex s (ident n) ∷ lex c comma ∷ ts) us vs h u f v = ap skipped (sym (v ∙ ap rest_of u))
skipped_more (lex s (ident n) ∷ ts) us vs h u f v = let z = sym f ∙ ap first_of u in absurd cc
skipped_more _ us vs h u f v = absurd cc

pub names_none : (ts : Lexemes) (k : Terminal) → first_of ts ≡ k → k ≢ code.Ident → at span_to read_names ts ≡ None
unfolding names_step
names_none (lex s (ident w) ∷ ts) k h n = absurd (n (sym h))
names_none ts k h n = finish span_to read_names ts fails

pub names_last : (ts us : Lexemes) (k : Terminal) → first_of ts ≡ code.Ident → us ≡ rest_of ts → first_of us ≡ k → k ≢ code.Comma → at span_to read_names ts ≡ Some (name_of ts ∷ [], us)
unfolding names_step
names_last (lex s (ident w) ∷ lex c comma ∷ ts) us k h u f n = absurd (n (sym f ∙ ap first_of u))
names_last (lex s (ident w) ∷ ts) us k h u f n = finish span_to read_names (lex s (ident w) ∷ ts) (gives span_to) ∙ ap (λ (vs : Lexemes). Some (name_of (lex s (ident w) ∷ ts) ∷ [], vs)) (sym u)
names_last _ us k h u f n = absurd cc

pub names_more : (ts us vs : Lexemes) → first_of ts ≡ code.Ident → us ≡ rest_of ts → first_of us ≡ code.Comma → vs ≡ rest_of us → at span_to read_names ts ≡ in_front (λ x xs. x ∷ xs) (name_of ts ∷ []) (at span_to read_names vs)
unfolding names_step
names_more (lex s (ident n) ∷ lex c comma ∷ ts) us vs h u f v =
    finish span_to read_names (lex s (ident n) ∷ lex c comma ∷ ts) (goes_on {g = read_names} {ts = ts} (λ x xs. x ∷ xs) (name_of (lex s (ident n) ∷ lex c comma ∷ ts)))
    ∙ ap (λ (ws : Lexemes). in_front (λ x xs. x ∷ xs) (name_of (lex s (ident n) ∷ lex c comma ∷ ts) ∷ []) (at span_to read_names ws)) (sym (v ∙ ap rest_of u))
names_more (lex s (ident n) ∷ ts) us vs h u f v = let z = sym f ∙ ap first_of u in absurd cc
names_more _ us vs h u f v = absurd cc
