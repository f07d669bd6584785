-- What the reader gives for statements in braces.
use Rattle.std.proofs.Common.{◌≡◌, ◌≢◌, ℕ, ◌∷◌, Some, None, sym, ap, ◌∙◌}
use Rattle.std.specs.Prelude.{drop}
use Rattle.go_tree.specs.declared.spans.Span.{Span}
use Rattle.go_tree.specs.Tree.{Stmts}
use Rattle.go_tree.specs.GoWords.Terminals.{lex, brace}
use Rattle.go_read.specs.SpellsSpans.{span_to}
use Rattle.go_read.specs.SpellsTypes.{Lexemes}
use Rattle.go_read.specs.Goals.{read_stmts, read_block}
use Rattle.go_read.specs.ReadStmts.{block_step}
use Rattle.go_read.specs.Reading.{at}
use Rattle.go_read.proofs.Finds.{gives, asks, finish}
use Rattle.go_tree.specs.declared.go_words.terminals.Terminal.{Terminal}
use Rattle.go_tree.specs.declared.go_words.terminals.Terminal.TheVariants as code
use Rattle.go_productions.specs.Terminals.{first_of, rest_of}
use Rattle.go_productions.proofs.Steps.{fails, lacks, no_end_brace, on_end_brace}

pub stmts_taken : (ts left : Lexemes) (n : ℕ) (b : Stmts Span) → at span_to read_stmts ts ≡ Some (b, drop n ts) → left ≡ drop n ts → at span_to read_stmts ts ≡ Some (b, left)
stmts_taken ts left n b e d = e ∙ ap (λ (us : Lexemes). Some (b, us)) (sym d)

-- ---- blocks

pub block_open : (ts : Lexemes) (k : Terminal) → first_of ts ≡ k → k ≢ code.Brace → at span_to read_block ts ≡ None
unfolding block_step
block_open (lex s brace ∷ ts) k f n = absurd (n (sym f))
block_open ts k f n = finish span_to read_block ts fails

pub block_none : (ts us : Lexemes) → first_of ts ≡ code.Brace → us ≡ rest_of ts → at span_to read_stmts us ≡ None → at span_to read_block ts ≡ None
unfolding block_step
block_none (lex s brace ∷ ts) us f u a = finish span_to read_block (lex s brace ∷ ts) (lacks (ap (at span_to read_stmts) (sym u) ∙ a))
block_none _ us f u a = absurd cc

pub block_end : (ts us r : Lexemes) (b : Stmts Span) (k : Terminal) → first_of ts ≡ code.Brace → us ≡ rest_of ts → at span_to read_stmts us ≡ Some (b, r) → first_of r ≡ k → k ≢ code.EndBrace → at span_to read_block ts ≡ None
unfolding block_step
block_end (lex s brace ∷ ts) us r b k f u a g n = finish span_to read_block (lex s brace ∷ ts) (asks span_to (ap (at span_to read_stmts) (sym u) ∙ a) (no_end_brace r k _ g n))
block_end _ us r b k f u a g n = absurd cc

pub block_some : (ts us r vs : Lexemes) (b : Stmts Span) → first_of ts ≡ code.Brace → us ≡ rest_of ts → at span_to read_stmts us ≡ Some (b, r) → first_of r ≡ code.EndBrace → vs ≡ rest_of r → at span_to read_block ts ≡ Some ((span_to ts vs, b), vs)
unfolding block_step
block_some (lex s brace ∷ ts) us r vs b f u a g v = finish span_to read_block (lex s brace ∷ ts) (asks span_to (ap (at span_to read_stmts) (sym u) ∙ a) (on_end_brace r vs _ g v (gives span_to)))
block_some _ us r vs b f u a g v = absurd cc
