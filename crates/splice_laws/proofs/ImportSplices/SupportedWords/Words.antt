-- The words of a file that tokens spell.
use Rattle.std.proofs.Common.{◌≡◌, ◌∙◌, refl, ap, Bool, cond, List, [], ◌∷◌, ◌++◌}
use Rattle.go_tree.specs.declared.spans.Span.{Span}
use Rattle.go_tree.specs.declared.tokens.Token.{Token}
use Rattle.go_tree.specs.GoWords.Terminals.{lexemes}
use Rattle.go_read.specs.SpellsSpans.{span_to}
use Rattle.go_scan.specs.Unsupported.{package_start, constraint_spans, word_spans}
use Rattle.splice_laws.specs.ImportSplices.SupportedWords.Laws.{SpelledWordsAreSupported, SpelledTextsAreSupported}
use Rattle.splice_laws.proofs.ImportSplices.SupportedWords.Spelled.{Passed, here, later, front_passed}

passed_words : (tokens : List Token) → Passed [] (lexemes tokens) → word_spans tokens ≡ []
unfolding word_spans
passed_words [] p = refl
passed_words (t ∷ ts) (later e p) = ap (λ (b : Bool). cond b (t.span ∷ word_spans ts) (word_spans ts)) e ∙ passed_words ts p

pub words_supported : SpelledWordsAreSupported
words_supported tokens tree spells = passed_words tokens (front_passed span_to (lexemes tokens) spells here)

both_none : (xs ys : List Span) → xs ≡ [] → ys ≡ [] → xs ++ ys ≡ []
both_none xs ys a b = λ w. a w ++ b w

pub texts_supported : SpelledTextsAreSupported
texts_supported text tokens comments tree spells none =
    both_none (constraint_spans text (package_start tokens) comments) (word_spans tokens) none (words_supported tokens tree spells)
