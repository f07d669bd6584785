use Rattle.std.proofs.Common.{◌≡◌, drop}
use Rattle.std.specs.List.{list_any}
use Rattle.variadic_words.specs.Dots.{is_dots}
use Rattle.variadic_words.proofs.words.has_dots.Given as goal

abbrev pub invariant-loop-token : goal.invariant-loop-token
invariant-loop-token l = list_any is_dots (drop l.token-index l.tokens) ≡ list_any is_dots l.tokens
