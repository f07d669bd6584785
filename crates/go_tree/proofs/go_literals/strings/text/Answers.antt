-- Each number of steps that suffices gives the same value.
use Rattle.std.proofs.Common.{ℕ, List, length, sym, ap, ◌∙◌}
use Rattle.go_tree.specs.GoWords.Texts.{interpreted_value}
use Rattle.go_tree.proofs.GoLiterals.UnitLemmas.{text_is}
use Rattle.go_tree.proofs.go_literals.strings.text.Goals as goal

pub returns-in_ok-interpreted : goal.returns-in_ok-interpreted
returns-in_ok-interpreted c =
    c.of-else-spelling-eq96.ensures ∙ c.in_ok-interpreted.ensures
    ∙ ap (λ (bs : List ℕ). interpreted_value (length bs) bs) c.between_quotes-inside.ensures
    ∙ sym (text_is c.args.spelling.now c.requires.quotes c.if-spelling-eq96.false)
