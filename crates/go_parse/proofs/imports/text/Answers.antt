use Rattle.std.proofs.Common.{List, ℕ, sym, subst}
use Rattle.std.specs.Prelude.{IfOk, ◌≡◌}
use Rattle.go_tree.specs.GoLiterals.Strings.{IsString}
use Rattle.go_tree.specs.GoWords.Texts.{text_value}
use Rattle.go_productions.specs.Cursors.{ahead}
use Rattle.go_parse.proofs.TextSteps.{text_stands}
use Rattle.go_parse.proofs.imports.text.Goals as goal

pub string_value-requires : goal.string_value-requires
string_value-requires c = subst IsString (sym c.spelling.ensures) (text_stands (ahead c.args.tokens) c.requires.texts c.requires.stands)

pub returns : goal.returns
returns c = subst (λ (s : List ℕ). IfOk c.string_value.result (λ t. t ≡ text_value s)) c.spelling.ensures c.string_value.ensures
