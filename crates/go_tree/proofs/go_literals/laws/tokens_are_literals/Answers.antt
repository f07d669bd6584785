use Rattle.go_tree.proofs.GoLiterals.TokenForms.{tokens_are_literals, tokens_are_strings}
use Rattle.go_tree.proofs.go_literals.laws.tokens_are_literals.Goals as goal

pub returns-clause-literals : goal.returns-clause-literals
returns-clause-literals c = tokens_are_literals

pub returns-clause-strings : goal.returns-clause-strings
returns-clause-strings c = tokens_are_strings
