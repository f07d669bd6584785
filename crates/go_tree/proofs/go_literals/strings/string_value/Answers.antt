use Rattle.go_tree.proofs.GoLiterals.FormLemmas.{string_text}
use Rattle.go_tree.proofs.go_literals.strings.string_value.Goals as goal

pub text-requires : goal.text-requires
text-requires c = string_text c.args.spelling.now c.requires
