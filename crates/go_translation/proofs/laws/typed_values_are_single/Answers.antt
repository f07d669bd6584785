use Rattle.go_translation.specs.Mentions.{Read}
use Rattle.go_translation.proofs.TypedWidths.{expr_gives, address_gives}
use Rattle.go_translation.proofs.ReturnedWidths.{returned_width}
use Rattle.go_translation.proofs.laws.typed_values_are_single.Goals as goal

pub returns-clause-operands : goal.returns-clause-operands
returns-clause-operands c = λ P h t e o a r q. expr_gives P Read h t e o a r q

pub returns-clause-addresses : goal.returns-clause-addresses
returns-clause-addresses c = λ P h e o a r q i. address_gives P h e o a r q i

pub returns-clause-returns : goal.returns-clause-returns
returns-clause-returns c = λ P h ts es os a r q t n. returned_width P h ts es os a r q t n
