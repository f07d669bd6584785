use Rattle.argument_cycles.proofs.TypedMethods.MethodsCome.{methods_block_comes, methods_literal_comes}
use Rattle.argument_cycles.proofs.typed_methods.laws.typed_methods_come_through.Goals as goal

pub returns-clause-blocks : goal.returns-clause-blocks
returns-clause-blocks c = λ commented rs marks x u kind k z s h b e. methods_block_comes commented rs marks x u kind k z s h b e

pub returns-clause-literals : goal.returns-clause-literals
returns-clause-literals c = λ commented rs marks x u k b e. methods_literal_comes commented rs marks x u k b e
