use Rattle.printed_constants.proofs.CountedNames.Tokens.{tokens_few}
use Rattle.printed_constants.proofs.CountedNames.Avoided.{standing_few, avoided_few, stay_within, total_within, first_named}
use Rattle.printed_constants.proofs.counted_names.laws.printed_steps_avoid_few_names.Goals as goal

pub returns-clause-tokens : goal.returns-clause-tokens
returns-clause-tokens c = λ text tokens comments t. tokens_few text tokens comments t

pub returns-clause-few : goal.returns-clause-few
returns-clause-few c = λ marks st l after n reads paths printed named small. avoided_few marks st l after n reads paths printed named small

pub returns-clause-within : goal.returns-clause-within
returns-clause-within c = λ files done l new texts e. stay_within files done l new texts e

pub returns-clause-files : goal.returns-clause-files
returns-clause-files c = λ st reads paths printed small w package_is file_is. standing_few st reads paths printed w package_is file_is small

pub returns-clause-total : goal.returns-clause-total
returns-clause-total c = λ files done l new texts e. total_within files done l new texts e

pub returns-clause-first : goal.returns-clause-first
returns-clause-first c = λ marks st f old is reads paths printed named small. first_named marks st f old is reads paths printed named small
