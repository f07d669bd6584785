use Rattle.translation_rules.proofs.DeclaredResults.FunctionsFound.{functions_have_results, exported_have_results}
use Rattle.translation_rules.proofs.DeclaredResults.PackageMethods.{methods_have_results}
use Rattle.translation_rules.proofs.declared_results.declared_functions_have_their_results.Goals as goal

pub returns-clause-functions : goal.returns-clause-functions
returns-clause-functions c = functions_have_results

pub returns-clause-exported : goal.returns-clause-exported
returns-clause-exported c = exported_have_results

pub returns-clause-methods : goal.returns-clause-methods
returns-clause-methods c = methods_have_results
