use Rattle.order_runs.proofs.CycleRuns.ImportCycles.ImportStep.{placed}
use Rattle.constant_modules.proofs.LookUps.Imports.{typed_look_up}
use Rattle.constant_modules.proofs.LookUps.Removed.{stays}
use Rattle.constant_modules.proofs.LookUps.Uses.{was_used}
use Rattle.constant_modules.proofs.look_ups.laws.typed_imports_are_looked_up.Goals as goal

pub returns-clause-looked : goal.returns-clause-looked
returns-clause-looked c = λ ps ordered typed. typed_look_up ps ordered typed

pub returns-clause-used : goal.returns-clause-used
returns-clause-used c = λ ps ordered typed w p f sound k s there named apart. was_used ps w sound k s there named (typed_look_up ps ordered typed w p f k s there named) apart

pub returns-clause-stay : goal.returns-clause-stay
returns-clause-stay c = λ marks st l after n reads ordered typed sound k s there named apart left.
    let here = placed marks st l after n in
    stays marks st l after n reads k s there left
    (was_used st.packages n.found.site.at sound k s there named (typed_look_up st.packages ordered typed n.found.site.at here.package_is here.file_is k s there named) apart)
