use Rattle.constant_steps.proofs.WrittenLiteral.FilesMeant.{file_meant}
use Rattle.literal_steps.proofs.FilesKnown.{nothing_else}
use Rattle.literal_steps.proofs.NamesServe.{serves_there}
use Rattle.standing_files.proofs.FilesStand.{file-stands}
use Rattle.standing_files.proofs.laws.names_of_files_mean_the_same.Goals as goal

pub returns-clause-meant : goal.returns-clause-meant
returns-clause-meant c = λ ps ordered well w i. file_meant ps w (file-stands ps ordered well w i)

pub returns-clause-nothing : goal.returns-clause-nothing
returns-clause-nothing c = λ ps ordered well w i. nothing_else ps w (file-stands ps ordered well w i)

pub returns-clause-serves : goal.returns-clause-serves
returns-clause-serves c = λ ps ordered well w i at bound needed none k e q there outer_names p locals.
    serves_there ps w (file-stands ps ordered well w i) at bound needed none k e q there outer_names p locals
