use Rattle.std.proofs.lemmas.Result.{IfOk-weaker}
use Rattle.operand_modes.proofs.OperandAnswers.KeptLemmas.{keeps_self}
use Rattle.checked_modules.proofs.FilePlaces.PlaceLemmas.{told_is, told_none}
use Rattle.checked_modules.specs.Bodies.{FindsIn, FindsThere}
use Rattle.checked_modules.proofs.BodyLemmas.{nothing_refused}
use Rattle.checked_modules.proofs.bodies.first_in_file.Goals as goal

pub returns-in-Some-clause-found : goal.returns-in-Some-clause-found
returns-in-Some-clause-found c =
    let packages = c.args.packages.now in
    let k = c.args.tables.now in
    let bs = c.args.blocks.now in
    let places = c.args.places.now in
    let f = c.args.file.now in
    let place = c.in-Some.place.now in
    IfOk-weaker c.first_there.result (FindsThere packages k bs place f.tree.now) (FindsIn packages k bs places f)
    (λ o found w x same file. found w x same file.tree (told_is places x f.place file.place place c.in-Some.ensures))
    c.first_there.ensures.found

pub returns-in-None-clause-keeps : goal.returns-in-None-clause-keeps
returns-in-None-clause-keeps c = keeps_self c.args.tables.now

pub returns-in-None-clause-found : goal.returns-in-None-clause-found
returns-in-None-clause-found c =
    λ w x same file. nothing_refused w x (told_none c.args.places.now x c.args.file.now.place file.place c.in-None.ensures)
