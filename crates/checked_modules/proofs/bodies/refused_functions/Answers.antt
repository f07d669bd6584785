use Rattle.checked_modules.proofs.BodyLemmas.{file_walked, files_end, files_more, files_none}
use Rattle.checked_modules.proofs.bodies.refused_functions.Goals as goal

pub first_in_file-requires-clause-ready : goal.first_in_file-requires-clause-ready
first_in_file-requires-clause-ready c = c.loop-file.invariant.ready

pub first_in_file-requires-clause-there : goal.first_in_file-requires-clause-there
first_in_file-requires-clause-there c = c.loop-file.invariant.there

pub first_in_file-requires-clause-walked : goal.first_in_file-requires-clause-walked
first_in_file-requires-clause-walked c =
    file_walked c.args.files.now c.loop-file.file-index c.file-item.result c.loop-file-test.true c.file-item.is
    c.requires.walked

pub loop-file-init : goal.loop-file-init
loop-file-init c =
    files_none c.args.packages.now c.args.tables.now c.args.blocks.now c.args.places.now c.args.files.now c.requires.ready
    c.requires.there c.new-bodies.result.items c.new-bodies.ensures.items

pub loop-file-preserved : goal.loop-file-preserved
loop-file-preserved c =
    files_more c.args.packages.now c.args.tables.now c.args.blocks.now c.args.places.now c.args.files.now c.requires.ready
    c.requires.there c.loop-file.tables c.loop-file.file-index c.loop-file.bodies.items c.loop-file.invariant
    c.file-item.result c.loop-file-test.true c.file-item.is c.first_in_file.new.tables c.in_ok-found.ensures.ready
    c.in_ok-found.ensures.there c.in_ok-found.ensures.keeps c.in_ok-found.found c.in_ok-found.ensures.found
    c.push.new.self.items c.in_ok-push.ensures.items

pub returns-clause-ready : goal.returns-clause-ready
returns-clause-ready c = c.loop-file.invariant.ready

pub returns-clause-there : goal.returns-clause-there
returns-clause-there c = c.loop-file.invariant.there

pub returns-clause-keeps : goal.returns-clause-keeps
returns-clause-keeps c = c.loop-file.invariant.keeps

pub returns-clause-found : goal.returns-clause-found
returns-clause-found c =
    files_end c.args.packages.now c.args.tables.now c.args.blocks.now c.args.places.now c.args.files.now c.requires.ready
    c.requires.there c.loop-file.tables c.loop-file.file-index c.loop-file.bodies.items c.loop-file.invariant
    c.loop-file-test.false
