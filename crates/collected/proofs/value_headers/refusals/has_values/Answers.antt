use Rattle.std.proofs.Common.{false}
use Rattle.declared_types.proofs.Passed.{file_gone, file_there}
use Rattle.package_blocks.specs.Headers.{listed_of}
use Rattle.collected.proofs.ValueHeaders.RefusalLemmas.{told_answered, told_gone, told_unsound}
use Rattle.collected.proofs.value_headers.refusals.has_values.Goals as goal

pub returns-then-not-header-clause-tells : goal.returns-then-not-header-clause-tells
returns-then-not-header-clause-tells c =
    told_unsound c.args.files.now (listed_of c.args.header.now) c.args.tables.now c.args.blocks.now
    c.if-not-header.true

pub returns-in-Some-clause-tells : goal.returns-in-Some-clause-tells
returns-in-Some-clause-tells c =
    told_answered c.args.files.now (listed_of c.args.header.now) c.args.tables.now c.args.blocks.now
    c.in-Some.file.now c.has_values_in.result
    (file_there c.args.files.now c.args.header.now.file c.in-Some.file.now c.in-Some.ensures.lookup.0
    c.in-Some.ensures.lookup.1)
    c.if-not-header.false c.has_values_in.ensures.tells

pub returns-in-None-clause-tells : goal.returns-in-None-clause-tells
returns-in-None-clause-tells c =
    told_gone c.args.files.now (listed_of c.args.header.now) c.args.tables.now c.args.blocks.now
    (file_gone c.args.files.now c.args.header.now.file c.in-None.ensures.lookup.0) false
