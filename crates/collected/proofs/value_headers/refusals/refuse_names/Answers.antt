use Rattle.declared_types.proofs.Passed.{file_gone, file_there}
use Rattle.package_blocks.specs.Headers.{listed_of}
use Rattle.collected.proofs.ValueHeaders.RefusalLemmas.{refused_answered, refused_gone, refused_unsound}
use Rattle.collected.proofs.value_headers.refusals.refuse_names.Goals as goal

pub returns-then-not-header-clause-set : goal.returns-then-not-header-clause-set
returns-then-not-header-clause-set c =
    refused_unsound c.args.files.now (listed_of c.args.header.now) c.args.blocks.now c.if-not-header.true

pub returns-in-Some-clause-set : goal.returns-in-Some-clause-set
returns-in-Some-clause-set c =
    refused_answered c.args.files.now (listed_of c.args.header.now) c.args.blocks.now c.refuse_kind.new.blocks
    c.in-Some.file.now c.refuse_kind.result
    (file_there c.args.files.now c.args.header.now.file c.in-Some.file.now c.in-Some.ensures.lookup.0
    c.in-Some.ensures.lookup.1)
    c.if-not-header.false c.refuse_kind.ensures.set

pub returns-in-None-clause-set : goal.returns-in-None-clause-set
returns-in-None-clause-set c =
    refused_gone c.args.files.now (listed_of c.args.header.now) c.args.blocks.now
    (file_gone c.args.files.now c.args.header.now.file c.in-None.ensures.lookup.0)
