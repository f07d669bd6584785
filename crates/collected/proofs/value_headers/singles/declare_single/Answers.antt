use Rattle.std.proofs.Common.{false}
use Rattle.declared_types.proofs.Passed.{file_gone, file_there}
use Rattle.collected.specs.SingleHeaders.Singles.{listed_single}
use Rattle.collected.proofs.ValueHeaders.HeaderLemmas.{header_answered, header_gone, header_unsound}
use Rattle.collected.proofs.value_headers.singles.declare_single.Goals as goal

pub returns-then-not-single-clause-set : goal.returns-then-not-single-clause-set
returns-then-not-single-clause-set c =
    header_unsound c.args.files.now (listed_single c.args.single.now) c.args.tables.now c.args.blocks.now
    c.if-not-single.true

pub returns-in-Some-clause-set : goal.returns-in-Some-clause-set
returns-in-Some-clause-set c =
    header_answered c.args.files.now (listed_single c.args.single.now) c.args.tables.now
    c.declare_single_kind.new.tables c.args.blocks.now c.declare_single_kind.new.blocks c.in-Some.file.now
    c.declare_single_kind.result
    (file_there c.args.files.now c.args.single.now.file c.in-Some.file.now c.in-Some.ensures.lookup.0
    c.in-Some.ensures.lookup.1)
    c.if-not-single.false c.declare_single_kind.ensures.set

pub returns-in-None-clause-set : goal.returns-in-None-clause-set
returns-in-None-clause-set c =
    header_gone c.args.files.now (listed_single c.args.single.now) c.args.tables.now c.args.tables.now
    c.args.blocks.now c.args.blocks.now
    (file_gone c.args.files.now c.args.single.now.file c.in-None.ensures.lookup.0) false
