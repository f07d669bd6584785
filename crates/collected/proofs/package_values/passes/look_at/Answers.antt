use Rattle.std.proofs.Common.{◌≡◌, ◌∙◌, ◌<◌, ℕ, Bool, List, Some, ap, length, rules, subst, sym, true}
use Rattle.std.specs.Prelude.{slice_get}
use Rattle.std.specs.Vec.{vec_len}
use Rattle.initial_values.proofs.ValueBlocks.ListLemmas.{item_there}
use Rattle.package_blocks.proofs.NumberLemmas as items
use Rattle.value_rounds.specs.NameRounds.Passes.{NameLeft, named_headers}
use Rattle.collected.specs.declared.single_headers.SingleHeader.{SingleHeader}
use Rattle.collected.specs.SingleHeaders.Singles.{listed_single}
use Rattle.collected.specs.ValueHeaders.Steps.{SetsHeader}
use Rattle.collected.specs.PackageValues.Passes.{AreFound}
use Rattle.collected.proofs.PackageValues.Codes.{item_within, single_spelled_at}
use Rattle.collected.proofs.PackageValues.Looks.{look_gone, look_marked, look_other}
use Rattle.collected.proofs.PackageValues.NameLooks.{name_new, name_refused}
use Rattle.collected.proofs.package_values.passes.look_at.Goals as goal

within_marks :
    (singles : List SingleHeader) (marks : List Bool) (i : ℕ) (c : SingleHeader) → length marks ≡ length singles →
    slice_get singles i ≡ Some c → i < length marks
within_marks singles marks i c count here = subst (λ n. i < n) (sym count) (item_within singles i c here)

pub index-requires : goal.index-requires
index-requires c =
    let singles = c.args.singles.now in
    let i = c.args.number in
    let item = c.in-Some.single.now in
    let sized : vec_len c.args.found.now ≡ length c.args.found.now.items = search rules in
    rw sized
    (within_marks singles c.args.found.now.items i item c.requires.count
    (items.item_there singles i item c.in-Some.ensures.lookup.0 c.in-Some.ensures.lookup.1))

pub index_mut-requires : goal.index_mut-requires
index_mut-requires c =
    let singles = c.args.singles.now in
    let i = c.args.number in
    let item = c.in-Some.single.now in
    let sized : vec_len c.args.found.now ≡ length c.args.found.now.items = search rules in
    rw sized
    (within_marks singles c.args.found.now.items i item c.requires.count
    (items.item_there singles i item c.in-Some.ensures.lookup.0 c.in-Some.ensures.lookup.1))

pub returns-then-index : goal.returns-then-index
returns-then-index c =
    let singles = c.args.singles.now in
    let i = c.args.number in
    let marks = c.args.found.now.items in
    let item = c.in-Some.single.now in
    let here = items.item_there singles i item c.in-Some.ensures.lookup.0 c.in-Some.ensures.lookup.1 in
    let within : i < length marks = within_marks singles marks i item c.requires.count here in
    look_marked listed_single singles named_headers AreFound NameLeft true c.args.files.now i c.args.tables.now
    c.args.blocks.now marks c.requires.ready c.requires.there
    (item_there marks i c.index.result.now within c.index.ensures ∙ ap Some c.if-index.true)

pub returns-then-not-is_value_name : goal.returns-then-not-is_value_name
returns-then-not-is_value_name c =
    let singles = c.args.singles.now in
    let i = c.args.number in
    let item = c.in-Some.single.now in
    look_other listed_single singles named_headers AreFound NameLeft true c.args.files.now i c.args.tables.now
    c.args.blocks.now c.args.found.now.items c.requires.ready c.requires.there item
    (items.item_there singles i item c.in-Some.ensures.lookup.0 c.in-Some.ensures.lookup.1)
    (sym c.is_value_name.ensures ∙ c.if-not-is_value_name.true)

pub declare_single-requires-clause-spelled : goal.declare_single-requires-clause-spelled
declare_single-requires-clause-spelled c =
    let singles = c.args.singles.now in
    single_spelled_at singles c.requires.spelled c.args.number c.in-Some.single.now
    (items.item_there singles c.args.number c.in-Some.single.now c.in-Some.ensures.lookup.0
    c.in-Some.ensures.lookup.1)

pub returns-then-not-branch : goal.returns-then-not-branch
returns-then-not-branch c =
    let files = c.args.files.now in
    let singles = c.args.singles.now in
    let i = c.args.number in
    let k = c.args.tables.now in
    let bs = c.args.blocks.now in
    let m = c.declare_single.new.tables in
    let ds = c.declare_single.new.blocks in
    let item = c.in-Some.single.now in
    let e = c.in_ok-declare_single-in-Some.ensures in
    name_refused files singles i k bs c.args.found.now.items c.requires.ready c.requires.there item
    (items.item_there singles i item c.in-Some.ensures.lookup.0 c.in-Some.ensures.lookup.1) m ds e.keeps e.ready
    e.there (e.same c.if-not-branch.true)
    (subst (SetsHeader files (listed_single item) k bs m ds) c.if-not-branch.true e.set)

pub returns-else-not-branch : goal.returns-else-not-branch
returns-else-not-branch c =
    let files = c.args.files.now in
    let singles = c.args.singles.now in
    let i = c.args.number in
    let k = c.args.tables.now in
    let bs = c.args.blocks.now in
    let m = c.declare_single.new.tables in
    let ds = c.declare_single.new.blocks in
    let item = c.in-Some.single.now in
    let e = c.in_ok-declare_single-in-Some.ensures in
    name_new files singles i k bs c.args.found.now.items c.requires.ready c.requires.there item
    (items.item_there singles i item c.in-Some.ensures.lookup.0 c.in-Some.ensures.lookup.1) m ds e.keeps e.ready
    e.there (sym c.is_value_name.ensures ∙ c.if-not-is_value_name.false)
    (subst (SetsHeader files (listed_single item) k bs m ds) c.if-not-branch.false e.set)

pub returns-in-None : goal.returns-in-None
returns-in-None c =
    look_gone listed_single c.args.singles.now named_headers AreFound NameLeft true c.args.files.now c.args.number
    c.args.tables.now c.args.blocks.now c.args.found.now.items c.requires.ready c.requires.there
    (items.item_gone c.args.singles.now c.args.number c.in-None.ensures.lookup.0)
