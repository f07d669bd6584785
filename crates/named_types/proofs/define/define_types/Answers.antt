use Rattle.std.proofs.Common.{◌∙◌, ◌+◌, ◌<◌, ap, drop, length, subst, sym}
use Rattle.std.specs.Prelude.{slice_index_or}
use Rattle.std.proofs.lemmas.List.{drop_more}
use Rattle.typed_names.proofs.TypeExprs.NewNames.{drop_all}
use Rattle.named_types.specs.Defining.{TypesDefined}
use Rattle.named_types.specs.Steps.{number_at}
use Rattle.named_types.proofs.ChainSteps.{are_item, no_item}
use Rattle.named_types.proofs.DefineLaws.{define_all, define_more, defined_there, named_now, under_there, within_now}
use Rattle.named_types.proofs.RowsKept.{declared_rows, places_rows}
use Rattle.named_types.proofs.define.define_types.Goals as goal

pub define_type-requires-clause-known : goal.define_type-requires-clause-known
define_type-requires-clause-known c =
    let e = c.args.types.now in
    let ds = c.args.declared.now in
    let i = c.loop-link.link-index in
    within_now e c.loop-link.types ds (drop i ds) c.loop-link.invariant (slice_index_or ds i no_item).named.0
    (are_item e ds c.requires.are i no_item c.loop-link-test.true).within

pub define_type-requires-clause-within : goal.define_type-requires-clause-within
define_type-requires-clause-within c =
    let e = c.args.types.now in
    let ds = c.args.declared.now in
    let i = c.loop-link.link-index in
    let d = slice_index_or ds i no_item in
    let q = c.number_at-under.ensures ∙ ap (λ xs. number_at xs d.of.0) c.deref.ensures.value in
    within_now e c.loop-link.types ds (drop i ds) c.loop-link.invariant c.number_at-under.result
    (subst (λ u. u < length e.rows) (sym q)
    (under_there e c.len-count.ensures.good.table ds c.requires.are c.in_ok-unders.unders.items c.in_ok-unders.ensures d
    (are_item e ds c.requires.are i no_item c.loop-link-test.true)))

pub define_type-requires-clause-named : goal.define_type-requires-clause-named
define_type-requires-clause-named c =
    let e = c.args.types.now in
    let ds = c.args.declared.now in
    let i = c.loop-link.link-index in
    named_now e c.loop-link.types ds (drop i ds) c.loop-link.invariant (slice_index_or ds i no_item).named.0
    (are_item e ds c.requires.are i no_item c.loop-link-test.true).named

pub loop-link-preserved : goal.loop-link-preserved
loop-link-preserved c =
    let e = c.args.types.now in
    let ds = c.args.declared.now in
    let i = c.loop-link.link-index in
    let d = slice_index_or ds i no_item in
    let q = c.number_at-under.ensures ∙ ap (λ xs. number_at xs d.of.0) c.deref.ensures.value in
    define_more e c.len-count.ensures.good.table ds c.requires.are c.in_ok-unders.unders.items c.in_ok-unders.ensures
    c.loop-link.types d (drop (i + 1) ds) (are_item e ds c.requires.are i no_item c.loop-link-test.true)
    (subst (TypesDefined e c.loop-link.types ds) (drop_more ds i no_item c.loop-link-test.true) c.loop-link.invariant)
    c.in_ok-define_type.ensures.none c.number_at-under.result q c.define_type.new.types
    c.in_ok-define_type.ensures.defined

pub returns-clause-of_programs : goal.returns-clause-of_programs
returns-clause-of_programs c =
    λ ps hs.
    defined_there ps hs c.args.types.now c.loop-link.types c.args.declared.now
    (define_all c.args.types.now c.loop-link.types c.args.declared.now
    (subst (TypesDefined c.args.types.now c.loop-link.types c.args.declared.now)
    (drop_all c.args.declared.now c.loop-link.link-index c.loop-link-test.false) c.loop-link.invariant))

pub returns-in_err-define_type-clause-are : goal.returns-in_err-define_type-clause-are
returns-in_err-define_type-clause-are c =
    declared_rows c.args.types.now c.define_type.new.types
    (ap (λ e. e.rows) c.in_err-define_type.ensures.same ∙ c.loop-link.invariant.rows) c.args.declared.now
    c.requires.are

pub returns-in_err-define_type-clause-known : goal.returns-in_err-define_type-clause-known
returns-in_err-define_type-clause-known c =
    places_rows c.args.types.now c.define_type.new.types
    (ap (λ e. e.rows) c.in_err-define_type.ensures.same ∙ c.loop-link.invariant.rows)

pub returns-clause-are : goal.returns-clause-are
returns-clause-are c =
    declared_rows c.args.types.now c.loop-link.types c.loop-link.invariant.rows c.args.declared.now c.requires.are

pub returns-clause-known : goal.returns-clause-known
returns-clause-known c = places_rows c.args.types.now c.loop-link.types c.loop-link.invariant.rows
