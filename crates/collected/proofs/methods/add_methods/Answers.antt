use Rattle.std.proofs.Common.{[], subst, sym}
use Rattle.typed_names.specs.Meanings.{world_at}
use Rattle.method_types.specs.MethodNames.Attached.{AreAttached}
use Rattle.collected.proofs.MethodLemmas.{methods_added, ready_with_methods}
use Rattle.collected.proofs.ThereStays.{there_stays}
use Rattle.collected.proofs.methods.add_methods.Goals as goal

pub returns-clause-ready : goal.returns-clause-ready
returns-clause-ready c =
    ready_with_methods c.args.tables.now.env c.method_types.new.types c.declare_methods.new.types c.args.tables.now.flags
    c.method_types.new.flags c.args.tables.now.basics c.requires.ready c.method_types.ensures.grown
    c.method_types.ensures.values c.method_types.ensures.flags c.method_types.ensures.defined
    c.declare_methods.ensures.only

pub returns-clause-known : goal.returns-clause-known
returns-clause-known c =
    c.declare_methods.ensures.known c.args.blocks.now c.args.files.now c.method_types.ensures.known

pub returns-clause-there : goal.returns-clause-there
returns-clause-there c =
    there_stays c.args.tables.now.env c.method_types.new.types c.declare_methods.new.types c.method_types.ensures.grown
    c.declare_methods.ensures.only c.args.tables.now.consts c.args.blocks.now
    (c.declare_methods.ensures.known c.args.blocks.now c.args.files.now c.method_types.ensures.known).members

pub returns-clause-added : goal.returns-clause-added
returns-clause-added c =
    λ cs hs are.
    let e = c.args.tables.now.env in
    let w = world_at e cs c.args.blocks.now in
    let at = c.in_ok-attached.ensures cs hs are in
    let found = c.in_ok-found.ensures.found cs hs are (subst (AreAttached e w [] hs) (sym c.deref.ensures.value) at) in
    methods_added e c.method_types.new.types c.declare_methods.new.types c.method_types.ensures.grown
    c.declare_methods.ensures.only c.has_no_methods.ensures.good (c.has_no_methods.ensures.none c.if-not-has_no_methods.false)
    cs c.args.blocks.now hs c.in_ok-found.found.refused.items c.requires.known.members
    (c.in_ok-declare_methods.ensures.declared e w c.args.files.now hs c.method_types.ensures.grown are
    (subst (AreAttached e w [] hs) (sym c.deref-2.ensures.value) at) found.0)
    found.1
