use Rattle.std.proofs.Common.{◌∙◌, ap, map, subst, sym}
use Rattle.defined_types.specs.DeclaredTypes.{AreDeclared, declared_of}
use Rattle.collected.proofs.TypeLemmas.{all_grown, all_settled, all_values, still_known}
use Rattle.collected.proofs.types.settle_types.Goals as goal

pub define_types-requires-clause-none : goal.define_types-requires-clause-none
define_types-requires-clause-none c =
    c.types_declared.ensures.grown.definitions ∙ c.find_aliases.ensures.grown.definitions ∙ c.requires.none

pub refuse_types-requires-clause-known : goal.refuse_types-requires-clause-known
refuse_types-requires-clause-known c =
    c.define_types.ensures.known c.find_aliases.new.blocks c.args.files.now
    (still_known c.find_aliases.new.types c.types_declared.new.types c.find_aliases.new.blocks c.args.files.now
    c.find_aliases.ensures.known c.types_declared.ensures.grown)

pub returns-clause-grown : goal.returns-clause-grown
returns-clause-grown c =
    all_grown c.args.types.now c.find_aliases.new.types c.types_declared.new.types c.define_types.new.types
    c.refuse_types.new.types c.find_aliases.ensures.grown c.types_declared.ensures.grown c.define_types.ensures.rows
    c.refuse_types.ensures.grown

pub returns-clause-values : goal.returns-clause-values
returns-clause-values c =
    all_values c.args.types.now c.find_aliases.new.types c.types_declared.new.types c.define_types.new.types
    c.refuse_types.new.types c.find_aliases.ensures.grown c.types_declared.ensures.grown c.define_types.ensures.rows
    c.refuse_types.ensures.grown c.find_aliases.ensures.values c.types_declared.ensures.values
    c.refuse_types.ensures.values

pub returns-clause-settled : goal.returns-clause-settled
returns-clause-settled c =
    λ ps hs cs are nothing.
    let d = c.define_types.new.types in
    let e = c.refuse_types.new.types in
    let same = ap (λ ds. ds.items) c.in_ok-tests.ensures.declared in
    let r = all_settled c.args.types.now c.find_aliases.new.types c.types_declared.new.types d e
    c.find_aliases.ensures.grown c.types_declared.ensures.grown c.define_types.ensures.rows c.refuse_types.ensures.grown
    ps hs cs c.find_aliases.new.blocks c.refuse_types.new.blocks c.in_ok-declared.declared.items
    c.in_ok-tests.tests.declared.items c.find_aliases.ensures.known.members
    (subst (AreDeclared d) (sym same) (subst (AreDeclared d) c.deref.ensures.value c.define_types.ensures.are)) same
    (c.in_ok-find_aliases.ensures.found ps hs cs are nothing) (λ m. c.in_ok-declared.ensures.are ps hs cs are m)
    (λ q.
    c.in_ok-define_types.ensures.of_programs ps hs
    (ap (map (declared_of c.types_declared.new.types)) c.deref.ensures.value ∙ q)) (λ m q r. c.in_ok-refuse_types.ensures.refused ps hs cs are m q r) in (
      r.0,
      ap (λ ds. map (declared_of e) ds.items) c.refuse_types.ensures.declared ∙ r.1,
    )
