use Rattle.std.proofs.Common.{◌∙◌, [], ap, length, replicate, subst, sym}
use Rattle.method_types.specs.MethodSets.Steps.{AllWithin, put_headers, put_sets}
use Rattle.method_types.proofs.MethodSets.Kept.{flags_kept, places_kept}
use Rattle.method_types.proofs.MethodSets.SetLemmas.{on_ok}
use Rattle.method_types.proofs.MethodSets.TableLemmas.{has_declared, put_count, put_within}
use Rattle.method_types.proofs.method_sets.table.declare_methods.Goals as goal

pub put_sets-requires-clause-within : goal.put_sets-requires-clause-within
put_sets-requires-clause-within c =
    let e = c.args.types.now in
    let cs = c.args.headers.now in
    let ts = c.args.attached.now in
    let ms = c.args.methods.items in
    subst (AllWithin e.rows)
    (sym (c.in_ok-sets.ensures ∙ ap (λ n. put_headers ts 0 cs ms (replicate n [])) c.len.ensures.count))
    (put_within e c.len.ensures.good cs ts ms c.requires.typed)

pub put_sets-requires-clause-count : goal.put_sets-requires-clause-count
put_sets-requires-clause-count c =
    let e = c.args.types.now in
    let cs = c.args.headers.now in
    let ts = c.args.attached.now in
    let ms = c.args.methods.items in
    ap length (c.in_ok-sets.ensures ∙ ap (λ n. put_headers ts 0 cs ms (replicate n [])) c.len.ensures.count)
    ∙ put_count e c.len.ensures.good cs ts ms c.requires.typed

pub returns-clause-known : goal.returns-clause-known
returns-clause-known c = λ bs files k. places_kept c.args.types.now c.put_sets.new.types c.put_sets.ensures.only bs files k

pub returns-clause-flags : goal.returns-clause-flags
returns-clause-flags c = λ x a. flags_kept c.args.types.now c.put_sets.new.types c.put_sets.ensures.only x a

pub returns-clause-declared : goal.returns-clause-declared
returns-clause-declared c =
    let e = c.args.types.now in
    let cs = c.args.headers.now in
    let ts = c.args.attached.now in
    let ms = c.args.methods.items in
    let sets = c.in_ok-sets.ensures ∙ ap (λ n. put_headers ts 0 cs ms (replicate n [])) c.len.ensures.count in
    on_ok c.put_sets.result
    (λ is g w files hs grown are a d.
    has_declared e c.len.ensures.good cs ts ms c.requires.typed c.put_sets.new.types c.put_sets.ensures.only
    (is ∙ ap (λ ss. put_sets 0 ss e) sets) g w files hs grown are a d)
    c.put_sets.ensures.put
