use Rattle.std.proofs.Common.{[], ◌≡◌, map, refl, subst}
use Rattle.std.proofs.lemmas.Result.{IfOk-weaker}
use Rattle.go_tree.specs.FileView.{decl_of}
use Rattle.typed_names.specs.Scopes.{env_at}
use Rattle.declared_types.proofs.Passed.{knows_types}
use Rattle.name_uses.specs.HeaderUses.Headers.{after_decls}
use Rattle.used_names.specs.Uses.{start}
use Rattle.checked_modules.proofs.UseLemmas.{none_used, place_there, uses_found, worlds_same}
use Rattle.checked_modules.proofs.uses.uses_of_file.Goals as goal

pub uses_there-requires-clause-known : goal.uses_there-requires-clause-known
uses_there-requires-clause-known c =
    let places = c.args.places.now in
    let place = c.in-Some.place.now in
    let t = place_there places c.args.file.now.place place c.in-Some.ensures in
    knows_types c.args.tables.env c.args.blocks.now places c.requires.places t.0 place t.1

pub returns-in-Some-clause-same : goal.returns-in-Some-clause-same
returns-in-Some-clause-same c =
    IfOk-weaker c.uses_there.result _ _
    (λ uses same.
    worlds_same c.args.tables.env uses.tables.env c.args.blocks.now c.args.places.now c.args.file.now.place
    c.in-Some.place.now c.in-Some.ensures same)
    c.uses_there.ensures.same

pub returns-in-Some-clause-found : goal.returns-in-Some-clause-found
returns-in-Some-clause-found c =
    let e = c.args.tables.env in
    let bs = c.args.blocks.now in
    let place = c.in-Some.place.now in
    let f = c.args.file.now in
    IfOk-weaker c.uses_there.result _ _
    (λ uses found.
    uses_found e bs c.args.places.now f uses.found c.places_know_final_types.ensures c.walks_find_uses_of_headers.ensures
    place c.in-Some.ensures
    (subst (λ ds. uses.found ≡ (after_decls (map decl_of ds) (start (env_at e [] bs place))).found) c.items-decls.ensures found))
    c.uses_there.ensures.found

pub returns-in-None-clause-same : goal.returns-in-None-clause-same
returns-in-None-clause-same c = λ cs. refl

pub returns-in-None-clause-found : goal.returns-in-None-clause-found
returns-in-None-clause-found c =
    none_used c.args.tables.env c.args.blocks.now c.args.places.now c.args.file.now c.new-found.result c.in-None.ensures
    c.new-found.ensures
