use Rattle.std.proofs.Common.{◌∙◌, None, ap, map, subst, sym}
use Rattle.go_tree.specs.FileView.{decl_of}
use Rattle.collected.proofs.PlaceLemmas.{place_stands}
use Rattle.checked_modules.specs.FilePlaces.Imports.{names_imported}
use Rattle.checked_modules.specs.FunctionBodies.Walked.{AreWalkedDecls}
use Rattle.checked_modules.proofs.BodyLemmas.{first_in, there_of}
use Rattle.checked_modules.proofs.bodies.first_there.Goals as goal

pub first_decl-requires-clause-stands : goal.first_decl-requires-clause-stands
first_decl-requires-clause-stands c =
    place_stands c.args.tables.now c.args.blocks.now c.args.place.now c.in_ok-scope.scope None
    (names_imported c.args.packages.now c.args.tree.now) c.in_ok-scope.ensures.alone c.requires.ready c.requires.there.types
    c.requires.there.values

pub first_decl-requires-clause-walked : goal.first_decl-requires-clause-walked
first_decl-requires-clause-walked c =
    subst (λ ds. AreWalkedDecls (map decl_of ds)) (sym c.items.ensures) c.requires.walked

pub returns-clause-ready : goal.returns-clause-ready
returns-clause-ready c = c.in_ok-found.ensures.stands.ready

pub returns-clause-there : goal.returns-clause-there
returns-clause-there c =
    there_of c.first_decl.new.tables c.args.blocks.now c.first_decl.new.scope c.in_ok-found.ensures.stands

pub returns-clause-found : goal.returns-clause-found
returns-clause-found c =
    λ w x same tree is.
    c.in_ok-found.ensures.found w x same (c.in_ok-scope.ensures.is x tree is)
    ∙ ap (λ ds. first_in w x (map decl_of ds)) c.items.ensures
    ∙ ap (first_in w x) tree.decls
