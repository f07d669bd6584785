use Rattle.std.proofs.Common.{sym, ◌∙◌}
use Rattle.go_productions.specs.Cursors.{ahead}
use Rattle.go_parse.proofs.TextSteps.{texts_from}
use Rattle.go_parse.proofs.FileSteps.{without_package, without_name, without_semicolon, blank_none, front_some}
use Rattle.go_parse.proofs.file.front.Goals as goal

pub returns-in_default : goal.returns-in_default
returns-in_default c = without_package _ _ c.first.ensures.is c.in_default.not-Package

pub returns-in_default-first : goal.returns-in_default-first
returns-in_default-first c = without_name _ (ahead c.rest-named.result) _ c.in-Package.ensures.is c.rest-named.ensures.is c.first-2.ensures.is c.in_default-first.not-Ident

pub returns-in_default-first-2 : goal.returns-in_default-first-2
returns-in_default-first-2 c =
    without_semicolon _ (ahead c.rest-named.result) (ahead c.rest-after.result) _ c.in-Package.ensures.is c.rest-named.ensures.is c.in-Ident.ensures.is c.rest-after.ensures.is c.first-3.ensures.is c.in_default-first-2.not-Semicolon

pub returns-then-is_blank : goal.returns-then-is_blank
returns-then-is_blank c =
    blank_none _ (ahead c.rest-named.result) (ahead c.rest-after.result) _ c.in-Package.ensures.is c.rest-named.ensures.is c.in-Ident.ensures.is c.rest-after.ensures.is c.in-Semicolon.ensures.is c.in_ok-package.ensures
    (sym c.is_blank.ensures ∙ c.if-is_blank.true)

pub imports-requires : goal.imports-requires
imports-requires c = texts_from _ _ c.rest.ensures.is (texts_from _ _ c.rest-after.ensures.is (texts_from _ _ c.rest-named.ensures.is c.requires))

pub returns : goal.returns
returns c =
    front_some _ (ahead c.rest-named.result) (ahead c.rest-after.result) (ahead c.rest.result) _ _ (ahead c.in_ok-imports.after) _ _ c.in-Package.ensures.is c.rest-named.ensures.is c.in-Ident.ensures.is
    c.rest-after.ensures.is c.in-Semicolon.ensures.is c.rest.ensures.is c.in_ok-package.ensures (sym c.is_blank.ensures ∙ c.if-is_blank.false) c.in_ok-imports.ensures.gives c.in_ok-decls.ensures.gives
