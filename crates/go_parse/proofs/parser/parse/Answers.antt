use Rattle.std.proofs.Common.{◌≡◌, Some, None, sym, subst, rules}
use Rattle.go_productions.specs.Cursors.{ahead}
use Rattle.go_productions.specs.Terminals.{start_at}
use Rattle.go_parse.specs.Texts.{HasTexts}
use Rattle.go_parse.proofs.LiteralSteps.{texts_of_tokens}
use Rattle.go_parse.proofs.Outcomes.{none_only, none_refused, left_only, left_refused, whole_found, whole_only}
use Rattle.go_parse.proofs.parser.parse.Goals as goal

pub front-requires : goal.front-requires
front-requires c = subst HasTexts (sym c.new-whole.ensures) (texts_of_tokens _ _ _ c.requires.words)

pub returns-in_default-clause-only : goal.returns-in_default-clause-only
returns-in_default-clause-only c f d = absurd (none_only c.args.tokens.now.items (ahead c.new-whole.result) c.new-whole.ensures (rw c.in_default.is at c.in_ok-file.ensures) f d)

pub returns-in_default-clause-refused : goal.returns-in_default-clause-refused
returns-in_default-clause-refused c =
    none_refused _ _ c.args.tokens.now.items (ahead c.new-whole.result) c.new-whole.ensures (rw c.in_default.is at c.in_ok-file.ensures) c.first_or_end.ensures

pub returns-in-Some-start-clause-only : goal.returns-in-Some-start-clause-only
returns-in-Some-start-clause-only c f d =
    let here : Some c.in-Some-start.start ≡ start_at (ahead c.in-Some.after) = search rules in
    absurd (left_only c.args.tokens.now.items (ahead c.new-whole.result) (ahead c.in-Some.after) _ c.in-Some-start.start c.new-whole.ensures (rw c.in-Some.is at c.in_ok-file.ensures) here f d)

pub returns-in-Some-start-clause-refused : goal.returns-in-Some-start-clause-refused
returns-in-Some-start-clause-refused c =
    let here : Some c.in-Some-start.start ≡ start_at (ahead c.in-Some.after) = search rules in
    left_refused _ c.args.tokens.now.items (ahead c.new-whole.result) (ahead c.in-Some.after) _ c.in-Some-start.start c.new-whole.ensures (rw c.in-Some.is at c.in_ok-file.ensures) here

pub returns-in-None-clause-found : goal.returns-in-None-clause-found
returns-in-None-clause-found c =
    let none : None ≡ start_at (ahead c.in-Some.after) = search rules in
    whole_found c.args.tokens.now.items (ahead c.new-whole.result) (ahead c.in-Some.after) _ c.new-whole.ensures (rw c.in-Some.is at c.in_ok-file.ensures) none

pub returns-in-None-clause-only : goal.returns-in-None-clause-only
returns-in-None-clause-only c f d = whole_only c.args.tokens.now.items (ahead c.new-whole.result) (ahead c.in-Some.after) _ c.new-whole.ensures (rw c.in-Some.is at c.in_ok-file.ensures) f d
