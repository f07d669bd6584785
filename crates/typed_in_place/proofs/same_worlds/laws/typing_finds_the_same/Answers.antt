use Rattle.typed_in_place.proofs.SameWorlds.TypingSame.{parts-same, place-same, used_stmts-same, declares-same, stmts-same}
use Rattle.typed_in_place.proofs.same_worlds.laws.typing_finds_the_same.Goals as goal

pub returns-clause-operands : goal.returns-clause-operands
returns-clause-operands c = λ left right same env e. parts-same left right same env e

pub returns-clause-places : goal.returns-clause-places
returns-clause-places c = λ left right same env e. place-same left right same env e

pub returns-clause-uses : goal.returns-clause-uses
returns-clause-uses c = λ left right same env b. used_stmts-same left right same env b

pub returns-clause-declarations : goal.returns-clause-declarations
returns-clause-declarations c = λ left right same env s. declares-same left right same env s

pub returns-clause-bodies : goal.returns-clause-bodies
returns-clause-bodies c = λ left right same q env before b. stmts-same left right same q env before b
