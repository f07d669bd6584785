use Rattle.imported_typing.proofs.Alike.{same_of, holds_of}
use Rattle.imported_typing.proofs.TypingAlike.{parts-reached, place-reached, used_stmts-reached, declares-reached, stmts-reached}
use Rattle.imported_typing.proofs.RecordedAlike.{recorded_stmts-reached}
use Rattle.imported_typing.proofs.laws.typing_needs_what_it_reaches.Goals as goal

pub returns-clause-operands : goal.returns-clause-operands
returns-clause-operands c = λ r left right same env i e. same_of
    (parts-reached (record { reach = r; left = left; right = right; same = same }) env i e)

pub returns-clause-within : goal.returns-clause-within
returns-clause-within c = λ r left right same env i e. holds_of
    (parts-reached (record { reach = r; left = left; right = right; same = same }) env i e)

pub returns-clause-places : goal.returns-clause-places
returns-clause-places c = λ r left right same env i e. place-reached
    (record { reach = r; left = left; right = right; same = same }) env i e

pub returns-clause-uses : goal.returns-clause-uses
returns-clause-uses c = λ r left right same env i b. used_stmts-reached
    (record { reach = r; left = left; right = right; same = same }) env i b

pub returns-clause-declarations : goal.returns-clause-declarations
returns-clause-declarations c = λ r left right same env i s. same_of
    (declares-reached (record { reach = r; left = left; right = right; same = same }) env i s)

pub returns-clause-bodies : goal.returns-clause-bodies
returns-clause-bodies c = λ r left right same q k env i before b. same_of
    (stmts-reached (record { reach = r; left = left; right = right; same = same }) q k env i before b)

pub returns-clause-records : goal.returns-clause-records
returns-clause-records c = λ r left right same env i b. recorded_stmts-reached
    (record { reach = r; left = left; right = right; same = same }) env i b
