use Rattle.imported_typing.proofs.Alike.{same_of}
use Rattle.imported_typing.proofs.HeadersAlike.{declared_by_alike}
use Rattle.imported_typing.proofs.RefusedAlike.{body_ok_same, header_uses_same}
use Rattle.imported_typing.proofs.laws.headers_need_what_they_reach.Goals as goal

pub returns-clause-declared : goal.returns-clause-declared
returns-clause-declared c = λ r left right same ds es finite h k own.
    same_of (declared_by_alike (record { reach = r; left = left; right = right; same = same }) ds es finite h k
    (λ t e g. own t e))

pub returns-clause-bodies : goal.returns-clause-bodies
returns-clause-bodies c = λ r left right same h k. body_ok_same
    (record { reach = r; left = left; right = right; same = same }) h k

pub returns-clause-uses : goal.returns-clause-uses
returns-clause-uses c = λ r left right same h k. header_uses_same
    (record { reach = r; left = left; right = right; same = same }) h k
