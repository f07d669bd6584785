use Rattle.printed_constants.proofs.TypedParts.MarkedRuns.LinkedMembers.Files.{read-have, step-have}
use Rattle.printed_constants.proofs.TypedParts.MarkedRuns.LinkedMembers.Linked.{members-linked}
use Rattle.printed_constants.proofs.TypedParts.MarkedRuns.LinkedMembers.Right.{used-right}
use Rattle.printed_constants.proofs.TypedParts.MarkedRuns.LinkedMembers.Stand.{imports-stand}
use Rattle.printed_constants.proofs.typed_parts.marked_runs.linked_members.members_are_linked.Goals as goal

pub returns-clause-linked : goal.returns-clause-linked
returns-clause-linked c = λ ps own files. members-linked ps own files

pub returns-clause-read : goal.returns-clause-read
returns-clause-read c = λ files ps texts r. read-have files ps texts r

pub returns-clause-stay : goal.returns-clause-stay
returns-clause-stay c = λ marks st l after n h. step-have marks st l after n h

pub returns-clause-right : goal.returns-clause-right
returns-clause-right c = λ ps more sound e. used-right ps more sound e

pub returns-clause-stand : goal.returns-clause-stand
returns-clause-stand c = λ marks st l after n e form links files typed few write more used. imports-stand marks st l after n e form links files typed few write more used
