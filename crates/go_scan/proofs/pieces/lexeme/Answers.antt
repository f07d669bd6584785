use Rattle.std.proofs.Common.{chars}
use Rattle.go_scan.specs.Pieces.{kind_of}
use Rattle.go_scan.proofs.SizedPieces.{sized_lexeme_none, sized_boundary, sized_lexeme, sized_refused}
use Rattle.go_scan.proofs.pieces.lexeme.Goals as goal

pub returns-in_default : goal.returns-in_default
returns-in_default c = sized_lexeme_none (chars c.args.text.now) c.longest.result c.longest.ensures c.in_default.is

pub split_at-requires : goal.split_at-requires
split_at-requires c = sized_boundary c.args.text.now c.utf8.text c.longest.result c.longest.ensures c.in-Some.state c.in-Some.size c.in-Some.is

pub returns-then-may_precede : goal.returns-then-may_precede
returns-then-may_precede c =
    sized_lexeme c.args.text.now c.utf8.text c.longest.result c.longest.ensures c.in-Some.state c.in-Some.size c.in-Some.is (kind_of c.lexeme_kind-kind.result) c.split_at.result.0.now c.split_at.result.1.now c.may_precede.result
    c.lexeme_kind-kind.ensures c.split_at.ensures.front c.split_at.ensures.back c.may_precede.ensures c.if-may_precede.true

pub returns-else-may_precede : goal.returns-else-may_precede
returns-else-may_precede c =
    sized_refused c.args.text.now c.utf8.text c.longest.result c.longest.ensures c.in-Some.state c.in-Some.size c.in-Some.is (kind_of c.lexeme_kind-kind.result) c.split_at.result.0.now c.split_at.result.1.now c.may_precede.result
    c.lexeme_kind-kind.ensures c.split_at.ensures.front c.split_at.ensures.back c.may_precede.ensures c.if-may_precede.false
