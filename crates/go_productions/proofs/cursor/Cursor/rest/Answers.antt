use Rattle.std.proofs.Common.{◌+◌, refl}
use Rattle.go_productions.specs.declared.cursor.Cursor.{Cursor}
use Rattle.go_productions.proofs.Heads.{rest_at, shorter_at}
use Rattle.go_productions.proofs.cursor.Cursor.rest.Goals as goal

pub returns-then-self-items-clause-shorter : goal.returns-then-self-items-clause-shorter
returns-then-self-items-clause-shorter c =
    let next : Cursor = record { room = c.args.self.room; tokens = c.args.self.tokens; at = c.args.self.at + 1 } in
    shorter_at c.args.self next (rest_at c.args.self next refl refl)
