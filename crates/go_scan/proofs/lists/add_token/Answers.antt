use Rattle.std.proofs.Common.{refl}
use Rattle.go_scan.proofs.ListSteps.{adds_token}
use Rattle.go_scan.proofs.lists.add_token.Goals as goal

pub returns : goal.returns
returns c =
    adds_token c.args.at _ c.args.word.now c.as_bytes-bytes.result.now c.utf8.word c.as_bytes-bytes.ensures.value refl c.args.kind c.in_ok-spelling.spelling c.in_ok-spelling.ensures.copied
    c.terminal_of-terminal.result c.terminal_of-terminal.ensures c.args.lists.now _ c.in_ok-push-2.ensures.items c.in_ok-push.ensures.items c.due_after-lists.ensures refl
