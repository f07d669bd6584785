use Rattle.std.proofs.Common.{refl, subst, sym, chars}
use Rattle.go_scan.specs.declared.lists.Lists.{Lists}
use Rattle.go_scan.specs.declared.pieces.PieceKind.{PieceKind}
use Rattle.go_scan.specs.Pieces.{kind_of}
use Rattle.go_scan.specs.Scanned.{Adds}
use Rattle.go_scan.proofs.ListSteps.{adds_comment}
use Rattle.go_scan.proofs.lists.add.Goals as goal

pub returns-in_ok-push-in-Comment : goal.returns-in_ok-push-in-Comment
returns-in_ok-push-in-Comment c =
    let gap = c.add_gap-in-Comment.new.lists in
    let new : Lists = record { tokens = gap.tokens; terminals = gap.terminals; comments = c.push.new.self; due = gap.due } in
    subst (λ (k : PieceKind). Adds c.args.lists.now new c.args.at (kind_of k) (chars c.args.word.now)) (sym c.in-Comment.is)
    (adds_comment c.args.at _ c.args.word.now c.args.word.now c.utf8.word refl refl c.args.lists.now gap new c.in_ok-add_gap-in-Comment.ensures refl refl refl c.in_ok-push-in-Comment.ensures.items)
