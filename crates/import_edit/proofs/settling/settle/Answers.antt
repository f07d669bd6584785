use Rattle.std.proofs.Common.{◌∙◌, List, sym, ap, subst}
use Rattle.go_tree.specs.declared.tokens.Comment.{Comment}
use Rattle.go_tree.specs.declared.tokens.Token.{Token}
use Rattle.go_tree.specs.FileView.{file_of}
use Rattle.run_rules.specs.ImportRules.Laid.{CommentsAscend, Laid}
use Rattle.run_rules.specs.ImportRules.Settled.{settled}
use Rattle.splice_laws.proofs.ImportSplices.ImportPlaces.CommentsStand.{comments_ascend}
use Rattle.import_edit.proofs.ReadLaws.{read_laid, settled_once}
use Rattle.import_edit.proofs.settling.settle.Goals as goal

pub settle_scanned-requires-clause-laid : goal.settle_scanned-requires-clause-laid
settle_scanned-requires-clause-laid c =
    let t = c.in-Ok.scanned in
    subst (λ (ts : List Token). Laid c.args.text.now ts (file_of c.args.file.now)) (sym c.items.ensures)
    (read_laid c.args.text.now t.items t.comments (file_of c.args.file.now) c.requires.reads c.in-Ok.ensures.found)

pub settle_scanned-requires-clause-ascend : goal.settle_scanned-requires-clause-ascend
settle_scanned-requires-clause-ascend c =
    let t = c.in-Ok.scanned in
    subst (λ (cs : List Comment). CommentsAscend 0 cs) (sym c.comments.ensures) (comments_ascend c.args.text.now t.items t.comments c.in-Ok.ensures.found)

pub returns : goal.returns
returns c = λ tokens comments own.
    let a = c.args in
    let t = c.in-Ok.scanned in
    c.in_ok-edits.ensures
    ∙ ap (λ (ts : List Token). settled a.text.now ts c.comments.result.now (file_of a.file.now) a.added.now a.unused.now) c.items.ensures
    ∙ ap (λ (cs : List Comment). settled a.text.now t.items cs (file_of a.file.now) a.added.now a.unused.now) c.comments.ensures
    ∙ settled_once a.text.now t.items tokens t.comments comments (file_of a.file.now) a.added.now a.unused.now c.in-Ok.ensures.found own
