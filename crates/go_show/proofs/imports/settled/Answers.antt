use Rattle.go_tree.specs.FileView.{file_of}
use Rattle.go_show.proofs.ReadTexts.{reads_imports, edits_within}
use Rattle.go_show.proofs.imports.settled.Goals as goal

pub settle-requires-clause-reads : goal.settle-requires-clause-reads
settle-requires-clause-reads c =
    let a = c.args in
    let s = a.source.now in
    reads_imports a.text.now s.tokens.items s.tokens.comments (file_of s.tree) c.requires.read

pub apply-requires : goal.apply-requires
apply-requires c =
    let a = c.args in
    let s = a.source.now in
    edits_within a.text.now s.tokens.items s.tokens.comments (file_of s.tree) c.requires.read a.added.now a.unused.now _
    (c.in_ok-edits.ensures s.tokens.items s.tokens.comments c.requires.read.0)
