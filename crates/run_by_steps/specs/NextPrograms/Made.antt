-- The file that a step makes (Go specification, Source file organization; golang.org/x/tools,
-- internal/refactor/inline).
use Rattle.std.specs.Prelude.{◌≡◌, ℕ, Bool, List, map}
use Rattle.go_tree.specs.declared.spans.Span.{Span}
use Rattle.go_tree.specs.File.{File}
use Rattle.go_tree.specs.FileBare.{bare_decl}
use Rattle.go_tree.specs.GoWords.Tokens.{TokensOf}
use Rattle.go_read.specs.SpellsFiles.{SpellsFile}
use Rattle.text_edits.specs.Applied.{applied}
use Rattle.splice_laws.specs.Swaps.{Swap}
use Rattle.splice_laws.specs.Fits.{swap_mark}
use Rattle.splice_laws.specs.Forms.{new_layout}
use Rattle.splice_laws.specs.Splice.{splice, IsPut}
use Rattle.run_rules.specs.Sites.{MarkRef}
use Rattle.run_rules.specs.Texts.{FileText, form_edit}
use Rattle.run_rules.specs.Respanned.{file_with}
use Rattle.run_rules.specs.Steps.{At, same_here, Found, new_decls}
use Rattle.run_rules.specs.Run.{Standing, here_of, edits_in, logged, Next}
use Rattle.run_rules.specs.Laws.{file_found}

-- The form of a use is laid out in the place of a node of its file; with that node replaced, the file has the
-- declarations with the form in the use's place, spans aside.
pub record PutsForm (st : Standing) (f : Found At) (old : FileText) : Type 0 where
  pub swap : Swap Span
  pub put : File Span
  pub indent : List ℕ
  pub dotted : Bool
  pub wrapped : Bool
  pub blank : Bool
  pub in_text : IsPut old.text old.tokens old.comments (file_found f) put swap indent dotted wrapped blank
  pub edit_is :
      form_edit old f.range (here_of f.range) f.site.place.slot f.form
      ≡ splice (swap_mark swap) blank (new_layout indent dotted wrapped swap)
  pub decls_are : map bare_decl put.decls ≡ map bare_decl (new_decls same_here st.packages f.site f.form)

-- The edits of the step make this text of the old one; these are its tokens and comments, and they spell this tree.
pub record MakesFile (marks : List MarkRef) (st : Standing) (f : Found At) (old new : FileText) (tree : File Span)
    : Type 0 where
  pub text_is : new.text ≡ applied old.text (edits_in marks st old f)
  pub scans : TokensOf new.text new.tokens new.comments
  pub spells : SpellsFile new.tokens tree

-- A next program, whose file has this text, and this tree as its nodes stand; and the row of the log.
pub record NextWith (marks : List MarkRef) (st : Standing) (f : Found At) (old new : FileText) (tree : File Span)
    : Type 0 where
  pub after : Standing
  pub next : Next marks st (logged marks st f (edits_in marks st old f)) after
  pub text_is : next.new ≡ new
  pub tree_is : file_with here_of next.tree ≡ tree
