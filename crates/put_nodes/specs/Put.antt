-- A form that is put in the place of a node of a file (Go specification, Source file organization; Operators).
use Rattle.std.specs.Prelude.{◌≡◌, ℕ, Bool, List}
use Rattle.go_tree.specs.declared.spans.Span.{Span}
use Rattle.go_tree.specs.Tree.{NameAt, Expr, ident, selector}
use Rattle.go_tree.specs.File.{File}
use Rattle.run_rules.specs.Surroundings.{Slot}
use Rattle.run_rules.specs.FormTrees.{Form}
use Rattle.run_rules.specs.Texts.{FileText, form_edit}
use Rattle.splice_laws.specs.Swaps.{Swap}
use Rattle.splice_laws.specs.Fits.{swap_mark}
use Rattle.splice_laws.specs.Forms.{new_layout}
use Rattle.splice_laws.specs.Splice.{splice, IsPut}

-- The form's edit lays out another node in the place of a node of the file.
pub record FormIsPut {S : Type 0} (t : FileText) (file : File Span) (z : S) (range : Span) (s : Slot) (form : Form S)
    : Type 0 where
  pub new : File Span
  pub swap : Swap Span
  pub indent : List ℕ
  pub dotted : Bool
  pub wrapped : Bool
  pub blank : Bool
  pub edit_is : form_edit t z range s form ≡ splice (swap_mark swap) blank (new_layout indent dotted wrapped swap)
  pub put : IsPut t.text t.tokens t.comments file new swap indent dotted wrapped blank

-- A name, with the name of a package before it or without.
pub data IsSomeName {S : Type 0} : Expr S → Type 0 where
  alone : {s : S} {n : List ℕ} → IsSomeName (ident s n)
  qualified : {s z : S} {q : List ℕ} {n : NameAt S} → IsSomeName (selector s (ident z q) n)
