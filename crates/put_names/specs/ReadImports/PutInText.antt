-- The form of a step in the text of its file (Go specification, Source file organization; Import declarations).
use Rattle.std.specs.Prelude.{◌≡◌, ℕ, Bool, List, map}
use Rattle.go_tree.specs.declared.spans.Span.{Span}
use Rattle.go_tree.specs.File.{File}
use Rattle.run_rules.specs.Sites.{MarkRef}
use Rattle.run_rules.specs.Texts.{form_edit}
use Rattle.run_rules.specs.Respanned.{file_with}
use Rattle.run_rules.specs.Steps.{same_here, unused_specs}
use Rattle.run_rules.specs.Run.{Standing, Logged, Next, here_of, is_commented}
use Rattle.splice_laws.specs.Swaps.{Swap}
use Rattle.splice_laws.specs.Fits.{swap_mark}
use Rattle.splice_laws.specs.Forms.{new_layout}
use Rattle.splice_laws.specs.Splice.{splice, IsPut}

module _ {marks : List MarkRef} {st : Standing} {l : Logged} {after : Standing} (n : Next marks st l after) where
  -- the file of the use as it stands in its text
  abbrev pub file_before : File Span
  file_before = file_with here_of n.found.site.at.source.tree

  -- where the imports stand that the step removes
  abbrev pub unused_spans : List Span
  unused_spans = map (λ s. here_of s.span) (unused_specs same_here (is_commented st) st.packages marks n.found)

  -- The step's form is put in place of a node of the file, by the edit that writes it there.
  pub record PutInText : Type 0 where
    pub put : File Span
    pub swap : Swap Span
    pub indent : List ℕ
    pub dotted : Bool
    pub wrapped : Bool
    pub blank : Bool
    pub in_text : IsPut n.old.text n.old.tokens n.old.comments file_before put swap indent dotted wrapped blank
    pub edit :
        form_edit n.old n.found.range (here_of n.found.range) n.found.site.place.slot n.found.form
        ≡ splice (swap_mark swap) blank (new_layout indent dotted wrapped swap)
