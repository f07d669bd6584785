-- A text with a form put in and its imports settled at once.
use Rattle.std.proofs.Common.{◌≡◌, ℕ, Bool, true, false, List, [], ◌∷◌, ◌++◌, drop, map, sym, subst}
use Rattle.go_tree.specs.declared.spans.Span.{Span}
use Rattle.go_tree.specs.declared.tokens.Token.{Token}
use Rattle.go_tree.specs.declared.tokens.Comment.{Comment}
use Rattle.go_tree.specs.File.{File}
use Rattle.go_tree.specs.FileBare.{bare_decl, bare_file}
use Rattle.go_tree.specs.GoWords.Tokens.{TokensOf}
use Rattle.go_read.specs.SpellsTypes.{Lexemes}
use Rattle.go_read.specs.SpellsFiles.{SpellsTops, SpellsFile}
use Rattle.go_read.specs.Bareness.{nowhere}
use Rattle.go_layout.specs.LayoutLaws.Laid.{is_indent}
use Rattle.text_edits.specs.Applied.{applied}
use Rattle.run_rules.specs.declared.import_rules.new_import.NewImport.{NewImport}
use Rattle.run_rules.specs.ImportRules.Settled.{settled}
use Rattle.splice_laws.specs.Joints.{begins_with_dot}
use Rattle.splice_laws.specs.Replaced.{starts_rise}
use Rattle.splice_laws.specs.Dots.{UndottedFile}
use Rattle.splice_laws.specs.Swaps.{Swap, FileIn, in_decls}
use Rattle.splice_laws.specs.Fits.{swap_mark}
use Rattle.splice_laws.specs.Forms.{new_layout, FormedNew, AsksOld}
use Rattle.splice_laws.specs.Splice.{are_apart, first_word, splice, ReadsAs}
use Rattle.splice_laws.proofs.Files.{tops_replaced}
use Rattle.splice_laws.proofs.Rises.{tokens_rise}
use Rattle.splice_laws.specs.ImportSplices.AddedFile.{AreWritable}
use Rattle.splice_laws.specs.ImportSplices.SettledFile.{with_settled}
use Rattle.splice_laws.specs.ImportSplices.SettledReads.{FormSettledGo, FormSettledGoAgain}
use Rattle.splice_laws.proofs.ImportSplices.FormTails.{form_out}
use Rattle.splice_laws.proofs.ImportSplices.Grown.{rise_later, all_go}

both_go : (text : List ℕ) (tokens : List Token) (comments : List Comment) (f g : File Span) (w : Swap Span) (i : List ℕ) (dotted wrapped blank : Bool) (added : List NewImport) (unused : List Span) → TokensOf text tokens comments → SpellsFile tokens f → UndottedFile (bare_file f) → FileIn w f g → AsksOld w → FormedNew dotted w → is_indent i ≡ true
    → (dotted ≡ false → begins_with_dot (drop (swap_mark w).end text) ≡ false) → (blank ≡ false → are_apart tokens (swap_mark w).start (first_word (new_layout i dotted wrapped w)) ≡ true) → AreWritable added
    → ReadsAs (applied text (settled text tokens comments f added unused ++ splice (swap_mark w) blank (new_layout i dotted wrapped w) ∷ [])) (with_settled text tokens comments unused added g)
both_go text tokens comments _ _ w i dotted wrapped blank added unused t d u (in_decls {n = n} {is = is} {ds = ds} {cs = cs} p) asks form sp undotted joint writable =
    all_go text tokens comments (record { package_name = n; imports = is; decls = ds }) unused t d u (splice (swap_mark w) blank (new_layout i dotted wrapped w) ∷ []) (map bare_decl cs)
    (λ front mid q tops at b ps st stop. form_out text tokens w i dotted wrapped blank asks form sp undotted joint at b ps mid st (λ us. SpellsTops nowhere (map bare_decl cs) us [])
    (tops_replaced w ds cs mid tops (rise_later front mid (subst (λ (ts : Lexemes). starts_rise ts) q (tokens_rise text tokens comments t))) p))
    added writable

pub form_settled_go : FormSettledGo
form_settled_go text tokens comments f g w i dotted wrapped blank added unused x writable =
    both_go text tokens comments f g w i dotted wrapped blank added unused x.of_text x.spelled x.undotted_file x.swapped x.asks x.formed x.spaces x.undotted x.apart writable

pub form_settled_go_again : FormSettledGoAgain
form_settled_go_again text f r u g w i dotted wrapped blank added unused swapped asks form sp undotted joint writable =
    both_go text r.tokens r.comments r.file g w i dotted wrapped blank added unused r.of_text r.spelled (subst (λ (h : File (Unit {0})). UndottedFile h) (sym r.same) u) swapped asks form sp undotted joint writable
