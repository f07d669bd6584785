-- The edits of a step stand apart: those that settle the imports end before the form's range.
use Rattle.std.proofs.Common.{◌≡◌, ◌≤◌, ◌<◌, ◌+◌, ◌-◌, ℕ, Bool, true, false, ◌&&◌, not, nat_le, if◌then◌else◌, List, [], ◌∷◌, ◌++◌, length, map, codes, refl, sym, subst, arith}
use Rattle.std.proofs.lemmas.Bool.{cond_both}
use Rattle.go_tree.specs.declared.spans.Span.{Span}
use Rattle.go_tree.specs.declared.tokens.Token.{Token}
use Rattle.go_tree.specs.declared.tokens.Comment.{Comment}
use Rattle.go_tree.specs.File.{ImportSpec, ImportDecl, File}
use Rattle.text_edits.specs.declared.edit.Edit.{Edit}
use Rattle.text_edits.specs.Applied.{Ascend}
use Rattle.run_rules.specs.declared.import_rules.new_import.NewImport.{NewImport}
use Rattle.run_rules.specs.ImportRules.SpecText.{in_order}
use Rattle.run_rules.specs.ImportRules.Removed.{through_semicolon, widened, goes, spec_range, decl_range, goes_whole, specs_ranges, decl_ranges, ranges}
use Rattle.run_rules.specs.ImportRules.Added.{Addition, each_within, adds_to_group, last_closing, single_start, front_of, addition_among}
use Rattle.run_rules.specs.ImportRules.Settled.{removal, insertion, put_edit, settled}
use Rattle.run_rules.specs.ImportRules.Laid.{IsInk, IsInked, StandInOrder, IsStart, SpecsLie, BodyLies, DeclLies, DeclsLie, Laid}
use Rattle.run_rules.proofs.ImportRules.Blanks.{ink_stops, Widens, widens}
use Rattle.run_rules.proofs.ImportRules.Ranges.{ink_inside, Through, through}
use Rattle.run_rules.proofs.ImportRules.SettledOrder.{settled_ascend}
use Rattle.run_rules.specs.Texts.{form_edit}
use Rattle.run_rules.specs.Steps.{same_here, unused_specs, added_by, slot_of}
use Rattle.run_rules.specs.Run.{here_of, is_commented, edits_in}
use Rattle.run_rules.specs.Laws.{ImportsEndBy, LiesBehindImports, file_found, StepEditsStandApart}

-- each range ends at the offset or before
abbrev RangesEndBy : ℕ → List Span → Type 0
RangesEndBy at [] = Unit {0}
RangesEndBy at (r ∷ rs) = (r.end ≤ at) × RangesEndBy at rs

abbrev EditsEndBy : ℕ → List Edit → Type 0
EditsEndBy at [] = Unit {0}
EditsEndBy at (e ∷ es) = (e.span.end ≤ at) × EditsEndBy at es

both_end : (at : ℕ) (a b : List Span) → RangesEndBy at a → RangesEndBy at b → RangesEndBy at (a ++ b)
both_end at [] b h k = k
both_end at (r ∷ rs) b h k = (h.0, both_end at rs b h.1 k)

removals_end : (at : ℕ) (rs : List Span) → RangesEndBy at rs → EditsEndBy at (map removal rs)
removals_end at [] h = tt
removals_end at (r ∷ rs) h = (h.0, removals_end at rs h.1)

put_ends : (at : ℕ) (e : Edit) (es : List Edit) → e.span.end ≤ at → EditsEndBy at es → EditsEndBy at (put_edit e es)
put_ends at e [] le h = (le, tt)
put_ends at e (f ∷ fs) le h = cond_both (nat_le e.span.start f.span.start) (e ∷ f ∷ fs) (f ∷ put_edit e fs) (λ (xs : List Edit). EditsEndBy at xs) (λ t. (le, h)) (λ t. (h.0, put_ends at e fs le h.1))

-- an edit behind all others
then_one : (from at size : ℕ) (es : List Edit) (e : Edit) → from ≤ at → Ascend from size es → EditsEndBy at es → at ≤ e.span.start → e.span.start ≤ e.span.end → e.span.end ≤ size → Ascend from size (es ++ e ∷ [])
then_one from at size [] e le h k a b c = (omega (arith, le, a), b, c, omega arith)
then_one from at size (f ∷ fs) e le h k a b c = (h.0, h.1, h.2, then_one f.span.end at size fs e k.0 h.3 k.1 a b c)

from_start : (from size : ℕ) (es : List Edit) → Ascend from size es → Ascend 0 size es
from_start from size [] h = omega arith
from_start from size (e ∷ es) h = (omega arith, h.1, h.2, h.3)

module _ (text : List ℕ) (tokens : List Token) (comments : List Comment) (unused : List Span) (order : StandInOrder text 0 tokens) (at : ℕ) (starts : IsStart text tokens at) where
  -- a range up to a semicolon behind an offset
  record Wide (start : ℕ) (w : Span) : Type 0 where
    begins : w.start ≤ start
    ends : w.end ≤ at

  wide : (start end : ℕ) → start < end → IsInk text (end - 1) → end ≤ at → Wide start (widened text (record { start = start; end = through_semicolon tokens end }))
  wide start end lt ink le =
      let inside : end - 1 < length text = ink_inside text (end - 1) ink in
      let t : Through text tokens end (through_semicolon tokens end) = through text tokens 0 end order in
      let s : Span = record { start = start; end = through_semicolon tokens end } in
      let w : Widens text s (widened text s) = widens text s (omega (arith, inside, lt)) (t.within (omega (arith, inside, lt))) (t.stops (ink_stops text end ink)) in
      record { begins = w.starts; ends = w.before at starts.0 (t.before at starts.1 le) }

  abbrev group : Span → List (ImportSpec Span) → ImportDecl Span
  group sp all = record { span = sp; grouped = true; specs = all }

  lies_up : (from to : ℕ) (ss : List (ImportSpec Span)) → SpecsLie text tokens from to ss → from ≤ to
  lies_up from to [] h = h
  lies_up from to (s ∷ ss) h = let k : s.span.end ≤ to = lies_up s.span.end to ss h.3 in omega (arith, k, h.0, h.1.0)

  specs_end : (sp : Span) (all : List (ImportSpec Span)) (from to : ℕ) (ss : List (ImportSpec Span)) → to ≤ at → SpecsLie text tokens from to ss → RangesEndBy at (specs_ranges text tokens comments unused (group sp all) ss)
  specs_end sp all from to [] le h = tt
  specs_end sp all from to (s ∷ ss) le h =
      let k : s.span.end ≤ to = lies_up s.span.end to ss h.3 in
      cond_both (goes text tokens comments unused s) (spec_range text tokens comments unused (group sp all) s ∷ specs_ranges text tokens comments unused (group sp all) ss) (specs_ranges text tokens comments unused (group sp all) ss)
      (λ (rs : List Span). RangesEndBy at rs)
      (λ e. ((wide s.span.start s.span.end h.1.0 h.1.2 (omega (arith, k, le))).ends, specs_end sp all s.span.end to ss le h.3))
      (λ e. specs_end sp all s.span.end to ss le h.3)

  body_ends : (grows : Bool) (sp : Span) (grouped : Bool) (ss : List (ImportSpec Span)) → sp.end ≤ at → IsInked text sp → BodyLies text tokens sp grouped ss
      → RangesEndBy at (decl_ranges text tokens comments unused grows (record { span = sp; grouped = grouped; specs = ss }))
  body_ends grows sp true ss le ink body =
      cond_both (goes_whole text tokens comments unused grows (group sp ss)) (decl_range text tokens comments unused (group sp ss) ∷ []) (specs_ranges text tokens comments unused (group sp ss) ss) (λ (rs : List Span). RangesEndBy at rs)
      (λ e. ((wide sp.start sp.end ink.0 ink.2 le).ends, tt))
      (λ e. specs_end sp ss (sp.start + 1) (sp.end - 1) ss (omega (arith, le)) body.0)
  body_ends grows sp false [] le ink body = absurd body
  body_ends grows sp false (s ∷ []) le ink body =
      let d : ImportDecl Span = record { span = sp; grouped = false; specs = s ∷ [] } in
      cond_both (goes text tokens comments unused s) (spec_range text tokens comments unused d s ∷ []) [] (λ (rs : List Span). RangesEndBy at rs)
      (λ e. ((wide sp.start s.span.end (omega (arith, body.0, body.1.0)) body.1.2 (omega (arith, body.2, le))).ends, tt))
      (λ e. tt)
  body_ends grows sp false (s ∷ s' ∷ ss) le ink body = absurd body

  ranges_end : (grows : Bool) (from : ℕ) (ds : List (ImportDecl Span)) → ImportsEndBy at ds → DeclsLie text tokens from ds → RangesEndBy at (ranges text tokens comments unused grows ds)
  ranges_end grows from [] e h = tt
  ranges_end grows from (d ∷ []) e h = body_ends grows d.span d.grouped d.specs e.0 h.1.0 h.1.2
  ranges_end grows from (d ∷ f ∷ ds) e h =
      both_end at (decl_ranges text tokens comments unused false d) (ranges text tokens comments unused grows (f ∷ ds)) (body_ends false d.span d.grouped d.specs e.0 h.1.0 h.1.2)
      (ranges_end grows d.span.end (f ∷ ds) e.1 h.2)

  -- ---- what is added

  single_front : (d : ImportDecl Span) (ss : List (ImportSpec Span)) (grouped : Bool) → d.grouped ≡ grouped → BodyLies text tokens d.span grouped ss → d.span.end ≤ at → single_start text tokens comments unused d ss ≤ d.span.start
  single_front d [] grouped e body le = omega arith
  single_front d (s ∷ ss) true e body le =
      cond_both (not d.grouped && goes text tokens comments unused s) (spec_range text tokens comments unused d s).start d.span.start (λ (k : ℕ). k ≤ d.span.start)
      (λ t. absurd (never (subst (λ (b : Bool). (not b && goes text tokens comments unused s) ≡ true) e t)))
      (λ t. omega arith)
    where
      never : false ≡ true → ⊥
      never h = cc
  single_front d (s ∷ []) false e body le =
      cond_both (not d.grouped && goes text tokens comments unused s) (spec_range text tokens comments unused d s).start d.span.start (λ (k : ℕ). k ≤ d.span.start)
      (λ t.
      subst (λ (b : Bool). (widened text (record { start = if b then s.span.start else d.span.start; end = through_semicolon tokens s.span.end })).start ≤ d.span.start) (sym e)
      (wide d.span.start s.span.end (omega (arith, body.0, body.1.0)) body.1.2 (omega (arith, body.2, le))).begins)
      (λ t. omega arith)
  single_front d (s ∷ s' ∷ ss) false e body le = absurd body

  front_before : (d : ImportDecl Span) → DeclLies text tokens d → d.span.end ≤ at → front_of text tokens comments unused d ≤ at
  front_before d h le =
      cond_both (goes_whole text tokens comments unused false d) (decl_range text tokens comments unused d).start (single_start text tokens comments unused d d.specs) (λ (k : ℕ). k ≤ at)
      (λ e. let k : (decl_range text tokens comments unused d).start ≤ d.span.start = (wide d.span.start d.span.end h.0.0 h.0.2 le).begins in omega (arith, k, h.0.0, le))
      (λ e. let k : single_start text tokens comments unused d d.specs ≤ d.span.start = single_front d d.specs d.grouped refl h.2 le in omega (arith, k, h.0.0, le))

  closing_before : (ds : List (ImportDecl Span)) → ImportsEndBy at ds → last_closing ds ≤ at
  closing_before [] e = omega arith
  closing_before (d ∷ []) e = omega (arith, e.0)
  closing_before (d ∷ f ∷ ds) e = closing_before (f ∷ ds) e.1

  added_before : (end from : ℕ) (ds : List (ImportDecl Span)) (added : List NewImport) → end ≤ at → ImportsEndBy at ds → DeclsLie text tokens from ds → (addition_among text tokens comments unused end ds added).at ≤ at
  added_before end from [] added le e h = le
  added_before end from (d ∷ ds) added le e h =
      cond_both (adds_to_group text (d ∷ ds)) (record { at = last_closing (d ∷ ds); text = each_within (codes "\t") (codes "\n") added })
      (record { at = front_of text tokens comments unused d; text = each_within (codes "import ") (codes "\n") added })
      (λ (a : Addition). a.at ≤ at) (λ t. closing_before (d ∷ ds) e) (λ t. front_before d h.1 e.0)

  settled_end : (file : File Span) (added : List NewImport) → file.package_name.span.end ≤ at → ImportsEndBy at file.imports → Laid text tokens file → EditsEndBy at (settled text tokens comments file added unused)
  settled_end file [] le e laid = removals_end at (ranges text tokens comments unused false file.imports) (ranges_end false file.package_name.span.end file.imports e laid.imports)
  settled_end file (i ∷ is) le e laid =
      let a : Addition = addition_among text tokens comments unused file.package_name.span.end file.imports (in_order (i ∷ is)) in
      put_ends at (insertion a) (map removal (ranges text tokens comments unused (adds_to_group text file.imports) file.imports))
      (added_before file.package_name.span.end file.package_name.span.end file.imports (in_order (i ∷ is)) le e laid.imports)
      (removals_end at (ranges text tokens comments unused (adds_to_group text file.imports) file.imports)
      (ranges_end (adds_to_group text file.imports) file.package_name.span.end file.imports e laid.imports))

-- the edits that settle the imports, and one behind them
pub settled_then_one : (text : List ℕ) (tokens : List Token) (comments : List Comment) (file : File Span) (added : List NewImport) (unused : List Span) (e : Edit)
    → Laid text tokens file → LiesBehindImports text tokens file e.span → Ascend 0 (length text) (settled text tokens comments file added unused ++ e ∷ [])
settled_then_one text tokens comments file added unused e laid lies =
    let es : List Edit = settled text tokens comments file added unused in
    from_start file.package_name.span.end (length text) (es ++ e ∷ [])
    (then_one file.package_name.span.end lies.token (length text) es e lies.name_before (settled_ascend text tokens comments file added unused laid)
    (settled_end text tokens comments unused laid.order lies.token lies.starts file added lies.name_before lies.imports_before laid) lies.behind lies.is_span lies.within)

pub step_edits_apart : StepEditsStandApart
step_edits_apart marks st l after n laid lies =
    subst (λ (es : List Edit). Ascend 0 (length n.old.text) es) (sym edits_are)
    (settled_then_one n.old.text n.old.tokens n.old.comments (file_found n.found) (added_by same_here (is_commented st) st.packages marks n.found)
    (map (λ s. here_of s.span) (unused_specs same_here (is_commented st) st.packages marks n.found))
    (form_edit n.old n.found.range (here_of n.found.range) (slot_of same_here here_of (is_commented st) st.packages marks n.found) n.found.form) laid lies)
  where
    edits_are : l.edits ≡ edits_in marks st n.old n.found
    edits_are = λ w. (n.log_is w).edits
