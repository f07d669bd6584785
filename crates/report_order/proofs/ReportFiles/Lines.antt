-- The lines of a report are those of one file after the other.
use Rattle.std.proofs.Common.{◌≡◌, ◌∙◌, refl, sym, ap, ℕ, Bool, false, if◌then◌else◌, bytes_eq, List, [], ◌∷◌, ◌++◌, map, Some, None, append_assoc}
use Rattle.std.specs.Prelude.{All}
use Rattle.std.proofs.lemmas.List.Elements.{All-nil, All-cons}
use Rattle.run_rules.specs.Marks.{text_at}
use Rattle.run_rules.specs.Report as report
use Rattle.run_rules.specs.Report.{Entry, file_of, read_text, arranged}
use Rattle.run_rules.specs.Texts.{FileText}
use Rattle.report_lines.specs.Lines.{lines_of}
use Rattle.report_lines.specs.Laws.{item_of}
use Rattle.report_lines.proofs.ReportLemmas.{report_has}
use Rattle.report_order.specs.ReportFiles.Files.{ComesFirst, PathsAscend, EachEntry, entries_in, by_files, lines_by_file}
use Rattle.report_order.specs.ReportFiles.Laws.{ReportsAreByFile, all_entries}
use Rattle.report_order.proofs.ReportFiles.Arranged.{each_arranged, in_file, is_itself, others_too, entries_by_file}

lines_both : (files : List (List ℕ × FileText)) (xs ys : List Entry) → report.lines_of files (xs ++ ys) ≡ report.lines_of files xs ++ report.lines_of files ys
lines_both files [] ys = refl
lines_both files (x ∷ xs) ys = ap (λ (ls : List ℕ). report.line_of files x ++ ls) (lines_both files xs ys) ∙ sym (append_assoc (report.line_of files x) (report.lines_of files xs) (report.lines_of files ys))

all_of : (path : List ℕ) (es : List Entry) → EachEntry (λ e. file_of e ≡ path) es → All (λ e. file_of e ≡ path) es
all_of path [] h = All-nil (λ e. file_of e ≡ path)
all_of path (e ∷ es) h = All-cons (λ e. file_of e ≡ path) e es h.0 (all_of path es h.1)

-- the files read so far come before those that are left
abbrev paths : List (List ℕ × FileText) → List (List ℕ)
paths files = map (λ t. t.0) files

-- the text of a file stays where a file before it is left out
text_past : (t : List ℕ × FileText) (ts : List (List ℕ × FileText)) (path : List ℕ) → bytes_eq path t.0 ≡ false → read_text path (t ∷ ts) ≡ read_text path ts
text_past t ts path h = ap (λ (b : Bool). elim (if b then Some t.1 else text_at path ts) as (λ o. List ℕ) [ None ↦ [] | Some t ↦ t.text ]) h

text_here : (t : List ℕ × FileText) (ts : List (List ℕ × FileText)) → read_text t.0 (t ∷ ts) ≡ t.1.text
text_here t ts = ap (λ (b : Bool). elim (if b then Some t.1 else text_at t.0 ts) as (λ o. List ℕ) [ None ↦ [] | Some t ↦ t.text ]) (is_itself t.0)

-- files with others before them
module _ (files : List (List ℕ × FileText)) where
  -- each has its text among all
  abbrev HaveTexts : List (List ℕ × FileText) → Type 0
  HaveTexts [] = Unit {0}
  HaveTexts (t ∷ ts) = (read_text t.0 files ≡ t.1.text) × HaveTexts ts

  lines_so : (ts : List (List ℕ × FileText)) (es : List Entry) → HaveTexts ts → report.lines_of files (by_files (paths ts) es) ≡ lines_by_file ts es
  lines_so [] es h = refl
  lines_so (t ∷ ts) es h =
      lines_both files (arranged (entries_in t.0 es)) (by_files (paths ts) es)
      ∙ (λ w. (report_has files t.0 (arranged (entries_in t.0 es)) (all_of t.0 (arranged (entries_in t.0 es)) (each_arranged (λ e. file_of e ≡ t.0) (entries_in t.0 es) (in_file t.0 es)))
      ∙ ap (λ (x : List ℕ). lines_of t.0 x (map item_of (arranged (entries_in t.0 es)))) h.0) w ++ lines_so ts es h.1 w)

-- a file in front leaves the texts of those behind
texts_past : (t : List ℕ × FileText) (ts us : List (List ℕ × FileText)) → ComesFirst t.0 (paths us) → HaveTexts ts us → HaveTexts (t ∷ ts) us
texts_past t ts [] f h = tt
texts_past t ts (u ∷ us) f h = (text_past t ts u.0 (others_too t.0 u.0 f.0) ∙ h.0, texts_past t ts us f.1 h.1)

have_texts : (ts : List (List ℕ × FileText)) → PathsAscend (paths ts) → HaveTexts ts ts
have_texts [] h = tt
have_texts (t ∷ ts) h = (text_here t ts, texts_past t ts ts h.0 (have_texts ts h.1))

pub report_by_file : ReportsAreByFile
report_by_file files log kept bad h k =
    ap (report.lines_of files) (entries_by_file (paths files) (all_entries log kept bad) h k) ∙ lines_so files files (all_entries log kept bad) (have_texts files h)
