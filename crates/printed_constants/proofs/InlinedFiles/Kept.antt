-- Every run keeps the bytes outside its ranges of each file of a folder that reads as a module.
use Rattle.std.proofs.Common.{◌≡◌, refl, sym, ◌∙◌, ap, subst, ℕ, zero, suc, Bool, true, false, List, [], ◌∷◌, Option, Some, None, if◌then◌else◌, arith}
use Rattle.std.specs.Prelude.{bytes_eq, slice_get}
use Rattle.std.proofs.lemmas.Option.{same_Some}
use Rattle.go_tree.specs.declared.spans.Span.{Span}
use Rattle.text_edits.specs.declared.edit.Edit.{Edit}
use Rattle.text_edits.specs.Keeps.{Keeps}
use Rattle.text_edits.specs.Order.{spans}
use Rattle.pkg_graph.specs.Package.{Package}
use Rattle.pkg_graph.specs.Reads.{Source}
use Rattle.run_rules.specs.Inlining.{ModuleReads, standing_as_read}
use Rattle.run_rules.specs.Marks.{text_at}
use Rattle.run_rules.specs.Run.{Standing, Logged, Run, ends, goes_on, joined_with, edits_of, ranges_of, FilesKeep, none, file, bytes_of}
use Rattle.run_rules.specs.Sites.{MarkRef}
use Rattle.run_rules.specs.Texts.{FileText}
use Rattle.splice_laws.proofs.RunLaws.FilesKept.{runs_keep_files}
use Rattle.splice_laws.proofs.RunLaws.PathsOwn.{same_path}
use Rattle.splice_laws.proofs.RunLaws.RunsRead.{texts_other}
use Rattle.printed_constants.specs.InlinedFiles.Files.{file_after, files_after, bytes_in}
use Rattle.printed_constants.specs.InlinedFiles.Laws.{RunsKeepFolders}
use Rattle.printed_constants.proofs.InlinedFiles.Texts.{after_of, after_path, file_stays}

-- ---- bytes by their paths

abbrev bytes_at : List ℕ → List (List ℕ × List ℕ) → Option (List ℕ)
bytes_at p [] = None
bytes_at p (b ∷ bs) = if bytes_eq p b.0 then Some b.1 else bytes_at p bs

abbrev text_of : Option FileText → Option (List ℕ)
text_of None = None
text_of (Some t) = Some t.text

bytes_of_text : (p : List ℕ) (ts : List (List ℕ × FileText)) → bytes_at p (bytes_of ts) ≡ text_of (text_at p ts)
bytes_of_text p [] = refl
bytes_of_text p (t ∷ ts) = by (bytes_eq p t.0) (bytes_of_text p ts)
  where
    by : (b : Bool) → bytes_at p (bytes_of ts) ≡ text_of (text_at p ts) → (if b then Some t.1.text else bytes_at p (bytes_of ts)) ≡ text_of (if b then Some t.1 else text_at p ts)
    by true r = refl
    by false r = r

-- what a file of a path became
record KeptAt (log : List Logged) (p old : List ℕ) (news : List (List ℕ × List ℕ)) : Type 0 where
  new : List ℕ
  there : bytes_at p news ≡ Some new
  keeps : Keeps old new (ranges_of p log)

kept_at : {log : List Logged} {olds news : List (List ℕ × List ℕ)} → FilesKeep log olds news → (p old : List ℕ) → bytes_at p olds ≡ Some old → KeptAt log p old news
kept_at none p old e = cc
kept_at {log = log} (file {path = q} {old = o} {new = n} {olds = os} {news = ns} k rest) p old e = by (bytes_eq p q) refl e (kept_at rest p old)
  where
    by : (b : Bool) → bytes_eq p q ≡ b → (if b then Some o else bytes_at p os) ≡ Some old → (bytes_at p os ≡ Some old → KeptAt log p old ns) → KeptAt log p old ((q, n) ∷ ns)
    by true g h r =
        record {
          new = n;
          there = λ z. if g z then Some n else bytes_at p ns;
          keeps = subst (λ (x : List ℕ). Keeps x n (ranges_of p log)) (same_Some o old h) (subst (λ (x : List ℕ). Keeps o n (ranges_of x log)) (sym (same_path p q g)) k);
        }
    by false g h r = let w : KeptAt log p old ns = r h in record { new = w.new; there = (λ z. if g z then Some n else bytes_at p ns) ∙ w.there; keeps = w.keeps }

-- ---- files without a text

-- a run makes nothing of a file that has no text
record Untouched (p : List ℕ) (log : List Logged) (last : Standing) : Type 0 where
  edits : (made : List Edit) → edits_of p made log ≡ made
  none_last : text_at p last.texts ≡ None

untouched : (p : List ℕ) (marks : List MarkRef) (st last : Standing) (log : List Logged) (run : Run marks st log last) → text_at p st.texts ≡ None → Untouched p log last
untouched p marks _ _ _ (ends st over) e = record { edits = λ made. refl; none_last = e }
untouched p marks _ _ _ (goes_on st next last l log n run) e =
    let r : Untouched p log last = untouched p marks next last log run ((λ z. text_at p (n.texts_are z)) ∙ texts_other n.found.site.at.source.path p n.new st.texts (λ s. other (sym s)) ∙ e) in
    record { edits = λ made. (λ z. edits_of p (if off z then joined_with l.edits made else made) log) ∙ r.edits made; none_last = r.none_last }
  where
    other : p ≡ n.found.site.at.source.path → ⊥
    other s = let c : None ≡ Some n.old = sym e ∙ ap (λ (q : List ℕ). text_at q st.texts) s ∙ n.stands in cc

    by : (b : Bool) → bytes_eq p l.file ≡ b → b ≡ false
    by true g = absurd (other (same_path p l.file g ∙ ap (λ (x : Logged). x.file) n.log_is))
    by false g = refl

    off : bytes_eq p l.file ≡ false
    off = by (bytes_eq p l.file) refl

-- ---- a folder

keeps_all : (text : List ℕ) → Keeps text text []
keeps_all text = record { edits = []; ranges_are = refl; ascend = omega arith; replaced = refl }

folder_keeps : (log : List Logged) (ts : List (List ℕ × FileText)) (fs : List Source) → ((i : ℕ) (f : Source) → slice_get fs i ≡ Some f → Keeps f.text (file_after ts f).text (ranges_of f.path log))
    → FilesKeep log (bytes_in fs) (bytes_in (files_after fs ts))
folder_keeps log ts [] h = none
folder_keeps log ts (f ∷ fs) h =
    subst (λ (q : List ℕ). FilesKeep log ((f.path, f.text) ∷ bytes_in fs) ((q, (file_after ts f).text) ∷ bytes_in (files_after fs ts))) (sym (after_path f (text_at f.path ts)))
    (file (h zero f refl) (folder_keeps log ts fs (λ i g e. h (suc i) g e)))

module _ (files : List Source) (ps : List (Package Span)) (texts : List (List ℕ × FileText)) (marks : List MarkRef) (last : Standing) (log : List Logged) (r : ModuleReads files ps texts) (run : Run marks (standing_as_read ps texts) log last) where
  its_text : (f : Source) (t : FileText) → text_at f.path texts ≡ Some t → file_after texts f ≡ f → t.text ≡ f.text
  its_text f t e s = ap (λ (o : Option FileText). (after_of f o).text) (sym e) ∙ ap (λ (g : Source). g.text) s

  with_text_kept : (f : Source) (t : FileText) → text_at f.path texts ≡ Some t → file_after texts f ≡ f → Keeps f.text (file_after last.texts f).text (ranges_of f.path log)
  with_text_kept f t e s =
      let k : KeptAt log f.path t.text (bytes_of last.texts) = kept_at (runs_keep_files files ps texts marks last log r run) f.path t.text (bytes_of_text f.path texts ∙ ap text_of e) in
      subst (λ (x : List ℕ). Keeps x (file_after last.texts f).text (ranges_of f.path log)) (its_text f t e s) (by k (text_at f.path last.texts) (sym (bytes_of_text f.path last.texts) ∙ k.there))
    where
      by : (k : KeptAt log f.path t.text (bytes_of last.texts)) (o : Option FileText) → text_of o ≡ Some k.new → Keeps t.text (after_of f o).text (ranges_of f.path log)
      by k None g = cc
      by k (Some u) g = subst (λ (x : List ℕ). Keeps t.text x (ranges_of f.path log)) (sym (same_Some u.text k.new g)) k.keeps

  without_kept : (f : Source) → text_at f.path texts ≡ None → Keeps f.text (file_after last.texts f).text (ranges_of f.path log)
  without_kept f e =
      let u : Untouched f.path log last = untouched f.path marks (standing_as_read ps texts) last log run e in
      subst (λ (es : List Edit). Keeps f.text (file_after last.texts f).text (spans es)) (sym (u.edits []))
      (subst (λ (o : Option FileText). Keeps f.text (after_of f o).text []) (sym u.none_last) (keeps_all f.text))

  pub folder_kept : FilesKeep log (bytes_in files) (bytes_in (files_after files last.texts))
  folder_kept = folder_keeps log last.texts files (λ i f e. by f (text_at f.path texts) refl (file_stays files ps texts r i f e))
    where
      by : (f : Source) (o : Option FileText) → text_at f.path texts ≡ o → file_after texts f ≡ f → Keeps f.text (file_after last.texts f).text (ranges_of f.path log)
      by f None g s = without_kept f g
      by f (Some t) g s = with_text_kept f t g s

pub runs_keep_folders : RunsKeepFolders
runs_keep_folders files ps texts marks last log r run = folder_kept files ps texts marks last log r run
