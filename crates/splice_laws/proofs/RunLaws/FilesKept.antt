-- The edits of a run, as edits of the files as read, make its last texts.
use Rattle.std.proofs.Common.{◌≡◌, ◌≢◌, ◌≤◌, ◌-◌, ℕ, zero, suc, Bool, true, false, List, [], ◌∷◌, ◌++◌, map, length, take, drop, Some, if◌then◌else◌, refl, sym, ap, subst, ◌∙◌, arith, bytes_eq, length-append}
use Rattle.std.specs.Prelude.{slice_get}
use Rattle.std.proofs.lemmas.Option.{same_Some}
use Rattle.std.proofs.lemmas.List.{length-take-le, take-append-le, take-take, drop_at}
use Rattle.std.proofs.lemmas.Slice.Eq.{bytes_eq-Decides}
use Rattle.text_edits.specs.declared.edit.Edit.{Edit}
use Rattle.text_edits.specs.Applied.{Ascend, replaced_from, applied}
use Rattle.text_edits.specs.Order.{spans}
use Rattle.text_edits.specs.Keeps.{Keeps}
use Rattle.text_edits.proofs.Turns.{ascend_from, replaced_later}
use Rattle.text_edits.proofs.Joins.{joined_agree, joined_ascend}
use Rattle.run_rules.specs.Marks.{text_at}
use Rattle.run_rules.specs.Sites.{MarkRef}
use Rattle.run_rules.specs.Texts.{FileText}
use Rattle.run_rules.specs.Run.{Standing, Logged, edits_in, with_text, joined_with, edits_of, FilesKeep, none, file, bytes_of, Run, ends, goes_on}
use Rattle.run_rules.specs.Inlining.{standing_as_read}
use Rattle.splice_laws.specs.RunLaws.Laws.{AllApart, OneTextEach, RunsKeepFiles, RunsAreInlinings}
use Rattle.splice_laws.proofs.RunLaws.PathsOwn.{same_path, paths_own}
use Rattle.splice_laws.proofs.RunLaws.RunsRead.{texts_new, texts_other, run_edits_apart}

-- ---- the first of some edits, made last

no_less : (n : ℕ) → n - 0 ≡ n
no_less n = omega arith

module _ (cur : List ℕ) (e : Edit) (es : List Edit) (h : Ascend 0 (length cur) (e ∷ es)) where
  front_size : length (take e.span.end cur) ≡ e.span.end
  front_size = length-take-le e.span.end cur h.2

  later_made : applied cur es ≡ take e.span.end cur ++ replaced_from cur e.span.end es
  later_made =
      replaced_later cur 0 e.span.end (length cur) es (omega arith) h.3
      ∙ ap (λ (n : ℕ). take n cur ++ replaced_from cur e.span.end es) (no_less e.span.end)

  first_last : applied (applied cur es) (e ∷ []) ≡ applied cur (e ∷ es)
  first_last =
      ap (λ (n : ℕ). take n (applied cur es) ++ (e.text ++ drop e.span.end (applied cur es))) (no_less e.span.start)
      ∙ ap (λ (xs : List ℕ). take e.span.start xs ++ (e.text ++ drop e.span.end xs)) later_made
      ∙ ap (λ (xs : List ℕ). xs ++ (e.text ++ drop e.span.end (take e.span.end cur ++ replaced_from cur e.span.end es)))
      (take-append-le e.span.start (take e.span.end cur) (replaced_from cur e.span.end es) (omega (arith, front_size, h.1)) ∙ take-take e.span.start e.span.end cur h.1)
      ∙ ap (λ (xs : List ℕ). take e.span.start cur ++ (e.text ++ xs)) (drop_at (take e.span.end cur) (replaced_from cur e.span.end es) e.span.end front_size)
      ∙ ap (λ (n : ℕ). take n cur ++ (e.text ++ replaced_from cur e.span.end es)) (sym (no_less e.span.start))

  first_fits : e.span.end ≤ length (applied cur es)
  first_fits = omega (arith, ap length later_made, length-append (take e.span.end cur) (replaced_from cur e.span.end es), front_size)

-- ---- edits of the first text

-- what the edits of the old text have made
record Made (old cur : List ℕ) (made : List Edit) : Type 0 where
  ascend : Ascend 0 (length old) made
  is : cur ≡ applied old made

made_more : (old cur : List ℕ) (made es : List Edit) (from : ℕ) → Ascend from (length cur) es → Made old cur made → Made old (applied cur es) (joined_with es made)
made_more old cur made [] from h m = m
made_more old cur made (e ∷ es) from h m =
    let all : Ascend 0 (length cur) (e ∷ es) = ascend_from 0 from (length cur) (e ∷ es) (omega arith) h in
    let r : Made old (applied cur es) (joined_with es made) = made_more old cur made es e.span.end h.3 m in
    let fits : e.span.end ≤ length (applied old (joined_with es made)) = subst (λ (xs : List ℕ). e.span.end ≤ length xs) r.is (first_fits cur e es all) in
    record {
      ascend = joined_ascend old (joined_with es made) e (r.ascend, h.1, fits);
      is = sym (first_last cur e es all) ∙ ap (λ (xs : List ℕ). applied xs (e ∷ [])) r.is ∙ sym (joined_agree old (joined_with es made) e (r.ascend, h.1, fits));
    }

-- ---- texts of a run

text_entry : (path : List ℕ) (new : FileText) (ts : List (List ℕ × FileText)) (i : ℕ) (u : List ℕ × FileText) → slice_get (with_text path new ts) i ≡ Some u
    → (t : List ℕ × FileText) × (slice_get ts i ≡ Some t) × (u ≡ (if bytes_eq path t.0 then (t.0, new) else t))
text_entry path new [] i u h = absurd cc
text_entry path new (t ∷ ts) zero u h = (t, refl, sym (same_Some (if bytes_eq path t.0 then (t.0, new) else t) u h))
text_entry path new (t ∷ ts) (suc i) u h = text_entry path new ts i u h

differ_by : (a b : List ℕ) → bytes_eq a b ≡ false → a ≢ b
differ_by a b e s = absurd (clash (bytes_eq a b) ((bytes_eq-Decides a b).1 s) e)
  where
    clash : (x : Bool) → x ≡ true → x ≡ false → ⊥
    clash x p q = cc

one_text_more : (path : List ℕ) (old new : FileText) (ts : List (List ℕ × FileText)) → text_at path ts ≡ Some old → OneTextEach ts → OneTextEach (with_text path new ts)
one_text_more path old new ts there one i u h =
    let t = text_entry path new ts i u h in
    subst (λ (v : List ℕ × FileText). text_at v.0 (with_text path new ts) ≡ Some v.1) (sym t.2) (by t.0 t.1 (bytes_eq path t.0.0) refl)
  where
    by : (t : List ℕ × FileText) → slice_get ts i ≡ Some t → (b : Bool) → bytes_eq path t.0 ≡ b
        → text_at (if b then (t.0, new) else t).0 (with_text path new ts) ≡ Some (if b then (t.0, new) else t).1
    by t at true e = subst (λ (p : List ℕ). text_at p (with_text path new ts) ≡ Some new) (same_path path t.0 e) (texts_new path old new ts there)
    by t at false e = texts_other path t.0 new ts (differ_by path t.0 e) ∙ one i t at

-- the texts as they stand, each with the old bytes and what has been made of them
data Follows : List (List ℕ × List ℕ) → List (List Edit) → List (List ℕ × FileText) → Type 0 where
  no_texts : Follows [] [] []
  text_and : (path old : List ℕ) (made : List Edit) (t : FileText) (olds : List (List ℕ × List ℕ)) (mades : List (List Edit)) (ts : List (List ℕ × FileText))
      → Made old t.text made → Follows olds mades ts → Follows ((path, old) ∷ olds) (made ∷ mades) ((path, t) ∷ ts)

-- what a step makes of the edits of each file
abbrev then_made : Logged → List (List ℕ × List ℕ) → List (List Edit) → List (List Edit)
then_made l [] mades = []
then_made l (o ∷ olds) [] = []
then_made l (o ∷ olds) (m ∷ mades) = (if bytes_eq o.0 l.file then joined_with l.edits m else m) ∷ then_made l olds mades

turned : (a b : List ℕ) → bytes_eq a b ≡ bytes_eq b a
turned a b = by (bytes_eq a b) refl
  where
    other : (c : Bool) → bytes_eq b a ≡ c → bytes_eq a b ≡ false → false ≡ bytes_eq b a
    other true e f = absurd (differ_by a b f (sym (same_path b a e)))
    other false e f = sym e

    by : (c : Bool) → bytes_eq a b ≡ c → bytes_eq a b ≡ bytes_eq b a
    by true e = e ∙ sym ((bytes_eq-Decides b a).1 (sym (same_path a b e)))
    by false e = e ∙ other (bytes_eq b a) refl e

module _ (path : List ℕ) (old new : FileText) (l : Logged) (file_is : l.file ≡ path) (new_is : new.text ≡ applied old.text l.edits) (apart : Ascend 0 (length old.text) l.edits) where
  -- the texts that follow are texts of the whole list
  follows_on : (whole : List (List ℕ × FileText)) → text_at path whole ≡ Some old → (olds : List (List ℕ × List ℕ)) (mades : List (List Edit)) (ts : List (List ℕ × FileText))
      → ((i : ℕ) (t : List ℕ × FileText) → slice_get ts i ≡ Some t → text_at t.0 whole ≡ Some t.1) → Follows olds mades ts → Follows olds (then_made l olds mades) (with_text path new ts)
  follows_on whole there _ _ _ own no_texts = no_texts
  follows_on whole there _ _ _ own (text_and p o made t olds mades ts m rest) =
      by (bytes_eq path p) refl (follows_on whole there olds mades ts (λ i u h. own (suc i) u h) rest)
    where
      flipped : bytes_eq p l.file ≡ bytes_eq path p
      flipped = turned p l.file ∙ ap (λ (q : List ℕ). bytes_eq q p) file_is

      is_old : bytes_eq path p ≡ true → t ≡ old
      is_old e = same_Some t old (sym (own 0 (p, t) refl) ∙ ap (λ (q : List ℕ). text_at q whole) (sym (same_path path p e)) ∙ there)

      now : bytes_eq path p ≡ true → Made o new.text (joined_with l.edits made)
      now e =
          subst (λ (xs : List ℕ). Made o xs (joined_with l.edits made)) (sym new_is)
          (made_more o old.text made l.edits 0 apart (subst (λ (u : FileText). Made o u.text made) (is_old e) m))

      by : (b : Bool) → bytes_eq path p ≡ b → Follows olds (then_made l olds mades) (with_text path new ts)
          → Follows ((p, o) ∷ olds) ((if bytes_eq p l.file then joined_with l.edits made else made) ∷ then_made l olds mades) ((if b then (p, new) else (p, t)) ∷ with_text path new ts)
      by true e r = rw (flipped ∙ e) (text_and p o (joined_with l.edits made) new olds (then_made l olds mades) (with_text path new ts) (now e) r)
      by false e r = rw (flipped ∙ e) (text_and p o made t olds (then_made l olds mades) (with_text path new ts) m r)

-- ---- a run

-- each file keeps its bytes outside the ranges of what has been made and of the log
data KeptFrom (log : List Logged) : List (List ℕ × List ℕ) → List (List Edit) → List (List ℕ × List ℕ) → Type 0 where
  no_files : KeptFrom log [] [] []
  file_and : (path old new : List ℕ) (made : List Edit) (olds news : List (List ℕ × List ℕ)) (mades : List (List Edit))
      → Keeps old new (spans (edits_of path made log)) → KeptFrom log olds mades news → KeptFrom log ((path, old) ∷ olds) (made ∷ mades) ((path, new) ∷ news)

kept_here : (olds : List (List ℕ × List ℕ)) (mades : List (List Edit)) (ts : List (List ℕ × FileText)) → Follows olds mades ts → KeptFrom [] olds mades (bytes_of ts)
kept_here _ _ _ no_texts = no_files
kept_here _ _ _ (text_and p o made t olds mades ts m rest) =
    file_and p o t.text made olds (bytes_of ts) mades (record { edits = made; ranges_are = refl; ascend = m.ascend; replaced = m.is }) (kept_here olds mades ts rest)

kept_more : (l : Logged) (log : List Logged) (olds news : List (List ℕ × List ℕ)) (mades : List (List Edit)) (ts : List (List ℕ × FileText)) → Follows olds mades ts
    → KeptFrom log olds (then_made l olds mades) news → KeptFrom (l ∷ log) olds mades news
kept_more l log _ _ _ _ no_texts no_files = no_files
kept_more l log _ _ _ _ (text_and p o made t olds mades ts m rest) (file_and _ _ new _ _ news _ k more) =
    file_and p o new made olds news mades k (kept_more l log olds news mades ts rest more)

run_kept : (marks : List MarkRef) (st last : Standing) (log : List Logged) (run : Run marks st log last) → AllApart run → OneTextEach st.texts
    → (olds : List (List ℕ × List ℕ)) (mades : List (List Edit)) → Follows olds mades st.texts → KeptFrom log olds mades (bytes_of last.texts)
run_kept marks st last log (ends _ over) apart one olds mades f = kept_here olds mades st.texts f
run_kept marks st last log (goes_on _ next _ l rest n run) apart one olds mades f =
    kept_more l rest olds (bytes_of last.texts) mades st.texts f
    (run_kept marks next last rest run apart.1 (subst OneTextEach (sym n.texts_are) (one_text_more n.found.site.at.source.path n.old n.new st.texts n.stands one)) olds (then_made l olds mades)
    (subst (λ (ts : List (List ℕ × FileText)). Follows olds (then_made l olds mades) ts) (sym n.texts_are)
    (follows_on n.found.site.at.source.path n.old n.new l (ap (λ (x : Logged). x.file) n.log_is) (n.text_is ∙ ap (λ (es : List Edit). applied n.old.text es) (sym edits_are)) apart.0 st.texts n.stands olds mades st.texts one f)))
  where
    edits_are : l.edits ≡ edits_in marks st n.old n.found
    edits_are = ap (λ (x : Logged). x.edits) n.log_is

at_first : (ts : List (List ℕ × FileText)) → Follows (bytes_of ts) (map (λ t. []) ts) ts
at_first [] = no_texts
at_first (t ∷ ts) = text_and t.0 t.1.text [] t.1 (bytes_of ts) (map (λ t. []) ts) ts (record { ascend = omega arith; is = refl }) (at_first ts)

all_kept : (log : List Logged) (ts : List (List ℕ × FileText)) (news : List (List ℕ × List ℕ)) → KeptFrom log (bytes_of ts) (map (λ t. []) ts) news → FilesKeep log (bytes_of ts) news
all_kept log [] _ no_files = none
all_kept log (t ∷ ts) _ (file_and _ _ new _ _ news _ k more) = file k (all_kept log ts news more)

pub runs_keep_files : RunsKeepFiles
runs_keep_files files ps texts marks last log r run =
    let own = paths_own files ps texts r in
    all_kept log texts (bytes_of last.texts)
    (run_kept marks (standing_as_read ps texts) last log run (run_edits_apart files ps texts marks last log r run) own.1 (bytes_of texts) (map (λ t. []) texts) (at_first texts))

pub runs_are_inlinings : RunsAreInlinings
runs_are_inlinings m files ps texts only last log r run within =
    record {
      last = last;
      log = log;
      read = r;
      run = run;
      within = within;
      after_is = refl;
      keeps = runs_keep_files files ps texts _ last log r run;
      reported = refl;
    }
