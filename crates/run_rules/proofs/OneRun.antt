-- A program has one next one, and so one run: its texts, its log, its report.
use Rattle.std.proofs.Common.{◌≡◌, ◌⊎◌, inl, inr, List, [], ◌∷◌, ◌++◌, ℕ, Option, Some, None, refl, sym, ap, subst, ◌∙◌}
use Rattle.std.proofs.lemmas.Option.{same_Some}
use Rattle.go_tree.specs.declared.spans.Span.{Span}
use Rattle.go_tree.specs.declared.tokens.Token.{Token}
use Rattle.go_tree.specs.File.{File}
use Rattle.go_tree.specs.GoWords.Tokens.{TokensOf}
use Rattle.directive_scan.proofs.Cuts.{tokens_once}
use Rattle.go_layout.specs.SpellsFiles.{SpellsFile}
use Rattle.go_layout.proofs.Whole as read
use Rattle.text_edits.specs.Applied.{applied}
use Rattle.pkg_graph.specs.Package.{Package}
use Rattle.pkg_graph.specs.Reads.{Source}
use Rattle.run_rules.specs.Sites.{MarkRef}
use Rattle.run_rules.specs.Texts.{FileText}
use Rattle.run_rules.specs.Respanned.{file_with, decls_with}
use Rattle.run_rules.specs.Steps.{At, same_here, Found, new_decls, with_file}
use Rattle.run_rules.specs.Marks.{text_at, marks_of, bad_of}
use Rattle.run_rules.specs.Run.{Standing, Logged, here_of, origin_of, step_in, edits_in, logged, with_text, Next, Run, ends, goes_on, uses_kept, Limits, TooLarge, passed}
use Rattle.run_rules.specs.Report.{report_of}
use Rattle.run_rules.specs.Inlining.{standing_as_read, Reaches, begins, steps_on, IsInlining, IsTooLarge}
use Rattle.run_rules.proofs.Zipped.{file_one}

never_both : {A : Type 0} (o : Option A) (a : A) → o ≡ None → o ≡ Some a → ⊥
never_both None a h k = cc
never_both (Some b) a h k = cc

module _ (marks : List MarkRef) where
  -- ---- the next program

  module _ (st : Standing) (l m : Logged) (a b : Standing) (n : Next marks st l a) (k : Next marks st m b) where
    founds : n.found ≡ k.found
    founds = same_Some n.found k.found (sym n.is_first ∙ k.is_first)

    olds : n.old ≡ k.old
    olds =
        same_Some n.old k.old (sym n.stands ∙ (ap (λ (f : Found At). text_at f.site.at.source.path st.texts) founds
        ∙ k.stands))

    texts : n.new.text ≡ k.new.text
    texts = n.text_is ∙ (made ∙ sym k.text_is)
      where
        made : applied n.old.text (edits_in marks st n.old n.found) ≡ applied k.old.text (edits_in marks st k.old k.found)
        made = λ w. applied (olds w).text (edits_in marks st (olds w) (founds w))

    tokens : (k.new.tokens ≡ n.new.tokens) × (k.new.comments ≡ n.new.comments)
    tokens =
        tokens_once n.new.text n.new.tokens k.new.tokens n.new.comments k.new.comments n.scans
        (subst (λ (t : List ℕ). TokensOf t k.new.tokens k.new.comments) (sym texts) k.scans)

    pub news : n.new ≡ k.new
    news = λ w. record { text = texts w; tokens = sym tokens.0 w; comments = sym tokens.1 w }

    places : file_with here_of n.tree ≡ file_with here_of k.tree
    places =
        read.file_one n.new.tokens (file_with here_of n.tree) (file_with here_of k.tree) n.spells
        (subst (λ (ts : List Token). SpellsFile ts (file_with here_of k.tree)) tokens.0 k.spells)

    abbrev origins_by : File Span → Found At → File Span
    origins_by file f = record file { decls = decls_with origin_of (new_decls same_here st.packages f.site f.form) }

    origins : file_with origin_of n.tree ≡ file_with origin_of k.tree
    origins = n.origins_are ∙ (made ∙ sym k.origins_are)
      where
        made : origins_by (file_with here_of n.tree) n.found ≡ origins_by (file_with here_of k.tree) k.found
        made = λ w. origins_by (places w) (founds w)

    trees : n.tree ≡ k.tree
    trees = file_one n.tree k.tree places origins

    standings : a ≡ b
    standings = λ w. record { packages = of_packages w; texts = of_texts w }
      where
        made : with_file same_here st.packages n.found.site.at n.tree ≡ with_file same_here st.packages k.found.site.at k.tree
        made = λ w. with_file same_here st.packages (founds w).site.at (trees w)

        of_packages : a.packages ≡ b.packages
        of_packages = n.packages_are ∙ (made ∙ sym k.packages_are)

        written : with_text n.found.site.at.source.path n.new st.texts ≡ with_text k.found.site.at.source.path k.new st.texts
        written = λ w. with_text (founds w).site.at.source.path (news w) st.texts

        of_texts : a.texts ≡ b.texts
        of_texts = n.texts_are ∙ (written ∙ sym k.texts_are)

    logs : l ≡ m
    logs = n.log_is ∙ (told ∙ sym k.log_is)
      where
        told : logged marks st n.found (edits_in marks st n.old n.found) ≡ logged marks st k.found (edits_in marks st k.old k.found)
        told = λ w. logged marks st (founds w) (edits_in marks st (olds w) (founds w))

  -- a program has one next one
  pub one_next : (st : Standing) (l m : Logged) (a b : Standing) → Next marks st l a → Next marks st m b → (l ≡ m) × (a ≡ b)
  one_next st l m a b n k = (logs st l m a b n k, standings st l m a b n k)

  -- ---- the run

  only_ended : (st last : Standing) (log : List Logged) → Run marks st log last → step_in marks st ≡ None → (log ≡ []) × (last ≡ st)
  only_ended st last log (ends s e) h = (refl, refl)
  only_ended st last log (goes_on s t z l rest n r) h = absurd (never_both (step_in marks s) n.found h n.is_first)

  only_going : (st next last : Standing) (l : Logged) (log : List Logged) → Next marks st l next → Run marks st log last → (rest : List Logged) × (log ≡ l ∷ rest) × Run marks next rest last
  only_going st next last l log n (ends s e) = absurd (never_both (step_in marks s) n.found e n.is_first)
  only_going st next last l log n (goes_on s t z m rest k r) =
      let one : (m ≡ l) × (t ≡ next) = one_next s m l t next k n in
      (rest, λ w. one.0 w ∷ rest, subst (λ (x : Standing). Run marks x rest last) one.1 r)

  pub one_run : (st last end : Standing) (log other : List Logged) → Run marks st log last → Run marks st other end → (log ≡ other) × (last ≡ end)
  one_run st last end log other (ends s e) q = let k = only_ended s end other q e in (sym k.0, sym k.1)
  one_run st last end log other (goes_on s t z l rest n r) q =
      let k = only_going s t end l other n q in
      let i = one_run t last end rest k.0 r k.2 in ((λ w. l ∷ i.0 w) ∙ sym k.1, i.1)

  run_ends : (st last : Standing) (log : List Logged) → Run marks st log last → step_in marks last ≡ None
  run_ends st last log (ends s e) = e
  run_ends st last log (goes_on s t z l rest n r) = run_ends t last rest r

  -- ---- limits

  module _ (m : Limits) (files : List Source) where
    -- a step after others passes a limit
    abbrev Over : List Logged → Standing → Standing → Logged → TooLarge → Type 0
    Over done st after l r = (n : Next marks st l after) × (passed m files done l n.new after.texts ≡ Some r)

    -- what a step passes is one, whichever next program is looked at
    one_passed : (done : List Logged) (st a b : Standing) (l k : Logged) (n : Next marks st l a) (o : Next marks st k b)
        → passed m files done l n.new a.texts ≡ passed m files done k o.new b.texts
    one_passed done st a b l k n o =
        let one : (l ≡ k) × (a ≡ b) = one_next st l k a b n o in
        λ w. passed m files done (one.0 w) (news st l k a b n o w) (one.1 w).texts

    apart_at : (done : List Logged) (st a b : Standing) (l k : Logged) (r : TooLarge) (n : Next marks st l a) (o : Next marks st k b)
        → passed m files done l n.new a.texts ≡ Some r → passed m files done k o.new b.texts ≡ None → ⊥
    apart_at done st a b l k r n o h e =
        never_both (passed m files done k o.new b.texts) r e (sym (one_passed done st a b l k n o) ∙ h)

    -- the first of some steps, and those behind it
    record Stepped (done : List Logged) (st last : Standing) (log : List Logged) : Type 0 where
      first : Logged
      next : Standing
      others : List Logged
      step : Next marks st first next
      within : passed m files done first step.new next.texts ≡ None
      rest : Reaches marks m files (done ++ first ∷ []) next others last
      log_is : log ≡ first ∷ others

    stepped : (done : List Logged) (st last : Standing) (log : List Logged) → Reaches marks m files done st log last → ((last ≡ st) × (log ≡ [])) ⊎ Stepped done st last log
    stepped done st last log (begins d s) = inl (refl, refl)
    stepped done st last log (steps_on d others l s t z n p r) =
        inr (record { first = l; next = t; others = others; step = n; within = p; rest = r; log_is = refl })

    no_more : (done : List Logged) → done ++ [] ≡ done
    no_more [] = refl
    no_more (x ∷ xs) = λ w. x ∷ no_more xs w

    one_on : (done log : List Logged) (l : Logged) → done ++ (l ∷ log) ≡ (done ++ (l ∷ [])) ++ log
    one_on [] log l = refl
    one_on (x ∷ xs) log l = λ w. x ∷ one_on xs log l w

    -- the others of a first step, behind another step from the same program
    rest_of : (done : List Logged) (st last t : Standing) (log : List Logged) (l : Logged) → Next marks st l t → (z : Stepped done st last log) → Reaches marks m files (done ++ l ∷ []) t z.others last
    rest_of done st last t log l n z =
        let one : (z.first ≡ l) × (z.next ≡ t) = one_next st z.first l z.next t z.step n in
        subst (λ (x : Logged). Reaches marks m files (done ++ x ∷ []) t z.others last) one.0
        (subst (λ (x : Standing). Reaches marks m files (done ++ z.first ∷ []) x z.others last) one.1 z.rest)

    -- steps within the limits that come to an end don't pass a step that is over one
    not_ended : (done : List Logged) (st before last after : Standing) (log other : List Logged) (l : Logged) (r : TooLarge)
        → Reaches marks m files done st log before → Over (done ++ log) before after l r
        → Reaches marks m files done st other last → step_in marks last ≡ None → ⊥
    not_ended done st before last after log other l r (begins d s) h q e = by (stepped d s last other q)
      where
        by : ((last ≡ s) × (other ≡ [])) ⊎ Stepped d s last other → ⊥
        by (inl i) = never_both (step_in marks s) h.0.found (subst (λ (x : Standing). step_in marks x ≡ None) i.0 e) h.0.is_first
        by (inr z) =
            let g : Over d s after l r = subst (λ (x : List Logged). Over x s after l r) (no_more d) h in
            apart_at d s after z.next l z.first r g.0 z.step g.1 z.within
    not_ended done st before last after log other l r (steps_on d rest k s t z n p way) h q e =
        by (λ others way'. not_ended (d ++ k ∷ []) t z last after rest others l r way (subst (λ (x : List Logged). Over x z after l r) (one_on d rest k) h) way' e)
        (stepped d s last other q)
      where
        by : ((others : List Logged) → Reaches marks m files (d ++ k ∷ []) t others last → ⊥) → ((last ≡ s) × (other ≡ [])) ⊎ Stepped d s last other → ⊥
        by f (inl i) = never_both (step_in marks s) n.found (subst (λ (x : Standing). step_in marks x ≡ None) i.0 e) n.is_first
        by f (inr y) = f y.others (rest_of d s last t other k n y)

    one_over : (done : List Logged) (st before after before' after' : Standing) (log log' : List Logged) (l l' : Logged) (r r' : TooLarge)
        → Reaches marks m files done st log before → Over (done ++ log) before after l r
        → Reaches marks m files done st log' before' → Over (done ++ log') before' after' l' r' → r ≡ r'
    one_over done st before after before' after' log log' l l' r r' (begins d s) h q h' = by (stepped d s before' log' q)
      where
        mine : Over d s after l r
        mine = subst (λ (x : List Logged). Over x s after l r) (no_more d) h

        by : ((before' ≡ s) × (log' ≡ [])) ⊎ Stepped d s before' log' → r ≡ r'
        by (inl i) =
            let at_end : Over (d ++ []) before' after' l' r' = subst (λ (x : List Logged). Over (d ++ x) before' after' l' r') i.1 h' in
            let here : Over (d ++ []) s after' l' r' = subst (λ (x : Standing). Over (d ++ []) x after' l' r') i.0 at_end in
            let its : Over d s after' l' r' = subst (λ (x : List Logged). Over x s after' l' r') (no_more d) here in
            same_Some r r' (sym mine.1 ∙ (one_passed d s after after' l l' mine.0 its.0 ∙ its.1))
        by (inr z) = absurd (apart_at d s after z.next l z.first r mine.0 z.step mine.1 z.within)
    one_over done st before after before' after' log log' l l' r r' (steps_on d rest k s t z n p way) h q h' =
        by (λ others its. one_over (d ++ k ∷ []) t z after before' after' rest others l l' r r' way (subst (λ (x : List Logged). Over x z after l r) (one_on d rest k) h) its)
        (stepped d s before' log' q)
      where
        at_end : before' ≡ s → log' ≡ [] → Over d s after' l' r'
        at_end i j =
            let end : Over (d ++ []) before' after' l' r' = subst (λ (x : List Logged). Over (d ++ x) before' after' l' r') j h' in
            let here : Over (d ++ []) s after' l' r' = subst (λ (x : Standing). Over (d ++ []) x after' l' r') i end in
            subst (λ (x : List Logged). Over x s after' l' r') (no_more d) here

        behind : (y : Stepped d s before' log') → Over ((d ++ k ∷ []) ++ y.others) before' after' l' r'
        behind y =
            let one : (y.first ≡ k) × (y.next ≡ t) = one_next s y.first k y.next t y.step n in
            let whole : Over (d ++ (y.first ∷ y.others)) before' after' l' r' = subst (λ (x : List Logged). Over (d ++ x) before' after' l' r') y.log_is h' in
            let moved : Over (d ++ (k ∷ y.others)) before' after' l' r' = subst (λ (x : Logged). Over (d ++ (x ∷ y.others)) before' after' l' r') one.0 whole in
            subst (λ (x : List Logged). Over x before' after' l' r') (one_on d y.others k) moved

        by : ((others : List Logged) → Reaches marks m files (d ++ k ∷ []) t others before' → Over ((d ++ k ∷ []) ++ others) before' after' l' r' → r ≡ r')
            → ((before' ≡ s) × (log' ≡ [])) ⊎ Stepped d s before' log' → r ≡ r'
        by f (inl i) = let its : Over d s after' l' r' = at_end i.0 i.1 in absurd (apart_at d s after' t l' k r' its.0 n its.1 p)
        by f (inr y) = f y.others (rest_of d s before' t log' k n y) (behind y)

-- ---- modules

module _ (m : Limits) (files : List Source) (ps : List (Package Span)) (texts : List (List ℕ × FileText)) (only : List ℕ) where
  abbrev marks : List MarkRef
  marks = marks_of ps texts only

  -- a module has one last program, one log, one text for each file, and one report
  pub one_inlining : (a b : List (List ℕ × FileText)) (r q : List ℕ) (i : IsInlining m files ps texts only a r) (j : IsInlining m files ps texts only b q)
      → (i.log ≡ j.log) × (i.last ≡ j.last) × (a ≡ b) × (r ≡ q)
  one_inlining a b r q i j =
      let one : (i.log ≡ j.log) × (i.last ≡ j.last) = one_run marks (standing_as_read ps texts) i.last j.last i.log j.log i.run j.run in
      let told : report_of texts i.log (uses_kept marks i.last) (bad_of ps texts ps) ≡ report_of texts j.log (uses_kept marks j.last) (bad_of ps texts ps) =
      λ w. report_of texts (one.0 w) (uses_kept marks (one.1 w)) (bad_of ps texts ps) in
      (one.0, one.1, i.after_is ∙ (ap (λ (s : Standing). s.texts) one.1 ∙ sym j.after_is), i.reported ∙ (told ∙ sym j.reported))

  -- it passes one limit
  pub one_too_large : (r q : TooLarge) → IsTooLarge m files ps texts only r → IsTooLarge m files ps texts only q → r ≡ q
  one_too_large r q i j =
      one_over marks m files [] (standing_as_read ps texts) i.before i.after j.before j.after i.log j.log i.last j.last r q i.reached (i.next, i.passes) j.reached (j.next, j.passes)

  -- it is inlined, or it passes a limit
  pub not_both : (a : List (List ℕ × FileText)) (r : List ℕ) (t : TooLarge) → IsInlining m files ps texts only a r → IsTooLarge m files ps texts only t → ⊥
  not_both a r t i j =
      not_ended marks m files [] (standing_as_read ps texts) j.before i.last j.after j.log i.log j.last t j.reached (j.next, j.passes) i.within (run_ends marks (standing_as_read ps texts) i.last i.log i.run)
