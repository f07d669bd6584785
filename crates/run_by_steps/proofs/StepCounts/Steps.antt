-- The counts of a run follow its steps.
use Rattle.std.proofs.Common.{◌≡◌, ◌∙◌, refl, sym, ap, subst, ℕ, ◌+◌, ◌≤◌, Bool, true, false, ◌&&◌, nat_eq, bytes_eq, if◌then◌else◌, List, [], ◌∷◌, ◌++◌, filter, length, Option, Some, None, arith, eq-eqb}
use Rattle.std.proofs.lemmas.List.{length-append}
use Rattle.std.proofs.lemmas.Bool.{true≢false, eqb-true}
use Rattle.std.proofs.lemmas.Option.{same_Some}
use Rattle.pkg_graph.specs.Package.{Package}
use Rattle.run_rules.specs.FormTrees.{ConstForm}
use Rattle.run_rules.specs.Marks.{text_at}
use Rattle.run_rules.specs.Run.{Standing, Logged, Next, path_of_file, texts_size}
use Rattle.run_rules.specs.Sites.{MarkRef}
use Rattle.run_rules.specs.Steps.{At}
use Rattle.run_rules.specs.Texts.{FileText}
use Rattle.run_by_steps.proofs.RunProgress.Counts.{origins_are_counted}
use Rattle.run_by_steps.specs.declared.step_counts.counts.StepCounts.{StepCounts}
use Rattle.run_by_steps.specs.StepCounts.Origins.{Counted, OriginKey, same_key, steps_from, counted_at, IsCounted}
use Rattle.run_by_steps.specs.StepCounts.Laws.{steps_at, AreCounted, NoneAreCounted, OneMore, StepsAreCounted, OriginsWithinSteps, CountsCome, TextsLieWithin}
use Rattle.run_by_steps.proofs.StepCounts.Paths.{paths_stay, its_path, same_test}

-- ---- one more in the table

both : (a b : Bool) → (a && b) ≡ true → (a ≡ true) × (b ≡ true)
both true b h = (refl, h)
both false b h = absurd cc

same_is : (a b : OriginKey) → same_key a b ≡ true → a ≡ b
same_is a b e =
    let p = both (nat_eq a.0 b.0) (nat_eq a.1.0 b.1.0 && nat_eq a.1.1 b.1.1) e in
    let q = both (nat_eq a.1.0 b.1.0) (nat_eq a.1.1 b.1.1) p.1 in
    let k : a.0 ≡ b.0 = eqb-true a.0 b.0 p.0 in
    let f : a.1.0 ≡ b.1.0 = eqb-true a.1.0 b.1.0 q.0 in
    let d : a.1.1 ≡ b.1.1 = eqb-true a.1.1 b.1.1 q.1 in
    λ w. (k w, (f w, d w))

itself : (k : OriginKey) → same_key k k ≡ true
itself k = λ w. eq-eqb k.0 k.0 refl w && (eq-eqb k.1.0 k.1.0 refl w && eq-eqb k.1.1 k.1.1 refl w)

-- the other way round
turned : (a b : OriginKey) (t : Bool) → same_key a b ≡ t → same_key b a ≡ t
turned a b true e = subst (λ (x : OriginKey). same_key b x ≡ true) (sym (same_is a b e)) (itself b)
turned a b false e = by (same_key b a) refl
  where
    by : (u : Bool) → same_key b a ≡ u → same_key b a ≡ false
    by false f = f
    by true f = absurd (true≢false (sym (subst (λ (x : OriginKey). same_key a x ≡ true) (sym (same_is b a f)) (itself a)) ∙ e))

abbrev count : Option ℕ → ℕ
count o = elim o [ None ↦ 0 | Some n ↦ n ]

nothing_more : (n : ℕ) → n ≡ n + 0
nothing_more n = omega arith

-- one step more of an origin
pub one_added : (k : OriginKey) (old new : Counted) → IsCounted k (steps_from k old + 1) old new → (q : OriginKey) → steps_from q new ≡ steps_from q old + (if same_key q k then 1 else 0)
one_added k old new put q = ap count (put q) ∙ by (same_key k q) refl
  where
    more : (b : Bool) → same_key q k ≡ b → steps_from q old + (if b then 1 else 0) ≡ steps_from q old + (if same_key q k then 1 else 0)
    more b e = ap (λ (t : Bool). steps_from q old + (if t then 1 else 0)) (sym e)

    by : (a : Bool) → same_key k q ≡ a → count (if a then Some (steps_from k old + 1) else counted_at q old) ≡ steps_from q old + (if same_key q k then 1 else 0)
    by true e = ap (λ (x : OriginKey). steps_from x old + 1) (same_is k q e) ∙ more true (turned k q true e)
    by false e = nothing_more (steps_from q old) ∙ more false (turned k q false e)

-- ---- along a run

pub none_are_counted : NoneAreCounted
none_are_counted ps c steps origins = record { steps = steps; origins = λ k i path h o. ap (steps_from (k, (i, o))) origins }

-- a step with this origin, told of otherwise in any way
abbrev stands_at : List ℕ → ℕ → Logged
stands_at path o = record { file = path; origin = record { start = o; end = o }; home = []; name = []; form = ConstForm; edits = [] }

one_behind : (path : List ℕ) (o : ℕ) (l : Logged) (done : List Logged) → steps_at path o (done ++ l ∷ []) ≡ steps_at path o done + (if bytes_eq path l.file && nat_eq o l.origin.start then 1 else 0)
one_behind path o l done = origins_are_counted (stands_at path o) l done

pub steps_are_counted : StepsAreCounted
steps_are_counted marks st l after n done old new one a more =
    record {
      steps = more.steps ∙ ap (λ (m : ℕ). m + 1) a.steps ∙ sym (length-append done (l ∷ []));
      origins = λ k i path h o. of k i path (sym (ap (λ (ps : List (Package At)). path_of_file ps k i) n.packages_are ∙ paths_stay n.tree n.found.site.at st.packages k i) ∙ h) o;
    }
  where
    of : (k i : ℕ) (path : List ℕ) → path_of_file st.packages k i ≡ Some path → (o : ℕ) → steps_from (k, (i, o)) new.origins ≡ steps_at path o (done ++ l ∷ [])
    of k i path h o =
        more.origins (k, (i, o))
        ∙ (λ w. a.origins k i path h o w + (if same_test st.packages one k i n.found.site.at.number n.found.site.at.file_number path l.file h (its_path marks st l after n) o l.origin.start w then 1 else 0))
        ∙ sym (one_behind path o l done)

few_pass : (p : Logged → Bool) (log : List Logged) → length (filter p log) ≤ length log
few_pass p [] = omega arith
few_pass p (m ∷ log) = by (p m) (few_pass p log)
  where
    by : (b : Bool) → length (filter p log) ≤ length log → length (if b then m ∷ filter p log else filter p log) ≤ length (m ∷ log)
    by true h = omega (arith, h)
    by false h = omega (arith, h)

pub origins_within : OriginsWithinSteps
origins_within ps done c a k i path h o =
    let few : steps_at path o done ≤ length done = few_pass (λ m. bytes_eq path m.file && nat_eq o m.origin.start) done in
    let count : steps_from (k, (i, o)) c.origins ≡ steps_at path o done = a.origins k i path h o in
    let steps : c.steps ≡ length done = a.steps in omega (arith, few, count, steps)

pub counts_come : CountsCome
counts_come files done l st old c k i p a path steps of_use bytes =
    record {
      steps = sym (steps ∙ a.steps);
      steps_of_use = sym (of_use ∙ a.origins k i l.file path l.origin.start);
      bytes = sym bytes;
    }

pub texts_within : TextsLieWithin
texts_within path t [] h = absurd cc
texts_within path t (u ∷ us) h = by (bytes_eq path u.0) h (texts_within path t us)
  where
    by : (b : Bool) → (if b then Some u.1 else text_at path us) ≡ Some t → (text_at path us ≡ Some t → length t.text ≤ texts_size us) → length t.text ≤ texts_size (u ∷ us)
    by true e f = let same : length u.1.text ≡ length t.text = ap (λ (v : FileText). length v.text) (same_Some u.1 t e) in omega (arith, same)
    by false e f = let le : length t.text ≤ texts_size us = f e in omega (arith, le)
