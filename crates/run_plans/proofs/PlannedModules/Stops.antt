-- The step at which a run stops is one.
use Rattle.std.proofs.Common.{◌≡◌, ◌∙◌, refl, sym, ap, subst, ℕ, List, [], ◌∷◌, ◌++◌, Some, None}
use Rattle.go_tree.specs.declared.spans.Span.{Span}
use Rattle.pkg_graph.specs.Package.{Package}
use Rattle.pkg_graph.specs.Reads.{Source}
use Rattle.run_rules.specs.Inlining.{IsTooLarge, Reaches, begins, steps_on, standing_as_read}
use Rattle.run_rules.specs.Marks.{marks_of}
use Rattle.run_rules.specs.Run.{Limits, Logged, Next, Standing, TooLarge, passed}
use Rattle.run_rules.specs.Sites.{MarkRef}
use Rattle.run_rules.specs.Texts.{FileText}
use Rattle.run_rules.proofs.OneRun.{news, one_next}

some_none : {A : Type 0} (x : A) → Some x ≡ None → ⊥
some_none x e = cc

no_more : (done : List Logged) → done ++ [] ≡ done
no_more [] = refl
no_more (x ∷ xs) = λ v. x ∷ no_more xs v

one_on : (done log : List Logged) (l : Logged) → (done ++ l ∷ []) ++ log ≡ done ++ (l ∷ log)
one_on [] log l = refl
one_on (x ∷ xs) log l = λ v. x ∷ one_on xs log l v

module _ (marks : List MarkRef) (m : Limits) (files : List Source) where
  -- after these steps come those of the log, and then this one, which is the first that passes a limit
  abbrev Halts : List Logged → List Logged → Standing → Logged → Type 0
  Halts [] done st l =
      (a : Standing) × (n : Next marks st l a) × (r : TooLarge) × (passed m files done l n.new a.texts ≡ Some r)
  Halts (k ∷ log) done st l =
      (t : Standing) × (n : Next marks st k t) × (passed m files done k n.new t.texts ≡ None) × Halts log (done ++ k ∷ []) t l

  halts : (done log : List Logged) (st before after : Standing) (l : Logged) (r : TooLarge) → Reaches marks m files done st log before → (n : Next marks before l after)
      → passed m files (done ++ log) l n.new after.texts ≡ Some r → Halts log done st l
  halts done _ st _ after l r (begins _ _) n e = (after, n, r, ap (λ (x : List Logged). passed m files x l n.new after.texts) (sym (no_more done)) ∙ e)
  halts done _ st before after l r (steps_on _ log k _ t _ o p way) n e =
      (t, o, p, halts (done ++ k ∷ []) log t before after l r way n (ap (λ (x : List Logged). passed m files x l n.new after.texts) (one_on done log k) ∙ e))

  -- what a step passes is one
  passes_alike : (done : List Logged) (st a b : Standing) (l k : Logged) (n : Next marks st l a) (o : Next marks st k b) → passed m files done l n.new a.texts ≡ passed m files done k o.new b.texts
  passes_alike done st a b l k n o =
      let one : (l ≡ k) × (a ≡ b) = one_next marks st l k a b n o in
      λ v. passed m files done (one.0 v) (news marks st l k a b n o v) (one.1 v).texts

  one_halt : (log other done : List Logged) (st : Standing) (l k : Logged) → Halts log done st l → Halts other done st k → l ≡ k
  one_halt [] [] done st l k h g = (one_next marks st l k h.0 g.0 h.1 g.1).0
  one_halt [] (x ∷ other) done st l k h g = absurd (some_none h.2 (sym h.3 ∙ passes_alike done st h.0 g.0 l x h.1 g.1 ∙ g.2))
  one_halt (x ∷ log) [] done st l k h g = absurd (some_none g.2 (sym g.3 ∙ passes_alike done st g.0 h.0 k x g.1 h.1 ∙ h.2))
  one_halt (x ∷ log) (y ∷ other) done st l k h g =
      let one : (y ≡ x) × (g.0 ≡ h.0) = one_next marks st y x g.0 h.0 g.1 h.1 in
      one_halt log other (done ++ x ∷ []) h.0 l k h.3
      (subst (λ (z : Logged). Halts other (done ++ z ∷ []) h.0 k) one.0 (subst (λ (s : Standing). Halts other (done ++ y ∷ []) s k) one.1 g.3))

pub one_stop : (m : Limits) (files : List Source) (ps : List (Package Span)) (texts : List (List ℕ × FileText)) (only : List ℕ) (r q : TooLarge) (i : IsTooLarge m files ps texts only r)
    (j : IsTooLarge m files ps texts only q) → i.last ≡ j.last
one_stop m files ps texts only r q i j =
    one_halt (marks_of ps texts only) m files i.log j.log [] (standing_as_read ps texts) i.last j.last
    (halts (marks_of ps texts only) m files [] i.log (standing_as_read ps texts) i.before i.after i.last r i.reached i.next i.passes)
    (halts (marks_of ps texts only) m files [] j.log (standing_as_read ps texts) j.before j.after j.last q j.reached j.next j.passes)
