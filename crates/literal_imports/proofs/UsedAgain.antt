-- With a literal in the place of its call, what another file or another package uses it uses still, and so does the file of the call, but for the name of an import by which the call names its function.
use Rattle.std.proofs.Common.{◌≡◌, ◌∙◌, refl, sym, ap, subst, ℕ, Bool, true, false, ◌||◌, nat_eq, List, [], ◌∷◌, arith}
use Rattle.std.proofs.lemmas.Bool.{eq-eqb}
use Rattle.std.proofs.lemmas.Slice.Eq.{bytes_eq-Decides}
use Rattle.go_tree.specs.declared.exprs.Rest.TheVariants.{Plain}
use Rattle.go_tree.specs.declared.spans.Span.{Span}
use Rattle.go_tree.specs.Tree.{Expr, call, Stmts}
use Rattle.go_tree.specs.GoTypes.Answers.{is_among}
use Rattle.go_tree.specs.GoTypes.Collect.{collected}
use Rattle.go_tree.specs.GoTypes.Programs.{headed}
use Rattle.go_tree.specs.GoTypes.Typing.{used}
use Rattle.go_tree.specs.GoTypes.WellTyped.{is_used_in}
use Rattle.go_kernel.specs.Kernel.{FuncName}
use Rattle.go_translation.specs.Here.{Here}
use Rattle.go_translation.specs.Packages.{sources, paths_in}
use Rattle.typed_in_place.specs.SameFacts.{UsedAlike, SameOperand}
use Rattle.typed_in_place.proofs.SpansAside.{operand_spans_aside}
use Rattle.run_rules.specs.FormTrees.{as_expr}
use Rattle.meaning_in_place.specs.InPackages.{MembersChange}
use Rattle.literal_steps.proofs.CallMeant as call_meant
use Rattle.literals_in_place.specs.Steps.{ranks_of}
use Rattle.literals_in_place.specs.StepsInBodies.Functions.{use_here}
use Rattle.literals_in_place.specs.TypedSteps.Uses.{UseInBody, with_literal}
use Rattle.literals_in_place.proofs.Mentions.{literal}
use Rattle.literals_in_place.proofs.StepsInBodies.KeptImports.{members_keep, used_after}
use Rattle.literals_in_place.proofs.StepsInBodies.KeptUses as again
use Rattle.literals_in_place.proofs.StepsInBodies.Packages.{Body, members_more}
use Rattle.literals_in_place.proofs.StepsInBodies.Rises.{Rises, RisesIn, rises_same, rises_then, rises_append}
use Rattle.literals_in_place.proofs.StepsInBodies.Shows as steps
use Rattle.literals_in_place.proofs.TypedSteps.Shows.{serve}
use Rattle.literal_imports.proofs.Kept.{callee, beside, in_function, blank}

itself_among : (n : List ℕ) → is_among n (n ∷ []) ≡ true
itself_among n = ap (λ (b : Bool). b || false) ((bytes_eq-Decides n n).1 refl)

alike_rises : {n : List ℕ} {xs ys : List (List ℕ)} → UsedAlike (n ∷ []) xs ys → Rises n xs ys
alike_rises {n = n} a = record { up = λ i. sym (a.each n (itself_among n)) ∙ i }

module _ (x : UseInBody Span) (e : Expr Span) (form_is : x.becomes.form ≡ as_expr e) where
  -- ---- what the literal uses

  -- the call doesn't name its function by this name
  abbrev pub Held : List ℕ → Type 0
  Held n = is_among n (used x.site.place.env x.by_name.called) ≡ false

  abbrev its_literal : Expr Span
  its_literal = call x.by_name.span (literal x.same x.commented x.packages x.marks x.site x.becomes x.by_name [] (use_here x.members x.site)) x.by_name.args Plain

  but_for_spans : (n : List ℕ) → SameOperand (n ∷ []) x.site.place.env its_literal e
  but_for_spans n =
      operand_spans_aside (n ∷ []) x.site.place.env its_literal e
      (sym (call_meant.form_is x.same x.commented x.packages x.marks x.site x.becomes x.by_name x.members x.linked_so [] (use_here x.members x.site) (beside x e form_is) (serve x) e form_is))

  args_again : (n : List ℕ) → Held n → Rises n (used x.site.place.env (call x.by_name.span x.by_name.called x.by_name.args Plain)) (used x.site.place.env its_literal)
  args_again n k = rises_append (record { up = λ (i : is_among n (used x.site.place.env x.by_name.called) ≡ true). absurd (grind (arith, sym k ∙ i)) }) rises_same

  rises_there : (n : List ℕ) → Held n → RisesIn n x.site.place.env x.becomes.tree e
  rises_there n k =
      subst (λ (t : Expr Span). RisesIn n x.site.place.env t e) (sym x.by_name.tree_is)
      (rises_then (args_again n k) (alike_rises (but_for_spans n).uses), rises_then (rises_append (args_again n k) rises_same) (alike_rises (but_for_spans n).uses_on_the_left))

  -- ---- the file of the call

  pub held_still : (file : ℕ) (n : List ℕ) → Held n → is_used_in (collected (sources x.members)) x.site.at.number file n (headed (sources x.members)) ≡ true → is_used_in (collected (sources x.members)) x.site.at.number file n (headed (sources (with_literal x e))) ≡ true
  held_still =
      again.held_after x.same x.site x.becomes.tree e
      (steps.here x.same x.itself x.commented x.packages x.marks x.site x.becomes x.by_name x.members x.linked_so [] (beside x e form_is) (serve x) e form_is (in_function x e form_is) (blank x e form_is))
      (steps.calls x.same x.itself x.commented x.packages x.marks x.site x.becomes x.by_name x.members x.linked_so [] (beside x e form_is) (serve x) e form_is (in_function x e form_is) (blank x e form_is))
      (steps.form x.same x.itself x.commented x.packages x.marks x.site x.becomes x.by_name x.members x.linked_so [] (beside x e form_is) (serve x) e form_is (in_function x e form_is) (blank x e form_is))
      (steps.facts x.same x.itself x.commented x.packages x.marks x.site x.becomes x.by_name x.members x.linked_so [] (beside x e form_is) (serve x) e form_is (in_function x e form_is) (blank x e form_is))
      (blank x e form_is) (ranks_of x.packages x.marks x.members) (callee x e form_is) x.packages x.members
      (steps.ranked x.same x.itself x.commented x.packages x.marks x.site x.becomes x.by_name x.members x.linked_so [] (beside x e form_is) (serve x) e form_is (in_function x e form_is) (blank x e form_is)) Held rises_there x.linked_so.sources_are x.linked_so.distinct

  pub same_world : collected (sources x.members) ≡ collected (sources (with_literal x e))
  same_world =
      again.same_world x.same x.site x.becomes.tree e
      (steps.here x.same x.itself x.commented x.packages x.marks x.site x.becomes x.by_name x.members x.linked_so [] (beside x e form_is) (serve x) e form_is (in_function x e form_is) (blank x e form_is))
      (steps.calls x.same x.itself x.commented x.packages x.marks x.site x.becomes x.by_name x.members x.linked_so [] (beside x e form_is) (serve x) e form_is (in_function x e form_is) (blank x e form_is))
      (steps.form x.same x.itself x.commented x.packages x.marks x.site x.becomes x.by_name x.members x.linked_so [] (beside x e form_is) (serve x) e form_is (in_function x e form_is) (blank x e form_is))
      (steps.facts x.same x.itself x.commented x.packages x.marks x.site x.becomes x.by_name x.members x.linked_so [] (beside x e form_is) (serve x) e form_is (in_function x e form_is) (blank x e form_is))
      (blank x e form_is) (ranks_of x.packages x.marks x.members) (callee x e form_is) x.packages x.members
      (steps.ranked x.same x.itself x.commented x.packages x.marks x.site x.becomes x.by_name x.members x.linked_so [] (beside x e form_is) (serve x) e form_is (in_function x e form_is) (blank x e form_is)) Held rises_there x.linked_so.sources_are x.linked_so.distinct

  -- ---- other files of the package

  pub other_files : (file : ℕ) → nat_eq x.site.at.file_number file ≡ false → (n : List ℕ)
      → is_used_in (collected (sources x.members)) x.site.at.number file n (headed (sources x.members)) ≡ is_used_in (collected (sources x.members)) x.site.at.number file n (headed (sources (with_literal x e)))
  other_files =
      again.elsewhere x.same x.site x.becomes.tree e
      (steps.here x.same x.itself x.commented x.packages x.marks x.site x.becomes x.by_name x.members x.linked_so [] (beside x e form_is) (serve x) e form_is (in_function x e form_is) (blank x e form_is))
      (steps.calls x.same x.itself x.commented x.packages x.marks x.site x.becomes x.by_name x.members x.linked_so [] (beside x e form_is) (serve x) e form_is (in_function x e form_is) (blank x e form_is))
      (steps.form x.same x.itself x.commented x.packages x.marks x.site x.becomes x.by_name x.members x.linked_so [] (beside x e form_is) (serve x) e form_is (in_function x e form_is) (blank x e form_is))
      (steps.facts x.same x.itself x.commented x.packages x.marks x.site x.becomes x.by_name x.members x.linked_so [] (beside x e form_is) (serve x) e form_is (in_function x e form_is) (blank x e form_is))
      (blank x e form_is) (ranks_of x.packages x.marks x.members) (callee x e form_is) x.packages x.members
      (steps.ranked x.same x.itself x.commented x.packages x.marks x.site x.becomes x.by_name x.members x.linked_so [] (beside x e form_is) (serve x) e form_is (in_function x e form_is) (blank x e form_is)) Held rises_there x.linked_so.sources_are x.linked_so.distinct

  -- ---- other packages

  -- the changed body is in the use's package
  abbrev InPackage : Here → Stmts Span → Stmts Span → Type 0
  InPackage h b c = h.env.home ≡ x.site.at.number

  abbrev Changed : FuncName → List (List ℕ) → Here → Stmts Span → Stmts Span → Type 0
  Changed =
      Body x.same x.site x.becomes.tree e
      (steps.here x.same x.itself x.commented x.packages x.marks x.site x.becomes x.by_name x.members x.linked_so [] (beside x e form_is) (serve x) e form_is (in_function x e form_is) (blank x e form_is))
      (steps.calls x.same x.itself x.commented x.packages x.marks x.site x.becomes x.by_name x.members x.linked_so [] (beside x e form_is) (serve x) e form_is (in_function x e form_is) (blank x e form_is))
      (steps.form x.same x.itself x.commented x.packages x.marks x.site x.becomes x.by_name x.members x.linked_so [] (beside x e form_is) (serve x) e form_is (in_function x e form_is) (blank x e form_is))
      (steps.facts x.same x.itself x.commented x.packages x.marks x.site x.becomes x.by_name x.members x.linked_so [] (beside x e form_is) (serve x) e form_is (in_function x e form_is) (blank x e form_is))
      (blank x e form_is) (ranks_of x.packages x.marks x.members) (callee x e form_is) x.packages x.members
      (steps.ranked x.same x.itself x.commented x.packages x.marks x.site x.becomes x.by_name x.members x.linked_so [] (beside x e form_is) (serve x) e form_is (in_function x e form_is) (blank x e form_is)) InPackage refl

  changed : MembersChange Changed (paths_in x.members) (collected (sources x.members)) x.members (with_literal x e)
  changed =
      members_more x.same x.site x.becomes.tree e
      (steps.here x.same x.itself x.commented x.packages x.marks x.site x.becomes x.by_name x.members x.linked_so [] (beside x e form_is) (serve x) e form_is (in_function x e form_is) (blank x e form_is))
      (steps.calls x.same x.itself x.commented x.packages x.marks x.site x.becomes x.by_name x.members x.linked_so [] (beside x e form_is) (serve x) e form_is (in_function x e form_is) (blank x e form_is))
      (steps.form x.same x.itself x.commented x.packages x.marks x.site x.becomes x.by_name x.members x.linked_so [] (beside x e form_is) (serve x) e form_is (in_function x e form_is) (blank x e form_is))
      (steps.facts x.same x.itself x.commented x.packages x.marks x.site x.becomes x.by_name x.members x.linked_so [] (beside x e form_is) (serve x) e form_is (in_function x e form_is) (blank x e form_is))
      (blank x e form_is) (ranks_of x.packages x.marks x.members) (callee x e form_is) x.packages x.members
      (steps.ranked x.same x.itself x.commented x.packages x.marks x.site x.becomes x.by_name x.members x.linked_so [] (beside x e form_is) (serve x) e form_is (in_function x e form_is) (blank x e form_is)) InPackage refl x.linked_so.sources_are

  pub other_packages : (home file : ℕ) (n : List ℕ) → nat_eq home x.site.at.number ≡ false → is_used_in (collected (sources x.members)) home file n (headed (sources x.members)) ≡ true → is_used_in (collected (sources x.members)) home file n (headed (sources (with_literal x e))) ≡ true
  other_packages home file n a =
      used_after (collected (sources x.members)) home n file
      (members_keep Changed (paths_in x.members) (collected (sources x.members)) home n (λ m around h b c y p. let no : true ≡ false = sym (eq-eqb home x.site.at.number (sym p ∙ y.1)) ∙ a in absurd cc) changed)
