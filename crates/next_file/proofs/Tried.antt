-- The limits of steps and of bytes, one after another.
use Rattle.std.proofs.Common.{◌≡◌, ◌∙◌, ℕ, suc, ◌+◌, ◌<◌, ◌≤◌, Bool, cond, List, length, Option, Some, None, sym, ap, subst, arith}
use Rattle.std.proofs.lemmas.Bool.{lt-ltb, le-ltb}
use Rattle.go_tree.specs.declared.tokens.Token.{Token}
use Rattle.go_tree.specs.declared.tokens.Comment.{Comment}
use Rattle.go_tree.specs.GoWords.Tokens.{TokensOf}
use Rattle.go_read.specs.SpellsWeight.{weights_of}
use Rattle.go_nesting.specs.Over.{IsFirstOver}
use Rattle.pkg_graph.specs.Reads.{Source}
use Rattle.run_rules.specs.Texts.{FileText}
use Rattle.run_rules.specs.Run.{Logged, Limit, Steps, StepsOfUse, Bytes, Total, TooLarge, over, over_weight, first_over, steps_like, the_limits, passed}
use Rattle.step_files.specs.declared.limits.Progress.{Progress}
use Rattle.step_files.specs.declared.limits.Passed.{Passed}
use Rattle.step_files.specs.Limits.{KeepsLimits, ComesNext, Passes, told, tried}
use Rattle.next_file.proofs.Weights.{none_over}

is_over : (limit : Limit) (bound count : ℕ) (rest : Option TooLarge) → bound < count → over limit bound count rest ≡ Some (record { limit = limit; count = count; bound = bound })
is_over limit bound count rest h = ap (λ (b : Bool). cond b (Some (record { limit = limit; count = count; bound = bound })) rest) (lt-ltb bound count h)

is_under : (limit : Limit) (bound count : ℕ) (rest : Option TooLarge) → count ≤ bound → over limit bound count rest ≡ rest
is_under limit bound count rest h = ap (λ (b : Bool). cond b (Some (record { limit = limit; count = count; bound = bound })) rest) (le-ltb bound count h)

-- ---- the first that is passed

module _ (p : Progress) (bytes : ℕ) (rest : Option TooLarge) where
  abbrev totals : Option TooLarge
  totals = over Total 16777216 (p.other_bytes + bytes) rest

  abbrev sizes : Option TooLarge
  sizes = over Bytes 4194304 bytes totals

  abbrev uses_ : Option TooLarge
  uses_ = over StepsOfUse 1024 (p.steps_of_use + 1) sizes

  pub steps_passed : 65536 < p.steps + 1 → tried p bytes rest ≡ Some (record { limit = Steps; count = p.steps + 1; bound = 65536 })
  steps_passed h = is_over Steps 65536 (p.steps + 1) uses_ h

  pub uses_passed : p.steps + 1 ≤ 65536 → 1024 < p.steps_of_use + 1 → tried p bytes rest ≡ Some (record { limit = StepsOfUse; count = p.steps_of_use + 1; bound = 1024 })
  uses_passed a h = is_under Steps 65536 (p.steps + 1) uses_ a ∙ is_over StepsOfUse 1024 (p.steps_of_use + 1) sizes h

  pub bytes_passed : p.steps + 1 ≤ 65536 → p.steps_of_use + 1 ≤ 1024 → 4194304 < bytes → tried p bytes rest ≡ Some (record { limit = Bytes; count = bytes; bound = 4194304 })
  bytes_passed a b h = is_under Steps 65536 (p.steps + 1) uses_ a ∙ is_under StepsOfUse 1024 (p.steps_of_use + 1) sizes b ∙ is_over Bytes 4194304 bytes totals h

  pub total_passed : p.steps + 1 ≤ 65536 → p.steps_of_use + 1 ≤ 1024 → bytes ≤ 4194304 → 16777216 < p.other_bytes + bytes
      → tried p bytes rest ≡ Some (record { limit = Total; count = p.other_bytes + bytes; bound = 16777216 })
  total_passed a b c h =
      is_under Steps 65536 (p.steps + 1) uses_ a ∙ is_under StepsOfUse 1024 (p.steps_of_use + 1) sizes b ∙ is_under Bytes 4194304 bytes totals c
      ∙ is_over Total 16777216 (p.other_bytes + bytes) rest h

  pub none_passed : KeepsLimits p bytes → tried p bytes rest ≡ rest
  none_passed k =
      is_under Steps 65536 (p.steps + 1) uses_ k.steps ∙ is_under StepsOfUse 1024 (p.steps_of_use + 1) sizes k.steps_of_use ∙ is_under Bytes 4194304 bytes totals k.bytes_of_file
      ∙ is_under Total 16777216 (p.other_bytes + bytes) rest k.bytes_of_module

-- ---- of a run

one_more : (a b : ℕ) → a ≡ b → suc a ≡ b + 1
one_more a b e = omega (arith, e)

passed_is : (p : Progress) (files : List Source) (log : List Logged) (l : Logged) (new : FileText) (texts : List (List ℕ × FileText)) → ComesNext p files log l new texts
    → passed the_limits files log l new texts ≡ tried p (length new.text) (over_weight 400 (first_over 400 (weights_of new.tokens)))
passed_is p files log l new texts c =
    λ w.
    over Steps 65536 (one_more (length log) p.steps c.steps w) (over StepsOfUse 1024 (one_more (steps_like l log) p.steps_of_use c.steps_of_use w)
    (over Bytes 4194304 (length new.text) (over Total 16777216 (c.bytes w) (over_weight 400 (first_over 400 (weights_of new.tokens))))))

-- no limit is passed
pub passes_none : (p : Progress) (new : FileText) → KeepsLimits p (length new.text) → IsFirstOver 400 new.tokens None → Passes p new None
passes_none p new k shallow files log l texts c =
    passed_is p files log l new texts c ∙ none_passed p (length new.text) (over_weight 400 (first_over 400 (weights_of new.tokens))) k
    ∙ ap (over_weight 400) (none_over 400 (weights_of new.tokens) shallow)

-- a limit of steps or of bytes is passed
pub passes_first : (p : Progress) (text : List ℕ) (x : Passed) → ((rest : Option TooLarge) → tried p (length text) rest ≡ Some (told x))
    → (new : FileText) → new.text ≡ text → TokensOf new.text new.tokens new.comments → Passes p new (Some (told x))
passes_first p text x h new e words files log l texts c =
    passed_is p files log l new texts c
    ∙ ap (λ (t : List ℕ). tried p (length t) (over_weight 400 (first_over 400 (weights_of new.tokens)))) e
    ∙ h (over_weight 400 (first_over 400 (weights_of new.tokens)))

-- that of nesting is passed
pub passes_weight : (p : Progress) (text : List ℕ) (x : Passed) → KeepsLimits p (length text)
    → ((tokens : List Token) (comments : List Comment) → TokensOf text tokens comments → over_weight 400 (first_over 400 (weights_of tokens)) ≡ Some (told x))
    → (new : FileText) → new.text ≡ text → TokensOf new.text new.tokens new.comments → Passes p new (Some (told x))
passes_weight p text x k h new e words files log l texts c =
    passed_is p files log l new texts c
    ∙ none_passed p (length new.text) (over_weight 400 (first_over 400 (weights_of new.tokens))) (subst (λ (t : List ℕ). KeepsLimits p (length t)) (sym e) k)
    ∙ h new.tokens new.comments (subst (λ (t : List ℕ). TokensOf t new.tokens new.comments) e words)
